-- Nodes of a list by their numbers.
use Rattle.std.proofs.Common.{◌≡◌, ◌<◌, ◌==◌, ℕ, List, [], ◌∷◌, ◌++◌, Bool, true, false, ◌||◌, cond, Some, None, inl, inr, refl, ap, sym, ◌∙◌, subst, arith}
use Rattle.std.specs.List.{All, Contains}
use Rattle.std.proofs.lemmas.List.Elements.{All-head, All-tail}
use Rattle.pyd_ir.specs.declared.node.Node.{Node}
use Rattle.pyd_translate.specs.Naming.{Numbers}
use Rattle.pyd_refine.specs.Ordering.{IsOrdered, and_one}
use Rattle.pyd_runs.specs.Plans.{Plan}
use Rattle.pyd_runs.specs.Graphs.{Graph, nodes}
use Rattle.pyd_runs.specs.Records.{node_at}
use Rattle.pyd_runs.specs.Sound.{IsGraphSound, IsFresh, AreOrdered, stands, is_over}
use Rattle.pyd_runs.proofs.Putting.{if_cases, same_test, other_test, test_same}
use Rattle.pyd_runs.proofs.Without.{first_or_behind, here, behind, fresh_apart, fresh_append}
use Rattle.pyd_runs.proofs.Seeing.{known_fresh}

-- numbers of nodes differ
abbrev pub AreApart : List Node → Type 0
AreApart [] = Unit {0}
AreApart (n ∷ ns) = IsFresh n.id ns × AreApart ns

-- the number of a node
abbrev number : Node → ℕ
number n = n.id

-- a node is found by its number
pub node_found : (ns : List Node) (n : Node) → AreApart ns → Contains ns n
    → node_at ns n.id ≡ Some n
node_found [] n apart at = absurd (omega (arith, at.1))
node_found (x ∷ ns) n apart at = elim (first_or_behind x ns n at) [
  | inl is ↦
      ap (λ b. cond b (Some x) (node_at ns n.id)) (same_test x.id n.id (ap number is))
      ∙ ap (λ (y : Node). Some y) is
  | inr later ↦
      ap (λ b. cond b (Some x) (node_at ns n.id))
      (other_test x.id n.id (λ z. fresh_apart x.id ns n apart.0 later (sym z)))
      ∙ node_found ns n apart.1 later
]

-- and what is found stands in the list
pub found_there : (ns : List Node) (k : ℕ) (n : Node) → node_at ns k ≡ Some n
    → Contains ns n × (n.id ≡ k)
found_there [] k n e = absurd (cc (e))
found_there (x ∷ ns) k n e =
    elim (if_cases (x.id == k) (Some x) (node_at ns k) (Some n) e) [
      | inl a ↦
          let z = a.1 in
          let same : x ≡ n = cc (z) in (
            subst (Contains (x ∷ ns)) same (here x ns),
            ap number (sym same) ∙ test_same x.id k a.0,
          )
      | inr b ↦ let r = found_there ns k n b.1 in (behind x ns n r.0, r.1)
    ]

-- nodes with one number are one
pub one_node : (ns : List Node) (n m : Node) → AreApart ns → Contains ns n → Contains ns m
    → n.id ≡ m.id → n ≡ m
one_node ns n m apart at also same =
    let f = node_found ns n apart at in
    let g = node_found ns m apart also in
    let h : node_at ns n.id ≡ node_at ns m.id = ap (node_at ns) same in
    let all : Some n ≡ Some m = sym f ∙ h ∙ g in cc (all)

-- no node is found by a number that the list doesn't have
pub fresh_none : (ns : List Node) (k : ℕ) → IsFresh k ns → node_at ns k ≡ None
fresh_none [] k fresh = refl
fresh_none (x ∷ ns) k fresh =
    ap (λ b. cond b (Some x) (node_at ns k)) (other_test x.id k fresh.0)
    ∙ fresh_none ns k fresh.1

-- behind nodes of other numbers the same is found
pub node_behind : (xs ys : List Node) (k : ℕ) → IsFresh k xs
    → node_at (xs ++ ys) k ≡ node_at ys k
node_behind [] ys k fresh = refl
node_behind (x ∷ xs) ys k fresh =
    ap (λ b. cond b (Some x) (node_at (xs ++ ys) k)) (other_test x.id k fresh.0)
    ∙ node_behind xs ys k fresh.1

-- where a test is met by the first or by a later one, and not by the first
later_of : (a b : Bool) → (a || b) ≡ true → a ≡ false → b ≡ true
later_of true b e f = absurd (cc (f))
later_of false b e f = e

-- a number that stands in a list is that of a node
pub stands_node : (ns : List Node) (k : ℕ) → stands k ns ≡ true
    → (n : Node) × Contains ns n × (n.id ≡ k)
stands_node [] k e = absurd (cc (e))
stands_node (x ∷ ns) k e = by_test (x.id == k) refl (λ later. stands_node ns k later)
  where
    by_test : (b : Bool) → (x.id == k) ≡ b
        → (stands k ns ≡ true → (n : Node) × Contains ns n × (n.id ≡ k))
        → (n : Node) × Contains (x ∷ ns) n × (n.id ≡ k)
    by_test true t more = (x, here x ns, test_same x.id k t)
    by_test false t more =
        let r = more (later_of (x.id == k) (stands k ns) e t) in
        (r.0, behind x ns r.0 r.1, r.2)

-- two lists whose numbers differ
apart_append : (xs ys : List Node) → AreApart xs → AreApart ys
    → All (λ (n : Node). IsFresh n.id ys) xs → AreApart (xs ++ ys)
apart_append [] ys xa ya all = ya
apart_append (x ∷ xs) ys xa ya all = (
  fresh_append x.id xs ys xa.0 (All-head (λ (n : Node). IsFresh n.id ys) x xs all),
  apart_append xs ys xa.1 ya (All-tail (λ (n : Node). IsFresh n.id ys) x xs all),
)

-- in lists in order numbers differ
pub past_apart : (ns : List Node) → AreOrdered ns → AreApart ns
past_apart [] o = tt
past_apart (n ∷ ns) o = (o.0, past_apart ns o.2)

pub list_apart : (known : Numbers) (next : ℕ) (ns : List Node) → IsOrdered known next ns
    → AreApart ns
list_apart known next [] o = tt
list_apart known next (n ∷ ns) o = (
  known_fresh (and_one known n.id) next ns n.id o.3
      (ap (λ b. b || known n.id) (same_test n.id n.id refl)),
  list_apart (and_one known n.id) next ns o.3,
)

-- so do those of all nodes of a graph
pub nodes_apart : (p : Plan) (g : Graph) → IsGraphSound p g → AreApart (nodes g)
nodes_apart p g sound =
    apart_append g.past g.chain (past_apart g.past sound.ordered)
    (list_apart (is_over g) g.next g.chain sound.listed) sound.apart

-- a node of a graph is found by its number
pub graph_node : (p : Plan) (g : Graph) (n : Node) → IsGraphSound p g → Contains (nodes g) n
    → node_at (nodes g) n.id ≡ Some n
graph_node p g n sound at = node_found (nodes g) n (nodes_apart p g sound) at

-- and is the only one with it
pub same_node : (p : Plan) (g : Graph) (n m : Node) → IsGraphSound p g → Contains (nodes g) n
    → Contains (nodes g) m → n.id ≡ m.id → n ≡ m
same_node p g n m sound at also same =
    one_node (nodes g) n m (nodes_apart p g sound) at also same

-- numbers of a list in order lie below the next
pub list_below : (known : Numbers) (next : ℕ) (ns : List Node) (n : Node)
    → IsOrdered known next ns → Contains ns n → n.id < next
list_below known next [] n o at = absurd (omega (arith, at.1))
list_below known next (x ∷ ns) n o at = elim (first_or_behind x ns n at) [
  | inl is ↦ subst (λ (y : Node). y.id < next) is o.0
  | inr later ↦ list_below (and_one known x.id) next ns n o.3 later
]
