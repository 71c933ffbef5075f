-- Lists of nodes without those of a number.
use Rattle.std.proofs.Common.{◌≡◌, ◌≢◌, ◌==◌, nat_eq, ℕ, zero, suc, List, [], ◌∷◌, ◌++◌, Bool, true, false, ◌||◌, cond, if◌then◌else◌, inl, inr, refl, ap, sym, ◌∙◌, subst, arith, ◌⊎◌}
use Rattle.std.specs.List.{Contains, filter}
use Rattle.std.proofs.lemmas.List.Elements.{All-contains, All-filter, All-contains_itself}
use Rattle.pyd_ir.specs.declared.arg.Arg.{Arg}
use Rattle.pyd_ir.specs.declared.arg.Arg.TheVariants.{Known, From, Slot, Unbound}
use Rattle.pyd_ir.specs.declared.node.Node.{Node}
use Rattle.pyd_ir.specs.Arguments.{arguments}
use Rattle.pyd_translate.specs.Naming.{Numbers, AreAmong}
use Rattle.pyd_refine.specs.Ordering.{and_one, IsOrdered}
use Rattle.pyd_runs.specs.Reach.{AreOf, Names}
use Rattle.pyd_runs.specs.Sound.{IsFresh, AreOrdered, stands}
use Rattle.pyd_runs.proofs.Putting.{same_test, other_test, test_same}

-- the nodes but those of a number
abbrev pub without : ℕ → List Node → List Node
without k ns = filter (λ n. if n.id == k then false else true) ns

-- a node of a list is the first or one behind it
pub first_or_behind : (y : Node) (xs : List Node) (x : Node) → Contains (y ∷ xs) x
    → (y ≡ x) ⊎ Contains xs x
first_or_behind y xs x (zero, within, is) = inl is
first_or_behind y xs x (suc k, within, is) = inr (k, omega (arith, within), is)

pub here : (x : Node) (xs : List Node) → Contains (x ∷ xs) x
here x xs = (0, omega arith, refl)

pub behind : (y : Node) (xs : List Node) (x : Node) → Contains xs x → Contains (y ∷ xs) x
behind y xs x (k, within, is) = (suc k, omega (arith, within), is)

-- truth values
pub or_true : (b : Bool) → (b || true) ≡ true
or_true true = refl
or_true false = refl

or_less : (a b c : Bool) → (b ≡ true → c ≡ true) → (a || b) ≡ true → (a || c) ≡ true
or_less true b c f e = refl
or_less false b c f e = f e

pub false_by : (a b : Bool) → (a ≡ true → b ≡ true) → b ≡ false → a ≡ false
false_by true b f e = absurd (let z = f refl in cc (z, e))
false_by false b f e = refl

-- a number that a list doesn't have, it doesn't have without some
fresh_test : (b : Bool) (m : ℕ) (n : Node) (ns : List Node) → n.id ≢ m → IsFresh m ns
    → IsFresh m (cond (if b then false else true) (n ∷ ns) ns)
fresh_test true m n ns h f = f
fresh_test false m n ns h f = (h, f)

pub fresh_without : (m k : ℕ) (ns : List Node) → IsFresh m ns → IsFresh m (without k ns)
fresh_without m k [] f = tt
fresh_without m k (n ∷ ns) f =
    fresh_test (n.id == k) m n (without k ns) f.0 (fresh_without m k ns f.1)

-- nor has it the number itself
none_test : (b : Bool) (k : ℕ) (n : Node) (ns : List Node) → (b ≡ false → n.id ≢ k)
    → IsFresh k ns → IsFresh k (cond (if b then false else true) (n ∷ ns) ns)
none_test true k n ns h f = f
none_test false k n ns h f = (h refl, f)

pub none_without : (k : ℕ) (ns : List Node) → IsFresh k (without k ns)
none_without k [] = tt
none_without k (n ∷ ns) =
    none_test (n.id == k) k n (without k ns)
    (λ e z. let w = same_test n.id k z in cc (e, w)) (none_without k ns)

-- a number that neither list has
pub fresh_append : (m : ℕ) (xs ys : List Node) → IsFresh m xs → IsFresh m ys
    → IsFresh m (xs ++ ys)
fresh_append m [] ys f g = g
fresh_append m (x ∷ xs) ys f g = (f.0, fresh_append m xs ys f.1 g)

pub fresh_parts : (m : ℕ) (xs ys : List Node) → IsFresh m (xs ++ ys)
    → IsFresh m xs × IsFresh m ys
fresh_parts m [] ys f = (tt, f)
fresh_parts m (x ∷ xs) ys f = let r = fresh_parts m xs ys f.1 in ((f.0, r.0), r.1)

-- the nodes of a list differ from a number that it doesn't have
pub fresh_apart : (k : ℕ) (ns : List Node) (n : Node) → IsFresh k ns → Contains ns n → n.id ≢ k
fresh_apart k [] n f at = absurd (omega (arith, at.1))
fresh_apart k (x ∷ ns) n f at = elim (first_or_behind x ns n at) [
  | inl is ↦ λ z. f.0 (ap (λ (y : Node). y.id) is ∙ z)
  | inr later ↦ fresh_apart k ns n f.1 later
]

-- lists in order stay so
ordered_test : (b : Bool) (n : Node) (ns : List Node) → IsFresh n.id ns
    → ((m : ℕ) → Names n m → IsFresh m (n ∷ ns)) → AreOrdered ns
    → AreOrdered (cond (if b then false else true) (n ∷ ns) ns)
ordered_test true n ns f h o = o
ordered_test false n ns f h o = (f, h, o)

pub ordered_without : (k : ℕ) (ns : List Node) → AreOrdered ns → AreOrdered (without k ns)
ordered_without k [] o = tt
ordered_without k (n ∷ ns) o =
    ordered_test (n.id == k) n (without k ns) (fresh_without n.id k ns o.0)
    (λ m names. let f = o.1 m names in (f.0, fresh_without m k ns f.1)) (ordered_without k ns o.2)

-- what is left stood there, and other nodes are left
pub was_there : (k : ℕ) (ns : List Node) (n : Node) → Contains (without k ns) n → Contains ns n
was_there k ns n at =
    All-contains (Contains ns) (without k ns) n
    (All-filter (λ (x : Node). if x.id == k then false else true) (Contains ns) ns
    (All-contains_itself ns)) at

left_test : (b : Bool) (x n : Node) (ns : List Node) → (b ≡ true → n ≢ x)
    → (x ≡ n) ⊎ Contains ns n → Contains (cond (if b then false else true) (x ∷ ns) ns) n
left_test true x n ns h (inl is) = absurd (h refl (sym is))
left_test true x n ns h (inr later) = later
left_test false x n ns h (inl is) = subst (Contains (x ∷ ns)) is (here x ns)
left_test false x n ns h (inr later) = behind x ns n later

pub is_left : (k : ℕ) (ns : List Node) (n : Node) → Contains ns n → n.id ≢ k
    → Contains (without k ns) n
is_left k [] n at other = absurd (omega (arith, at.1))
is_left k (x ∷ ns) n at other =
    left_test (x.id == k) x n (without k ns)
    (λ e z. other (ap (λ (y : Node). y.id) z ∙ test_same x.id k e))
    (elim (first_or_behind x ns n at) [
      | inl is ↦ inl is
      | inr later ↦ inr (is_left k ns n later other)
    ])

-- whether a node has a number
pub stands_true : (k : ℕ) (ns : List Node) (n : Node) → Contains ns n → n.id ≡ k
    → stands k ns ≡ true
stands_true k [] n at is = absurd (omega (arith, at.1))
stands_true k (x ∷ ns) n at is = elim (first_or_behind x ns n at) [
  | inl same ↦ ap (λ b. b || stands k ns)
      (same_test x.id k (ap (λ (y : Node). y.id) same ∙ is))
  | inr later ↦ or_less (x.id == k) true (stands k ns) (λ z. stands_true k ns n later is)
      (or_true (x.id == k))
]

pub fresh_stands : (k : ℕ) (ns : List Node) → IsFresh k ns → stands k ns ≡ false
fresh_stands k [] f = refl
fresh_stands k (x ∷ ns) f =
    ap (λ b. b || stands k ns) (other_test x.id k f.0) ∙ fresh_stands k ns f.1

-- it has no other number than before, and all but one
less_test : (b : Bool) (m : ℕ) (x : Node) (ns : List Node)
    → stands m (cond (if b then false else true) (x ∷ ns) ns) ≡ true → stands m (x ∷ ns) ≡ true
less_test true m x ns e = or_less (x.id == m) true (stands m ns) (λ z. e) (or_true (x.id == m))
less_test false m x ns e = e

pub stands_less : (m k : ℕ) (ns : List Node) → stands m (without k ns) ≡ true
    → stands m ns ≡ true
stands_less m k [] e = e
stands_less m k (x ∷ ns) e =
    or_less (x.id == m) (stands m (without k ns)) (stands m ns) (stands_less m k ns)
    (less_test (x.id == k) m x (without k ns) e)

all_but_test : (b : Bool) (m : ℕ) (x : Node) (ns : List Node) → (b ≡ true → x.id ≢ m)
    → stands m (cond (if b then false else true) (x ∷ ns) ns) ≡ stands m (x ∷ ns)
all_but_test true m x ns h = sym (ap (λ b. b || stands m ns) (other_test x.id m (h refl)))
all_but_test false m x ns h = refl

pub stands_without : (m k : ℕ) (ns : List Node) → m ≢ k → stands m (without k ns) ≡ stands m ns
stands_without m k [] other = refl
stands_without m k (x ∷ ns) other =
    all_but_test (x.id == k) m x (without k ns)
    (λ e z. other (sym z ∙ test_same x.id k e))
    ∙ ap (λ b. (x.id == m) || b) (stands_without m k ns other)

-- arguments that don't name a number may name the same without it
among_apart : (known new : Numbers) (k : ℕ) (args : List Arg)
    → ((m : ℕ) → m ≢ k → new m ≡ known m) → (AreOf k args → ⊥) → AreAmong known args
    → AreAmong new args
among_apart known new k [] same unnamed a = tt
among_apart known new k (Known v ∷ args) same unnamed a =
    (tt, among_apart known new k args same (λ z. unnamed (inr z)) a.1)
among_apart known new k (From at ∷ args) same unnamed a = (
  same at.node (λ z. unnamed (inl z)) ∙ a.0,
  among_apart known new k args same (λ z. unnamed (inr z)) a.1,
)
among_apart known new k (Slot at ∷ args) same unnamed a = (
  same at.node (λ z. unnamed (inl z)) ∙ a.0,
  among_apart known new k args same (λ z. unnamed (inr z)) a.1,
)
among_apart known new k (Unbound ∷ args) same unnamed a =
    (tt, among_apart known new k args same (λ z. unnamed (inr z)) a.1)

-- a list that doesn't name a number is in order without it
pub ordered_apart : (known new : Numbers) (k next : ℕ) (ns : List Node)
    → ((m : ℕ) → m ≢ k → new m ≡ known m) → ((m : ℕ) → new m ≡ true → known m ≡ true)
    → ((n : Node) → Contains ns n → Names n k → ⊥) → IsOrdered known next ns
    → IsOrdered new next ns
ordered_apart known new k next [] same less unnamed o = tt
ordered_apart known new k next (n ∷ ns) same less unnamed o = (
  o.0,
  false_by (new n.id) (known n.id) (less n.id) o.1,
  among_apart known new k (arguments n.work) same (unnamed n (here n ns)) o.2,
  ordered_apart (and_one known n.id) (and_one new n.id) k next ns
      (λ m other. ap (λ b. nat_eq m n.id || b) (same m other))
      (λ m. or_less (nat_eq m n.id) (new m) (known m) (less m))
      (λ x at. unnamed x (behind n ns x at)) o.3,
)
