-- Nodes by their numbers in lists that are put together, and what stands at their ports.
use Rattle.std.proofs.Common.{◌≡◌, ◌≢◌, ◌==◌, ◌+◌, ℕ, zero, suc, List, [], ◌∷◌, ◌++◌, map, drop, take, Bool, true, false, cond, Option, Some, None, refl, ap, sym, ◌∙◌, arith}
use Rattle.std.specs.List.{Contains, slice_get}
use Rattle.pyd_ir.specs.declared.arg.Arg.{Arg}
use Rattle.pyd_ir.specs.declared.node.Node.{Node}
use Rattle.pyd_ir.specs.declared.work.Work.{Work}
use Rattle.pyd_ir.specs.declared.work.Work.TheVariants.{Op, Read, Call, Stop, Print, Run, Cond, While, For, Pick, Enter}
use Rattle.pyd_refine.specs.Redirecting.{redirect_node, redirect_work}
use Rattle.pyd_runs.specs.Records.{node_at, or_else}
use Rattle.pyd_runs.specs.Sound.{IsFresh}
use Rattle.pyd_runs.proofs.Standing.{AreApart, fresh_none}
use Rattle.pyd_runs.proofs.Without.{here, behind, fresh_parts}
use Rattle.pyd_desk.specs.declared.desk.PortKind.{PortKind}
use Rattle.pyd_desk.specs.declared.desk.PortKind.TheVariants.{One}
use Rattle.pyd_desk.specs.Works.{port_kind}
use Rattle.pyd_desk.specs.Lines.{kind_of}

-- a list with a place in it
pub split_place : {A : Type 0} (xs : List A) (at : ℕ) (x : A) → slice_get xs at ≡ Some x
    → xs ≡ take at xs ++ x ∷ drop (at + 1) xs
split_place [] at x e = absurd (cc (e))
split_place (y ∷ xs) zero x e = let z : y ≡ x = cc (e) in ap (λ w. w ∷ xs) z
split_place (y ∷ xs) (suc at) x e =
    let more : suc at + 1 ≡ suc (at + 1) = omega arith in
    ap (λ ys. y ∷ ys) (split_place xs at x e)
    ∙ ap (λ j. y ∷ (take at xs ++ x ∷ drop j (y ∷ xs))) (sym more)

or_cond : {A : Type 0} (b : Bool) (x : A) (o other : Option A)
    → cond b (Some x) (or_else o other) ≡ or_else (cond b (Some x) o) other
or_cond true x o other = refl
or_cond false x o other = refl

-- in two lists it is found in the first or else in the second
pub found_in : (xs ys : List Node) (k : ℕ)
    → node_at (xs ++ ys) k ≡ or_else (node_at xs k) (node_at ys k)
found_in [] ys k = refl
found_in (x ∷ xs) ys k =
    ap (cond (x.id == k) (Some x)) (found_in xs ys k)
    ∙ or_cond (x.id == k) x (node_at xs k) (node_at ys k)

-- what stands at the ports of a node, if there is one, else another thing
abbrev pub kind_or : Option Node → PortKind → PortKind
kind_or None other = other
kind_or (Some n) other = port_kind n.work

or_kind : (o other : Option Node) → kind_of (or_else o other) ≡ kind_or o (kind_of other)
or_kind None other = refl
or_kind (Some n) other = refl

pub kind_in : (xs ys : List Node) (k : ℕ)
    → kind_of (node_at (xs ++ ys) k) ≡ kind_or (node_at xs k) (kind_of (node_at ys k))
kind_in xs ys k = ap kind_of (found_in xs ys k) ∙ or_kind (node_at xs k) (node_at ys k)

-- a list that doesn't have the number says nothing
pub kind_past : (xs ys : List Node) (k : ℕ) → IsFresh k xs
    → kind_of (node_at (xs ++ ys) k) ≡ kind_of (node_at ys k)
kind_past xs ys k fresh =
    kind_in xs ys k ∙ ap (λ o. kind_or o (kind_of (node_at ys k))) (fresh_none xs k fresh)

pub kind_none : (xs : List Node) (k : ℕ) → IsFresh k xs → kind_of (node_at xs k) ≡ One
kind_none xs k fresh = ap kind_of (fresh_none xs k fresh)

module _ (id : ℕ) (images : List Arg) where
  kind_redirected : (w : Work) → port_kind (redirect_work id images w) ≡ port_kind w
  kind_redirected (Op op args) = refl
  kind_redirected (Read arg kind) = refl
  kind_redirected (Call func args) = refl
  kind_redirected (Stop fault) = refl
  kind_redirected (Print args) = refl
  kind_redirected (Run func args) = refl
  kind_redirected (Cond test stmt arm rest env) = refl
  kind_redirected (While test stmt turns rest env) = refl
  kind_redirected (For over stmt turns rest env) = refl
  kind_redirected (Pick test first second env) = refl
  kind_redirected (Enter func args) = refl

  kind_test : (b : Bool) (n : Node) (o other : Option Node) → kind_of o ≡ kind_of other
      → kind_of (cond b (Some (redirect_node id images n)) o) ≡ kind_of (cond b (Some n) other)
  kind_test true n o other same = kind_redirected n.work
  kind_test false n o other same = same

  -- redirected nodes have the ports that they had
  pub kind_later : (ns : List Node) (k : ℕ)
      → kind_of (node_at (map (redirect_node id images) ns) k) ≡ kind_of (node_at ns k)
  kind_later [] k = refl
  kind_later (n ∷ ns) k =
      kind_test (n.id == k) n (node_at (map (redirect_node id images) ns) k) (node_at ns k)
      (kind_later ns k)

-- a number that no node of a list has
pub fresh_by : (ns : List Node) (k : ℕ) → ((n : Node) → Contains ns n → n.id ≢ k) → IsFresh k ns
fresh_by [] k other = tt
fresh_by (n ∷ ns) k other =
    (other n (here n ns), fresh_by ns k (λ x at. other x (behind n ns x at)))

-- that of a node of a list whose numbers differ isn't before it, nor behind it
pub fresh_before : (before : List Node) (n : Node) (after : List Node)
    → AreApart (before ++ n ∷ after) → IsFresh n.id before
fresh_before [] n after apart = tt
fresh_before (x ∷ before) n after apart = (
  (λ z. (fresh_parts x.id before (n ∷ after) apart.0).1.0 (sym z)),
  fresh_before before n after apart.1,
)

pub fresh_after : (before : List Node) (n : Node) (after : List Node)
    → AreApart (before ++ n ∷ after) → IsFresh n.id after
fresh_after [] n after apart = apart.0
fresh_after (x ∷ before) n after apart = fresh_after before n after apart.1
