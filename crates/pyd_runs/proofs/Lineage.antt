-- What the chain reaches and what is needed are as lineage says.
use Rattle.std.proofs.Common.{◌≡◌, nat_eq, ℕ, Bool, true, false, ◌||◌, List, [], ◌∷◌, Option, None, Some, is_some, ◌⊎◌, inl, inr, refl, ap, sym, ◌∙◌, subst}
use Rattle.std.specs.Prelude.{IsTrue}
use Rattle.std.specs.List.{list_any, flat_map}
use Rattle.std.proofs.lemmas.List.Elements.{Contains-append_left, Contains-append_right, Contains-append_cases}
use Rattle.pyd_meaning.specs.declared.ran.Ran.{Ran}
use Rattle.pyd_ir.specs.declared.arg.Arg.{Arg}
use Rattle.pyd_ir.specs.declared.arg.Arg.TheVariants.{Known, From, Slot, Unbound}
use Rattle.pyd_ir.specs.Arguments.{arguments}
use Rattle.pyd_lineage.specs.Lineage.{Reaches, named_by, is_among, names}
use Rattle.pyd_lineage.specs.Lineage as lineage
use Rattle.pyd_refine.proofs.Ordering.{one-true}
use Rattle.pyd_runs.specs.Plans.{Plan}
use Rattle.pyd_runs.specs.Graphs.{Graph}
use Rattle.pyd_runs.specs.Desks.{Stores}
use Rattle.pyd_runs.specs.Records.{records}
use Rattle.pyd_runs.specs.Reach.{AreOf, Reached, by_chain, by_past, Needed, in_chain, by_needed}
use Rattle.pyd_runs.specs.Sound.{IsGraphSound, stands}
use Rattle.pyd_runs.specs.Laws.{ReachLaw, NeedLaw}
use Rattle.pyd_runs.proofs.Putting.{same_test, test_same}
use Rattle.pyd_runs.proofs.Without.{stands_true, fresh_stands}
use Rattle.pyd_runs.proofs.Seeing.{or_second}
use Rattle.pyd_runs.proofs.Standing.{stands_node}
use Rattle.pyd_runs.proofs.Knowing.{past_fresh}

-- arguments name a node where its number is among those that they name
pub of_among : (args : List Arg) (n : ℕ) → AreOf n args
    → list_any (nat_eq n) (flat_map named_by args) ≡ true
of_among [] n of = absurd of
of_among (Known v ∷ args) n (inl of) = absurd of
of_among (Known v ∷ args) n (inr of) = of_among args n of
of_among (From at ∷ args) n (inl of) =
    ap (λ b. b || list_any (nat_eq n) (flat_map named_by args)) (same_test n at.node (sym of))
of_among (From at ∷ args) n (inr of) = or_second (nat_eq n at.node) _ (of_among args n of)
of_among (Slot at ∷ args) n (inl of) =
    ap (λ b. b || list_any (nat_eq n) (flat_map named_by args)) (same_test n at.node (sym of))
of_among (Slot at ∷ args) n (inr of) = or_second (nat_eq n at.node) _ (of_among args n of)
of_among (Unbound ∷ args) n (inl of) = absurd of
of_among (Unbound ∷ args) n (inr of) = of_among args n of

pub among_of : (args : List Arg) (n : ℕ) → list_any (nat_eq n) (flat_map named_by args) ≡ true
    → AreOf n args
among_of [] n e = absurd (cc (e))
among_of (Known v ∷ args) n e = inr (among_of args n e)
among_of (From at ∷ args) n e =
    elim (one-true (nat_eq n at.node) (list_any (nat_eq n) (flat_map named_by args)) e) [
      | inl first ↦ inl (sym (test_same n at.node first))
      | inr more ↦ inr (among_of args n more)
    ]
among_of (Slot at ∷ args) n e =
    elim (one-true (nat_eq n at.node) (list_any (nat_eq n) (flat_map named_by args)) e) [
      | inl first ↦ inl (sym (test_same n at.node first))
      | inr more ↦ inr (among_of args n more)
    ]
among_of (Unbound ∷ args) n e = inr (among_of args n e)

-- a node that is reached
to_lineage : (g : Graph) (k : ℕ) → Reached g k → Reaches g.past g.chain [] k
to_lineage g k (by_chain x i at named) =
    lineage.by_chain x k at refl (of_among (arguments x.work) k named)
to_lineage g k (by_past x i at reached named) =
    lineage.by_past x k at (to_lineage g x.id reached) refl (of_among (arguments x.work) k named)

from_lineage : (g : Graph) (k : ℕ) → Reaches g.past g.chain [] k → Reached g k
from_lineage g k (lineage.by_chain x i at unknown named) =
    by_chain x k at (among_of (arguments x.work) k named)
from_lineage g k (lineage.by_past x i at reached unknown named) =
    by_past x k at (from_lineage g x.id reached) (among_of (arguments x.work) k named)

-- the law of what is reached
pub reaches_same : ReachLaw
reaches_same g k = (to_lineage g k, from_lineage g k)

-- what has no record isn't known
unknown_of : (known : List ℕ) (g : Graph) (stores : Stores) (n : ℕ)
    → is_among known n ≡ is_some (records g stores n) → records g stores n ≡ None
    → is_among known n ≡ false
unknown_of known g stores n same none = same ∙ ap is_some none

none_of : (o : Option Ran) (b : Bool) → b ≡ is_some o → b ≡ false → o ≡ None
none_of None b same unknown = refl
none_of (Some ran) b same unknown = absurd (cc (same, unknown))

need_to : (p : Plan) (g : Graph) (stores : Stores) (known : List ℕ) (k : ℕ) → IsGraphSound p g
    → ((n : ℕ) → is_among known n ≡ is_some (records g stores n)) → Needed g stores k
    → IsTrue (stands k g.chain) ⊎ Reaches g.past g.chain known k
need_to p g stores known k sound same (in_chain n at) = inl (stands_true n.id g.chain n at refl)
need_to p g stores known k sound same (by_needed n i at needed none named) =
    elim (Contains-append_cases g.past g.chain n at) [
      | inr chain ↦ inr (lineage.by_chain n k chain
          (unknown_of known g stores n.id (same n.id) none)
          (of_among (arguments n.work) k named))
      | inl past ↦ elim (need_to p g stores known n.id sound same needed) [
        | inl there ↦ absurd
            (let f = fresh_stands n.id g.chain (past_fresh p g n sound past) in cc (f, there))
        | inr reached ↦ inr (lineage.by_past n k past reached
            (unknown_of known g stores n.id (same n.id) none)
            (of_among (arguments n.work) k named))
      ]
    ]

need_by : (g : Graph) (stores : Stores) (known : List ℕ) (k : ℕ)
    → ((n : ℕ) → is_among known n ≡ is_some (records g stores n))
    → Reaches g.past g.chain known k → Needed g stores k
need_by g stores known k same (lineage.by_chain x i at unknown named) =
    by_needed x k (Contains-append_right g.past g.chain x at) (in_chain x at)
    (none_of (records g stores x.id) (is_among known x.id) (same x.id) unknown)
    (among_of (arguments x.work) k named)
need_by g stores known k same (lineage.by_past x i at reached unknown named) =
    by_needed x k (Contains-append_left g.past g.chain x at) (need_by g stores known x.id same reached)
    (none_of (records g stores x.id) (is_among known x.id) (same x.id) unknown)
    (among_of (arguments x.work) k named)

need_from : (g : Graph) (stores : Stores) (known : List ℕ) (k : ℕ)
    → ((n : ℕ) → is_among known n ≡ is_some (records g stores n))
    → IsTrue (stands k g.chain) ⊎ Reaches g.past g.chain known k → Needed g stores k
need_from g stores known k same (inl there) =
    let x = stands_node g.chain k there in subst (Needed g stores) x.2 (in_chain x.0 x.1)
need_from g stores known k same (inr reached) = need_by g stores known k same reached

-- the law of what is needed
pub needs_same : NeedLaw
needs_same p g stores known k sound same =
    (need_to p g stores known k sound same, need_from g stores known k same)
