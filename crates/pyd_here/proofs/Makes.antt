-- What may come is done, and nothing goes out.
use Rattle.std.proofs.Common.{◌≡◌, ℕ, suc, List, [], ◌∷◌, append-nil, Contains, cond, true, Some, Result, Ok, Err, OnOk, inl, inr, ap, sym, subst, ◌∙◌, arith}
use Rattle.std.specs.List.{slice_get}
use Rattle.pyd_board.specs.declared.event.Act.{Act}
use Rattle.pyd_board.specs.declared.event.Act.TheVariants.{Place, Refine, Settle}
use Rattle.pyd_ir.specs.declared.job.Job.{Job}
use Rattle.pyd_ir.specs.declared.node.Node.{Node}
use Rattle.pyd_runs.specs.Deciding.{PlaceTestLaw, may_place}
use Rattle.pyd_runs.specs.Enabled.{CanAct, CanRefine, IsLoss}
use Rattle.pyd_runs.specs.Facts.{IsSettle, OutputLaw}
use Rattle.pyd_runs.specs.Records.{node_at}
use Rattle.pyd_runs.proofs.Putting.{at_cases, other_test, same_test}
use Rattle.pyd_runs.proofs.Without.{first_or_behind}
use Rattle.pyd_desk.specs.Lines.{chain_of}
use Rattle.pyd_core.specs.declared.keeper.Core.{Core}
use Rattle.pyd_core.specs.Cores.{IsCore, plan_of, state_of}
use Rattle.pyd_core.specs.Refining.{IsRefinableAt, RefinesAt}
use Rattle.pyd_core.specs.Steps.{Makes}
use Rattle.pyd_steps.specs.declared.told.Told.{Told}
use Rattle.pyd_here.specs.Asked.{seat_for}
use Rattle.pyd_here.specs.Going.{IsHere, MakesHere, MakesOut}
use Rattle.pyd_here.proofs.Keeps.{HereLaws, IsOther, settle_other, still_here}
use Rattle.pyd_here.proofs.Onward.{same_out}
use Rattle.pyd_here.proofs.Sunk.{puts_none}

-- what is done, by the act that was asked for
abbrev pub may_here : Core → Act → Type 0
may_here c act = CanAct (plan_of c) (state_of c) (seat_for (plan_of c) (state_of c) act) act

module _ (laws : HereLaws) (outputs : OutputLaw) (c d : Core) (asked act : Act)
    (is : asked ≡ act) (made : MakesHere c d act) where
  -- no line goes out but by a Settle
  pub makes_silent : (IsSettle act → ⊥) → (told : Told) → MakesOut c d asked told told
  makes_silent other told =
      subst (λ a. MakesOut c d a told told) (sym is) (record {
        makes = made;
        lines = [];
        out = same_out laws.step c d (seat_for (plan_of c) (state_of c) act) act made outputs other
            ∙ sym (append-nil (state_of c).graph.out);
        puts = puts_none told;
      })

  -- and the jobs that are held stay, unless it claims or lets go
  pub makes_here : IsOther act → (IsLoss act → ⊥) → (jobs : List Job) → IsHere c jobs
      → IsHere d jobs
  makes_here other no_loss jobs here =
      still_here laws c d (seat_for (plan_of c) (state_of c) act) act made here.is_core other
      no_loss jobs here

-- where the head is settled they stay too
pub on_ok : {A E : Type 0} (r : Result A E) (P Q : Type 0) → (P → Q) → OnOk r P → OnOk r Q
on_ok (Ok a) P Q f holds = f holds
on_ok (Err e) P Q f holds = holds

-- the node of an act may be placed
pub place_may : HereLaws → PlaceTestLaw → (c : Core) (asked : Act) (k a m : ℕ) → IsCore c
    → asked ≡ Place k a m → may_here c asked → may_place (state_of c) k ≡ true
place_may laws test c asked k a m core is may =
    (test (plan_of c) (state_of c) k
    (laws.run (plan_of c) c.log.journal.items core.runnable core.legal)).only a m
    (subst (may_here c) is may).1

-- as its next attempt
pub place_is : (c : Core) (asked : Act) (k a m : ℕ) → asked ≡ Place k a m → may_here c asked
    → asked ≡ Place k (suc ((state_of c).desk.places k)) m
place_is c asked k a m is may =
    is ∙ ap (λ n. Place k n m) (subst (may_here c) is may).1.next_attempt

-- a node of a number that stands in a list has a place there
found : (ns : List Node) (k : ℕ) (n : Node) → Contains ns n → n.id ≡ k
    → (m : Node) × (node_at ns k ≡ Some m) × (m.id ≡ k)
found [] k n at is = (let lt = at.1 in absurd (omega (arith, lt)))
found (x ∷ ns) k n at is = elim (at_cases x.id k) [
  | inl same ↦ (x, ap (λ b. cond b (Some x) (node_at ns k)) (same_test x.id k same), same)
  | inr other ↦ elim (first_or_behind x ns n at) [
    | inl first ↦ absurd (other (ap (λ (y : Node). y.id) first ∙ is))
    | inr later ↦ (let more = found ns k n later is in (
      more.0,
      ap (λ b. cond b (Some x) (node_at ns k)) (other_test x.id k other) ∙ more.1,
      more.2,
    ))
  ]
]

module _ (c : Core) (core : IsCore c) (k at : ℕ) (can : CanRefine (plan_of c) (state_of c) k)
    (place : slice_get (chain_of c.line) at ≡ node_at (chain_of c.line) k) where
  there : (m : Node) × (node_at (chain_of c.line) k ≡ Some m) × (m.id ≡ k)
  there =
      found (chain_of c.line) k can.node
      (subst (λ ns. Contains ns can.node) core.tied.state.graph.chain can.stands) can.number

  -- the composite at its place may be refined
  pub refinable : IsRefinableAt c at
  refinable = record {
    node = there.0;
    there = place ∙ there.1;
    may = subst (CanRefine (plan_of c) (state_of c)) (sym there.2) can;
  }

  -- and is
  pub refines_here : (d : Core) (seat : ℕ) → seat ≡ seat_for (plan_of c) (state_of c) (Refine k)
      → RefinesAt c d seat at → MakesHere c d (Refine k)
  refines_here d seat by refines =
      subst (λ s. Makes c d s (Refine k)) by
      (subst (λ n. Makes c d seat (Refine n)) there.2 (refines there.0 (place ∙ there.1)))

-- a Settle leaves the jobs that are held
pub settled_here : HereLaws → OutputLaw → (c d : Core) (asked : Act) (k : ℕ)
    → asked ≡ Settle k → (jobs : List Job) → IsHere c jobs → (told now : Told)
    → {A E : Type 0} → (r : Result A E) → OnOk r (MakesOut c d (Settle k) told now)
    → OnOk r (IsHere d jobs)
settled_here laws outputs c d asked k is jobs here told now r made =
    on_ok r (MakesOut c d (Settle k) told now) (IsHere d jobs)
    (λ m. makes_here laws outputs c d asked (Settle k) is m.makes (settle_other k) (λ none. none)
    jobs here) made
