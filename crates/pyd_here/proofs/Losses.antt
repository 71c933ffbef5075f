-- A run behind the loss of a machine.
use Rattle.std.proofs.Common.{◌≡◌, ◌<◌, ◌-◌, ℕ, zero, suc, List, [], ◌∷◌, Option, None, Some, false, is_some, drop, length, refl, ap, sym, subst, ◌∙◌, arith}
use Rattle.pyd_board.specs.declared.event.Act.TheVariants.{Lose}
use Rattle.pyd_board.specs.declared.setup.Loss.{Loss}
use Rattle.pyd_boards.specs.Boards.{entry}
use Rattle.pyd_ir.specs.declared.job.Job.{Job}
use Rattle.pyd_runs.specs.Effects.{State}
use Rattle.pyd_runs.specs.Enabled.{CanLose, due}
use Rattle.pyd_runs.specs.Facts.{DeskLaw, OutputLaw}
use Rattle.pyd_runs.specs.Following.{BeginningLaw, JournalLaw}
use Rattle.pyd_runs.specs.Losses.{due_at}
use Rattle.pyd_core.specs.declared.keeper.Core.{Core}
use Rattle.pyd_core.specs.Cores.{IsCore, plan_of, state_of}
use Rattle.pyd_core.specs.Steps.{Makes}
use Rattle.pyd_steps.specs.declared.told.Told.{Told}
use Rattle.pyd_here.specs.Asked.{Asks, left_by, seat_for}
use Rattle.pyd_here.specs.Going.{GoesOn, HasBegun, IsHere}
use Rattle.pyd_here.proofs.Keeps.{HereLaws, begun_lost, lose_other, of_state, still_jobs}
use Rattle.pyd_here.proofs.Onward.{goes_silent, goes_none, goes_then, state_then}

-- while a run goes on behind its beginning, any seat may append a loss that is due
pub can_lose : (c : Core) (machine : ℕ) → HasBegun (state_of c) → (state_of c).graph.end ≡ None
    → due (state_of c) ≡ Some machine → (seat : ℕ) → CanLose (state_of c) seat machine
can_lose c machine begun on is seat = record {
  goes_on = on;
  is_due = is;
  by = λ all. absurd (begun on machine is all);
}

due_within : (n k machine : ℕ) (losses : List Loss) → due_at n (drop k losses) ≡ Some machine
    → k < length losses
due_within n zero machine [] is = absurd (cc (is))
due_within n (suc k) machine [] is = absurd (cc (is))
due_within n zero machine (l ∷ losses) is = omega arith
due_within n (suc k) machine (l ∷ losses) is =
    let within = due_within n k machine losses is in
    omega (arith, within)

-- with each loss the end of the script is nearer
pub nearer : JournalLaw → (c d : Core) (machine : ℕ) → IsCore c → due (state_of c) ≡ Some machine
    → plan_of d ≡ plan_of c → d.lost ≡ suc c.lost
    → length d.setup.losses - d.lost < length c.setup.losses - c.lost
nearer journals c d machine core is plan lost =
    let all : length d.setup.losses ≡ length c.setup.losses
    = ap (λ p. length p.setup.losses) plan in
    let within = due_within (length (state_of c).journal) c.lost machine c.setup.losses
    (ap (due_at (length (state_of c).journal)) (sym core.tied.losses) ∙ is) in
    omega (arith, lost, within, all)

module _ (laws : HereLaws) (c d : Core) (seat machine : ℕ) (core : IsCore c)
    (made : Makes c d seat (Lose machine)) (on : (state_of c).graph.end ≡ None)
    (is : due (state_of c) ≡ Some machine) where
  -- the run goes on
  pub on_lost : DeskLaw → (state_of d).graph.end ≡ None
  on_lost desks =
      ap (λ (s : State). s.graph.end) (state_then laws.step c d seat (Lose machine) made)
      ∙ (desks (plan_of c) (state_of c) (entry c.log.journal.items seat (Lose machine)) tt).end
      ∙ on

  -- behind its beginning
  pub still_begun : HasBegun (state_of c) → HasBegun (state_of d)
  still_begun begun =
      of_state laws c d seat (Lose machine) made core (λ q s. HasBegun s)
      (begun_lost (plan_of c) (state_of c) (entry c.log.journal.items seat (Lose machine)) machine
      begun on is)

  -- with the jobs that were held
  pub still_lost : (jobs : List Job) → IsHere c jobs → IsHere d jobs
  still_lost jobs here = record {
    is_core = made.core;
    begun = still_begun here.begun;
    keeps = still_jobs laws c d seat (Lose machine) made core (lose_other machine) jobs here.keeps;
  }

  -- it was asked for, whatever choices are left
  pub goes_lost : JournalLaw → OutputLaw → seat ≡ seat_for (plan_of c) (state_of c) (Lose machine)
      → (told : Told) (choices : List ℕ) → GoesOn c d told told choices choices
  goes_lost journals outputs by told choices =
      subst (λ rest. GoesOn c d told told choices rest)
      (ap (λ o. left_by o choices) is)
      (goes_silent laws.step c d seat (Lose machine) made journals choices on
      (subst (λ o. Asks (plan_of c) (state_of c) o choices (Lose machine)) (sym is) refl) by
      outputs (λ none. none) told)

-- a run behind losses so far
pub record HasGone (c d : Core) : Type 0 where
  pub is_core : IsCore d
  pub begun : HasBegun (state_of d)
  pub goes_on : (state_of d).graph.end ≡ None
  pub here : (jobs : List Job) → IsHere c jobs → IsHere d jobs
  pub goes : (told : Told) (choices : List ℕ) → GoesOn c d told told choices choices

-- none yet
pub none_gone : (c : Core) → IsCore c → HasBegun (state_of c) → (state_of c).graph.end ≡ None
    → HasGone c c
none_gone c core begun on = record {
  is_core = core;
  begun = begun;
  goes_on = on;
  here = λ jobs here. here;
  goes = λ told choices. goes_none c told choices core;
}

-- one more
pub one_gone : BeginningLaw → (c d e : Core) → HasGone c d → HasGone d e → HasGone c e
one_gone beginnings c d e has more = record {
  is_core = more.is_core;
  begun = more.begun;
  goes_on = more.goes_on;
  here = λ jobs here. more.here jobs (has.here jobs here);
  goes = λ told choices. goes_then beginnings c d e told told told choices choices choices
      (has.goes told choices) (more.goes told choices);
}

none_is : {A : Type 0} (o : Option A) → false ≡ is_some o → o ≡ None
none_is None is = refl
none_is (Some a) is = absurd (cc (is))

-- where no end is there, the run goes on
pub no_end : (c : Core) → false ≡ is_some (state_of c).graph.end → (state_of c).graph.end ≡ None
no_end c on = none_is (state_of c).graph.end on
