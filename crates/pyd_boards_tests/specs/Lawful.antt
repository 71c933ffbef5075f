-- That what the board tells goes with the events that may come on it.
use Rattle.std.specs.Prelude.{◌≡◌, ℕ, List, [], Bool, true, false, Some, None, is_some}
use Rattle.std.proofs.Common.{refl, sym, ap, subst, true≢false}
use Rattle.pyd_board.specs.declared.event.Act.{Act}
use Rattle.pyd_board.specs.declared.event.Act.TheVariants.{Place, Claim, Finish, Drop, Refine, Settle, Lose, Trim}
use Rattle.pyd_board.specs.declared.event.Event.{Event}
use Rattle.pyd_board.specs.declared.history.History.{History}
use Rattle.pyd_board.specs.declared.kept.RunName.{RunName}
use Rattle.pyd_boards.specs.Calls.{AreNext, is_loss}
use Rattle.pyd_boards.specs.Lawful.{AreLawful}
use Rattle.pyd_boards_tests.specs.declared.slot.Slot.{Slot}
use Rattle.pyd_boards_tests.specs.Fixed.{ticket_count, is_live, job_if, facts, MayAct, may_come}

-- no loss may come
no_loss : (count : ℕ) (events : List Event) (seat : ℕ) (act : Act) → MayAct count events seat act
    → is_loss act ≡ true → ⊥
no_loss count events seat (Claim node attempt machine) may is = true≢false (sym is)
no_loss count events seat (Finish node attempt machine) may is = true≢false (sym is)
no_loss count events seat (Place node attempt machine) may is = may
no_loss count events seat (Drop node attempt machine) may is = may
no_loss count events seat (Refine node) may is = may
no_loss count events seat (Settle node) may is = may
no_loss count events seat (Lose machine) may is = may
no_loss count events seat (Trim node) may is = may

-- a job is there exactly where the ticket is
job_there : (live : Bool) (node attempt : ℕ) → is_some (job_if live node attempt) ≡ true
    → live ≡ true
job_there true node attempt is = refl
job_there false node attempt is = is

-- and it is the node's and the attempt's
pub job_tells : (live : Bool) (node attempt : ℕ) (job : Slot) → job_if live node attempt ≡ Some job
    → (job.node ≡ node) × (job.attempt ≡ attempt)
job_tells true node attempt job is = (
  sym (ap (λ o. elim o [ Some j ↦ j.node | None ↦ node ]) is),
  sym (ap (λ o. elim o [ Some j ↦ j.attempt | None ↦ attempt ]) is),
)
job_tells false node attempt job is = absurd (true≢false (sym (ap is_some is)))

-- after events that came each in its turn
pub lawful : (name : List RunName) (events : List Event) → AreNext (may_come name) [] events
    → AreLawful name (facts name) (may_come name) events
lawful name events next = record {
  due_bars = λ loss e may is also same.
      absurd (no_loss (ticket_count name) events loss.by loss.act may.1 is);
  ended_bars = λ e may is. absurd (true≢false (sym is));
  lost_stays = λ e may run machine is. is;
  ended_stays = λ e may run is. is;
  has_job = λ e node attempt machine may is.
      ap (λ live. is_some (job_if live node attempt))
      (subst (MayAct (ticket_count name) events e.by) is may.1);
  job_is_live = λ who node attempt worker none on lives has.
      (refl, job_there (is_live (ticket_count name) events node attempt) node attempt has);
  tells = λ node attempt job is.
      job_tells (is_live (ticket_count name) events node attempt) node attempt job is;
}

-- the board's end is there where its run has ended: it counts as no board of one run
pub end_of_run : (name : List RunName) (h : History) → false ≡ true
    → is_some ((facts name).end h) ≡ (facts name).has_ended h.events 0
end_of_run name h single = refl
