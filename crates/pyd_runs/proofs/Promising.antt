-- What is promised of every legal run.
use Rattle.std.proofs.Common.{subst}
use Rattle.std.specs.Prelude.{List}
use Rattle.pyd_board.specs.declared.event.Event.{Event}
use Rattle.pyd_runs.specs.Replay.{IsLegal, replay}
use Rattle.pyd_runs.specs.Promise.{Promise}
use Rattle.pyd_runs.proofs.Again.{claimed_again}
use Rattle.pyd_runs.proofs.Once.{once_settled}
use Rattle.pyd_runs.proofs.Places.{losses_stand}
use Rattle.pyd_runs.proofs.Progress.{goes_on}
use Rattle.pyd_runs.proofs.Bounding.{run_bounded}
use Rattle.pyd_runs.proofs.Running.{run_keeps, prefix_keeps, end_keeps}

-- the law
pub promised : Promise
promised p es runnable legal = record {
  begun = prefix_keeps p es runnable legal;
  whole = λ end is. end_keeps p es end runnable legal is;
  once = λ k. once_settled p es k runnable legal;
  again = λ before between later first second k a b m n is one two.
      claimed_again p before between later first second k a b m n runnable
      (subst (λ (xs : List Event). IsLegal p xs) is legal) one two;
  losses = losses_stand p es runnable legal;
  goes_on = λ none. goes_on p (replay p es) runnable (run_keeps p es runnable legal) none;
  bounded = λ order. run_bounded p es runnable legal order;
  sound = run_keeps p es runnable legal;
}
