-- How what a board tells of its runs goes with the events that may come.
use Rattle.std.specs.Prelude.{◌≡◌, ◌++◌, ◌∷◌, [], ℕ, List, true, false, Some, is_some}
use Rattle.pyd_board.specs.declared.event.Act.TheVariants.{Claim}
use Rattle.pyd_board.specs.declared.event.Event.{Event}
use Rattle.pyd_board.specs.declared.kept.RunName.{RunName}
use Rattle.pyd_board.specs.declared.seat.Who.{Who}
use Rattle.pyd_boards.specs.Boards.{Facts, IsWorker, entry}
use Rattle.pyd_boards.specs.Calls.{NoneIn, drops, is_loss, kind_of, loses, number_of}

-- what holds after events that came each in its turn
pub record AreLawful {J : Type 0} (name : List RunName) (facts : Facts J)
    (may_come : List Event → Event → Type 0) (events : List Event) : Type 0 where
  -- a loss that may come bars all but losses in its run
  pub due_bars : (loss e : Event) → may_come events loss → is_loss loss.act ≡ true
      → may_come events e → facts.run (number_of e.act) ≡ facts.run (number_of loss.act)
      → is_loss e.act ≡ true
  -- in a run that has ended only Drops may come
  pub ended_bars : (e : Event) → may_come events e
      → facts.has_ended events (facts.run (number_of e.act)) ≡ true → kind_of e.act ≡ drops
  -- a machine that is lost stays lost
  pub lost_stays : (e : Event) → may_come events e → (run machine : ℕ)
      → facts.has_lost events run machine ≡ true
      → facts.has_lost (events ++ e ∷ []) run machine ≡ true
  -- a run that has ended stays ended
  pub ended_stays : (e : Event) → may_come events e → (run : ℕ)
      → facts.has_ended events run ≡ true → facts.has_ended (events ++ e ∷ []) run ≡ true
  -- a Claim that may come has a job
  pub has_job : (e : Event) (node attempt machine : ℕ) → may_come events e
      → e.act ≡ Claim node attempt machine → is_some (facts.job events node attempt) ≡ true
  -- where no loss is due in the node's run, and it hasn't ended or lost the machine, the Claim of an attempt that has a job may come
  pub job_is_live : (who : Who) (node attempt : ℕ) → IsWorker name who
      → NoneIn facts may_come loses (facts.run node) events
      → facts.has_ended events (facts.run node) ≡ false
      → facts.has_lost events (facts.run node) who.machine ≡ false
      → is_some (facts.job events node attempt) ≡ true
      → may_come events (entry events who.seat (Claim node attempt who.machine))
  -- a job tells its node and its attempt
  pub tells : (node attempt : ℕ) (job : J) → facts.job events node attempt ≡ Some job
      → (facts.node_of job ≡ node) × (facts.attempt_of job ≡ attempt)
