-- What becomes of an outcome that a seat gives for a claim.
use Rattle.std.specs.Prelude.{◌≡◌, ℕ, Bool, true, false, ◌||◌, if◌then◌else◌, is_some}
use Rattle.pyd_board.specs.declared.event.Act.{Act}
use Rattle.pyd_board.specs.declared.event.Act.TheVariants.{Drop, Finish}
use Rattle.pyd_boards.specs.declared.answers.Finished.{Finished}
use Rattle.pyd_boards.specs.declared.answers.Finished.TheVariants.{Dropped, Kept}
use Rattle.pyd_ir.specs.declared.job.Job.{Job}
use Rattle.pyd_ir.specs.declared.job.Task.{Task}
use Rattle.pyd_meaning.specs.declared.ran.Ran.{Ran}
use Rattle.pyd_runs.specs.Claims.{IsHeld}
use Rattle.pyd_runs.specs.Desks.{Held}
use Rattle.pyd_runs.specs.Effects.{State, is_run, kept_by_driver, kept_by_machine}
use Rattle.pyd_runs.specs.Enabled.{IsClaimOf}
use Rattle.pyd_desk.specs.Desks.{silent}

-- a seat of a machine holds the claim of a node's attempt, with this job
pub record HoldsClaimWith (s : State) (seat k attempt machine : ℕ) (job : Job) : Type 0 where
  pub claim : Held
  pub held : IsHeld s k claim
  pub of_seat : IsClaimOf seat attempt machine claim
  pub of_job : claim.job ≡ job

-- whether a claim of the machine is in vain: the machine is lost, or the run has ended
abbrev pub is_in_vain : State → ℕ → Bool
is_in_vain s machine = s.lost machine || is_some s.graph.end

-- what becomes of an outcome, by whether its claim is in vain
abbrev pub answer_by : Bool → Finished
answer_by true = Dropped
answer_by false = Kept

-- what becomes of an outcome of a machine
abbrev pub answer_of : State → ℕ → Finished
answer_of s machine = answer_by (is_in_vain s machine)

-- what lets go of the claim of a node's attempt with this answer
abbrev pub act_of : Finished → ℕ → ℕ → ℕ → Act
act_of Kept k attempt machine = Finish k attempt machine
act_of Dropped k attempt machine = Drop k attempt machine

-- the state once what a task gave is kept: an effect's by the driver, any other's by a machine
abbrev pub with_record : State → ℕ → ℕ → Task → Ran → State
with_record s k machine task ran =
    if is_run task then kept_by_driver s k ran
    else kept_by_machine s k machine (silent ran.outcome)
