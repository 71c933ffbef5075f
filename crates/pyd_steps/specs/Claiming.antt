-- What a claim answers and appends.
use Rattle.std.specs.Prelude.{◌≡◌, ◌++◌, Bool, ◌||◌, if◌then◌else◌, is_some}
use Rattle.pyd_board.specs.declared.seat.Ticket.{Ticket}
use Rattle.pyd_board.specs.declared.seat.Who.{Who}
use Rattle.pyd_boards.specs.Calls.{claim_entries, claimed_job}
use Rattle.pyd_boards.specs.declared.answers.Claimed.{Claimed}
use Rattle.pyd_boards.specs.declared.answers.Claimed.TheVariants as claimed
use Rattle.pyd_ir.specs.declared.job.Job.{Job}
use Rattle.pyd_runs.specs.Effects.{State}
use Rattle.pyd_runs.specs.Replay.{replay}
use Rattle.pyd_core.specs.declared.keeper.Core.{Core}
use Rattle.pyd_core.specs.Claiming.{live_job}
use Rattle.pyd_core.specs.Cores.{plan_of, state_of}
use Rattle.pyd_core.specs.Steps.{ComesBy}
use Rattle.pyd_steps.specs.Losses.{events_behind, losses_first}

-- the run has ended or is halted
abbrev pub is_over : Bool → State → Bool
is_over halted s = is_some s.graph.end || halted

-- what a claim answers where no loss is due
abbrev pub answer_in : Bool → State → Ticket → Who → Claimed Job
answer_in halted s ticket who =
    if is_over halted s then claimed.Over else
    if s.lost who.machine then claimed.Lost ticket else
    claimed_job (live_job s ticket.node ticket.attempt)

-- where no loss is due a claim appends its own entry alone
pub record ClaimsNow (halted : Bool) (old new : Core) (ticket : Ticket) (who : Who)
    (answer : Claimed Job) : Type 0 where
  pub answers : answer ≡ answer_in halted (state_of old) ticket who
  pub comes : ComesBy old new (claim_entries answer ticket who old.log.journal.items)

-- a claim appends the losses that are due, and then its own entry
pub record Claims (halted : Bool) (old new : Core) (ticket : Ticket) (who : Who)
    (answer : Claimed Job) : Type 0 where
  pub answers : answer
      ≡ answer_in halted (replay (plan_of old) (events_behind who.seat old)) ticket who
  pub comes : ComesBy old new (losses_first who.seat old
      ++ claim_entries answer ticket who (events_behind who.seat old))
