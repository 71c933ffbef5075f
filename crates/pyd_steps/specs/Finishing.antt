-- What a finish answers and appends.
use Rattle.std.specs.Prelude.{◌≡◌, ◌++◌, ◌∷◌, [], ℕ}
use Rattle.pyd_board.specs.declared.seat.Who.{Who}
use Rattle.pyd_boards.specs.Boards.{entry}
use Rattle.pyd_boards.specs.declared.answers.Finished.{Finished}
use Rattle.pyd_runs.specs.Replay.{replay}
use Rattle.pyd_core.specs.declared.keeper.Core.{Core}
use Rattle.pyd_core.specs.Cores.{plan_of}
use Rattle.pyd_core.specs.Finishing.{act_of, answer_of}
use Rattle.pyd_core.specs.Steps.{ComesBy}
use Rattle.pyd_steps.specs.Losses.{events_behind, losses_first}

-- a finish appends the losses that are due, and then its own entry
pub record Finishes (old new : Core) (node attempt : ℕ) (who : Who) (answer : Finished)
    : Type 0 where
  pub answers : answer
      ≡ answer_of (replay (plan_of old) (events_behind who.seat old)) who.machine
  pub comes : ComesBy old new (losses_first who.seat old
      ++ entry (events_behind who.seat old) who.seat (act_of answer node attempt who.machine) ∷ [])
