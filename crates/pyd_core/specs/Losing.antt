-- The losses that come before a seat does anything else.
use Rattle.std.specs.Prelude.{ℕ, List, [], cond, is_some}
use Rattle.pyd_board.specs.declared.event.Event.{Event}
use Rattle.pyd_runs.specs.Effects.{State}
use Rattle.pyd_runs.specs.NextLosses.{due_losses}

-- the losses by a seat that are due in a state, none once the run has ended
abbrev pub losses_by : ℕ → State → List Event
losses_by seat s = cond (is_some s.graph.end) [] (due_losses seat s)
