-- By whom losses that are due may be appended.
use Rattle.std.specs.Prelude.{◌≡◌, ◌++◌, ℕ, List, None, Some, All}
use Rattle.pyd_board.specs.declared.event.Event.{Event}
use Rattle.pyd_runs.specs.Enabled.{IsLoss, due}
use Rattle.pyd_core.specs.declared.keeper.Core.{Core}
use Rattle.pyd_core.specs.Cores.{state_of}
use Rattle.pyd_core.specs.Losing.{losses_by}

-- while the run goes on and a loss is due, some entry is no loss, unless the seat is the driver's
abbrev pub MayLose : Core → ℕ → Type 0
MayLose c seat = (state_of c).graph.end ≡ None
    → (machine : ℕ) → due (state_of c) ≡ Some machine
    → All (λ e. IsLoss e.act) c.log.journal.items → seat ≡ 0

-- the losses that a seat appends before it does anything else
abbrev pub losses_first : ℕ → Core → List Event
losses_first seat c = losses_by seat (state_of c)

-- the events of a core behind those losses
abbrev pub events_behind : ℕ → Core → List Event
events_behind seat c = c.log.journal.items ++ losses_first seat c
