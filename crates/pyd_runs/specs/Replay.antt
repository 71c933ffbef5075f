-- Runs: lists of events, each of which may come in its turn.
use Rattle.std.specs.Prelude.{List, [], ◌∷◌}
use Rattle.pyd_board.specs.declared.event.Event.{Event}
use Rattle.pyd_runs.specs.Plans.{Plan}
use Rattle.pyd_runs.specs.Effects.{State, first_state, happens}
use Rattle.pyd_runs.specs.Enabled.{Enabled}

-- the state after events, from a state on
unfoldable pub after : Plan → State → List Event → State
after p s [] = s
after p s (e ∷ es) = after p (happens p s e) es

-- each event may come in its turn, from a state on
unfoldable pub IsLegalFrom : Plan → State → List Event → Type 0
IsLegalFrom p s [] = Unit {0}
IsLegalFrom p s (e ∷ es) = Enabled p s e × IsLegalFrom p (happens p s e) es

-- a legal run: each event may come in its turn, from the start on
abbrev pub IsLegal : Plan → List Event → Type 0
IsLegal p es = IsLegalFrom p (first_state p) es

-- the state after a run
abbrev pub replay : Plan → List Event → State
replay p es = after p (first_state p) es
