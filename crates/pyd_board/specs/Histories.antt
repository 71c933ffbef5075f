-- Which histories extend another, and how many entries of one are a seat's.
use Rattle.std.specs.Prelude.{◌≡◌, ◌==◌, ◌++◌, ℕ, List, [], Some, None, All, Contains, count_by}
use Rattle.pyd_board.specs.declared.event.Event.{Event}
use Rattle.pyd_board.specs.declared.history.Halt.{Halt}
use Rattle.pyd_board.specs.declared.history.History.{History}

-- how many of the events are by the seat
abbrev pub entries : ℕ → List Event → ℕ
entries seat events = count_by (λ e. e.by == seat) events

-- the number of a seat's entries in a history
abbrev pub entries_of : ℕ → History → ℕ
entries_of seat history = entries seat history.events

-- all of the events are by the seat
abbrev pub AllBy : ℕ → List Event → Type 0
AllBy seat events = All (λ e. e.by ≡ seat) events

-- the history of events alone: no run keeps a sink fault, and there is no halt
abbrev pub events_alone : List Event → History
events_alone events = record { events = events; sink_faults = []; halted = None }

-- its events begin with the old one's, and each kept sink fault and a halt that were there are still there
pub record Extends (old new : History) : Type 0 where
  pub events : (more : List Event) × (new.events ≡ old.events ++ more)
  pub sink_faults : (run : ℕ) → Contains old.sink_faults run → Contains new.sink_faults run
  pub halted : (why : Halt) → old.halted ≡ Some why → new.halted ≡ Some why

-- it extends the old one by entries of one seat alone
pub record ExtendsBy (seat : ℕ) (old new : History) : Type 0 where
  pub extends : Extends old new
  pub alone : AllBy seat extends.events.0
