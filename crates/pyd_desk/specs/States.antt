-- What line and desk are of a state, and what becomes of them.
use Rattle.std.specs.Prelude.{◌≡◌, length}
use Rattle.pyd_runs.specs.Effects.{State}
use Rattle.pyd_desk.specs.declared.desk.Desk.{Desk}
use Rattle.pyd_desk.specs.declared.line.Line.{Line}
use Rattle.pyd_desk.specs.Desks.{desk_of, is_lost}
use Rattle.pyd_desk.specs.Lines.{IsGraphOf}

-- line and desk are those of a state, with a mark and a place for the driver's record at each number so far
pub record IsStateOf (line : Line) (d : Desk) (s : State) : Type 0 where
  pub graph : IsGraphOf line d s.graph
  pub desk : s.desk ≡ desk_of d
  pub lost : s.lost ≡ is_lost d.alive.items
  pub marks : length d.marks.items ≡ s.graph.next
  pub driver : length d.driver.items ≡ s.graph.next

-- where a desk is that of a state, another is that of what becomes of the state
abbrev pub Becomes : Desk → Desk → (State → State) → Type 0
Becomes old new effect =
    (line : Line) (s : State) → IsStateOf line old s → IsStateOf line new (effect s)

-- a desk has places for as many machines as another
pub record HasSameMachines (old new : Desk) : Type 0 where
  pub stores : length new.stores.items ≡ length old.stores.items
  pub alive : length new.alive.items ≡ length old.alive.items

-- a line as it was, but for room
pub record IsSameLine (old new : Line) : Type 0 where
  pub nodes : new.nodes.items ≡ old.nodes.items
  pub settled : new.settled ≡ old.settled

-- a desk as it was, but for room
pub record IsSameDesk (old new : Desk) : Type 0 where
  pub marks : new.marks.items ≡ old.marks.items
  pub driver : new.driver.items ≡ old.driver.items
  pub stores : new.stores.items ≡ old.stores.items
  pub alive : new.alive ≡ old.alive
  pub undone : new.undone.items ≡ old.undone.items
