-- A desk without the tickets of nodes that aren't ready.
use Rattle.std.specs.Prelude.{◌≡◌, ℕ, ◌==◌, List, length, Bool, not, ◌&&◌, if◌then◌else◌, None, is_some}
use Rattle.std.specs.List.{list_any}
use Rattle.pyd_ir.specs.declared.node.Node.{Node}
use Rattle.pyd_ir.specs.Inputs.{Given}
use Rattle.pyd_runs.specs.Records.{task_by}
use Rattle.pyd_desk.specs.declared.desk.Desk.{Desk}
use Rattle.pyd_desk.specs.declared.desk.Mark.{Mark}
use Rattle.pyd_desk.specs.Desks.{mark_at}
use Rattle.pyd_desk.specs.Reading.{given_of}

-- whether a node is ready, before this chain
abbrev pub is_ready_in : List Node → Given → Node → Bool
is_ready_in chain given n = is_some (task_by chain given n)

-- whether a node has this number and isn't ready
abbrev pub is_waiting : List Node → Given → ℕ → Node → Bool
is_waiting chain given k n = (n.id == k) && not (is_ready_in chain given n)

-- whether one of the nodes does
abbrev pub has_waiting : List Node → Given → List Node → ℕ → Bool
has_waiting chain given ns k = list_any (is_waiting chain given k) ns

-- a mark, and whether its ticket dies
abbrev pub live_mark : Bool → Mark → Mark
live_mark dies m = record m { ticket = if dies then None else m.ticket }

-- a desk as another, without the tickets of those of the nodes that aren't ready
pub record IsRidOf (chain ns : List Node) (old new : Desk) : Type 0 where
  pub marks : (k : ℕ) → mark_at new.marks.items k
      ≡ live_mark (has_waiting chain (given_of old) ns k) (mark_at old.marks.items k)
  pub count : length new.marks.items ≡ length old.marks.items
  pub driver : new.driver ≡ old.driver
  pub stores : new.stores ≡ old.stores
  pub alive : new.alive ≡ old.alive
  pub undone : new.undone ≡ old.undone
