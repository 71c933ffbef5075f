-- A piece in the place of a node.
use Rattle.std.specs.Prelude.{◌≡◌, ◌<◌, ◌≤◌, ℕ, List, length, Option, Some, None}
use Rattle.std.specs.List.{All, slice_get}
use Rattle.pyd_board.specs.declared.event.Act.TheVariants.{Refine}
use Rattle.pyd_ir.specs.declared.node.Node.{Node}
use Rattle.pyd_translate.specs.declared.piece.Piece.{Piece}
use Rattle.pyd_runs.specs.Plans.{Plan}
use Rattle.pyd_runs.specs.Desks.{put_at}
use Rattle.pyd_runs.specs.Records.{node_at, recorded}
use Rattle.pyd_runs.specs.Growth.{piece_for}
use Rattle.pyd_runs.specs.Effects.{State, acted}
use Rattle.pyd_runs.specs.Sound.{IsSound}
use Rattle.pyd_desk.specs.declared.desk.Desk.{Desk}
use Rattle.pyd_desk.specs.declared.desk.Mark.{Mark}
use Rattle.pyd_desk.specs.declared.desk.PortKind.TheVariants.{One}
use Rattle.pyd_desk.specs.declared.line.Line.{Line}
use Rattle.pyd_desk.specs.Desks.{driver_of, mark_at}
use Rattle.pyd_desk.specs.Lines.{chain_of}
use Rattle.pyd_desk.specs.States.{IsStateOf}
use Rattle.pyd_desk.specs.Works.{port_kind}

-- a mark that tells what stands at the ports of a node, if there is one
abbrev pub told : Option Node → Mark → Mark
told None m = m
told (Some n) m = record m { ports = port_kind n.work }

-- the mark of a node that is gone
abbrev pub gone : Mark → Mark
gone m = record m { ports = One }

-- the marks by number once a node is gone and there are new ones
abbrev pub marks_with : ℕ → List Node → List Mark → ℕ → Mark
marks_with id nodes marks k =
    told (node_at nodes k) (put_at (mark_at marks) id (gone (mark_at marks id)) k)

-- a desk with new nodes below a number in the place of a node
pub record HasNew (id numbers : ℕ) (nodes : List Node) (old new : Desk) : Type 0 where
  pub marks : id < length old.marks.items → length old.marks.items ≤ numbers
      → All (λ n. n.id < numbers) nodes → (k : ℕ)
      → mark_at new.marks.items k ≡ marks_with id nodes old.marks.items k
  pub driver : (k : ℕ) → driver_of new k ≡ driver_of old k
  pub mark_count : length old.marks.items ≤ numbers → length new.marks.items ≡ numbers
  pub driver_count : length old.driver.items ≤ numbers → length new.driver.items ≡ numbers
  pub stores : new.stores.items ≡ old.stores.items
  pub alive : new.alive ≡ old.alive
  pub undone : new.undone.items ≡ old.undone.items

-- where a piece is that of the node at a place of the chain, line and desk are then those behind its Refine
abbrev pub IsRefined : Line → Desk → ℕ → Piece → Line → Desk → Type 0
IsRefined old d at piece new e =
    (p : Plan) (s : State) (seat : ℕ) (n : Node) → IsSound p s → IsStateOf old d s
    → slice_get (chain_of old) at ≡ Some n
    → piece ≡ piece_for p (recorded s.graph s.desk.stores) s.graph.next n
    → IsStateOf new e (acted p s seat (Refine n.id))
