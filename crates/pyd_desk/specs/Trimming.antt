-- A past node goes, with its record and the tickets of nodes that are no longer ready.
use Rattle.std.specs.Prelude.{◌≡◌, ◌≢◌, ℕ, length, set, Some, None}
use Rattle.std.specs.List.{slice_get}
use Rattle.pyd_board.specs.declared.event.Act.TheVariants.{Trim}
use Rattle.pyd_ir.specs.declared.node.Node.{Node}
use Rattle.pyd_runs.specs.Plans.{Plan}
use Rattle.pyd_runs.specs.Effects.{State, acted}
use Rattle.pyd_runs.specs.Sound.{IsSound}
use Rattle.pyd_desk.specs.declared.desk.Desk.{Desk}
use Rattle.pyd_desk.specs.declared.desk.Mark.{Mark}
use Rattle.pyd_desk.specs.declared.desk.PortKind.TheVariants.{One}
use Rattle.pyd_desk.specs.declared.line.Line.{Line}
use Rattle.pyd_desk.specs.Desks.{mark_at, outcome_in}
use Rattle.pyd_desk.specs.Lines.{past_of}
use Rattle.pyd_desk.specs.States.{IsStateOf}

-- the mark of a node that is trimmed
abbrev pub forgotten : Mark → Mark
forgotten m = record m { ticket = None; machine = None; ports = One }

-- a desk with all that another has, but for the ticket of a node and its record in a store
pub record HasForgotten (k : ℕ) (old new : Desk) : Type 0 where
  pub marks : new.marks.items ≡ set old.marks.items k (forgotten (mark_at old.marks.items k))
  pub kept : (m n : ℕ) → n ≢ k
      → outcome_in new.stores.items m n ≡ outcome_in old.stores.items m n
  pub removed : (m : ℕ) → (mark_at old.marks.items k).machine ≡ Some m
      → outcome_in new.stores.items m k ≡ None
  pub count : length new.stores.items ≡ length old.stores.items
  pub driver : new.driver ≡ old.driver
  pub alive : new.alive ≡ old.alive
  pub undone : new.undone ≡ old.undone

-- where line and desk are those of a state, they are then those behind the Trim of the node at a place of the past
abbrev pub IsTrimmed : Line → Desk → ℕ → Line → Desk → Type 0
IsTrimmed old d at new e =
    (p : Plan) (s : State) (seat : ℕ) (n : Node) → IsSound p s → IsStateOf old d s
    → slice_get (past_of old) at ≡ Some n → IsStateOf new e (acted p s seat (Trim n.id))
