-- What placing nodes in a row appends, and which nodes stay ready behind the losses that are due.
use Rattle.std.specs.Prelude.{◌≡◌, ◌∷◌, [], ◌++◌, ℕ, List, Bool, true, false, not, ◌||◌, Option, Some, None, is_some, length, drop}
use Rattle.std.specs.List.{list_all}
use Rattle.pyd_board.specs.declared.event.Act.TheVariants.{Place}
use Rattle.pyd_board.specs.declared.event.Event.{Event}
use Rattle.pyd_board.specs.declared.seat.Ticket.{Ticket}
use Rattle.pyd_board.specs.Histories.{AllBy}
use Rattle.pyd_boards.specs.Boards.{entry}
use Rattle.pyd_boards.specs.Moves.{PlacesIn}
use Rattle.pyd_ir.specs.declared.arg.Arg.{Arg}
use Rattle.pyd_ir.specs.declared.arg.Arg.TheVariants.{Known, From, Slot, Unbound}
use Rattle.pyd_ir.specs.declared.node.Node.{Node}
use Rattle.pyd_ir.specs.declared.work.Work.{Work}
use Rattle.pyd_ir.specs.declared.work.Work.TheVariants.{Op, Read, Call, Stop, Print, Run, Cond, While, For, Pick, Enter}
use Rattle.pyd_lineage.specs.Lineage.{is_among}
use Rattle.pyd_runs.specs.Deciding.{may_place}
use Rattle.pyd_runs.specs.NextLosses.{due_after}
use Rattle.pyd_desk.specs.Desks.{driver_of, mark_at}
use Rattle.pyd_core.specs.declared.keeper.Core.{Core}
use Rattle.pyd_core.specs.Cores.{plan_of, state_of}
use Rattle.pyd_core.specs.Facts.{facts_of, may_come}
use Rattle.pyd_core.specs.Losing.{losses_by}
use Rattle.pyd_core.specs.Steps.{ComesBy, Stays}

-- no node may be placed, and nothing was done
pub record PlacesNone (old new : Core) : Type 0 where
  pub none : (k : ℕ) → may_place (state_of old) k ≡ false
  pub stays : Stays old new

-- nodes were placed by a seat, with losses that came due
pub record PlacesInRow (old new : Core) (seat : ℕ) (tickets : List Ticket) : Type 0 where
  pub own : List Event
  pub comes : ComesBy old new own
  pub by : AllBy seat own
  pub places : PlacesIn (facts_of (plan_of old)) (may_come (plan_of old)) 0
      old.log.journal.items own tickets

-- the losses that are due came, and then a seat placed a node
pub record PlacesNext (old new : Core) (seat node : ℕ) (ticket : Ticket) : Type 0 where
  pub attempt : ℕ
  pub machine : ℕ
  pub comes : ComesBy old new (losses_by seat (state_of old)
      ++ entry (old.log.journal.items ++ losses_by seat (state_of old)) seat
      (Place node attempt machine) ∷ [])
  pub made : ticket ≡ record { node = node; attempt = attempt; machine = machine }

-- the machines whose losses are due, one after another
abbrev pub machines_due : Core → List ℕ
machines_due c = due_after (length c.log.journal.items) (drop c.lost c.setup.losses)

-- whether a machine, if there is one, is among some
abbrev pub falls : List ℕ → Option ℕ → Bool
falls machines None = false
falls machines (Some machine) = is_among machines machine

-- whether the record of a node, if it has one, is left once these machines are lost
abbrev pub outlasts : Core → List ℕ → ℕ → Bool
outlasts c machines k =
    is_some (driver_of c.desk k) || not (falls machines (mark_at c.desk.marks.items k).machine)

-- whether an argument that has a value keeps it, by the nodes whose records are left
abbrev pub keeps_value : (ℕ → Bool) → Arg → Bool
keeps_value is_left (Known v) = true
keeps_value is_left (From at) = is_left at.node
keeps_value is_left (Slot at) = is_left at.node
keeps_value is_left Unbound = true

-- whether all arguments keep theirs
abbrev pub keep_values : (ℕ → Bool) → List Arg → Bool
keep_values is_left args = list_all (keeps_value is_left) args

-- whether a node that is ready stays so; one without a job is never ready
abbrev pub keeps_inputs : (ℕ → Bool) → Work → Bool
keeps_inputs is_left (Op op args) = keep_values is_left args
keeps_inputs is_left (Read arg kind) = keeps_value is_left arg
keeps_inputs is_left (Call func args) = keep_values is_left args
keeps_inputs is_left (Stop fault) = true
keeps_inputs is_left (Print args) = true
keeps_inputs is_left (Run func args) = keep_values is_left args
keeps_inputs is_left (Cond test stmt arm rest env) = true
keeps_inputs is_left (While test stmt turns rest env) = true
keeps_inputs is_left (For over stmt turns rest env) = true
keeps_inputs is_left (Pick test first second env) = true
keeps_inputs is_left (Enter func args) = true

-- the same of a node, if there is one
abbrev pub stays_ready : (ℕ → Bool) → Option Node → Bool
stays_ready is_left None = true
stays_ready is_left (Some n) = keeps_inputs is_left n.work
