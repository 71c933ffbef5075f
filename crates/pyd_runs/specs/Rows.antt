-- Short runs of a small script, event by event.
use Rattle.std.specs.Prelude.{◌≡◌, ℕ, pos, List, [], ◌∷◌, codes, Option, Some}
use Rattle.pyd_value.specs.declared.value.Value.{Int}
use Rattle.pyd_value.specs.declared.fault.End.{End}
use Rattle.pyd_value.specs.declared.fault.End.TheVariants.{Finished}
use Rattle.pyd_value.specs.declared.operator.BinOp.TheVariants.{Add}
use Rattle.pyd_tree.specs.declared.expression.Expr.{Expr}
use Rattle.pyd_tree.specs.declared.expression.Expr.TheVariants as expression
use Rattle.pyd_tree.specs.declared.statement.What.TheVariants as what
use Rattle.pyd_tree.specs.declared.file.File.{File}
use Rattle.pyd_meaning.specs.Rows.{Script, IsScript, number, statement}
use Rattle.pyd_board.specs.declared.event.Act.{Act}
use Rattle.pyd_board.specs.declared.event.Act.TheVariants.{Place, Claim, Finish, Drop, Settle, Lose}
use Rattle.pyd_board.specs.declared.event.Event.{Event}
use Rattle.pyd_board.specs.declared.setup.Loss.{Loss}
use Rattle.pyd_ir.specs.declared.arg.Arg.{Arg}
use Rattle.pyd_ir.specs.declared.arg.Arg.TheVariants.{Known, From}
use Rattle.pyd_ir.specs.declared.code.OpCode.TheVariants.{Binary}
use Rattle.pyd_ir.specs.declared.node.Node.{Node}
use Rattle.pyd_ir.specs.declared.work.Work.{Work}
use Rattle.pyd_ir.specs.declared.work.Work.TheVariants.{Op, Print}
use Rattle.pyd_translate.specs.Making.{port}
use Rattle.pyd_runs.specs.Plans.{Plan}
use Rattle.pyd_runs.specs.Effects.{first_state}
use Rattle.pyd_runs.specs.Enabled.{Enabled}
use Rattle.pyd_runs.specs.Replay.{IsLegal, replay}

-- the sum of two literals
abbrev pub sum : ℕ → ℕ → Expr
sum a b = expression.Chain (number a) ((Add, number b) ∷ [])

-- `print(1 + 2, 3 + 4)`
abbrev pub small : Script
small = record {
  statements = statement 1
      (what.Expr (expression.Call (codes "print") (sum 1 2 ∷ sum 3 4 ∷ []))) ∷ [];
  functions = [];
  kinds = [];
}

-- a file on 2 machines of one worker each, where only the head is refined
abbrev pub plan_of : File → List Loss → Plan
plan_of file losses = record {
  file = file;
  setup = record {
    turns = 10;
    depth = 10;
    machines = 2;
    workers = 1;
    window = 1;
    losses = losses;
  };
}

-- a node of line 1
abbrev pub node_in_line : ℕ → Work → Node
node_in_line id work = record { id = id; line = 1; depth = 0; routine = 0; work = work }

-- an integer as an argument
abbrev pub known : ℕ → Arg
known n = Known (Int (pos n))

-- the node of the first sum
abbrev pub first_sum : Node
first_sum = node_in_line 0 (Op (Binary Add) (known 1 ∷ known 2 ∷ []))

-- the node of the second sum
abbrev pub second_sum : Node
second_sum = node_in_line 1 (Op (Binary Add) (known 3 ∷ known 4 ∷ []))

-- the node of the print, which names both
abbrev pub small_print : Node
small_print = node_in_line 2 (Print (From (port 0 0) ∷ From (port 1 0) ∷ []))

-- with these losses the script may run so; it then has put out these lines, and has ended so
abbrev pub Runs : List Loss → List Event → List (List ℕ) → Option End → Type 0
Runs losses es lines end = (file : File) → IsScript file small
    → IsLegal (plan_of file losses) es
    × ((replay (plan_of file losses) es).graph.out ≡ lines)
    × ((replay (plan_of file losses) es).graph.end ≡ end)

-- an event of a seat that has had so many before
abbrev pub by : ℕ → ℕ → Act → Event
by seat nth act = record { by = seat; nth = nth; act = act }

-- the second sum is placed once the first one is settled
abbrev pub InTurnRow : Type 0
InTurnRow =
    Runs []
    (by 0 0 (Place 0 1 0) ∷ by 1 0 (Claim 0 1 0) ∷ by 1 1 (Finish 0 1 0)
    ∷ by 0 1 (Settle 0) ∷ by 0 2 (Place 1 1 1) ∷ by 2 0 (Claim 1 1 1)
    ∷ by 2 1 (Finish 1 1 1) ∷ by 0 3 (Settle 1) ∷ by 0 4 (Settle 2) ∷ [])
    (codes "3 7" ∷ []) (Some Finished)

-- both sums are claimed at once, on two machines
abbrev pub AtOnceRow : Type 0
AtOnceRow =
    Runs []
    (by 0 0 (Place 0 1 0) ∷ by 0 1 (Place 1 1 1) ∷ by 2 0 (Claim 1 1 1)
    ∷ by 1 0 (Claim 0 1 0) ∷ by 2 1 (Finish 1 1 1) ∷ by 1 1 (Finish 0 1 0)
    ∷ by 0 2 (Settle 0) ∷ by 0 3 (Settle 1) ∷ by 0 4 (Settle 2) ∷ [])
    (codes "3 7" ∷ []) (Some Finished)

-- the second sum is done before the first one is placed
abbrev pub SecondFirstRow : Type 0
SecondFirstRow =
    Runs []
    (by 0 0 (Place 1 1 0) ∷ by 1 0 (Claim 1 1 0) ∷ by 1 1 (Finish 1 1 0)
    ∷ by 0 1 (Place 0 1 0) ∷ by 1 2 (Claim 0 1 0) ∷ by 1 3 (Finish 0 1 0)
    ∷ by 0 2 (Settle 0) ∷ by 0 3 (Settle 1) ∷ by 0 4 (Settle 2) ∷ [])
    (codes "3 7" ∷ []) (Some Finished)

-- machine 0 is lost while it does the first sum: its seat lets the claim go, and the other machine does the sum
abbrev pub LostInClaimRow : Type 0
LostInClaimRow =
    Runs (record { event = 2; machine = 0 } ∷ [])
    (by 0 0 (Place 0 1 0) ∷ by 1 0 (Claim 0 1 0) ∷ by 0 1 (Lose 0) ∷ by 1 1 (Drop 0 1 0)
    ∷ by 0 2 (Place 0 2 1) ∷ by 2 0 (Claim 0 2 1) ∷ by 2 1 (Finish 0 2 1)
    ∷ by 0 3 (Settle 0) ∷ by 0 4 (Place 1 1 1) ∷ by 2 2 (Claim 1 1 1)
    ∷ by 2 3 (Finish 1 1 1) ∷ by 0 5 (Settle 1) ∷ by 0 6 (Settle 2) ∷ [])
    (codes "3 7" ∷ []) (Some Finished)

-- machine 0 is lost once the first sum is done there and before it is settled, and the sum is done again
abbrev pub LostWhenDoneRow : Type 0
LostWhenDoneRow =
    Runs (record { event = 3; machine = 0 } ∷ [])
    (by 0 0 (Place 0 1 0) ∷ by 1 0 (Claim 0 1 0) ∷ by 1 1 (Finish 0 1 0)
    ∷ by 0 1 (Lose 0) ∷ by 0 2 (Place 0 2 1) ∷ by 2 0 (Claim 0 2 1)
    ∷ by 2 1 (Finish 0 2 1) ∷ by 0 3 (Settle 0) ∷ by 0 4 (Place 1 1 1)
    ∷ by 2 2 (Claim 1 1 1) ∷ by 2 3 (Finish 1 1 1) ∷ by 0 5 (Settle 1)
    ∷ by 0 6 (Settle 2) ∷ [])
    (codes "3 7" ∷ []) (Some Finished)

-- machine 1 is lost before any event
abbrev pub first_loss : List Loss
first_loss = record { event = 0; machine = 1 } ∷ []

-- an event may come first
abbrev pub MayBegin : Plan → Event → Type 0
MayBegin p e = Enabled p (first_state p) e

-- where that loss is due it is the one event that may come, and the driver's
abbrev pub OnlyLossRow : Type 0
OnlyLossRow = (file : File) → IsScript file small → (e : Event)
    → (MayBegin (plan_of file first_loss) e → e ≡ by 0 0 (Lose 1))
    × MayBegin (plan_of file first_loss) (by 0 0 (Lose 1))
