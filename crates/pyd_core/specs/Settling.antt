-- What is prepared of the head of the chain, and what its settling leaves.
use Rattle.std.specs.Prelude.{◌≡◌, ◌++◌, ◌∷◌, ℕ, List, [], map, Option, option_map}
use Rattle.pyd_value.specs.declared.value.Value.{Value}
use Rattle.pyd_value.specs.declared.fault.Outcome.{Outcome}
use Rattle.pyd_value.specs.declared.fault.Outcome.TheVariants as outcome
use Rattle.pyd_meaning.specs.declared.ran.Ran.{Ran}
use Rattle.pyd_meaning.specs.Evaluation.{Evaluation}
use Rattle.pyd_meaning.specs.Module.{ended_by}
use Rattle.pyd_board.specs.declared.event.Act.TheVariants.{Settle}
use Rattle.pyd_ir.specs.declared.node.Node.{Node}
use Rattle.pyd_ir.specs.declared.work.Work.{Work}
use Rattle.pyd_ir.specs.declared.work.Work.TheVariants.{Op, Read, Call, Stop, Print, Run, Cond, While, For, Pick, Enter}
use Rattle.pyd_ir.specs.Arguments.{is_pure}
use Rattle.pyd_ir.specs.Inputs.{Given, value_of}
use Rattle.pyd_ir.specs.Meaning.{ran_of}
use Rattle.pyd_effect.specs.Settling.{given_by}
use Rattle.pyd_runs.specs.Plans.{Plan}
use Rattle.pyd_runs.specs.Records.{or_else}
use Rattle.pyd_runs.specs.Effects.{State, acted, settled_by}
use Rattle.pyd_runs.specs.Enabled.{CanSettle}
use Rattle.pyd_desk.specs.declared.desk.Desk.{Desk}
use Rattle.pyd_desk.specs.Desks.{driver_of, silent}
use Rattle.pyd_desk.specs.Passing.{kept_of}
use Rattle.pyd_desk.specs.Reading.{given_of, stored_at}
use Rattle.pyd_core.specs.declared.keeper.Core.{Core}
use Rattle.pyd_core.specs.declared.settling.Leaves.{Leaves}
use Rattle.pyd_core.specs.declared.settling.Leaves.TheVariants.{Passed, Ended}
use Rattle.pyd_core.specs.declared.settling.Settling.{Settling}
use Rattle.pyd_core.specs.Cores.{state_of}
use Rattle.pyd_core.specs.Steps.{Makes}

-- the record of a node: the driver's, or an outcome without lines in a machine's store
abbrev pub record_at : Desk → ℕ → Option Ran
record_at d k = or_else (driver_of d k) (option_map silent (stored_at d k))

-- the values of a print's arguments, as far as they are there; no other node needs them any more
abbrev pub inputs_of : Given → Work → List (Option Value)
inputs_of given (Op op args) = []
inputs_of given (Read arg kind) = []
inputs_of given (Call func args) = []
inputs_of given (Stop fault) = []
inputs_of given (Print args) = map (value_of given) args
inputs_of given (Run func args) = []
inputs_of given (Cond test stmt arm rest env) = []
inputs_of given (While test stmt turns rest env) = []
inputs_of given (For over stmt turns rest env) = []
inputs_of given (Pick test first second env) = []
inputs_of given (Enter func args) = []

-- what a node leaves: what the driver keeps of its value, or the end that its fault makes
abbrev pub leaves_by : Work → Outcome → Leaves
leaves_by work (outcome.Ok v) = Passed (kept_of (is_pure work) v)
leaves_by work (outcome.Fault f) = Ended (ended_by f)

-- the lines that go out of a node that gave this, and what it leaves
abbrev pub settling_by : Work → Ran → Settling
settling_by work ran = record { lines = ran.lines; leaves = leaves_by work ran.outcome }

-- the same of a node with these inputs and this record; none where it waits, and of a composite
abbrev pub settling_with : Node → List (Option Value) → Option Ran → Option Settling
settling_with n inputs own =
    option_map (settling_by n.work) (given_by n.work n.line inputs own)

-- the same by what a desk has
abbrev pub settling_at : Desk → Node → Option Settling
settling_at d n = settling_with n (inputs_of (given_of d) n.work) (record_at d n.id)

-- no node may be settled
abbrev pub NoneSettles : State → Type 0
NoneSettles s = (k : ℕ) → CanSettle s k → ⊥

-- the head may be settled, and its Settle puts out the lines and leaves what it does
pub record IsSettling (p : Plan) (s : State) (settling : Settling) : Type 0 where
  pub head : Node
  pub rest : List Node
  pub chain : s.graph.chain ≡ head ∷ rest
  pub can : CanSettle s head.id
  pub does : Evaluation Value
  pub made : settling ≡ settling_by head.work (ran_of does)
  pub graph : (seat : ℕ) → (acted p s seat (Settle head.id)).graph
      ≡ settled_by s.graph head rest does.lines does.result

-- a seat settled the head, and put these lines out
pub record SettlesHead (old new : Core) (seat : ℕ) (lines : List (List ℕ)) : Type 0 where
  pub head : Node
  pub rest : List Node
  pub chain : (state_of old).graph.chain ≡ head ∷ rest
  pub makes : Makes old new seat (Settle head.id)
  pub out : (state_of new).graph.out ≡ (state_of old).graph.out ++ lines
