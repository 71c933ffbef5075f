-- Which events may come next.
use Rattle.std.specs.Prelude.{◌≡◌, ◌<◌, ℕ, suc, pred, List, [], ◌∷◌, length, Bool, false, Option, Some, None, IsTrue, ◌⊎◌}
use Rattle.std.specs.List.{All, Contains}
use Rattle.pyd_value.specs.declared.fault.End.{End}
use Rattle.pyd_board.specs.declared.event.Act.{Act}
use Rattle.pyd_board.specs.declared.event.Act.TheVariants.{Place, Claim, Finish, Drop, Refine, Settle, Lose, Trim}
use Rattle.pyd_board.specs.declared.event.Event.{Event}
use Rattle.pyd_board.specs.Histories.{entries}
use Rattle.pyd_meaning.specs.declared.ran.Ran.{Ran}
use Rattle.pyd_ir.specs.declared.arg.Arg.{Arg}
use Rattle.pyd_ir.specs.declared.node.Node.{Node}
use Rattle.pyd_ir.specs.declared.work.Work.{Work}
use Rattle.pyd_ir.specs.declared.work.Work.TheVariants.{Op, Read, Call, Stop, Print, Run, Cond, While, For, Pick, Enter}
use Rattle.pyd_ir.specs.Arguments.{control, is_composite}
use Rattle.pyd_ir.specs.Inputs.{Given, has_value, have_values}
use Rattle.pyd_runs.specs.Plans.{Plan, IsSeat, IsSeatOf}
use Rattle.pyd_runs.specs.Desks.{Placed, Held}
use Rattle.pyd_runs.specs.Records.{records, recorded, is_ready}
use Rattle.pyd_runs.specs.Reach.{Reached, Needed}
use Rattle.pyd_runs.specs.Losses.{due_at}
use Rattle.pyd_runs.specs.Effects.{State}

-- the machine whose loss is due
abbrev pub due : State → Option ℕ
due s = due_at (length s.journal) s.losses

-- a machine that isn't lost
pub record Lives (p : Plan) (lost : ℕ → Bool) (machine : ℕ) : Type 0 where
  pub is_machine : machine < p.setup.machines
  pub not_lost : lost machine ≡ false

-- fewer nodes than the window stand before the node of a number
abbrev pub WithinWindow : ℕ → ℕ → List Node → Type 0
WithinWindow window k [] = ⊥
WithinWindow window k (n ∷ ns) = (0 < window) × ((n.id ≡ k) ⊎ WithinWindow (pred window) k ns)

-- the run hasn't ended, and no loss is due
pub record IsQuiet (s : State) : Type 0 where
  pub goes_on : s.graph.end ≡ None
  pub none_due : due s ≡ None

-- a node that is ready and needed has no record, no live ticket and no claim; its attempt is one more than those before
pub record CanPlace (p : Plan) (s : State) (k attempt machine : ℕ) : Type 0 where
  pub is_ready : IsTrue (is_ready s.graph s.desk.stores k)
  pub is_needed : Needed s.graph s.desk.stores k
  pub no_record : records s.graph s.desk.stores k ≡ None
  pub no_ticket : s.desk.ticket k ≡ None
  pub no_claim : s.desk.claim k ≡ None
  pub next_attempt : attempt ≡ suc (s.desk.places k)
  pub lives : Lives p s.lost machine

-- the attempt is the node's live ticket
pub record CanClaim (p : Plan) (s : State) (seat k attempt machine : ℕ) : Type 0 where
  pub ticket : Placed
  pub is_live : s.desk.ticket k ≡ Some ticket
  pub of_attempt : ticket.attempt ≡ attempt
  pub lives : Lives p s.lost machine
  pub by_seat : IsSeatOf p machine seat

-- a claim is that of an attempt by a seat of a machine
pub record IsClaimOf (seat attempt machine : ℕ) (c : Held) : Type 0 where
  pub of_attempt : c.attempt ≡ attempt
  pub on_machine : c.machine ≡ machine
  pub by_seat : c.seat ≡ seat

-- the node has this claim
abbrev pub Holds : Option Held → ℕ → ℕ → ℕ → Type 0
Holds None seat attempt machine = ⊥
Holds (Some c) seat attempt machine = IsClaimOf seat attempt machine c

-- the seat holds the claim, and its machine isn't lost
pub record CanFinish (p : Plan) (s : State) (seat k attempt machine : ℕ) : Type 0 where
  pub holds : Holds (s.desk.claim k) seat attempt machine
  pub lives : Lives p s.lost machine

-- while a run goes on, no loss is due
abbrev pub IsUnbarred : State → Type 0
IsUnbarred s = s.graph.end ≡ None → due s ≡ None

-- a loss undid the claim, and none is due; or the claim stands and the run has ended
abbrev pub CanDrop : State → ℕ → ℕ → ℕ → ℕ → Type 0
CanDrop s seat k attempt machine =
    (IsUnbarred s × Holds (s.desk.undone k attempt) seat attempt machine)
    ⊎ ((end : End) × (s.graph.end ≡ Some end) × Holds (s.desk.claim k) seat attempt machine)

-- the control has a record, if there is one
abbrev pub IsControlled : Given → Option Arg → Type 0
IsControlled given None = Unit {0}
IsControlled given (Some a) = IsTrue (has_value given a)

-- a composite of the chain with fewer nodes before it than the window, whose control has a record
pub record CanRefine (p : Plan) (s : State) (k : ℕ) : Type 0 where
  pub node : Node
  pub stands : Contains s.graph.chain node
  pub number : node.id ≡ k
  pub composite : IsTrue (is_composite node.work)
  pub control : IsControlled (recorded s.graph s.desk.stores) (control node.work)
  pub window : WithinWindow p.setup.window k s.graph.chain

-- there is a record
abbrev pub IsRecorded : Option Ran → Type 0
IsRecorded None = ⊥
IsRecorded (Some ran) = Unit {0}

-- a head doesn't wait: one with a job has a record, and the arguments of a print do
abbrev pub WaitsNot : State → ℕ → Work → Type 0
WaitsNot s k (Op op args) = IsRecorded (records s.graph s.desk.stores k)
WaitsNot s k (Read arg kind) = IsRecorded (records s.graph s.desk.stores k)
WaitsNot s k (Call func args) = IsRecorded (records s.graph s.desk.stores k)
WaitsNot s k (Stop fault) = Unit {0}
WaitsNot s k (Print args) = IsTrue (have_values (recorded s.graph s.desk.stores) args)
WaitsNot s k (Run func args) = IsRecorded (records s.graph s.desk.stores k)
WaitsNot s k (Cond test stmt arm rest env) = ⊥
WaitsNot s k (While test stmt turns rest env) = ⊥
WaitsNot s k (For over stmt turns rest env) = ⊥
WaitsNot s k (Pick test first second env) = ⊥
WaitsNot s k (Enter func args) = ⊥

-- it heads the chain, isn't composite, and doesn't wait
pub record CanSettle (s : State) (k : ℕ) : Type 0 where
  pub head : Node
  pub rest : List Node
  pub chain : s.graph.chain ≡ head ∷ rest
  pub number : head.id ≡ k
  pub waits_not : WaitsNot s k head.work

-- it is in the past, and the chain doesn't reach it
pub record CanTrim (s : State) (k : ℕ) : Type 0 where
  pub node : Node
  pub stands : Contains s.graph.past node
  pub number : node.id ≡ k
  pub unreached : Reached s.graph k → ⊥

-- an event is a loss
abbrev pub IsLoss : Act → Type 0
IsLoss (Lose machine) = Unit {0}
IsLoss (Place k attempt machine) = ⊥
IsLoss (Claim k attempt machine) = ⊥
IsLoss (Finish k attempt machine) = ⊥
IsLoss (Drop k attempt machine) = ⊥
IsLoss (Refine k) = ⊥
IsLoss (Settle k) = ⊥
IsLoss (Trim k) = ⊥

-- the loss is the next one of the script and due; one before which stand losses alone is by the driver
pub record CanLose (s : State) (seat machine : ℕ) : Type 0 where
  pub goes_on : s.graph.end ≡ None
  pub is_due : due s ≡ Some machine
  pub by : All (λ e. IsLoss e.act) s.journal → seat ≡ 0

-- what a seat may do
abbrev pub CanAct : Plan → State → ℕ → Act → Type 0
CanAct p s seat (Place k attempt machine) = IsQuiet s × CanPlace p s k attempt machine
CanAct p s seat (Claim k attempt machine) = IsQuiet s × CanClaim p s seat k attempt machine
CanAct p s seat (Finish k attempt machine) = IsQuiet s × CanFinish p s seat k attempt machine
CanAct p s seat (Drop k attempt machine) = CanDrop s seat k attempt machine
CanAct p s seat (Refine k) = IsQuiet s × CanRefine p s k
CanAct p s seat (Settle k) = IsQuiet s × CanSettle s k
CanAct p s seat (Lose machine) = CanLose s seat machine
CanAct p s seat (Trim k) = IsQuiet s × CanTrim s k

-- an event may come next: its seat is there, its number is that of the seat's events so far, and it can be done
pub record Enabled (p : Plan) (s : State) (e : Event) : Type 0 where
  pub seat : IsSeat p e.by
  pub nth : e.nth ≡ entries e.by s.journal
  pub act : CanAct p s e.by e.act
