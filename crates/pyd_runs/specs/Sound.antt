-- What holds after every legal run.
use Rattle.std.specs.Prelude.{◌≡◌, ◌≢◌, ◌<◌, ◌≤◌, ℕ, suc, List, [], ◌∷◌, ◌++◌, Bool, true, not, ◌&&◌, ◌||◌, ◌==◌, Option, Some, None, is_some, cond, IsTrue, Result, Ok, Err, ◌⊎◌}
use Rattle.std.specs.List.{All, Contains, list_any}
use Rattle.pyd_value.specs.declared.value.Value.{Value}
use Rattle.pyd_value.specs.declared.fault.Fault.{Fault}
use Rattle.pyd_value.specs.declared.fault.End.{End}
use Rattle.pyd_value.specs.declared.fault.Outcome.TheVariants as outcome
use Rattle.pyd_board.specs.declared.setup.Loss.{Loss}
use Rattle.pyd_ir.specs.declared.job.Job.{Job}
use Rattle.pyd_meaning.specs.declared.ran.Ran.{Ran}
use Rattle.pyd_meaning.specs.Evaluation.{Evaluation}
use Rattle.pyd_meaning.specs.Module.{end_of}
use Rattle.pyd_ir.specs.declared.node.Node.{Node}
use Rattle.pyd_ir.specs.Arguments.{is_pure}
use Rattle.pyd_ir.specs.Inputs.{Given, has_inputs, task_of, look, leaf_meaning}
use Rattle.pyd_ir.specs.Meaning.{ran_of}
use Rattle.pyd_ir.specs.Ports.{Ports, no_ports, ports_of}
use Rattle.pyd_translate.specs.Walk.{walk, give}
use Rattle.pyd_translate.specs.SlotPorts.{HavePorts, no_numbers}
use Rattle.pyd_translate.specs.Supplied.{AreSupplied}
use Rattle.pyd_refine.specs.Ordering.{IsOrdered, LieBelow}
use Rattle.pyd_runs.specs.Plans.{Plan, IsSeatOf, limits_of, meaning}
use Rattle.pyd_runs.specs.Graphs.{Graph, nodes}
use Rattle.pyd_runs.specs.Desks.{Kept, Placed, Held, Desk}
use Rattle.pyd_runs.specs.Records.{records, heads, is_ready}
use Rattle.pyd_runs.specs.Reach.{Names, Reached}
use Rattle.pyd_runs.specs.Enabled.{Lives}
use Rattle.pyd_runs.specs.Effects.{State, is_run}

-- lines that were put out, and those of an evaluation, are the script's, which ends as the evaluation does
pub record Completes {A : Type 0} (p : Plan) (out : List (List ℕ)) (e : Evaluation A)
    : Type 0 where
  pub lines : out ++ e.lines ≡ (meaning p).lines
  pub as_script : end_of e.result ≡ end_of (meaning p).result

-- the lines that were put out are the script's, which ends so
pub record IsWhole (p : Plan) (out : List (List ℕ)) (end : End) : Type 0 where
  pub lines : out ≡ (meaning p).lines
  pub as_script : end ≡ end_of (meaning p).result

-- what stands at the ports of a node that gave this
abbrev pub ports_given : Node → Result Value Fault → Ports
ports_given n (Ok v) = ports_of n.work v
ports_given n (Err f) = no_ports

-- what stands at the ports of a node by what it does, if that is known
abbrev pub ports_seen : Node → Option (Evaluation Value) → Ports
ports_seen n None = no_ports
ports_seen n (Some e) = ports_given n e.result

-- what a leaf does by what is seen, where its inputs are there
abbrev pub leaf_seen : Plan → Given → Node → Option (Evaluation Value)
leaf_seen p given n =
    cond (has_inputs given n.work) (leaf_meaning p.file (limits_of p) given n) None

-- what stands at the ports of nodes by what each leaf does, an effect too, where those that aren't settled are looked at in order
unfoldable pub seen : Plan → Given → List Node → Given
seen p given [] = given
seen p given (n ∷ ns) = seen p (give n.id (ports_seen n (leaf_seen p given n)) given) ns

-- what is seen in a graph
abbrev pub sight : Plan → Graph → Given
sight p g = seen p g.given g.chain

-- no node of the list has this number
abbrev pub IsFresh : ℕ → List Node → Type 0
IsFresh k [] = Unit {0}
IsFresh k (n ∷ ns) = (n.id ≢ k) × IsFresh k ns

-- whether a node of the list has this number
abbrev pub stands : ℕ → List Node → Bool
stands k ns = list_any (λ n. n.id == k) ns

-- whether a node is settled and may be named: it stands in the past, or it was an effect, whose value the driver has
abbrev pub is_over : Graph → ℕ → Bool
is_over g k = not (stands k g.chain) && (stands k g.past || is_some (g.driver k))

-- numbers differ, and no node names itself or a later one
abbrev pub AreOrdered : List Node → Type 0
AreOrdered [] = Unit {0}
AreOrdered (n ∷ ns) =
    IsFresh n.id ns × ((k : ℕ) → Names n k → IsFresh k (n ∷ ns)) × AreOrdered ns

-- the driver has no record of a pure node
abbrev pub KeepsEffects : Graph → Type 0
KeepsEffects g = (n : Node) → Contains (nodes g) n → is_pure n.work ≡ true → g.driver n.id ≡ None

-- what a node names is settled and may be named, or stands in the chain
abbrev pub NamesPresent : Graph → ℕ → Type 0
NamesPresent g k = (n : Node) → Contains (nodes g) n → n.id ≡ k
    → (m : ℕ) → Names n m → IsTrue (is_over g m || stands m g.chain)

-- a node that was there and is gone
abbrev pub IsGone : Graph → ℕ → Type 0
IsGone g k = (k < g.next) × IsFresh k (nodes g)

-- a past node gave a value, which stands at its ports
pub record HasGiven (p : Plan) (g : Graph) (n : Node) : Type 0 where
  pub value : Value
  pub looked : Evaluation Value
  pub look : look p.file (limits_of p) g.given n ≡ Some looked
  pub gave : looked.result ≡ Ok value
  pub ports : (port : ℕ) → g.given n.id port ≡ ports_of n.work value port

-- a record of the driver of an effect that is settled holds what stands at its ports
pub record IsDriven (g : Graph) (k : ℕ) (ran : Ran) : Type 0 where
  pub value : Value
  pub outcome : ran.outcome ≡ outcome.Ok value
  pub port : g.given k 0 ≡ Some value
  pub no_other : (port : ℕ) → g.given k (suc port) ≡ None

-- the graph: what was put out and what is to come are the script's
pub record IsGraphSound (p : Plan) (g : Graph) : Type 0 where
  pub goes_on : g.end ≡ None → Completes p g.out (walk p.file (limits_of p) g.chain g.given)
  pub ended : (end : End) → g.end ≡ Some end → IsWhole p g.out end
  pub unfinished : g.end ≡ None → g.chain ≢ []
  pub supplied : g.end ≡ None → AreSupplied p.file (limits_of p) g.next g.chain g.given
  -- numbers differ and are below the next one, and each argument names a settled node or an earlier one
  pub listed : IsOrdered (is_over g) g.next g.chain
  pub below : LieBelow (is_over g) g.next
  -- each slot port that a node of the chain names is of an `if` or a loop that stands before it there
  pub slots : HavePorts no_numbers g.chain
  pub ordered : AreOrdered g.past
  pub apart : All (λ n. IsFresh n.id g.chain) g.past
  pub past : All (HasGiven p g) g.past
  -- what the chain reaches is settled and may be named, or stands in the chain
  pub present : (k : ℕ) → Reached g k → IsTrue (is_over g k || stands k g.chain)
  pub driven : (k : ℕ) (ran : Ran) → g.driver k ≡ Some ran → IsFresh k g.chain → IsDriven g k ran
  pub effects : KeepsEffects g
  -- nothing stands at the ports of a node that isn't settled or not yet made
  pub blank : (k port : ℕ) → IsTrue (stands k g.chain) ⊎ (g.next ≤ k) → g.given k port ≡ None

-- what was done of a node with a job is what it does by what is seen, where all that it waits for is seen
pub record IsSeen (p : Plan) (g : Graph) (k : ℕ) (ran : Ran) : Type 0 where
  pub node : Node
  pub stands : Contains (nodes g) node
  pub number : node.id ≡ k
  pub does : Evaluation Value
  pub meaning : leaf_seen p (sight p g) node ≡ Some does
  pub has_job : IsTrue (is_some (task_of (sight p g) node.work))
  pub as_done : ran ≡ ran_of does

-- a job is its node's, with the values that are seen
pub record IsJob (p : Plan) (g : Graph) (k : ℕ) (job : Job) : Type 0 where
  pub node : Node
  pub stands : Contains (nodes g) node
  pub number : node.id ≡ k
  pub inputs : IsTrue (has_inputs (sight p g) node.work)
  pub task : task_of (sight p g) node.work ≡ Some job.task
  pub line : job.line ≡ node.line
  pub depth : job.depth ≡ node.depth

-- stores, tickets and claims: each record is what its node gives, and a node has one of the three at most
pub record IsDeskSound (p : Plan) (g : Graph) (d : Desk) (lost : ℕ → Bool) : Type 0 where
  pub stored : (k : ℕ) (kept : Kept) → d.stores k ≡ Some kept
      → IsSeen p g k kept.ran ⊎ IsGone g k
  pub store_lives : (k : ℕ) (kept : Kept) → d.stores k ≡ Some kept → Lives p lost kept.machine
  pub run_done : (k : ℕ) (ran : Ran) (n : Node) → g.driver k ≡ Some ran
      → Contains g.chain n → n.id ≡ k → IsSeen p g k ran
  pub ticket_ready : (k : ℕ) (t : Placed) → d.ticket k ≡ Some t → IsTrue (is_ready g d.stores k)
  pub ticket_alone : (k : ℕ) (t : Placed) → d.ticket k ≡ Some t
      → (records g d.stores k ≡ None) × (d.claim k ≡ None)
  pub ticket_names : (k : ℕ) (t : Placed) → d.ticket k ≡ Some t → NamesPresent g k
  pub claimed : (k : ℕ) (c : Held) → d.claim k ≡ Some c → IsJob p g k c.job ⊎ IsGone g k
  -- a call that isn't pure is claimed as the chain's head
  pub claim_heads : (k : ℕ) (c : Held) → d.claim k ≡ Some c → IsTrue (is_run c.job.task)
      → IsTrue (heads k g.chain)
  pub claim_alone : (k : ℕ) (c : Held) → d.claim k ≡ Some c → records g d.stores k ≡ None
  pub claim_lives : (k : ℕ) (c : Held) → d.claim k ≡ Some c → Lives p lost c.machine
  pub claim_seat : (k : ℕ) (c : Held) → d.claim k ≡ Some c → IsSeatOf p c.machine c.seat
  pub undone_attempt : (k attempt : ℕ) (c : Held) → d.undone k attempt ≡ Some c
      → c.attempt ≡ attempt
  pub undone_lost : (k attempt : ℕ) (c : Held) → d.undone k attempt ≡ Some c
      → lost c.machine ≡ true

-- attempts count the places of a node: what stands is the last one, and what was undone came before
pub record AreCounted (d : Desk) : Type 0 where
  pub ticket : (k : ℕ) (t : Placed) → d.ticket k ≡ Some t → t.attempt ≡ d.places k
  pub claim : (k : ℕ) (c : Held) → d.claim k ≡ Some c → c.attempt ≡ d.places k
  pub undone : (k attempt : ℕ) (c : Held) → d.undone k attempt ≡ Some c → attempt ≤ d.places k
  pub before_ticket : (k attempt : ℕ) (c : Held) (t : Placed) → d.undone k attempt ≡ Some c
      → d.ticket k ≡ Some t → attempt < d.places k
  pub before_claim : (k attempt : ℕ) (c now : Held) → d.undone k attempt ≡ Some c
      → d.claim k ≡ Some now → attempt < d.places k

-- the losses so far are the first entries of the script, and just their machines are lost
pub record AreScripted (p : Plan) (losses : List Loss) (lost : ℕ → Bool) : Type 0 where
  pub done : List Loss
  pub script : p.setup.losses ≡ done ++ losses
  pub machines : (machine : ℕ) → lost machine ≡ list_any (λ l. l.machine == machine) done

-- a machine that lives and that no entry to come names
pub record Survives (p : Plan) (losses : List Loss) (lost : ℕ → Bool) : Type 0 where
  pub machine : ℕ
  pub lives : Lives p lost machine
  pub spared : All (λ l. l.machine ≢ machine) losses

-- a state after a legal run
pub record IsSound (p : Plan) (s : State) : Type 0 where
  pub graph : IsGraphSound p s.graph
  pub desk : IsDeskSound p s.graph s.desk s.lost
  pub attempts : AreCounted s.desk
  pub scripted : AreScripted p s.losses s.lost
  pub survivor : Survives p s.losses s.lost
