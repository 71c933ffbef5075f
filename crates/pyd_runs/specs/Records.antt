-- What is kept of nodes, what stands at their ports by it, and which jobs can be done by it.
use Rattle.std.specs.Prelude.{ℕ, ◌==◌, List, [], ◌∷◌, Bool, false, ◌&&◌, ◌||◌, cond, Option, Some, None, option_map, is_some}
use Rattle.std.specs.List.{find}
use Rattle.pyd_value.specs.declared.value.Value.{Value}
use Rattle.pyd_value.specs.declared.fault.Outcome.{Outcome}
use Rattle.pyd_value.specs.declared.fault.Outcome.TheVariants as outcome
use Rattle.pyd_meaning.specs.declared.ran.Ran.{Ran}
use Rattle.pyd_ir.specs.declared.job.Job.{Job}
use Rattle.pyd_ir.specs.declared.job.Task.{Task}
use Rattle.pyd_ir.specs.declared.node.Node.{Node}
use Rattle.pyd_ir.specs.Arguments.{is_pure}
use Rattle.pyd_ir.specs.Inputs.{Given, has_inputs, task_of}
use Rattle.pyd_ir.specs.Ports.{Ports, no_ports, only_port, ports_of}
use Rattle.pyd_runs.specs.Graphs.{Graph, nodes}
use Rattle.pyd_runs.specs.Desks.{Stores}

-- the node of a number
abbrev pub node_at : List Node → ℕ → Option Node
node_at ns k = find (λ n. n.id == k) ns

-- what stands at the ports of a node that gave a value: an effect that is gone had one port
abbrev pub ports_behind : Option Node → Value → Ports
ports_behind (Some n) v = ports_of n.work v
ports_behind None v = only_port v

-- what stands at the ports by an outcome: only a value is handed on
abbrev pub ports_by : Option Node → Outcome → Ports
ports_by n (outcome.Ok v) = ports_behind n v
ports_by n (outcome.Fault f) = no_ports

-- what stands at the ports by a record, if there is one
abbrev pub ports_kept : Option Node → Option Ran → Ports
ports_kept n (Some ran) = ports_by n ran.outcome
ports_kept n None = no_ports

-- the first, if it is there, else the second
abbrev pub or_else : {A : Type 0} → Option A → Option A → Option A
or_else (Some a) other = Some a
or_else None other = other

-- what the store of a machine keeps of a node
abbrev pub stored : Stores → ℕ → Option Ran
stored stores k = option_map (λ kept. kept.ran) (stores k)

-- the record of a node: the driver's, or a machine's
abbrev pub records : Graph → Stores → ℕ → Option Ran
records g stores k = or_else (g.driver k) (stored stores k)

-- what stands at the ports of nodes by their records
abbrev pub recorded : Graph → Stores → Given
recorded g stores k = ports_kept (node_at (nodes g) k) (records g stores k)

-- whether a node is the first of a list
abbrev pub heads : ℕ → List Node → Bool
heads k [] = false
heads k (n ∷ ns) = n.id == k

-- the task of a node whose inputs are there: an effect's only as the chain's head
abbrev pub task_by : List Node → Given → Node → Option Task
task_by chain given n =
    cond (has_inputs given n.work && (is_pure n.work || heads n.id chain)) (task_of given n.work) None

-- the job of a node, as an attempt, with this task
abbrev pub job_with : Node → ℕ → Task → Job
job_with n attempt task =
    record { node = n.id; attempt = attempt; line = n.line; depth = n.depth; task = task }

-- the job of a node, where all its inputs are there
abbrev pub job_by : List Node → Given → ℕ → Option Node → Option Job
job_by chain given attempt None = None
job_by chain given attempt (Some n) = option_map (job_with n attempt) (task_by chain given n)

-- the job of the node of a number, as an attempt, where all its inputs have records
unfoldable pub ready : Graph → Stores → ℕ → ℕ → Option Job
ready g stores k attempt =
    job_by g.chain (recorded g stores) attempt (node_at (nodes g) k)

-- whether a node is ready
abbrev pub is_ready : Graph → Stores → ℕ → Bool
is_ready g stores k = is_some (ready g stores k 0)
