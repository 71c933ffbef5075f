-- What stands at the ports of nodes, by what is kept at their numbers.
use Rattle.std.specs.Prelude.{ℕ, List, Option, Some, None, option_map}
use Rattle.pyd_value.specs.declared.value.Value.{Value}
use Rattle.pyd_value.specs.declared.fault.Outcome.{Outcome}
use Rattle.pyd_value.specs.declared.fault.Outcome.TheVariants as outcome
use Rattle.pyd_ops.specs.Sequence.{item_at}
use Rattle.pyd_ir.specs.Inputs.{Given}
use Rattle.pyd_ir.specs.Ports.{Ports, no_ports, only_port}
use Rattle.pyd_store.specs.Outcomes.{Outcomes}
use Rattle.pyd_runs.specs.Records.{or_else}
use Rattle.pyd_desk.specs.declared.desk.Desk.{Desk}
use Rattle.pyd_desk.specs.declared.desk.PortKind.{PortKind}
use Rattle.pyd_desk.specs.declared.desk.PortKind.TheVariants.{One, Items, Nothing}
use Rattle.pyd_desk.specs.Desks.{driver_of, mark_at, outcome_in}

-- what stands at the ports of a node that gave a value
abbrev pub ports_by : PortKind → Value → Ports
ports_by One v = only_port v
ports_by Items v = item_at v
ports_by Nothing v = no_ports

-- only a value is handed on
abbrev pub ports_at : PortKind → Option Outcome → Ports
ports_at kind None = no_ports
ports_at kind (Some (outcome.Ok v)) = ports_by kind v
ports_at kind (Some (outcome.Fault f)) = no_ports

-- what stands at the ports of a node that gives a value
abbrev pub kind_at : Desk → ℕ → PortKind
kind_at d k = (mark_at d.marks.items k).ports

-- the outcome of a node in the store of the machine that did it
abbrev pub stored_in : List Outcomes → ℕ → Option ℕ → Option Outcome
stored_in stores k None = None
stored_in stores k (Some machine) = outcome_in stores machine k

-- the outcome of a node in a store
abbrev pub stored_at : Desk → ℕ → Option Outcome
stored_at d k = stored_in d.stores.items k (mark_at d.marks.items k).machine

-- the outcome of a node: the driver's, or a machine's
abbrev pub outcome_at : Desk → ℕ → Option Outcome
outcome_at d k = or_else (option_map (λ ran. ran.outcome) (driver_of d k)) (stored_at d k)

-- what stands at the ports of nodes
abbrev pub given_of : Desk → Given
given_of d k = ports_at (kind_at d k) (outcome_at d k)
