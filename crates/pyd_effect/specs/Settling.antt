-- What the head of the chain puts out and how it ends, by its kind.
use Rattle.std.specs.Prelude.{ℕ, List, [], ◌∷◌, Option, Some, None, option_map, Result, Ok, Err}
use Rattle.pyd_value.specs.declared.value.Value.{Value}
use Rattle.pyd_value.specs.declared.value.Value.TheVariants as value
use Rattle.pyd_value.specs.declared.fault.Fault.{Fault}
use Rattle.pyd_value.specs.declared.fault.Outcome.{Outcome}
use Rattle.pyd_value.specs.declared.fault.Outcome.TheVariants as outcome
use Rattle.pyd_text.specs.Texts.{line}
use Rattle.pyd_meaning.specs.declared.ran.Ran.{Ran}
use Rattle.pyd_meaning.specs.Module.{ended_by}
use Rattle.pyd_ir.specs.declared.node.Node.{Node}
use Rattle.pyd_ir.specs.declared.work.Work.{Work}
use Rattle.pyd_ir.specs.declared.work.Work.TheVariants.{Op, Read, Call, Stop, Print, Run, Cond, While, For, Pick, Enter}
use Rattle.pyd_ir.specs.Inputs.{both}
use Rattle.pyd_effect.specs.declared.settled.Settled.{Settled}
use Rattle.pyd_effect.specs.declared.settled.Settled.TheVariants.{Passed, Ended, Waits}

-- the values, where all are there
abbrev pub all_there : List (Option Value) → Option (List Value)
all_there [] = Some []
all_there (o ∷ os) = both o (all_there os)

-- a fault without lines
abbrev pub faulty : Fault → Ran
faulty f = record { outcome = outcome.Fault f; lines = [] }

-- a pure node puts out no lines
abbrev pub silent : Ran → Ran
silent ran = record { outcome = ran.outcome; lines = [] }

-- a print puts out its line and gives None, or ends where the line is too long
abbrev pub print : Result (List ℕ) Fault → Ran
print (Ok text) = record { outcome = outcome.Ok value.None; lines = text ∷ [] }
print (Err f) = faulty f

-- what a leaf of this work gives in a line, from the values of its arguments and what its job gave; none where it waits for one of these, and for a composite
abbrev pub given_by : Work → ℕ → List (Option Value) → Option Ran → Option Ran
given_by (Op op args) at inputs own = option_map silent own
given_by (Read arg kind) at inputs own = option_map silent own
given_by (Call func args) at inputs own = option_map silent own
given_by (Stop fault) at inputs own = Some (faulty fault)
given_by (Print args) at inputs own = option_map (λ vs. print (line vs at)) (all_there inputs)
given_by (Run func args) at inputs own = own
given_by (Cond test stmt arm rest env) at inputs own = None
given_by (While test stmt turns rest env) at inputs own = None
given_by (For over stmt turns rest env) at inputs own = None
given_by (Pick test first second env) at inputs own = None
given_by (Enter func args) at inputs own = None

-- a value is passed, and a fault ends the run
abbrev pub settled : List (List ℕ) → Outcome → Settled
settled lines (outcome.Ok v) = Passed lines
settled lines (outcome.Fault f) = Ended lines (ended_by f)

-- the same of what a job or a print gave
abbrev pub settled_ran : Ran → Settled
settled_ran ran = settled ran.lines ran.outcome

-- the same of what is there, and a node that waits
abbrev pub settled_or_waits : ℕ → Option Ran → Settled
settled_or_waits id (Some ran) = settled_ran ran
settled_or_waits id None = Waits id

-- the head of the chain, with the values of its arguments and what its own job gave
abbrev pub settle_head : Node → List (Option Value) → Option Ran → Settled
settle_head node inputs own =
    settled_or_waits node.id (given_by node.work node.line inputs own)
