-- What the head of the chain waits for.
use Rattle.std.specs.Prelude.{◌≡◌, ℕ, List, Option, None, IsNone, Contains}
use Rattle.pyd_value.specs.declared.value.Value.{Value}
use Rattle.pyd_meaning.specs.declared.ran.Ran.{Ran}
use Rattle.pyd_ir.specs.declared.node.Node.{Node}
use Rattle.pyd_ir.specs.declared.work.Work.{Work}
use Rattle.pyd_ir.specs.declared.work.Work.TheVariants.{Op, Read, Call, Stop, Print, Run, Cond, While, For, Pick, Enter}
use Rattle.pyd_effect.specs.declared.settled.Settled.{Settled}
use Rattle.pyd_effect.specs.declared.settled.Settled.TheVariants.{Waits}

-- a job isn't done yet, or an argument of a print has no value
abbrev pub HasToWait : Work → List (Option Value) → Option Ran → Type 0
HasToWait (Op op args) inputs own = IsNone own
HasToWait (Read arg kind) inputs own = IsNone own
HasToWait (Call func args) inputs own = IsNone own
HasToWait (Stop fault) inputs own = ⊥
HasToWait (Print args) inputs own = Contains inputs None
HasToWait (Run func args) inputs own = IsNone own
HasToWait (Cond test stmt arm rest env) inputs own = ⊥
HasToWait (While test stmt turns rest env) inputs own = ⊥
HasToWait (For over stmt turns rest env) inputs own = ⊥
HasToWait (Pick test first second env) inputs own = ⊥
HasToWait (Enter func args) inputs own = ⊥

-- it waits for the node
abbrev pub WaitsFor : ℕ → Settled → Type 0
WaitsFor id s = s ≡ Waits id
