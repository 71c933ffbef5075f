-- What is settled of the head, and what a walk over the chain does at it.
use Rattle.std.specs.Prelude.{◌≡◌, ℕ, List, [], map, Bool, true, false, Option, Some, None, Result, Ok, Err}
use Rattle.pyd_value.specs.declared.value.Value.{Value}
use Rattle.pyd_value.specs.declared.fault.Fault.{Fault}
use Rattle.pyd_tree.specs.declared.file.File.{File}
use Rattle.pyd_names.specs.Binding.{function}
use Rattle.pyd_scope.specs.Rules.{is_functional_routine}
use Rattle.pyd_scope.specs.Checks.{refusal}
use Rattle.pyd_meaning.specs.declared.limits.Limits.{Limits}
use Rattle.pyd_meaning.specs.declared.ran.Ran.{Ran}
use Rattle.pyd_meaning.specs.Evaluation.{Evaluation}
use Rattle.pyd_meaning.specs.Module.{ended_by}
use Rattle.pyd_ir.specs.declared.node.Node.{Node}
use Rattle.pyd_ir.specs.declared.work.Work.{Work}
use Rattle.pyd_ir.specs.declared.work.Work.TheVariants.{Op, Read, Call, Stop, Print, Run, Cond, While, For, Pick, Enter}
use Rattle.pyd_ir.specs.Arguments.{arguments}
use Rattle.pyd_ir.specs.Meaning.{ran_of}
use Rattle.pyd_ir.specs.Inputs.{Given, value_of, leaf_meaning}
use Rattle.pyd_translate.specs.Walk.{work_ports}
use Rattle.pyd_effect.specs.declared.settled.Settled.{Settled}
use Rattle.pyd_effect.specs.declared.settled.Settled.TheVariants.{Passed, Ended, Waits}
use Rattle.pyd_effect.specs.Settling.{settle_head}

-- where a node has a job, this is what its job gave
abbrev pub IsOwn : Work → Evaluation Value → Option Ran → Type 0
IsOwn (Op op args) e own = own ≡ Some (ran_of e)
IsOwn (Read arg kind) e own = own ≡ Some (ran_of e)
IsOwn (Call func args) e own = own ≡ Some (ran_of e)
IsOwn (Stop fault) e own = Unit {0}
IsOwn (Print args) e own = Unit {0}
IsOwn (Run func args) e own = own ≡ Some (ran_of e)
IsOwn (Cond test stmt arm rest env) e own = Unit {0}
IsOwn (While test stmt turns rest env) e own = Unit {0}
IsOwn (For over stmt turns rest env) e own = Unit {0}
IsOwn (Pick test first second env) e own = Unit {0}
IsOwn (Enter func args) e own = Unit {0}

-- a call of a function without effects printed nothing
abbrev pub IsSilentCall : Work → Evaluation Value → Type 0
IsSilentCall (Op op args) e = Unit {0}
IsSilentCall (Read arg kind) e = Unit {0}
IsSilentCall (Call func args) e = e.lines ≡ []
IsSilentCall (Stop fault) e = Unit {0}
IsSilentCall (Print args) e = Unit {0}
IsSilentCall (Run func args) e = Unit {0}
IsSilentCall (Cond test stmt arm rest env) e = Unit {0}
IsSilentCall (While test stmt turns rest env) e = Unit {0}
IsSilentCall (For over stmt turns rest env) e = Unit {0}
IsSilentCall (Pick test first second env) e = Unit {0}
IsSilentCall (Enter func args) e = Unit {0}

-- what is called as a function without effects is a `@functional` function of the file
abbrev pub CallsFunctional : File → Work → Type 0
CallsFunctional file (Op op args) = Unit {0}
CallsFunctional file (Read arg kind) = Unit {0}
CallsFunctional file (Call func args) = is_functional_routine (function file func) ≡ true
CallsFunctional file (Stop fault) = Unit {0}
CallsFunctional file (Print args) = Unit {0}
CallsFunctional file (Run func args) = Unit {0}
CallsFunctional file (Cond test stmt arm rest env) = Unit {0}
CallsFunctional file (While test stmt turns rest env) = Unit {0}
CallsFunctional file (For over stmt turns rest env) = Unit {0}
CallsFunctional file (Pick test first second env) = Unit {0}
CallsFunctional file (Enter func args) = Unit {0}

-- the lines are those of an evaluation, and it gives a value where the node is passed, and the fault that ends the run
abbrev pub Settles : {A : Type 0} → Settled → Evaluation A → Type 0
Settles (Passed lines) e = (e.lines ≡ lines) × (x : _) × (e.result ≡ Ok x)
Settles (Ended lines end) e = (e.lines ≡ lines) × (f : Fault) × (e.result ≡ Err f) × (ended_by f ≡ end)
Settles (Waits node) e = ⊥

-- what is settled of a leaf is what it does
abbrev pub LeafLaw : Type 0
LeafLaw = (file : File) (limits : Limits) (given : Given) (node : Node) (own : Option Ran)
    (e : Evaluation Value)
    → leaf_meaning file limits given node ≡ Some e → IsOwn node.work e own → IsSilentCall node.work e
    → Settles (settle_head node (map (value_of given) (arguments node.work)) own) e

-- and what a walk does at it
abbrev pub WalkLaw : Type 0
WalkLaw = (file : File) (limits : Limits) (given : Given) (node : Node) (own : Option Ran)
    (e : Evaluation Value)
    → leaf_meaning file limits given node ≡ Some e → IsOwn node.work e own → IsSilentCall node.work e
    → Settles (settle_head node (map (value_of given) (arguments node.work)) own)
    (work_ports file limits node.work node given)

-- the two laws of a file that breaks no rule: there a call of a `@functional` function prints nothing
abbrev pub FunctionalLaw : Type 0
FunctionalLaw = (file : File) (limits : Limits) (given : Given) (node : Node) (own : Option Ran)
    (e : Evaluation Value)
    → refusal file ≡ None → CallsFunctional file node.work
    → leaf_meaning file limits given node ≡ Some e → IsOwn node.work e own
    → Settles (settle_head node (map (value_of given) (arguments node.work)) own) e
    × Settles (settle_head node (map (value_of given) (arguments node.work)) own)
    (work_ports file limits node.work node given)
