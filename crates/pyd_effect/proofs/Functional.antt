-- What is settled of a leaf, where what it calls as pure is `@functional`.
use Rattle.std.proofs.Common.{◌≡◌, Some, None, refl}
use Rattle.pyd_value.specs.declared.value.Value.{Value}
use Rattle.pyd_tree.specs.declared.file.File.{File}
use Rattle.pyd_scope.specs.Checks.{refusal}
use Rattle.pyd_meaning.specs.declared.limits.Limits.{Limits}
use Rattle.pyd_meaning.specs.Evaluation.{Evaluation}
use Rattle.pyd_ir.specs.declared.node.Node.{Node}
use Rattle.pyd_ir.specs.declared.work.Work.{Work}
use Rattle.pyd_ir.specs.declared.work.Work.TheVariants.{Op, Read, Call, Stop, Print, Run, Cond, While, For, Pick, Enter}
use Rattle.pyd_ir.specs.Inputs.{Given, leaf_meaning}
use Rattle.pyd_translate.proofs.FunctionalCalls.{functional_leaf}
use Rattle.pyd_effect.specs.Laws.{IsSilentCall, CallsFunctional, FunctionalLaw}
use Rattle.pyd_effect.proofs.Leaves.{leaves}
use Rattle.pyd_effect.proofs.Walking.{walks}

-- a leaf that calls a `@functional` function prints nothing
quiet : (file : File) (limits : Limits) (given : Given) (node : Node) (e : Evaluation Value)
    (w : Work) → refusal file ≡ None → node.work ≡ w → CallsFunctional file w
    → leaf_meaning file limits given node ≡ Some e → IsSilentCall w e
quiet file limits given node e (Op op args) accepted is marked made = tt
quiet file limits given node e (Read arg kind) accepted is marked made = tt
quiet file limits given node e (Call func args) accepted is marked made =
    functional_leaf file limits given node func args e accepted marked is made
quiet file limits given node e (Stop fault) accepted is marked made = tt
quiet file limits given node e (Print args) accepted is marked made = tt
quiet file limits given node e (Run func args) accepted is marked made = tt
quiet file limits given node e (Cond test stmt arm rest env) accepted is marked made = tt
quiet file limits given node e (While test stmt turns rest env) accepted is marked made = tt
quiet file limits given node e (For over stmt turns rest env) accepted is marked made = tt
quiet file limits given node e (Pick test first second env) accepted is marked made = tt
quiet file limits given node e (Enter func args) accepted is marked made = tt

-- the law
pub functional : FunctionalLaw
functional file limits given node own e accepted marked made given_own =
    let none = quiet file limits given node e node.work accepted refl marked made in (
      leaves file limits given node own e made given_own none,
      walks file limits given node own e made given_own none,
    )
