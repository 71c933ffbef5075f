-- Calls of `@functional` functions print nothing where a file breaks no rule.
use Rattle.std.specs.Prelude.{◌≡◌, ℕ, List, [], true, Some, None}
use Rattle.pyd_value.specs.declared.value.Value.{Value}
use Rattle.pyd_tree.specs.declared.file.File.{File}
use Rattle.pyd_names.specs.Binding.{function}
use Rattle.pyd_scope.specs.Rules.{is_functional_routine}
use Rattle.pyd_scope.specs.Checks.{refusal}
use Rattle.pyd_meaning.specs.declared.limits.Limits.{Limits}
use Rattle.pyd_meaning.specs.Evaluation.{Evaluation}
use Rattle.pyd_meaning.specs.Module.{call_at}
use Rattle.pyd_ir.specs.declared.arg.Arg.{Arg}
use Rattle.pyd_ir.specs.declared.node.Node.{Node}
use Rattle.pyd_ir.specs.declared.work.Work.TheVariants.{Call}
use Rattle.pyd_ir.specs.Inputs.{Given, leaf_meaning}

-- a call of a `@functional` function prints nothing, at each depth, with each arguments
abbrev pub FunctionalCallLaw : Type 0
FunctionalCallLaw = (file : File) (limits : Limits) (depth k : ℕ) (args : List Value) (line : ℕ)
    → refusal file ≡ None → is_functional_routine (function file k) ≡ true
    → (call_at file limits depth k args line).lines ≡ []

-- nor does a leaf that calls one
abbrev pub FunctionalLeafLaw : Type 0
FunctionalLeafLaw = (file : File) (limits : Limits) (given : Given) (node : Node) (func : ℕ)
    (args : List Arg) (e : Evaluation Value)
    → refusal file ≡ None → is_functional_routine (function file func) ≡ true
    → node.work ≡ Call func args → leaf_meaning file limits given node ≡ Some e
    → e.lines ≡ []
