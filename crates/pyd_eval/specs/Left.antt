-- How statements were left, in code and in the meaning.
use Rattle.std.specs.Prelude.{Option, Some, None, Result, Ok, Err}
use Rattle.pyd_value.specs.declared.fault.Fault.{Fault}
use Rattle.pyd_meaning.specs.Completion as meaning
use Rattle.pyd_meaning.specs.Completion.{Reached, left}
use Rattle.pyd_meaning.specs.Names.{Names}
use Rattle.pyd_eval.specs.declared.completion.Completion.{Completion}
use Rattle.pyd_eval.specs.declared.completion.Completion.TheVariants.{Normal, Break, Continue, Return}

-- the same in the meaning
abbrev pub completion_of : Completion → meaning.Completion
completion_of Normal = meaning.Normal
completion_of Break = meaning.Break
completion_of Continue = meaning.Continue
completion_of (Return v) = meaning.Return v

-- how statements were left, with the names after them; at a fault the names are forgotten
abbrev pub reached : Names → Result Completion Fault → Result Reached Fault
reached names (Ok how) = Ok (left (completion_of how) names)
reached names (Err f) = Err f

-- how a loop is left whose turn was left so, and nothing where it goes on
abbrev pub exit_of : Completion → Option Completion
exit_of Normal = None
exit_of Continue = None
exit_of Break = Some Normal
exit_of (Return v) = Some (Return v)
