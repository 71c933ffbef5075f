-- What `check` answers: the lowest-numbered rule that is broken with the least line that breaks it, else the program's parts.
use Rattle.std.specs.Prelude.{ℕ, List, [], ◌∷◌, ◌++◌, Option, Some, None, option_map, Result, Ok, Err}
use Rattle.pyd_value.specs.declared.value.Value.{Value}
use Rattle.pyd_tree.specs.declared.file.File.{File}
use Rattle.pyd_names.specs.Binding.{constants}
use Rattle.pyd_scope.specs.declared.refusal.Refusal.{Refusal}
use Rattle.pyd_scope.specs.declared.refusal.Refusal.TheVariants.{TwiceDefined, Rebind, FunctionValue, CallOfVariable, GlobalRead, Impure, ReturnOutside, BreakOutside, LateDef, NotConstant, Decorator, TwiceParameter}
use Rattle.pyd_scope.specs.declared.routine.Routine.{Routine}
use Rattle.pyd_scope.specs.Least.{least}
use Rattle.pyd_scope.specs.Parts.{routines}
use Rattle.pyd_scope.specs.Rules as rule

-- the refusal by a rule that these lines break
abbrev pub refused : (ℕ → Refusal) → List ℕ → Option Refusal
refused by lines = option_map by (least lines)

-- one refusal, or else another
abbrev pub or_else : Option Refusal → Option Refusal → Option Refusal
or_else None other = other
or_else (Some r) other = Some r

-- the first refusal, if there is one
abbrev pub first : List (Option Refusal) → Option Refusal
first [] = None
first (r ∷ rs) = or_else r (first rs)

-- what the rules on bindings say of a file
abbrev pub by_bindings : File → List (Option Refusal)
by_bindings file =
    refused TwiceDefined (rule.twice_defined file)
    ∷ refused Rebind (rule.rebind file)
    ∷ []

-- what the rules on uses say
abbrev pub by_uses : File → List (Option Refusal)
by_uses file =
    refused FunctionValue (rule.function_value file)
    ∷ refused CallOfVariable (rule.call_of_variable file)
    ∷ refused GlobalRead (rule.global_read file)
    ∷ refused Impure (rule.impure file)
    ∷ []

-- what the rules on places of statements say
abbrev pub by_places : File → List (Option Refusal)
by_places file =
    refused ReturnOutside (rule.return_outside file)
    ∷ refused BreakOutside (rule.break_outside file)
    ∷ refused LateDef (rule.late_def file)
    ∷ refused NotConstant (rule.not_constant file)
    ∷ []

-- what the rules on the heads of functions say
abbrev pub by_heads : File → List (Option Refusal)
by_heads file =
    refused Decorator (rule.decorator file)
    ∷ refused TwiceParameter (rule.twice_parameter file)
    ∷ []

-- what the rules on statements and heads say
abbrev pub by_statements : File → List (Option Refusal)
by_statements file = by_places file ++ by_heads file

-- what each rule says, by the numbers of the rules
abbrev pub refusals : File → List (Option Refusal)
refusals file = by_bindings file ++ (by_uses file ++ by_statements file)

-- the refusal by the lowest-numbered rule that a file breaks
abbrev pub refusal : File → Option Refusal
refusal file = first (refusals file)

-- a program's parts
pub record Parts : Type 0 where
  pub routines : List Routine
  pub constants : List (List ℕ × Value)

-- the routines and the constants of a file
abbrev pub parts : File → Parts
parts file = record { routines = routines file; constants = constants file }

-- the parts of a file, unless it is refused
abbrev pub unless_refused : Parts → Option Refusal → Result Parts Refusal
unless_refused p None = Ok p
unless_refused p (Some r) = Err r

-- what `check` answers for a file
abbrev pub answer : File → Result Parts Refusal
answer file = unless_refused (parts file) (refusal file)
