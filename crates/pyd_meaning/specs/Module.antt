-- What calls and a whole script do, and the bytes of the lines that it prints.
use Rattle.std.specs.Prelude.{ℕ, zero, suc, ◌-◌, List, [], ◌∷◌, ◌++◌, map, Option, Some, None, Result, Ok, Err, encode_utf8_all}
use Rattle.std.specs.List.{flat_map}
use Rattle.pyd_value.specs.declared.value.Value.{Value}
use Rattle.pyd_value.specs.declared.fault.Fault.{Fault}
use Rattle.pyd_value.specs.declared.fault.Fault.TheVariants.{Raised, Limit}
use Rattle.pyd_value.specs.declared.fault.Kind.TheVariants.{NameError, TypeError}
use Rattle.pyd_value.specs.declared.fault.Limit.TheVariants.{Depth}
use Rattle.pyd_value.specs.declared.fault.End.{End}
use Rattle.pyd_value.specs.declared.fault.End.TheVariants as ending
use Rattle.pyd_tree.specs.declared.file.File.{File}
use Rattle.pyd_tree.specs.declared.file.Func.{Func}
use Rattle.pyd_names.specs.Binding.{module_statements, function}
use Rattle.pyd_names.specs.Resolution.{resolved}
use Rattle.pyd_meaning.specs.declared.limits.Limits.{Limits}
use Rattle.pyd_meaning.specs.Evaluation.{Evaluation, gives, ◌>>=◌}
use Rattle.pyd_meaning.specs.Names.{Names, no_names, bind_all}
use Rattle.pyd_meaning.specs.Setting.{place_of, raises, exceeds, Calls, Setting}
use Rattle.pyd_meaning.specs.Completion.{Reached, in_turn, value_after}
use Rattle.pyd_meaning.specs.Statement.{action_of, block_action}

-- the setting of a routine of a file
abbrev pub setting_of : File → Limits → ℕ → Calls → Setting
setting_of file limits routine calls =
    record { limits = limits; routine = routine; resolve = resolved file routine; calls = calls }

-- the parameters of a function bound to arguments, if there are as many of both
abbrev pub parameters : Func → List Value → Option Names
parameters f args = bind_all no_names (map (λ p. p.1) f.params) args

-- goes on with the names of the parameters, if the count of arguments was right
abbrev pub with_parameters : Option Names → ℕ → (Names → Evaluation Value) → Evaluation Value
with_parameters (Some names) line next = next names
with_parameters None line next = raises TypeError (place_of line)

-- goes on with a function and the names of its parameters
abbrev pub with_function : Option Func → List Value → ℕ → (Func → Names → Evaluation Value)
    → Evaluation Value
with_function (Some f) args line next = with_parameters (parameters f args) line (next f)
with_function None args line next = raises NameError (place_of line)

-- what a function's body gives: what it returns, else None
abbrev pub body_value : Setting → Func → Names → Evaluation Value
body_value setting f names =
    block_action setting f.body names >>= (λ r. gives (value_after r.completion))

-- a call with so many depths left: first the count of its arguments, then its depth, then the body
unfoldable pub call_within : File → Limits → ℕ → Calls
call_within file limits zero k args line =
    with_function (function file k) args line (λ f names. exceeds Depth (place_of line))
call_within file limits (suc depths) k args line =
    with_function (function file k) args line
    (body_value (setting_of file limits k (call_within file limits depths)))

-- a call at a depth from 1 on: one above the limit has none left
abbrev pub call_at : File → Limits → ℕ → Calls
call_at file limits depth = call_within file limits (suc limits.depth - depth)

-- the setting of a routine at a depth, whose calls are one deeper; the module is routine 0 at depth 0
abbrev pub setting_at : File → Limits → ℕ → ℕ → Setting
setting_at file limits routine depth =
    setting_of file limits routine (call_at file limits (suc depth))

-- what a script does: its module's statements in turn, from no names
unfoldable pub mean : File → Limits → Evaluation Reached
mean file limits =
    in_turn (map (action_of (setting_at file limits 0 0)) (module_statements file)) no_names

-- the end that a fault makes
abbrev pub ended_by : Fault → End
ended_by (Raised kind line) = ending.Raised kind line
ended_by (Limit l line) = ending.Limit l line

-- how it ends
abbrev pub end_of : {A : Type 0} → Result A Fault → End
end_of (Ok x) = ending.Finished
end_of (Err f) = ended_by f

-- each line in UTF-8 with a newline
unfoldable pub bytes_of : List (List ℕ) → List ℕ
bytes_of lines = flat_map (λ line. encode_utf8_all line ++ 10 ∷ []) lines
