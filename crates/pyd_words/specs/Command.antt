-- The command as `clap` defines it, and what `clap` makes of the words by that definition.
use Rattle.std.specs.Prelude.{Bool, true, not, List, ◌∷◌, ◌==◌, length, Option, Some, codes, fold}
use Rattle.clap.specs.Words.{App, Row, Rule, fault_of, first_of, matches_of, new_app, new_rule, with_rule}
use Rattle.pyd_words.specs.Options.{Text, Choice, name_of, options}

-- the mode, which has to be there
unfoldable pub mode_rule : Rule
mode_rule = record (new_rule (codes "mode")) { required = true }

-- an option: two hyphens and its name, and then its value
unfoldable pub option_rule : Text → Rule
option_rule name = record (new_rule name) { long = Some name }

-- the command before it has options
unfoldable pub bare_app : App
bare_app = with_rule (new_app (codes "pydron")) mode_rule

-- one option more
abbrev pub with_choice : App → Choice → App
with_choice app option = with_rule app (option_rule (name_of option))

-- the command: a mode, and the options in their order
unfoldable pub app : App
app = fold with_choice bare_app options

-- the words behind the program's name
abbrev pub all_words : List Text → List Text
all_words words = codes "pydron" ∷ words

-- whether the definition finds a fault in all the words; a wish for help is one
abbrev pub has_fault : List Text → Bool
has_fault all = not (length (fault_of app all) == 0)

-- whether the words are no command line
abbrev pub is_refused : List Text → Bool
is_refused words = has_fault (all_words words)

-- what the words give, if they are not refused
abbrev pub given : List Text → List Row
given words = matches_of app (all_words words)

-- the value that is given under this name
abbrev pub value : Text → List Row → Option Text
value = first_of
