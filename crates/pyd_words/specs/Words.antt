-- What the words of the command line ask for, or the first fault in them (docs/FORMATS.md, "Words").
use Rattle.std.specs.Prelude.{ℕ, ◌||◌, Bool, true, false, not, List, [], Option, is_some, if◌then◌else◌}
use Rattle.std.specs.Prelude.{option_and_then, option_map, ok_or, find, codes, Result, Ok, Err}
use Rattle.std.specs.List.{list_all}
use Rattle.std.specs.Option.{option_map_or}
use Rattle.std.specs.Str.{bytes_eq}
use Rattle.clap.specs.Words.{Row}
use Rattle.pyd_board.specs.declared.setup.Loss.{Loss}
use Rattle.pyd_words.specs.declared.plan.Mode.{Mode}
use Rattle.pyd_words.specs.declared.plan.Mode.TheVariants.{Run, Trace, Check, Graph, Replay, Demo}
use Rattle.pyd_words.specs.declared.plan.Plan.{Plan}
use Rattle.pyd_words.specs.declared.plan.Numbers.{Numbers}
use Rattle.pyd_words.specs.declared.fault.WordsFault.{WordsFault}
use Rattle.pyd_words.specs.declared.fault.WordsFault.TheVariants.{Line, BadMode, BadNumber, BadScript, NumberWhere}
use Rattle.pyd_words.specs.Options.{Text, Numeral, Choice, numeral, place, lose, name_of, options, modes}
use Rattle.pyd_words.specs.Options.{machines, workers, turns, depth, window, number}
use Rattle.pyd_words.specs.Command.{is_refused, given, value}
use Rattle.pyd_words.specs.Numbers.{is_digits, most_digits, ranged}
use Rattle.pyd_words.specs.Losses.{script, ordered}

infixl 20 ◌>>=◌
-- one step after another, up to the first fault
unfoldable pub ◌>>=◌ : {A B : Type 0} → Result A WordsFault → (A → Result B WordsFault) → Result B WordsFault
Ok x >>= next = next x
Err e >>= next = Err e

-- what the row with this name has
abbrev pub named : List (Text × Mode) → Text → Option Mode
named rows z = option_map (λ row. row.1) (find (λ row. bytes_eq row.0 z) rows)

-- the mode of this name
abbrev pub mode_of : Text → Option Mode
mode_of = named modes

-- the mode that is given
abbrev pub mode_in : List Row → Result Mode WordsFault
mode_in rows = ok_or (option_and_then mode_of (value (codes "mode") rows)) BadMode

-- whether a text has the form of an option's value
abbrev pub is_formed : Choice → Text → Bool
is_formed (numeral o) z = is_digits most_digits z
is_formed place z = bytes_eq z (codes "round") || bytes_eq z (codes "near")
is_formed lose z = true

-- whether each value that is given has its form
abbrev pub are_formed : List Choice → List Row → Bool
are_formed os rows = list_all (λ o. option_map_or (is_formed o) (value (name_of o) rows) true) os

-- the number of an option, its default where none is given
abbrev pub number_in : Numeral → List Row → Result ℕ WordsFault
number_in o rows = option_map_or (ranged o) (value o.name rows) (Ok o.default)

-- whether nodes are to be placed near their inputs
abbrev pub near_in : List Row → Bool
near_in rows = option_map_or (λ z. bytes_eq z (codes "near")) (value (codes "place") rows) false

-- the losses of a script, in order
abbrev pub ordered_script : ℕ → Text → Result (List Loss) WordsFault
ordered_script m z = ok_or (script z) BadScript >>= ordered m

-- the losses of the script in order, none where no script is given
abbrev pub losses_in : ℕ → List Row → Result (List Loss) WordsFault
losses_in m rows = option_map_or (ordered_script m) (value (codes "lose") rows) (ordered m [])

-- whether the mode runs the generated source, of which a number is asked
abbrev pub wants_number : Mode → Bool
wants_number Demo = true
wants_number Run = false
wants_number Trace = false
wants_number Check = false
wants_number Graph = false
wants_number Replay = false

-- whether a number is given
abbrev pub has_number : List Row → Bool
has_number rows = is_some (value number.name rows)

-- whether a number is given exactly where the mode wants one
abbrev pub number_stands : Mode → List Row → Bool
number_stands mode rows = if wants_number mode then has_number rows else not (has_number rows)

-- the numbers of the options in their order
unfoldable pub numbers : List Row → Result Numbers WordsFault
numbers rows = do
  m ← number_in machines rows
  w ← number_in workers rows
  t ← number_in turns rows
  d ← number_in depth rows
  win ← number_in window rows
  n ← number_in number rows
  Ok (record { machines = m; workers = w; turns = t; depth = d; window = win; number = n })

-- the plan of a mode with its settings
abbrev pub plan_of : Mode → Numbers → Bool → List Loss → Plan
plan_of mode n near losses = record {
  mode = mode;
  machines = n.machines;
  workers = n.workers;
  turns = n.turns;
  depth = n.depth;
  window = n.window;
  near = near;
  losses = losses;
  number = n.number;
}

-- the settings: first the numbers, then the script, then whether a number stands where the mode wants one
unfoldable pub settings : Mode → List Row → Result Plan WordsFault
settings mode rows = do
  n ← numbers rows
  losses ← losses_in n.machines rows
  if number_stands mode rows then Ok (plan_of mode n (near_in rows) losses) else Err NumberWhere

-- the plan of what is given: the mode, the form of all values, and the settings
unfoldable pub plan : List Row → Result Plan WordsFault
plan rows = mode_in rows >>= (λ mode. if are_formed options rows then settings mode rows else Err BadNumber)

-- what the words ask for, or the first fault
unfoldable pub words : List Text → Result Plan WordsFault
words ws = if is_refused ws then Err Line else plan (given ws)
