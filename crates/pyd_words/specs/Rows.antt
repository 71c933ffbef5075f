-- The rows of the code as those of the definition.
use Rattle.pyd_words.specs.declared.options.Numeral.{Numeral as NumeralRow}
use Rattle.pyd_words.specs.declared.options.Choice.{Choice as ChoiceRow}
use Rattle.pyd_words.specs.declared.options.Choice.TheVariants as row
use Rattle.pyd_words.specs.Options.{Numeral, Choice, numeral, place, lose}

-- an option that takes a number
abbrev pub numeral_of : NumeralRow → Numeral
numeral_of o = record { name = o.name.now; least = o.least; most = o.most; default = o.default }

-- an option
abbrev pub choice_of : ChoiceRow → Choice
choice_of (row.Numeral o) = numeral (numeral_of o)
choice_of row.Place = place
choice_of row.Lose = lose
