-- Numbers among the words.
use Rattle.std.specs.Prelude.{ℕ, ◌-◌, ◌^◌, ◌&&◌, Bool, length, nat_lt, nat_le, Option, Some, None, if◌then◌else◌, option_and_then}
use Rattle.std.specs.Prelude.{Result, Ok, Err}
use Rattle.std.specs.Char.{is_ascii_digit}
use Rattle.std.specs.List.{list_all}
use Rattle.std.specs.Str.Parse.{digits_value}
use Rattle.pyd_words.specs.declared.fault.WordsFault.{WordsFault}
use Rattle.pyd_words.specs.declared.fault.WordsFault.TheVariants.{BadNumber, OutOfRange}
use Rattle.pyd_words.specs.Options.{Text, Numeral}

-- how many digits the value of an option may have
abbrev pub most_digits : ℕ
most_digits = 20

-- how many digits a number of a loss script may have
abbrev pub most_script_digits : ℕ
most_script_digits = 10

-- the greatest number of a loss script
abbrev pub most_in_script : ℕ
most_in_script = 2 ^ 32 - 1

-- from 1 to so many digits, and nothing else
abbrev pub is_digits : ℕ → Text → Bool
is_digits most z = nat_lt 0 (length z) && (nat_le (length z) most && list_all is_ascii_digit z)

-- the number of a text that has from 1 to so many digits
abbrev pub number_of : ℕ → Text → Option ℕ
number_of most z = if is_digits most z then Some (digits_value 10 z) else None

-- a number within the limits of its option
abbrev pub within : Numeral → ℕ → Result ℕ WordsFault
within o n = if nat_le o.least n && nat_le n o.most then Ok n else Err OutOfRange

-- the number that is the value of an option
abbrev pub ranged : Numeral → Text → Result ℕ WordsFault
ranged o z = if is_digits most_digits z then within o (digits_value 10 z) else Err BadNumber

-- a number of a loss script
abbrev pub in_script : ℕ → Option ℕ
in_script n = if nat_le n most_in_script then Some n else None

-- the number that a part of an entry of a loss script is
abbrev pub script_number : Text → Option ℕ
script_number z = option_and_then in_script (number_of most_script_digits z)
