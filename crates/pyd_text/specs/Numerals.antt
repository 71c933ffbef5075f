-- The integer that a text writes, as `int` reads it (the library's `int`), within the profile.
use Rattle.std.specs.Prelude.{ℕ, pos, neg_ℤ, ℤ, Bool, true, false, ◌&&◌, ◌==◌, nat_le, List, [], ◌∷◌, reverse, filter, Option, Some, None, option_map, if◌then◌else◌}
use Rattle.std.specs.Char.{is_ascii_digit}
use Rattle.std.specs.List.{list_all, slice_split}
use Rattle.std.specs.Str.Parse.{digits_value}
use Rattle.pyd_value.specs.Truth.{has_item}
use Rattle.pyd_text.specs.Quoting.{space}

-- the sign of a positive number
abbrev pub plus : ℕ
plus = 43

-- the sign of a negative number
abbrev pub minus : ℕ
minus = 45

-- what may stand between two digits
abbrev pub underscore : ℕ
underscore = 95

-- whether `int` reads texts with this character: ASCII but for its controls
abbrev pub is_readable : ℕ → Bool
is_readable c = nat_le 0x20 c && nat_le c 0x7e

-- a text from its first character on that is no space
abbrev pub without_spaces_before : List ℕ → List ℕ
without_spaces_before [] = []
without_spaces_before (c ∷ s) = if c == space then without_spaces_before s else c ∷ s

-- the same from the end
abbrev pub without_spaces_behind : List ℕ → List ℕ
without_spaces_behind s = reverse (without_spaces_before (reverse s))

-- a text without the spaces at both of its ends
abbrev pub strip : List ℕ → List ℕ
strip s = without_spaces_behind (without_spaces_before s)

-- digits, at least one
abbrev pub is_digits : List ℕ → Bool
is_digits s = has_item s && list_all is_ascii_digit s

-- digits that single underscores may divide
abbrev pub is_numeral : List ℕ → Bool
is_numeral s = list_all is_digits (slice_split (λ c. c == underscore) s)

-- the number that the digits of a numeral write
abbrev pub numeral_value : List ℕ → ℕ
numeral_value s = digits_value 10 (filter is_ascii_digit s)

-- the number of a numeral, if the text is one
abbrev pub numeral : List ℕ → Option ℕ
numeral s = if is_numeral s then Some (numeral_value s) else None

-- a number with a sign, a negative one or not
abbrev pub signed : Bool → ℕ → ℤ
signed true n = neg_ℤ (pos n)
signed false n = pos n

-- the number of a numeral behind a sign or none, if the text is that
abbrev pub signed_numeral : List ℕ → Option ℤ
signed_numeral [] = None
signed_numeral (c ∷ s) =
    if c == minus then option_map (signed true) (numeral s)
    else (if c == plus then option_map (signed false) (numeral s)
    else option_map (signed false) (numeral (c ∷ s)))
