-- A text in its `repr`: between quotes, with escapes (Python Language Reference, 2.4.1, and the library's `repr`).
use Rattle.std.specs.Prelude.{ℕ, zero, suc, ◌/◌, ◌%◌, Bool, not, ◌&&◌, ◌||◌, ◌==◌, nat_lt, List, [], ◌∷◌, ◌++◌, codes, if◌then◌else◌}
use Rattle.std.specs.Char.{digit_char}
use Rattle.std.specs.List.{list_any, flat_map}
use Rattle.unicode.specs.declared.properties.GeneralCategoryGroup.TheVariants.{Other, Separator}
use Rattle.unicode.specs.GeneralCategory.{general_category}
use Rattle.unicode.specs.GeneralCategoryGroup.{in_group}

-- the space
abbrev pub space : ℕ
space = 32

-- the backslash
abbrev pub backslash : ℕ
backslash = 92

-- the single quote
abbrev pub single_quote : ℕ
single_quote = 39

-- the double quote
abbrev pub double_quote : ℕ
double_quote = 34

-- whether a character has a general category of Other or Separator
abbrev pub is_other_or_separator : ℕ → Bool
is_other_or_separator c =
    in_group Other (general_category c) || in_group Separator (general_category c)

-- whether a character needs no escape of its own: the space, and what is neither Other nor Separator
abbrev pub is_printable : ℕ → Bool
is_printable c = c == space || not (is_other_or_separator c)

-- whether a text has this character
abbrev pub has : ℕ → List ℕ → Bool
has c = list_any (λ d. d == c)

-- single quotes, or double ones round a text that has a single and no double quote
abbrev pub quote_of : List ℕ → ℕ
quote_of s = if has single_quote s && not (has double_quote s) then double_quote else single_quote

-- the last so many hexadecimal digits of a number, in lower case
abbrev pub hex_digits : ℕ → ℕ → List ℕ
hex_digits zero n = []
hex_digits (suc k) n = hex_digits k (n / 16) ++ digit_char (n % 16) ∷ []

-- the shortest hexadecimal escape that fits a character
abbrev pub hex_escape : ℕ → List ℕ
hex_escape c =
    if nat_lt c 0x100 then codes "\\x" ++ hex_digits 2 c
    else (if nat_lt c 0x1_0000 then codes "\\u" ++ hex_digits 4 c
    else codes "\\U" ++ hex_digits 8 c)

-- a character between these quotes
abbrev pub escaped : ℕ → ℕ → List ℕ
escaped quote c =
    if c == backslash || c == quote then backslash ∷ c ∷ []
    else (if c == 10 then codes "\\n"
    else (if c == 13 then codes "\\r"
    else (if c == 9 then codes "\\t"
    else (if is_printable c then c ∷ []
    else hex_escape c))))

-- a text between these quotes
abbrev pub between_quotes : ℕ → List ℕ → List ℕ
between_quotes quote s = quote ∷ (flat_map (escaped quote) s ++ quote ∷ [])

-- a text between its quotes
abbrev pub quoted : List ℕ → List ℕ
quoted s = between_quotes (quote_of s) s
