-- Integer literals.
use Rattle.std.specs.Prelude.{ℕ, ◌+◌, ◌*◌, Bool, true, false, not, ◌&&◌, ◌||◌, ◌==◌, nat_lt, [], ◌∷◌, drop, pos, Option, Some, None, Result, Ok, Err, if◌then◌else◌}
use Rattle.std.specs.Char.{digit_value, is_digit}
use Rattle.std.specs.Str.{bytes_eq}
use Rattle.pyd_value.specs.Limits.{integer_bound}
use Rattle.pyd_lex.specs.declared.fault.Flaw.{Flaw}
use Rattle.pyd_lex.specs.declared.fault.Flaw.TheVariants.{BadNumber, WideNumber}
use Rattle.pyd_lex.specs.declared.token.TokenKind.{TokenKind}
use Rattle.pyd_lex.specs.declared.token.TokenKind.TheVariants.{Int}
use Rattle.pyd_lex.specs.Words.{Text, begins}

-- the base that the letter after a zero stands for
abbrev pub radix_of : ℕ → ℕ
radix_of x =
    if x == 120 || x == 88 then 16
    else (if x == 111 || x == 79 then 8
    else (if x == 98 || x == 66 then 2
    else 10))

-- the base of a literal
abbrev pub radix : Text → ℕ
radix [] = 10
radix (c ∷ []) = 10
radix (c ∷ x ∷ z) = if c == 48 then radix_of x else 10

-- the digits and underscores after a prefix of two characters
abbrev pub digits : Text → Text
digits z = if radix z == 10 then z else drop 2 z

-- each digit stands alone or after one underscore
abbrev pub has_single_underscores : ℕ → Text → Bool
has_single_underscores base [] = true
has_single_underscores base (c ∷ []) = not (c == 95) && is_digit c base
has_single_underscores base (c ∷ d ∷ z) =
    elim (c == 95) [
      | true ↦ is_digit d base && has_single_underscores base z
      | false ↦ is_digit c base && has_single_underscores base (d ∷ z)
    ]

-- the value of the digits after those of value n
abbrev pub amount : ℕ → ℕ → Text → ℕ
amount base n [] = n
amount base n (c ∷ z) = amount base (if c == 95 then n else n * base + digit_value c) z

-- digits of this base, at least one
abbrev pub is_digits : ℕ → Text → Bool
is_digits base z = not (bytes_eq z []) && has_single_underscores base z

-- a value below the bound of integers
abbrev pub bounded : ℕ → Option ℕ
bounded n = if nat_lt n integer_bound then Some n else None

-- whether the value is there, and 0
abbrev pub is_zero : Option ℕ → Bool
is_zero (Some n) = n == 0
is_zero None = false

-- a decimal that begins with a zero and isn't zeros only
abbrev pub has_leading_zero : ℕ → Text → Option ℕ → Bool
has_leading_zero base z n = base == 10 && begins (48 ∷ []) z && not (is_zero n)

-- the integer of this value, where it is within the widest
abbrev pub sized : Option ℕ → Result TokenKind Flaw
sized None = Err WideNumber
sized (Some n) = Ok (Int (pos n))

-- the same of a literal that has no leading zero, unless it is zeros only
abbrev pub checked : ℕ → Text → Option ℕ → Result TokenKind Flaw
checked base z n = if has_leading_zero base z n then Err BadNumber else sized n

-- the literal's value, or what is wrong with it
unfoldable pub number : Text → Result TokenKind Flaw
number z =
    if is_digits (radix z) (digits z) then checked (radix z) z (bounded (amount (radix z) 0 (digits z))) else Err BadNumber
