-- Strings, from after their opening quotes on.
use Rattle.std.specs.Prelude.{ℕ, Bool, true, false, ◌&&◌, ◌||◌, ◌==◌, nat_le, [], ◌∷◌, length, drop, Option, Some, None, if◌then◌else◌}
use Rattle.std.specs.Str.{bytes_eq}
use Rattle.pyd_lex.specs.declared.fault.Flaw.{Flaw}
use Rattle.pyd_lex.specs.declared.fault.Flaw.TheVariants.{BadChar, BadString}
use Rattle.pyd_lex.specs.declared.string.Part.{Part}
use Rattle.pyd_lex.specs.declared.string.Part.TheVariants.{Close, Nul, Backslash, BareBreak, Plain}
use Rattle.pyd_lex.specs.Words.{Text, begins}

-- a line feed or a carriage return
abbrev pub is_break : ℕ → Bool
is_break c = c == 10 || c == 13

-- what a character is that doesn't close these quotes
abbrev pub part_of : Text → ℕ → Part
part_of quotes c =
    if c == 0 then Nul
    else (if c == 92 then Backslash
    else (if is_break c && nat_le (length quotes) 1 then BareBreak
    else Plain))

-- what the character c at the front of z is, inside these quotes
abbrev pub part_at : Text → ℕ → Text → Part
part_at quotes c z = if begins quotes z then Close else part_of quotes c

-- what the character at the front is, inside these quotes
unfoldable pub part : Text → Text → Part
part quotes [] = Plain
part quotes (c ∷ z) = part_at quotes c (c ∷ z)

-- the closing quotes stand nowhere, or at the end alone; a backslash hides what follows it
unfoldable pub inside : Text → Text → Bool
inside quotes [] = true
inside quotes (c ∷ []) = true
inside quotes (c ∷ d ∷ z) =
    elim (part quotes (c ∷ d ∷ z)) [
      | Close ↦ bytes_eq quotes (c ∷ d ∷ z)
      | Backslash ↦ inside quotes z
      | Nul ↦ inside quotes (d ∷ z)
      | BareBreak ↦ inside quotes (d ∷ z)
      | Plain ↦ inside quotes (d ∷ z)
    ]

-- the character that a letter stands for after a backslash
abbrev pub escape : ℕ → Option ℕ
escape c =
    if c == 92 || c == 39 || c == 34 then Some c
    else (if c == 110 then Some 10
    else (if c == 116 then Some 9
    else (if c == 114 then Some 13
    else None)))

-- the first thing that is wrong before the closing quotes, and these may be missing
unfoldable pub flaw : Text → Text → Option Flaw
flaw quotes [] = Some BadString
flaw quotes (c ∷ []) =
    elim (part quotes (c ∷ [])) [
      | Close ↦ None
      | Nul ↦ Some BadChar
      | Backslash ↦ Some BadString
      | BareBreak ↦ Some BadString
      | Plain ↦ Some BadString
    ]
flaw quotes (c ∷ d ∷ z) =
    elim (part quotes (c ∷ d ∷ z)) [
      | Close ↦ None
      | Nul ↦ Some BadChar
      | Backslash ↦ elim (escape d) [ None ↦ Some BadString | Some e ↦ flaw quotes z ]
      | BareBreak ↦ Some BadString
      | Plain ↦ flaw quotes (d ∷ z)
    ]

-- the characters that the string stands for; a line end, also of two characters, is a line feed
unfoldable pub value : Text → Text → Text
value quotes [] = []
value quotes (c ∷ []) =
    elim (part quotes (c ∷ [])) [
      | Close ↦ []
      | Nul ↦ []
      | Backslash ↦ []
      | BareBreak ↦ []
      | Plain ↦ (if c == 13 then 10 else c) ∷ []
    ]
value quotes (c ∷ d ∷ z) =
    elim (part quotes (c ∷ d ∷ z)) [
      | Close ↦ []
      | Nul ↦ []
      | Backslash ↦ elim (escape d) [ None ↦ [] | Some e ↦ e ∷ value quotes z ]
      | BareBreak ↦ []
      | Plain ↦ elim (c == 13) [
        | true ↦ elim (d == 10) [ true ↦ 10 ∷ value quotes z | false ↦ 10 ∷ value quotes (d ∷ z) ]
        | false ↦ c ∷ value quotes (d ∷ z)
      ]
    ]

-- a quote alone
abbrev pub one : ℕ → Text
one c = c ∷ []

-- a triple quote
abbrev pub three : ℕ → Text
three c = c ∷ c ∷ c ∷ []

-- whether two more of the same quote follow the first
abbrev pub is_triple : ℕ → Text → Bool
is_triple c z = begins (c ∷ c ∷ []) z

-- the quotes, and the text after all of them
abbrev pub spelled : Bool → ℕ → Text
spelled triple c = if triple then three c else one c

-- how many quotes follow the first
abbrev pub more : Bool → ℕ
more triple = if triple then 2 else 0

-- the text after them
abbrev pub rest_of : Bool → Text → Text
rest_of triple z = drop (more triple) z

-- a string in single or in triple quotes, ended or not
abbrev pub is_string : ℕ → Text → Bool
is_string c z = inside (one c) z || (is_triple c z && inside (three c) (drop 2 z))

-- what is wrong with a string whose first quote is c
abbrev pub string_flaw : ℕ → Text → Option Flaw
string_flaw c z = flaw (spelled (is_triple c z) c) (rest_of (is_triple c z) z)

-- the value of a string
abbrev pub string_value : Text → Text
string_value [] = []
string_value (c ∷ z) = value (spelled (is_triple c z) c) (rest_of (is_triple c z) z)
