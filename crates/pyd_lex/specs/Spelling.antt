-- The pieces that a text is cut into, each by its first character.
use Rattle.std.specs.Prelude.{◌≡◌, ℕ, ◌<◌, ◌≤◌, Bool, true, false, not, ◌&&◌, ◌||◌, ◌==◌, List, [], ◌∷◌, length, take, drop, is_some, if◌then◌else◌}
use Rattle.std.specs.Char.{is_ascii_digit}
use Rattle.std.specs.List.{list_all}
use Rattle.std.specs.Str.{bytes_eq}
use Rattle.unicode_ident.specs.Ident.{is_xid_start, is_xid_continue}
use Rattle.pyd_lex.specs.declared.run.Class.{Class}
use Rattle.pyd_lex.specs.declared.run.Class.TheVariants.{Return, Hash, Quote, Digit, Letter, Other}
use Rattle.pyd_lex.specs.Words.{Text, mark_of}
use Rattle.pyd_lex.specs.Strings.{one, is_string}

-- a comment may have this character
abbrev pub in_comment : ℕ → Bool
in_comment c = not (c == 0) && not (c == 10) && not (c == 13)

-- a name may go on with this character
abbrev pub continues : ℕ → Bool
continues = is_xid_continue

-- a digit, or a letter that begins a name
abbrev pub word_class : ℕ → Class
word_class c = if is_ascii_digit c then Digit else (if c == 95 || is_xid_start c then Letter else Other)

-- what a character begins
unfoldable pub class_of : ℕ → Class
class_of c = if c == 13 then Return else (if c == 35 then Hash else (if c == 34 || c == 39 then Quote else word_class c))

-- the text begins with a character of this class
abbrev pub HasClass : Class → Text → Type 0
HasClass k [] = ⊥
HasClass k (c ∷ z) = class_of c ≡ k

-- whether a first character of this class and the characters after it belong together
unfoldable pub belong : Class → ℕ → Text → Bool
belong Return c z = bytes_eq z [] || bytes_eq z (one 10)
belong Hash c z = list_all in_comment z
belong Quote c z = is_string c z
belong Digit c z = list_all continues z
belong Letter c z = list_all continues z
belong Other c z = bytes_eq z [] || is_some (mark_of (c ∷ z))

-- whether these characters are one piece
unfoldable pub is_piece : Text → Bool
is_piece [] = false
is_piece (c ∷ z) = belong (class_of c) c z

-- the last number up to a bound that passes a test
pub record IsLast (test : ℕ → Bool) (bound n : ℕ) : Type 0 where
  pub within : n ≤ bound
  pub here : test n ≡ true
  pub beyond : (j : ℕ) → n < j → j ≤ bound → test j ≡ false

-- the longest part after a first character that belongs to it has this length
abbrev pub Extends : Class → ℕ → Text → ℕ → Type 0
Extends k c z = IsLast (λ j. belong k c (take j z)) (length z)

-- this many characters are the longest piece at the front
abbrev pub IsLongest : Text → ℕ → Type 0
IsLongest text = IsLast (λ j. is_piece (take j text)) (length text)

-- the pieces are the whole text, from its start to its end, each the longest at its place
abbrev pub IsCut : Text → List Text → Type 0
IsCut text [] = text ≡ []
IsCut text (piece ∷ pieces) =
    (piece ≡ take (length piece) text) × IsLongest text (length piece) × IsCut (drop (length piece) text) pieces
