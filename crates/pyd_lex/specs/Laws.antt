-- Laws of the tokens of bytes.
use Rattle.std.specs.Prelude.{◌≡◌, ◌↔◌, ℕ, List, [], ◌∷◌, Some, Ok, Err, ◌+◌, flat_map}
use Rattle.std.specs.Str.{IsUtf8, chars}
use Rattle.pyd_lex.specs.declared.fault.LexFault.{LexFault}
use Rattle.pyd_lex.specs.declared.place.Place.{Place}
use Rattle.pyd_lex.specs.declared.token.Shape.{Shape}
use Rattle.pyd_lex.specs.declared.token.Token.{Token}
use Rattle.pyd_lex.specs.Words.{Text}
use Rattle.pyd_lex.specs.Spelling.{IsCut}
use Rattle.pyd_lex.specs.Lines.{Answer, Piece, Line, after, all_lines, lines, placed, read, size}
use Rattle.pyd_lex.specs.Faults.{first_fault}
use Rattle.pyd_lex.specs.Reads.{Reads, start, without_bom}
use Rattle.pyd_lex.specs.Texts.{spelling_of}

-- bytes have no two answers
abbrev pub OneAnswer : Type 0
OneAnswer = (bytes : List ℕ) (a b : Answer) → Reads bytes a → Reads bytes b → a ≡ b

-- all bytes have an answer
abbrev pub AnAnswer : Type 0
AnAnswer = (bytes : List ℕ) → (a : Answer) × Reads bytes a

-- the piece has a meaning
abbrev pub IsGoodPiece : Piece → Type 0
IsGoodPiece p = (s : Shape) × (p.means ≡ Ok s)

-- each piece has a meaning
abbrev pub AreGood : List Piece → Type 0
AreGood [] = Unit {0}
AreGood (p ∷ ps) = IsGoodPiece p × AreGood ps

-- the logical lines of a text's pieces
abbrev pub lines_of : Place → List Text → List Line
lines_of p pieces = all_lines (lines 0 (placed p pieces))

-- a fault comes exactly at the end of the longest front part of the text whose pieces are good and
-- whose lines are indented rightly
abbrev pub FirstFault : Type 0
FirstFault =
    (p : Place) (pieces : List Text) (f : LexFault) →
    read p pieces ≡ Err f ↔ first_fault (0 ∷ []) (lines_of p pieces) ≡ Some f

-- the lines are all pieces, in their order
abbrev pub LinesWhole : Type 0
LinesWhole =
    (p : Place) (pieces : List Text) → flat_map (λ l. l) (lines_of p pieces) ≡ placed p pieces

-- tokens come only where all pieces are good
abbrev pub AllGood : Type 0
AllGood =
    (p : Place) (pieces : List Text) (ts : List Token) →
    read p pieces ≡ Ok ts → AreGood (placed p pieces)

-- the bytes of each piece are the piece, in UTF-8
abbrev pub AreSpelled : List ℕ → Place → List Text → Type 0
AreSpelled bytes p [] = Unit {0}
AreSpelled bytes p (z ∷ zs) =
    IsUtf8 (spelling_of bytes p.at (p.at + size z)) × (chars (spelling_of bytes p.at (p.at + size z)) ≡ z) × AreSpelled bytes (after p z) zs

-- so the text of a string token of these bytes is the value of its piece
abbrev pub Spelled : Type 0
Spelled =
    (bytes : List ℕ) (pieces : List Text) → IsUtf8 bytes → IsCut (without_bom (chars bytes)) pieces → AreSpelled bytes (start (chars bytes)) pieces
