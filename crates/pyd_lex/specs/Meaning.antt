-- What a piece of the text means.
use Rattle.std.specs.Prelude.{ℕ, Bool, ◌==◌, [], ◌∷◌, Option, Some, None, Result, Ok, Err, if◌then◌else◌}
use Rattle.std.specs.Str.{bytes_eq}
use Rattle.unicode_normalization.specs.Forms.{nfkc}
use Rattle.pyd_lex.specs.declared.fault.Flaw.{Flaw}
use Rattle.pyd_lex.specs.declared.fault.Flaw.TheVariants.{BadChar, BadName}
use Rattle.pyd_lex.specs.declared.run.Class.{Class}
use Rattle.pyd_lex.specs.declared.run.Class.TheVariants.{Return, Hash, Quote, Digit, Letter, Other}
use Rattle.pyd_lex.specs.declared.token.Shape.{Shape}
use Rattle.pyd_lex.specs.declared.token.Shape.TheVariants as shape
use Rattle.pyd_lex.specs.declared.token.TokenKind.{TokenKind}
use Rattle.pyd_lex.specs.declared.token.TokenKind.TheVariants as kind
use Rattle.pyd_lex.specs.declared.word.Word.{Word}
use Rattle.pyd_lex.specs.declared.mark.Mark.{Mark}
use Rattle.pyd_lex.specs.Words.{Text, keyword, mark_of}
use Rattle.pyd_lex.specs.Strings.{string_flaw}
use Rattle.pyd_lex.specs.Numbers.{number}
use Rattle.pyd_lex.specs.Spelling.{class_of}

-- a good piece, or what is wrong with it
abbrev pub Judged : Type 0
Judged = Result Shape Flaw

-- a kind of token, as a piece
abbrev pub as_token : Result TokenKind Flaw → Judged
as_token (Ok k) = Ok (shape.Token k)
as_token (Err f) = Err f

-- whether the text is its own NFKC
abbrev pub in_nfkc : Text → Bool
in_nfkc z = bytes_eq (nfkc z) z

-- a keyword, or else a name
abbrev pub known : Option Word → TokenKind
known None = kind.Name
known (Some w) = kind.Word w

-- a keyword or another name in NFKC
unfoldable pub name : Text → Result TokenKind Flaw
name z = if in_nfkc z then Ok (known (keyword z)) else Err BadName

-- a string, where nothing is wrong with it
abbrev pub ended : Option Flaw → Result TokenKind Flaw
ended None = Ok kind.Str
ended (Some f) = Err f

-- a mark, or else a character that begins no token
abbrev pub marked : Option Mark → Judged
marked None = Err BadChar
marked (Some m) = Ok (shape.Token (kind.Mark m))

-- a space, a tab or a line feed
abbrev pub spacing : ℕ → Option Shape
spacing c =
    if c == 32 then Some shape.Space
    else (if c == 9 then Some shape.Tab
    else (if c == 10 then Some shape.Break
    else None))

-- spacing, or else a mark
abbrev pub spacing_or : Option Shape → Option Mark → Judged
spacing_or (Some s) m = Ok s
spacing_or None m = marked m

-- what a piece means that begins with another character
abbrev pub other : ℕ → Option Mark → Judged
other c m = spacing_or (spacing c) m

-- what a piece with this first character means
unfoldable pub judged : Class → ℕ → Text → Judged
judged Return c z = Ok shape.Break
judged Hash c z = Ok shape.Comment
judged Quote c z = as_token (ended (string_flaw c z))
judged Digit c z = as_token (number (c ∷ z))
judged Letter c z = as_token (name (c ∷ z))
judged Other c z = other c (mark_of (c ∷ z))

-- what a piece means
unfoldable pub meaning : Text → Judged
meaning [] = Err BadChar
meaning (c ∷ z) = judged (class_of c) c z
