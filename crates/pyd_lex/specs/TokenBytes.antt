-- Where the tokens of bytes stand, and what their bytes spell.
use Rattle.std.specs.Prelude.{◌≡◌, ℕ, ◌≤◌, Bool, true, false, ◌⊎◌, List, [], ◌∷◌, ◌++◌, length, take, All, count_by, Some, None, Ok}
use Rattle.std.specs.Str.{IsUtf8, chars}
use Rattle.pyd_lex.specs.declared.token.Shape.{Shape}
use Rattle.pyd_lex.specs.declared.token.Shape.TheVariants as shape
use Rattle.pyd_lex.specs.declared.token.Token.{Token}
use Rattle.pyd_lex.specs.declared.token.TokenKind.{TokenKind}
use Rattle.pyd_lex.specs.declared.token.TokenKind.TheVariants as kind
use Rattle.pyd_lex.specs.declared.run.Class.TheVariants.{Quote, Letter}
use Rattle.pyd_lex.specs.Words.{Text, keyword, mark_of}
use Rattle.pyd_lex.specs.Numbers.{number}
use Rattle.pyd_lex.specs.Strings.{string_flaw}
use Rattle.pyd_lex.specs.Spelling.{HasClass, class_of, is_piece}
use Rattle.pyd_lex.specs.Meaning.{meaning, in_nfkc}
use Rattle.pyd_lex.specs.Reads.{Reads}
use Rattle.pyd_lex.specs.Texts.{spelling_of}

-- the token's bytes are bytes of the source
pub record IsWithin (bytes : List ℕ) (t : Token) : Type 0 where
  pub forward : t.from ≤ t.to
  pub inside : t.to ≤ length bytes

-- from this byte on, each token begins where the one before it ends, or behind it
abbrev pub AreInOrder : ℕ → List Token → Type 0
AreInOrder at [] = Unit {0}
AreInOrder at (t ∷ ts) = (at ≤ t.from) × AreInOrder t.to ts

-- the bytes are in UTF-8, and a piece of this shape
pub record Spells (bytes : List ℕ) (s : Shape) : Type 0 where
  pub utf8 : IsUtf8 bytes
  pub piece : is_piece (chars bytes) ≡ true
  pub means : meaning (chars bytes) ≡ Ok s

-- what the bytes of a token of this kind are; the end of the source ends a line by no byte
abbrev pub HasBytes : TokenKind → List ℕ → Type 0
HasBytes kind.Name bytes = Spells bytes (shape.Token kind.Name)
HasBytes (kind.Int n) bytes = Spells bytes (shape.Token (kind.Int n))
HasBytes kind.Str bytes = Spells bytes (shape.Token kind.Str)
HasBytes (kind.Word w) bytes = Spells bytes (shape.Token (kind.Word w))
HasBytes (kind.Mark m) bytes = Spells bytes (shape.Token (kind.Mark m))
HasBytes kind.Newline bytes = Spells bytes shape.Break ⊎ (bytes ≡ [])
HasBytes kind.Indent bytes = bytes ≡ []
HasBytes kind.Dedent bytes = bytes ≡ []
HasBytes kind.End bytes = bytes ≡ []

-- the token's bytes are those of its kind
abbrev pub IsSpelled : List ℕ → Token → Type 0
IsSpelled bytes t = HasBytes t.kind (spelling_of bytes t.from t.to)

-- the end of the source
abbrev pub IsEnd : Token → Type 0
IsEnd t = t.kind ≡ kind.End

-- the last token is the end of these bytes, and no other is one
pub record AreEnded (bytes : List ℕ) (ts : List Token) : Type 0 where
  pub before : List Token
  pub last : Token
  pub whole : ts ≡ before ++ last ∷ []
  pub is_end : IsEnd last
  pub at_end : last.from ≡ length bytes
  pub only : All (λ t. IsEnd t → ⊥) before

-- whether the token is an INDENT
abbrev pub is_indent : Token → Bool
is_indent t = elim (t.kind) [ kind.Indent ↦ true | k ↦ false ]

-- whether the token is a DEDENT
abbrev pub is_dedent : Token → Bool
is_dedent t = elim (t.kind) [ kind.Dedent ↦ true | k ↦ false ]

-- no front part has more dedents than indents, and the whole has as many
pub record AreBalanced (ts : List Token) : Type 0 where
  pub never : (n : ℕ) → count_by is_dedent (take n ts) ≤ count_by is_indent (take n ts)
  pub whole : count_by is_dedent ts ≡ count_by is_indent ts

-- what is known of the tokens of bytes
pub record AreTokensOf (bytes : List ℕ) (ts : List Token) : Type 0 where
  pub within : All (IsWithin bytes) ts
  pub ordered : AreInOrder 0 ts
  pub spelled : All (IsSpelled bytes) ts
  pub ended : AreEnded bytes ts
  pub balanced : AreBalanced ts

-- the tokens of bytes stand in them in order, and their bytes spell them
abbrev pub TokenBytes : Type 0
TokenBytes = (bytes : List ℕ) (ts : List Token) → Reads bytes (Ok ts) → AreTokensOf bytes ts

-- ---- what a token's characters are

-- a name: it begins with a letter, is in NFKC, and no keyword
pub record IsName (z : Text) : Type 0 where
  pub first : HasClass Letter z
  pub normal : in_nfkc z ≡ true
  pub free : keyword z ≡ None

-- a string: it begins with a quote, and nothing is wrong with it
abbrev pub IsGoodString : Text → Type 0
IsGoodString [] = ⊥
IsGoodString (c ∷ z) = (class_of c ≡ Quote) × (string_flaw c z ≡ None)

-- these characters spell a token of this kind
abbrev pub HasText : TokenKind → Text → Type 0
HasText kind.Name z = IsName z
HasText (kind.Int n) z = number z ≡ Ok (kind.Int n)
HasText kind.Str z = IsGoodString z
HasText (kind.Word w) z = keyword z ≡ Some w
HasText (kind.Mark m) z = mark_of z ≡ Some m
HasText kind.Newline z = ⊥
HasText kind.Indent z = ⊥
HasText kind.Dedent z = ⊥
HasText kind.End z = ⊥

-- a text that means a token spells one of its kind
abbrev pub TokenTexts : Type 0
TokenTexts = (z : Text) (k : TokenKind) → meaning z ≡ Ok (shape.Token k) → HasText k z
