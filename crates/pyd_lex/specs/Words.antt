-- The spellings of keywords and marks.
use Rattle.std.specs.Prelude.{ℕ, Bool, true, false, ◌&&◌, ◌==◌, List, [], ◌∷◌, length, Option, Some, None, if◌then◌else◌, codes}
use Rattle.std.specs.Str.{bytes_eq}
use Rattle.pyd_lex.specs.declared.word.Word.{Word}
use Rattle.pyd_lex.specs.declared.word.Word.TheVariants as word
use Rattle.pyd_lex.specs.declared.mark.Mark.{Mark}
use Rattle.pyd_lex.specs.declared.mark.Mark.TheVariants as mark

-- the characters of a text or of a piece of it
abbrev pub Text : Type 0
Text = List ℕ

-- whether the text begins with these characters
abbrev pub begins : Text → Text → Bool
begins [] z = true
begins (a ∷ s) [] = false
begins (a ∷ s) (b ∷ z) = (a == b) && begins s z

-- what the first row with this very spelling has
abbrev pub first_same : {X : Type 0} → List (Text × X) → Text → Option X
first_same [] z = None
first_same (row ∷ rows) z = if bytes_eq row.0 z then Some row.1 else first_same rows z

-- what the first row whose spelling begins the text has, with its length
abbrev pub first_front : {X : Type 0} → List (Text × X) → Text → Option (ℕ × X)
first_front [] z = None
first_front (row ∷ rows) z = if begins row.0 z then Some (length row.0, row.1) else first_front rows z

-- the keywords
abbrev pub words : List (Text × Word)
words =
    (codes "False", word.False) ∷
    (codes "None", word.None) ∷
    (codes "True", word.True) ∷
    (codes "and", word.And) ∷
    (codes "as", word.As) ∷
    (codes "assert", word.Assert) ∷
    (codes "async", word.Async) ∷
    (codes "await", word.Await) ∷
    (codes "break", word.Break) ∷
    (codes "class", word.Class) ∷
    (codes "continue", word.Continue) ∷
    (codes "def", word.Def) ∷
    (codes "del", word.Del) ∷
    (codes "elif", word.Elif) ∷
    (codes "else", word.Else) ∷
    (codes "except", word.Except) ∷
    (codes "finally", word.Finally) ∷
    (codes "for", word.For) ∷
    (codes "from", word.From) ∷
    (codes "global", word.Global) ∷
    (codes "if", word.If) ∷
    (codes "import", word.Import) ∷
    (codes "in", word.In) ∷
    (codes "is", word.Is) ∷
    (codes "lambda", word.Lambda) ∷
    (codes "nonlocal", word.Nonlocal) ∷
    (codes "not", word.Not) ∷
    (codes "or", word.Or) ∷
    (codes "pass", word.Pass) ∷
    (codes "raise", word.Raise) ∷
    (codes "return", word.Return) ∷
    (codes "try", word.Try) ∷
    (codes "while", word.While) ∷
    (codes "with", word.With) ∷
    (codes "yield", word.Yield) ∷
    []

-- the marks, longest first
abbrev pub marks : List (Text × Mark)
marks =
    (codes "**=", mark.PowAssign) ∷
    (codes "//=", mark.DivAssign) ∷
    (codes "<<=", mark.ShlAssign) ∷
    (codes ">>=", mark.ShrAssign) ∷
    (codes "**", mark.Pow) ∷
    (codes "//", mark.Div) ∷
    (codes "<<", mark.Shl) ∷
    (codes ">>", mark.Shr) ∷
    (codes "<=", mark.Le) ∷
    (codes ">=", mark.Ge) ∷
    (codes "==", mark.Eq) ∷
    (codes "!=", mark.Ne) ∷
    (codes "+=", mark.AddAssign) ∷
    (codes "-=", mark.SubAssign) ∷
    (codes "*=", mark.MulAssign) ∷
    (codes "%=", mark.ModAssign) ∷
    (codes "&=", mark.AndAssign) ∷
    (codes "|=", mark.OrAssign) ∷
    (codes "^=", mark.XorAssign) ∷
    (codes "+", mark.Add) ∷
    (codes "-", mark.Sub) ∷
    (codes "*", mark.Mul) ∷
    (codes "%", mark.Mod) ∷
    (codes "&", mark.And) ∷
    (codes "|", mark.Or) ∷
    (codes "^", mark.Xor) ∷
    (codes "<", mark.Lt) ∷
    (codes ">", mark.Gt) ∷
    (codes "=", mark.Assign) ∷
    (codes "(", mark.LeftParen) ∷
    (codes ")", mark.RightParen) ∷
    (codes "[", mark.LeftBracket) ∷
    (codes "]", mark.RightBracket) ∷
    (codes ",", mark.Comma) ∷
    (codes ":", mark.Colon) ∷
    (codes "@", mark.At) ∷
    []

-- the keyword that is spelled so
unfoldable pub keyword : Text → Option Word
keyword = first_same words

-- the mark that is spelled so
unfoldable pub mark_of : Text → Option Mark
mark_of = first_same marks

-- the longest mark at the front of the text, with its length
unfoldable pub front_mark : Text → Option (ℕ × Mark)
front_mark = first_front marks
