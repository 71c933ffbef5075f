-- Each kind of token counts as one terminal of the grammar.
use Rattle.std.specs.Prelude.{ℕ, List, map}
use Rattle.pyd_lex.specs.declared.token.Token.{Token}
use Rattle.pyd_lex.specs.declared.token.TokenKind.{TokenKind}
use Rattle.pyd_lex.specs.declared.token.TokenKind.TheVariants as kind
use Rattle.pyd_lex.specs.declared.word.Word.{Word}
use Rattle.pyd_lex.specs.declared.word.Word.TheVariants as word
use Rattle.pyd_lex.specs.declared.mark.Mark.{Mark}
use Rattle.pyd_lex.specs.declared.mark.Mark.TheVariants as mark
use Rattle.pyd_syntax.specs.declared.terminal.TheConstants.{OTHER, END, NEWLINE, INDENT, DEDENT, NAME, INT, STR, CONSTANT, FROM, IMPORT, DEF, IF, ELIF, ELSE, WHILE, FOR, IN, PASS, BREAK, CONTINUE, RETURN, ASSERT, OR, AND, NOT, LEFT_PAREN, RIGHT_PAREN, LEFT_BRACKET, RIGHT_BRACKET, COMMA, COLON, AT, ASSIGN, AUG, CMP, BAR, CARET, AMPERSAND, SHIFT, SIGN, TIMES, POWER}

-- the terminal of a keyword; those that no production has count as one
abbrev pub word_terminal : Word → ℕ
word_terminal word.False = CONSTANT
word_terminal word.None = CONSTANT
word_terminal word.True = CONSTANT
word_terminal word.And = AND
word_terminal word.As = OTHER
word_terminal word.Assert = ASSERT
word_terminal word.Async = OTHER
word_terminal word.Await = OTHER
word_terminal word.Break = BREAK
word_terminal word.Class = OTHER
word_terminal word.Continue = CONTINUE
word_terminal word.Def = DEF
word_terminal word.Del = OTHER
word_terminal word.Elif = ELIF
word_terminal word.Else = ELSE
word_terminal word.Except = OTHER
word_terminal word.Finally = OTHER
word_terminal word.For = FOR
word_terminal word.From = FROM
word_terminal word.Global = OTHER
word_terminal word.If = IF
word_terminal word.Import = IMPORT
word_terminal word.In = IN
word_terminal word.Is = OTHER
word_terminal word.Lambda = OTHER
word_terminal word.Nonlocal = OTHER
word_terminal word.Not = NOT
word_terminal word.Or = OR
word_terminal word.Pass = PASS
word_terminal word.Raise = OTHER
word_terminal word.Return = RETURN
word_terminal word.Try = OTHER
word_terminal word.While = WHILE
word_terminal word.With = OTHER
word_terminal word.Yield = OTHER

-- the terminal of a mark; operators of one level count as one
abbrev pub mark_terminal : Mark → ℕ
mark_terminal mark.PowAssign = AUG
mark_terminal mark.DivAssign = AUG
mark_terminal mark.ShlAssign = AUG
mark_terminal mark.ShrAssign = AUG
mark_terminal mark.Pow = POWER
mark_terminal mark.Div = TIMES
mark_terminal mark.Shl = SHIFT
mark_terminal mark.Shr = SHIFT
mark_terminal mark.Le = CMP
mark_terminal mark.Ge = CMP
mark_terminal mark.Eq = CMP
mark_terminal mark.Ne = CMP
mark_terminal mark.AddAssign = AUG
mark_terminal mark.SubAssign = AUG
mark_terminal mark.MulAssign = AUG
mark_terminal mark.ModAssign = AUG
mark_terminal mark.AndAssign = AUG
mark_terminal mark.OrAssign = AUG
mark_terminal mark.XorAssign = AUG
mark_terminal mark.Add = SIGN
mark_terminal mark.Sub = SIGN
mark_terminal mark.Mul = TIMES
mark_terminal mark.Mod = TIMES
mark_terminal mark.And = AMPERSAND
mark_terminal mark.Or = BAR
mark_terminal mark.Xor = CARET
mark_terminal mark.Lt = CMP
mark_terminal mark.Gt = CMP
mark_terminal mark.Assign = ASSIGN
mark_terminal mark.LeftParen = LEFT_PAREN
mark_terminal mark.RightParen = RIGHT_PAREN
mark_terminal mark.LeftBracket = LEFT_BRACKET
mark_terminal mark.RightBracket = RIGHT_BRACKET
mark_terminal mark.Comma = COMMA
mark_terminal mark.Colon = COLON
mark_terminal mark.At = AT

-- the terminal of a kind of token
abbrev pub terminal : TokenKind → ℕ
terminal kind.Name = NAME
terminal (kind.Int value) = INT
terminal kind.Str = STR
terminal (kind.Word w) = word_terminal w
terminal (kind.Mark m) = mark_terminal m
terminal kind.Newline = NEWLINE
terminal kind.Indent = INDENT
terminal kind.Dedent = DEDENT
terminal kind.End = END

-- the terminals of tokens
abbrev pub terminals : List Token → List ℕ
terminals tokens = map (λ token. terminal token.kind) tokens
