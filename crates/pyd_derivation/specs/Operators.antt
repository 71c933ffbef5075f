-- The operators that tokens stand for.
use Rattle.pyd_lex.specs.declared.token.TokenKind.{TokenKind}
use Rattle.pyd_lex.specs.declared.token.TokenKind.TheVariants as kind
use Rattle.pyd_lex.specs.declared.mark.Mark.{Mark}
use Rattle.pyd_lex.specs.declared.mark.Mark.TheVariants as mark
use Rattle.pyd_value.specs.declared.operator.BinOp.{BinOp}
use Rattle.pyd_value.specs.declared.operator.BinOp.TheVariants as bin
use Rattle.pyd_value.specs.declared.operator.CmpOp.{CmpOp}
use Rattle.pyd_value.specs.declared.operator.CmpOp.TheVariants as cmp
use Rattle.pyd_value.specs.declared.operator.UnOp.{UnOp}
use Rattle.pyd_value.specs.declared.operator.UnOp.TheVariants as un

-- the operator of a mark or of its augmented assignment; no other mark stands where one is asked for
abbrev pub mark_operator : Mark → BinOp
mark_operator mark.Add = bin.Add
mark_operator mark.AddAssign = bin.Add
mark_operator mark.Sub = bin.Sub
mark_operator mark.SubAssign = bin.Sub
mark_operator mark.Mul = bin.Mul
mark_operator mark.MulAssign = bin.Mul
mark_operator mark.Div = bin.Div
mark_operator mark.DivAssign = bin.Div
mark_operator mark.Mod = bin.Mod
mark_operator mark.ModAssign = bin.Mod
mark_operator mark.Pow = bin.Pow
mark_operator mark.PowAssign = bin.Pow
mark_operator mark.Shl = bin.Shl
mark_operator mark.ShlAssign = bin.Shl
mark_operator mark.Shr = bin.Shr
mark_operator mark.ShrAssign = bin.Shr
mark_operator mark.And = bin.And
mark_operator mark.AndAssign = bin.And
mark_operator mark.Or = bin.Or
mark_operator mark.OrAssign = bin.Or
mark_operator mark.Xor = bin.Xor
mark_operator mark.XorAssign = bin.Xor
mark_operator m = bin.Add

-- the operator of a token
abbrev pub operator : TokenKind → BinOp
operator (kind.Mark m) = mark_operator m
operator k = bin.Add

-- the sign before an operand
abbrev pub sign : TokenKind → UnOp
sign (kind.Mark mark.Sub) = un.Neg
sign k = un.Pos

-- the comparison of a mark
abbrev pub mark_comparison : Mark → CmpOp
mark_comparison mark.Eq = cmp.Eq
mark_comparison mark.Ne = cmp.Ne
mark_comparison mark.Lt = cmp.Lt
mark_comparison mark.Le = cmp.Le
mark_comparison mark.Gt = cmp.Gt
mark_comparison mark.Ge = cmp.Ge
mark_comparison m = cmp.Eq

-- the comparison of a token: a mark, or the word `in`
abbrev pub comparison : TokenKind → CmpOp
comparison (kind.Mark m) = mark_comparison m
comparison k = cmp.In
