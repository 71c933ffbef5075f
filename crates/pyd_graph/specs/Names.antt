-- What the text of a graph calls operators, exceptions and limits.
use Rattle.std.specs.Prelude.{List, ℕ, ◌++◌, codes, decimal}
use Rattle.pyd_value.specs.declared.operator.UnOp.{UnOp}
use Rattle.pyd_value.specs.declared.operator.UnOp.TheVariants as unary
use Rattle.pyd_value.specs.declared.operator.BinOp.{BinOp}
use Rattle.pyd_value.specs.declared.operator.BinOp.TheVariants as binary
use Rattle.pyd_value.specs.declared.operator.CmpOp.{CmpOp}
use Rattle.pyd_value.specs.declared.operator.CmpOp.TheVariants as comparison
use Rattle.pyd_value.specs.declared.fault.Kind.{Kind}
use Rattle.pyd_value.specs.declared.fault.Kind.TheVariants as kind
use Rattle.pyd_value.specs.declared.fault.Limit.{Limit}
use Rattle.pyd_value.specs.declared.fault.Limit.TheVariants as limit
use Rattle.pyd_value.specs.declared.fault.Fault.{Fault}
use Rattle.pyd_value.specs.declared.fault.Fault.TheVariants as fault
use Rattle.pyd_ir.specs.declared.code.OpCode.{OpCode}
use Rattle.pyd_ir.specs.declared.code.OpCode.TheVariants as code

-- an operator of one value
abbrev pub unary_name : UnOp → List ℕ
unary_name unary.Neg = codes "Neg"
unary_name unary.Pos = codes "Pos"
unary_name unary.Not = codes "Not"

-- an operator of two values; those of bits are told from `and` and `or`
abbrev pub binary_name : BinOp → List ℕ
binary_name binary.Add = codes "Add"
binary_name binary.Sub = codes "Sub"
binary_name binary.Mul = codes "Mul"
binary_name binary.Div = codes "Div"
binary_name binary.Mod = codes "Mod"
binary_name binary.Pow = codes "Pow"
binary_name binary.Shl = codes "Shl"
binary_name binary.Shr = codes "Shr"
binary_name binary.And = codes "BitAnd"
binary_name binary.Or = codes "BitOr"
binary_name binary.Xor = codes "BitXor"

-- a comparison
abbrev pub comparison_name : CmpOp → List ℕ
comparison_name comparison.Eq = codes "Eq"
comparison_name comparison.Ne = codes "Ne"
comparison_name comparison.Lt = codes "Lt"
comparison_name comparison.Le = codes "Le"
comparison_name comparison.Gt = codes "Gt"
comparison_name comparison.Ge = codes "Ge"
comparison_name comparison.In = codes "In"
comparison_name comparison.NotIn = codes "NotIn"

-- any operator: an unpacking with the number of members, a slice without a word on its bounds
abbrev pub operator_name : OpCode → List ℕ
operator_name (code.Unary op) = unary_name op
operator_name (code.Binary op) = binary_name op
operator_name (code.Compare op) = comparison_name op
operator_name code.Index = codes "Index"
operator_name (code.Slice low high) = codes "Slice"
operator_name code.Tuple = codes "Tuple"
operator_name (code.Unpack count) = codes "Unpack " ++ decimal count
operator_name code.Len = codes "Len"
operator_name code.Abs = codes "Abs"
operator_name code.Min = codes "Min"
operator_name code.Max = codes "Max"
operator_name code.Sum = codes "Sum"
operator_name code.Str = codes "Str"
operator_name code.Repr = codes "Repr"
operator_name code.Int = codes "Int"
operator_name code.Bool = codes "Bool"
operator_name code.Range = codes "Range"
operator_name code.Assert = codes "Assert"

-- an exception
abbrev pub kind_name : Kind → List ℕ
kind_name kind.NameError = codes "NameError"
kind_name kind.UnboundLocalError = codes "UnboundLocalError"
kind_name kind.TypeError = codes "TypeError"
kind_name kind.ValueError = codes "ValueError"
kind_name kind.IndexError = codes "IndexError"
kind_name kind.ZeroDivisionError = codes "ZeroDivisionError"
kind_name kind.AssertionError = codes "AssertionError"

-- a limit
abbrev pub limit_name : Limit → List ℕ
limit_name limit.Turn = codes "TurnLimit"
limit_name limit.Depth = codes "DepthLimit"
limit_name limit.Int = codes "IntLimit"
limit_name limit.Size = codes "SizeLimit"
limit_name limit.Outside = codes "Outside"

-- a fault, without its line
abbrev pub fault_name : Fault → List ℕ
fault_name (fault.Raised k line) = kind_name k
fault_name (fault.Limit l line) = limit_name l
