-- Small expressions, whose nodes are computed.
use Rattle.std.specs.Prelude.{◌≡◌, ℕ, List, [], ◌∷◌, pos, true, false, Some, None}
use Rattle.pyd_value.specs.declared.value.Value.{Int}
use Rattle.pyd_value.specs.declared.value.Value.TheVariants as value
use Rattle.pyd_value.specs.declared.operator.BinOp.TheVariants.{Add, Sub}
use Rattle.pyd_value.specs.declared.operator.CmpOp.TheVariants.{Lt}
use Rattle.pyd_tree.specs.declared.expression.Expr.{Expr}
use Rattle.pyd_tree.specs.declared.expression.Expr.TheVariants as expression
use Rattle.pyd_tree.specs.declared.expression.Suffix.TheVariants as suffix
use Rattle.pyd_tree.specs.declared.file.File.{File}
use Rattle.pyd_ir.specs.declared.arg.Arg.{Arg}
use Rattle.pyd_ir.specs.declared.arg.Arg.TheVariants.{Known, From, Slot}
use Rattle.pyd_ir.specs.declared.code.OpCode.TheVariants.{Binary, Compare, Slice}
use Rattle.pyd_ir.specs.declared.node.Node.{Node}
use Rattle.pyd_ir.specs.declared.work.Side.TheVariants as side
use Rattle.pyd_ir.specs.declared.work.Work.TheVariants.{Op, Pick}
use Rattle.pyd_translate.specs.Making.{Context, node_of, port}
use Rattle.pyd_translate.specs.Expressions.{unfolded}

-- an integer literal
abbrev pub number : ℕ → Expr
number n = expression.Lit (Int (pos n))

-- an integer as an argument
abbrev pub known : ℕ → Arg
known n = Known (Int (pos n))

-- line 5 of a routine that has one slot, the port of a composite
abbrev pub here : Context
here = record { line = 5; depth = 0; routine = 0; env = Slot (port 7 0) ∷ [] }

-- in each file the nodes of expression number 3 there, numbered from 10 on, are of these works
abbrev pub Makes : Expr → List Node → Type 0
Makes e nodes = (file : File) → ((unfolded file e).build 3 here 10).nodes ≡ nodes

-- `1 + 2 - 3`: each operator takes the value before it
abbrev pub ChainRow : Type 0
ChainRow =
    Makes (expression.Chain (number 1) ((Add, number 2) ∷ (Sub, number 3) ∷ []))
    (node_of here 10 (Op (Binary Add) (known 1 ∷ known 2 ∷ []))
    ∷ node_of here 11 (Op (Binary Sub) (From (port 10 0) ∷ known 3 ∷ []))
    ∷ [])

-- `1 < 2 < 3`: link 0, and behind it what is left from link 1 on with the left operand 2
abbrev pub ComparisonRow : Type 0
ComparisonRow =
    Makes (expression.Compare (number 1) ((Lt, number 2) ∷ (Lt, number 3) ∷ []))
    (node_of here 10 (Op (Compare Lt) (known 1 ∷ known 2 ∷ []))
    ∷ node_of here 11 (Pick (From (port 10 0)) (side.Tail 3 1 (known 2))
    (side.Arg (From (port 10 0))) here.env)
    ∷ [])

-- `1 if 2 else 3`: the sides are expressions 4 and 6, since the test stands between them
abbrev pub ConditionalRow : Type 0
ConditionalRow =
    Makes (expression.If (number 2) (number 1) (number 3))
    (node_of here 10 (Pick (known 2) (side.Expr 4) (side.Expr 6) here.env) ∷ [])

-- `1 and 2 and 3`: member 0 has no node, and what is left begins at member 1
abbrev pub AndRow : Type 0
AndRow =
    Makes (expression.And (number 1 ∷ number 2 ∷ number 3 ∷ []))
    (node_of here 10 (Pick (known 1) (side.Tail 3 1 (Known value.None)) (side.Arg (known 1))
    here.env) ∷ [])

-- `1[:2]`: the base, and the bound that is there
abbrev pub SliceRow : Type 0
SliceRow =
    Makes (expression.Suffixed (number 1) (suffix.Slice None (Some (number 2)) ∷ []))
    (node_of here 10 (Op (Slice false true) (known 1 ∷ known 2 ∷ [])) ∷ [])
