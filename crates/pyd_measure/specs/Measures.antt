-- What is kept of a piece in place of its tree.
use Rattle.std.specs.Prelude.{ℕ, suc, max, min, List, [], ◌∷◌, map, Option, Some, None, option_map}
use Rattle.pyd_value.specs.Size.{greatest}
use Rattle.pyd_tree.specs.declared.expression.Expr.{Expr}
use Rattle.pyd_tree.specs.declared.statement.Targets.{Targets}
use Rattle.pyd_tree.specs.Nesting.{nesting, suffix_nesting, or_zero}
use Rattle.pyd_derivation.specs.declared.piece.Piece.{Piece}
use Rattle.pyd_derivation.specs.declared.piece.Piece.TheVariants as piece
use Rattle.pyd_derivation.specs.Actions.{name_of, targets_of, tuple_names}
use Rattle.pyd_measure.specs.declared.measures.Shape.{Shape}
use Rattle.pyd_measure.specs.declared.measures.Shape.TheVariants as shape
use Rattle.pyd_measure.specs.declared.measures.Members.{Members}
use Rattle.pyd_measure.specs.declared.measures.Members.TheVariants as members
use Rattle.pyd_measure.specs.declared.measures.Measure.{Measure}
use Rattle.pyd_measure.specs.declared.measures.Measure.TheVariants as measure
use Rattle.pyd_measure.specs.Limit.{deepest}

-- a nesting, cut to one above the limit
abbrev pub cut : ℕ → ℕ
cut n = min n (suc deepest)

-- the cut of the greatest of these nestings
abbrev pub cut_all : List ℕ → ℕ
cut_all ns = cut (greatest ns)

-- a shape by the name and the targets that an expression is
abbrev pub shape_by : Option (List ℕ) → Option Targets → Shape
shape_by (Some n) t = shape.Name
shape_by None (Some t) = shape.Names
shape_by None None = shape.Other

-- what an expression is as the left side of an assignment
abbrev pub shape_of : Expr → Shape
shape_of e = shape_by (name_of e) (targets_of e)

-- some members by the names that they all are
abbrev pub members_by : Option (List (List ℕ)) → Members
members_by (Some ns) = members.Names
members_by None = members.Other

-- what expressions are as the members of a left side
abbrev pub members_of : List Expr → Members
members_of [] = members.None
members_of (e ∷ es) = members_by (tuple_names (e ∷ es))

-- what is kept of a piece
abbrev pub measure_of : Piece → Measure
measure_of piece.Nothing = measure.Nothing
measure_of (piece.Leaf t) = measure.Other
measure_of (piece.Expr e) = measure.Expr (cut (nesting e)) (shape_of e)
measure_of (piece.Many es) = measure.Many (cut_all (map nesting es)) (members_of es)
measure_of (piece.Args es) = measure.Args (cut_all (map nesting es))
measure_of (piece.Links ls) = measure.Links (cut_all (map (λ l. nesting l.1) ls))
measure_of (piece.Compares ls) = measure.Compares (cut_all (map (λ l. nesting l.1) ls))
measure_of (piece.Condition test other) = measure.Condition (cut (max (nesting test) (nesting other)))
measure_of (piece.Suffix s) = measure.Suffix (cut (suffix_nesting s))
measure_of (piece.Suffixes ss) = measure.Suffixes (cut_all (map suffix_nesting ss))
measure_of (piece.Bound upper) = measure.Bound (cut (or_zero (option_map nesting upper)))
measure_of (piece.Assign right) = measure.Assign (cut (nesting right))
measure_of (piece.Augment op right) = measure.Augment (cut (nesting right))
measure_of (piece.Stmt s) = measure.Other
measure_of (piece.Stmts ss) = measure.Other
measure_of (piece.Suite b) = measure.Other
measure_of (piece.Arms xs) = measure.Other
measure_of (piece.Names ns) = measure.Other
measure_of (piece.Params ps) = measure.Other
measure_of (piece.Def ms f) = measure.Other
measure_of (piece.Item i) = measure.Other
measure_of (piece.Items is) = measure.Other
