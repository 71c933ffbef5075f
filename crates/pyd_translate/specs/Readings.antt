-- What single definitions of the numbers and of making say.
use Rattle.std.specs.Prelude.{◌≡◌, ℕ, ◌++◌}
use Rattle.pyd_value.specs.declared.fault.Fault.{Fault}
use Rattle.pyd_tree.specs.declared.expression.Expr.{Expr}
use Rattle.pyd_tree.specs.declared.expression.Expr.TheOpen.{Expr-F}
use Rattle.pyd_translate.specs.Making.{Making, Context, stop, ◌>>>◌}
use Rattle.pyd_scope.specs.Numbering.{Within, parts}

-- of a conditional expression the first side is numbered before the test, and the second behind it
abbrev pub ConditionalOrder : Type 0
ConditionalOrder = (test first second : Within Expr)
    → parts (Expr-F.If test first second) ≡ first.all ++ (test.all ++ second.all)

-- behind a Stop nothing is made
abbrev pub StopLaw : Type 0
StopLaw = (at : Context) (fault : Fault) (next : ℕ → Making ℕ) (ids : ℕ)
    → (stop at fault >>> next) ids ≡ stop at fault ids
