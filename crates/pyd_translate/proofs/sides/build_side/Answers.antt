use Rattle.pyd_translate.proofs.SideForms.{side_value, side_expression, side_tail}
use Rattle.pyd_translate.specs.Drafts.{context_of, file_of}
use Rattle.pyd_translate.proofs.Arms.{made_so}
use Rattle.pyd_translate.proofs.sides.build_side.Goals as goal

pub returns-in_ok-try_copy-in-Arg : goal.returns-in_ok-try_copy-in-Arg
returns-in_ok-try_copy-in-Arg c =
    side_value (file_of c.args.at.now) (context_of c.args.at.now) c.args.side.now _ _ _ _ c.in-Arg.is c.in_ok-try_copy-in-Arg.ensures

pub returns-in-Expr : goal.returns-in-Expr
returns-in-Expr c =
    made_so _ _ _ _ _ _ _ (side_expression (file_of c.args.at.now) (context_of c.args.at.now) c.args.side.now _ _ c.in-Expr.is c.expression.ensures) c.build_numbered.ensures

pub returns-in-Tail : goal.returns-in-Tail
returns-in-Tail c =
    made_so _ _ _ _ _ _ _ (side_tail (file_of c.args.at.now) (context_of c.args.at.now) c.args.side.now _ _ _ _ c.in-Tail.is c.expression-in-Tail.ensures) c.build_left.ensures
