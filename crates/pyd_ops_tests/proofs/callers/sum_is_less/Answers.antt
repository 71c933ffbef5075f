-- The sum that was handed out is what is compared.
use Rattle.std.proofs.Common.{◌∙◌, ap, sym}
use Rattle.pyd_value.specs.declared.operator.BinOp.TheVariants.{Add}
use Rattle.pyd_value.specs.declared.operator.CmpOp.TheVariants.{Lt}
use Rattle.pyd_ops.specs.Answer.{outcome_of}
use Rattle.pyd_ops.specs.Calls.{and_then}
use Rattle.pyd_ops.specs.Comparing.{compare}
use Rattle.pyd_ops.specs.Operators.{binary}
use Rattle.pyd_ops.proofs.Outcomes.{value_of}
use Rattle.pyd_ops_tests.proofs.callers.sum_is_less.Goals as goal

pub returns-in-Ok : goal.returns-in-Ok
returns-in-Ok c =
    let sum = binary Add c.args.a.now c.args.b.now c.args.at in
    c.compare-less.ensures
    ∙ ap (λ r. outcome_of (and_then r (λ v. compare Lt v c.args.c.now c.args.at))) (sym (value_of sum c.in-Ok.sum (sym c.in-Ok.is ∙ c.in_ok-sum.ensures)))
