use Rattle.std.proofs.Common.{◌<◌, refl, true, arith}
use Rattle.pyd_value.specs.declared.value.Value.TheVariants as value
use Rattle.pyd_ir.specs.declared.arg.Arg.TheVariants.{Known}
use Rattle.pyd_refine.proofs.Ended.{made_as}
use Rattle.pyd_refine.proofs.LoopForms.{while_turn}
use Rattle.pyd_refine.proofs.turn.while_turn.Goals as goal

pub returns : goal.returns
returns c =
    let lt : c.args.round.now.turns < c.args.round.now.limits.turns = omega (arith, c.left.ensures, c.if-left-eq0.false) in
    made_as _ _ _ _ _ _ _ (while_turn c.args.at.now c.args.round.now c.args.line c.args.env.now.items true (Known value.None) refl lt refl) c.go_on-made.ensures
