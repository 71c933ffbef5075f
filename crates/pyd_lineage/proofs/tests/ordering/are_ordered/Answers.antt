use Rattle.std.proofs.Common.{◌≡◌, ◌++◌, drop, subst, arith}
use Rattle.pyd_lineage.specs.Ordered.{AreOrdered}
use Rattle.pyd_lineage.proofs.tests.ordering.are_ordered.Goals as goal

pub returns : goal.returns
returns c = λ holds behind ordered.
    let over : c.loop-left.left ≡ 0 = omega (arith, c.loop-left-test.false) in
    subst (λ i. AreOrdered c.loop-left.later (drop i c.args.nodes.now ++ behind)) over
    (c.loop-left.invariant.ordered behind ordered)
