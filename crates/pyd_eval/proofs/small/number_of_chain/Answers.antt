use Rattle.pyd_eval.proofs.Numbers.{chain-begins, chain-goes_on, chain-ends}
use Rattle.pyd_eval.proofs.small.number_of_chain.Goals as goal

pub loop-link-init : goal.loop-link-init
loop-link-init c =
    chain-begins c.args.on.now c.args.first.now c.args.links.now c.args.line c.args.slots.now c.in_ok-left.left.value c.in_ok-left.ensures

pub loop-link-preserved : goal.loop-link-preserved
loop-link-preserved c =
    chain-goes_on c.args.on.now c.args.first.now c.args.links.now c.args.line c.args.slots.now c.loop-link.link-index c.link-item.result c.loop-link.left.value c.in_ok-right.right.value c.in_ok-left-2.left.value c.loop-link-test.true c.link-item.is c.in_ok-right.ensures c.in_ok-left-2.ensures c.loop-link.invariant

pub returns : goal.returns
returns c =
    chain-ends c.args.on.now c.args.first.now c.args.links.now c.args.line c.args.slots.now c.loop-link.link-index c.loop-link.left.value c.loop-link-test.false c.loop-link.invariant
