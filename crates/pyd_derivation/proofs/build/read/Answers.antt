use Rattle.pyd_derivation.proofs.Back.{may_back_from, on_back_from}
use Rattle.pyd_derivation.specs.Productions.{grammar}
use Rattle.pyd_derivation.proofs.build.read.Goals as goal
use Rattle.std.proofs.Common.{arith}

pub back-requires : goal.back-requires
back-requires c = may_back_from grammar c.args.steps.now c.args.tokens.now c.loop-i.i c.loop-i.at c.loop-i-test.true c.loop-i.invariant.within c.requires.known c.loop-i.invariant.left c.loop-i.invariant.tokens

pub loop-i-preserved : goal.loop-i-preserved
loop-i-preserved c =
    let t = on_back_from grammar c.args.bytes.now c.args.steps.now c.args.tokens.now c.loop-i.i c.loop-i.at c.in-Ok.next _ _ c.loop-i-test.true c.loop-i.invariant.within
    c.loop-i.invariant.left c.loop-i.invariant.tokens c.loop-i.invariant.read c.in-Ok.ensures in
    record { within = omega arith; tokens = t.0; left = t.1; read = t.2 }
