use Rattle.pyd_derivation.proofs.Back.{may_back_from}
use Rattle.pyd_derivation.specs.Productions.{grammar}
use Rattle.pyd_measure.proofs.Steps.{on_back_from, suites_left}
use Rattle.pyd_measure.proofs.measured.read.Goals as goal
use Rattle.std.proofs.Common.{arith, drop}

pub back-requires-clause-may : goal.back-requires-clause-may
back-requires-clause-may c = may_back_from grammar c.args.steps.now c.args.tokens.now c.loop-i.i c.loop-i.at c.loop-i-test.true c.loop-i.invariant.within c.requires.known c.loop-i.invariant.left c.loop-i.invariant.tokens

pub back-requires-clause-suites : goal.back-requires-clause-suites
back-requires-clause-suites c = suites_left (drop c.loop-i.i c.args.steps.now) c.args.tokens.now c.loop-i.at _ c.loop-i.invariant.known

pub loop-i-preserved : goal.loop-i-preserved
loop-i-preserved c =
    let t = on_back_from c.args.steps.now c.args.tokens.now c.loop-i.i c.loop-i.at c.in-Ok.next _ _ c.loop-i-test.true c.loop-i.invariant.within
    c.loop-i.invariant.left c.loop-i.invariant.tokens c.loop-i.invariant.known c.in-Ok.ensures in
    record { within = omega arith; tokens = t.0; left = t.1; known = t.2 }
