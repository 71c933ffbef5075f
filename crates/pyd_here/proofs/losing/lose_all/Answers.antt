use Rattle.std.proofs.Common.{sym, ◌∙◌}
use Rattle.pyd_here.proofs.Losses.{no_end, none_gone, one_gone}
use Rattle.pyd_here.proofs.Onward.{goes_none}
use Rattle.pyd_here.proofs.losing.lose_all.Goals as goal

pub returns-then-has_ended-clause-goes : goal.returns-then-has_ended-clause-goes
returns-then-has_ended-clause-goes c told choices =
    goes_none c.args.core.now told choices c.requires.core

pub loop-machine-init : goal.loop-machine-init
loop-machine-init c =
    none_gone c.args.core.now c.requires.core c.requires.begun
    (no_end c.args.core.now (sym c.if-has_ended.false ∙ c.has_ended.ensures))

pub loop-machine-smaller : goal.loop-machine-smaller
loop-machine-smaller c = c.lose.ensures.nearer

pub loop-machine-preserved : goal.loop-machine-preserved
loop-machine-preserved c =
    one_gone c.beginning_law.ensures c.args.core.now c.loop-machine.core c.lose.new.core
    c.loop-machine.invariant (record {
      is_core = c.lose.ensures.core;
      begun = c.lose.ensures.begun;
      goes_on = c.lose.ensures.goes_on;
      here = c.lose.ensures.here;
      goes = c.lose.ensures.goes;
    })
