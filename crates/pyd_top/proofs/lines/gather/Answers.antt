use Rattle.std.proofs.Common.{subst, arith, take_all}
use Rattle.pyd_meaning.specs.Module.{bytes_of}
use Rattle.pyd_top.specs.Lines.{Gathers}
use Rattle.pyd_top.proofs.Gathering.{gathers_none, gathers_more, prefix_more}
use Rattle.pyd_top.proofs.Pieces.{on_err}
use Rattle.pyd_top.proofs.lines.gather.Goals as goal

pub returns-in_err-add_line-clause-err : goal.returns-in_err-add_line-clause-err
returns-in_err-add_line-clause-err g c =
    on_err c.from_residual.result
    (prefix_more _ _ _ c.loop-line.waiting.items c.args.lines.now c.loop-line.line-index c.line-item.result c.loop-line-test.true c.line-item.is c.loop-line.invariant.gathers
    c.in_err-add_line.ensures.err)

pub loop-line-init : goal.loop-line-init
loop-line-init g c = record { gathers = gathers_none _ _ c.requires; never_falls = omega arith }

pub loop-line-preserved : goal.loop-line-preserved
loop-line-preserved g c =
    record {
      gathers =
          gathers_more _ _ _ c.loop-line.waiting.items c.add_line.new.waiting.items c.args.lines.now c.loop-line.line-index c.line-item.result c.loop-line-test.true c.line-item.is
          c.loop-line.invariant.gathers c.in_ok-add_line.ensures.ok;
      never_falls = omega (arith, c.loop-line.invariant.never_falls, c.add_line.ensures.cause.never_falls);
    }

pub returns-clause-ok : goal.returns-clause-ok
returns-clause-ok g c =
    subst (λ lines. Gathers (g.K.Sink.held c.args.out.now) (g.K.Sink.held c.loop-line.out) c.loop-line.waiting.items (bytes_of lines))
    (take_all c.loop-line.line-index c.args.lines.now c.loop-line-test.false) c.loop-line.invariant.gathers
