-- A turn adds what the sink took to what had gone out.
use Rattle.std.proofs.Common.{arith, subst, ◌∙◌}
use Rattle.pyd_source.specs.Content.{Added}
use Rattle.pyd_source.proofs.Moves.{added_more, lowered_more, gone_within, gone_more}
use Rattle.pyd_source.proofs.Prefixes.{prefix_take}
use Rattle.pyd_source.proofs.writing.put_all.Goals as goal

pub loop-gone-preserved : goal.loop-gone-preserved
loop-gone-preserved g c =
    let so_far = c.loop-gone.invariant in
    let call = c.in-Ok.ensures in
    let bytes = c.args.bytes.now in
    record {
      within = gone_within bytes c.loop-gone.gone c.in-Ok.count so_far.within call.within;
      added =
          subst (λ gone. Added (g.K.Sink.held c.args.sink.now) gone (g.K.Sink.held c.put.new.self))
          (gone_more bytes c.loop-gone.gone c.in-Ok.count)
          (added_more _ _ _ _ _ so_far.added call.ok);
      lowered = lowered_more _ _ _ _ _ so_far.lowered call.lowered;
      counted = omega (arith, so_far.counted, call.cause.never_falls);
      same = call.same ∙ so_far.same;
    }

pub returns-in-Err-clause-err : goal.returns-in-Err-clause-err
returns-in-Err-clause-err g c =
    let so_far = c.loop-gone.invariant.added in
    prefix_take _ _ c.args.bytes.now c.loop-gone.gone (rw c.in-Err.ensures.kept so_far)
