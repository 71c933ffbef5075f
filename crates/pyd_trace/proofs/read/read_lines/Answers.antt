use Rattle.std.proofs.Common.{◌∷◌, [], arith, ap, length, subst, sym}
use Rattle.pyd_trace.specs.Guessing.{AreLinesSoFar, CutsLine}
use Rattle.pyd_trace.proofs.Lines.{lines_more, line_shortens}
use Rattle.std.proofs.lemmas.List.{length-append}
use Rattle.pyd_trace.proofs.read.read_lines.Goals as goal

pub loop-rest-preserved : goal.loop-rest-preserved
loop-rest-preserved c =
    let cut : CutsLine c.loop-rest.rest.now c.in-Some.event c.in-Some.more.now = rw c.in-Some.is at c.in_ok-event.ensures.found in
    let pushed = c.in_ok-push.ensures.items in
    record {
      so_far = subst (λ events. AreLinesSoFar c.args.lines.now events c.in-Some.more.now) (sym pushed)
          (lines_more c.args.lines.now c.loop-rest.rest.now c.in-Some.more.now c.loop-rest.events.items c.in-Some.event c.loop-rest.invariant.so_far cut);
      number = omega (arith, c.loop-rest.invariant.number, ap length pushed, length-append c.loop-rest.events.items (c.in-Some.event ∷ []));
      bound = omega (arith, c.loop-rest.invariant.bound, line_shortens c.loop-rest.rest.now c.in-Some.more.now c.in-Some.event cut);
    }
