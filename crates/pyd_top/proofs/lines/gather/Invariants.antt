use Rattle.std.proofs.Common.{◌≤◌, take}
use Rattle.pyd_meaning.specs.Module.{bytes_of}
use Rattle.pyd_top.specs.Lines.{Gathers}
use Rattle.pyd_top.proofs.lines.gather.Given as goal

abbrev pub invariant-loop-line : goal.invariant-loop-line
invariant-loop-line g l =
    record {
      gathers : Gathers (g.K.Sink.held l.initial.out) (g.K.Sink.held l.out) l.waiting.items (bytes_of (take l.line-index l.lines));
      never_falls : g.K.Sink.faults l.initial.out ≤ g.K.Sink.faults l.out;
    }
