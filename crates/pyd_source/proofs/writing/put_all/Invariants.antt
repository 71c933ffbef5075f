use Rattle.std.proofs.Common.{◌-◌, ◌≤◌, ◌≡◌, length, take}
use Rattle.pyd_source.specs.Content.{Added, Lowered}
use Rattle.pyd_source.proofs.writing.put_all.Given as goal

-- the first `gone` bytes went out
abbrev pub invariant-loop-gone : goal.invariant-loop-gone
invariant-loop-gone g l = record {
  within : l.gone ≤ length l.bytes;
  added : Added (g.K.Sink.held l.fn.sink) (take l.gone l.bytes) (g.K.Sink.held l.sink);
  lowered : Lowered (g.K.Sink.room l.fn.sink) l.gone (g.K.Sink.room l.sink);
  counted : g.K.Sink.faults l.fn.sink ≤ g.K.Sink.faults l.sink;
  same : g.K.Sink.sure l.sink ≡ g.K.Sink.sure l.fn.sink;
}

abbrev pub decreases-loop-gone : goal.decreases-loop-gone
decreases-loop-gone g l = length l.bytes - l.gone
