use Rattle.std.proofs.Common.{◌-◌, ◌+◌, ◌<◌, ◌≤◌, vec_len}
use Rattle.pyd_source.specs.Content.{Taken}
use Rattle.pyd_source.proofs.reading.read_all.Given as goal

-- what is read is what was taken, within the limit
abbrev pub invariant-loop-bytes : goal.invariant-loop-bytes
invariant-loop-bytes g l = record {
  chunk : 0 < vec_len l.chunk;
  within : vec_len l.bytes ≤ l.limit;
  taken : Taken (g.S.Source.left l.fn.source) l.bytes.items (g.S.Source.left l.source);
  counted : g.S.Source.faults l.fn.source ≤ g.S.Source.faults l.source;
}

abbrev pub decreases-loop-bytes : goal.decreases-loop-bytes
decreases-loop-bytes g l = l.limit + 1 - vec_len l.bytes
