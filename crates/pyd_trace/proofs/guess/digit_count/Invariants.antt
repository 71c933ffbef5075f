use Rattle.std.proofs.Common.{ℕ, ◌<◌, slice_index_or}
use Rattle.std.specs.Char.{IsAsciiDigit}
use Rattle.pyd_trace.proofs.guess.digit_count.Given as goal

abbrev pub invariant-loop-i : goal.invariant-loop-i
invariant-loop-i l = (k : ℕ) → k < l.i → IsAsciiDigit (slice_index_or l.bytes k 0)
