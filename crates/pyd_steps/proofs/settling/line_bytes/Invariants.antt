-- The bytes of the lines so far.
use Rattle.std.proofs.Common.{◌≡◌, take}
use Rattle.pyd_meaning.specs.Module.{bytes_of}
use Rattle.pyd_steps.proofs.settling.line_bytes.Given as goal

abbrev pub invariant-loop-line : goal.invariant-loop-line
invariant-loop-line l = l.bytes.items ≡ bytes_of (take l.line-index l.lines)
