use Rattle.std.proofs.Common.{◌≡◌, take}
use Rattle.pyd_trace.specs.Text.{trace_text}
use Rattle.pyd_trace.proofs.write.trace_text.Given as goal

abbrev pub invariant-loop-event : goal.invariant-loop-event
invariant-loop-event l = l.text.items ≡ trace_text (take l.event-index l.journal)
