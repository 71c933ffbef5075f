use Rattle.std.proofs.Common.{◌≡◌}
use Rattle.pyd_meaning.proofs.Levels.{out-tuple}
use Rattle.pyd_eval.proofs.iteration.range_span.Goals as goal

pub returns-in-Tuple-clause-value : goal.returns-in-Tuple-clause-value
returns-in-Tuple-clause-value c = rw (c.in-Tuple.is, out-tuple, ← c.as_slice.ensures) c.span_of.ensures.value

pub returns-in-Tuple-clause-range : goal.returns-in-Tuple-clause-range
returns-in-Tuple-clause-range c = c.span_of.ensures.range
