-- A product with a power of 2 below 2^127 is checked, and of the others few are within the limits.
use Rattle.pyd_ops.proofs.Powers.{shifts, shifts_past}
use Rattle.pyd_ops.proofs.arithmetic.checked_shift_left.Goals as goal

pub returns-then-n-lt127 : goal.returns-then-n-lt127
returns-then-n-lt127 c = shifts c.checked_mul.result c.args.m c.args.n c.ranges.m c.if-n-lt127.true c.checked_mul.ensures

pub returns-else-m-eqminus1 : goal.returns-else-m-eqminus1
returns-else-m-eqminus1 c = shifts_past c.args.m c.args.n c.ranges.m c.if-n-lt127.false c.if-m-eq0.false c.else-m-eqminus1.either
