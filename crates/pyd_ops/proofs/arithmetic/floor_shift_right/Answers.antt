-- No more than 127 places matter.
use Rattle.pyd_ops.proofs.Division.{shifts_down}
use Rattle.pyd_ops.proofs.arithmetic.floor_shift_right.Goals as goal

pub returns-clause-value : goal.returns-clause-value
returns-clause-value c =
    shifts_down c.args.m c.args.n c.min.result c.ranges.m c.min.ensures
