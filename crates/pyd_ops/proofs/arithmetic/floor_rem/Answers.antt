-- The remainder that isn't negative is a divisor too great where the divisor is negative and it isn't 0.
use Rattle.pyd_ops.proofs.Division.{rest_lower, rest_upper}
use Rattle.pyd_ops.proofs.arithmetic.floor_rem.Goals as goal

pub returns-then-rest-ne0-clause-value : goal.returns-then-rest-ne0-clause-value
returns-then-rest-ne0-clause-value c =
    rest_lower c.args.m c.args.n c.wrapping_rem_euclid-rest.result (record { first = c.ranges.m; second = c.ranges.n })
    (record { sfits = c.wrapping_rem_euclid-rest.type_inv }) c.wrapping_rem_euclid-rest.ensures c.if-n-lt0.true c.if-rest-ne0.true

pub returns-else-n-lt0-clause-value : goal.returns-else-n-lt0-clause-value
returns-else-n-lt0-clause-value c =
    rest_upper c.args.m c.args.n c.wrapping_rem_euclid-rest.result (record { first = c.ranges.m; second = c.ranges.n })
    (record { sfits = c.wrapping_rem_euclid-rest.type_inv }) c.wrapping_rem_euclid-rest.ensures c.else-n-lt0.either
