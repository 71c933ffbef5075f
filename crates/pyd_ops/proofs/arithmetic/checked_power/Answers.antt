-- From an exponent of 128 on few bases have a power within the limits.
use Rattle.std.proofs.Common.{inl, inr}
use Rattle.pyd_ops.proofs.Powers.{base_kept, even_base, odd_base, base_past}
use Rattle.pyd_ops.proofs.arithmetic.checked_power.Goals as goal

pub returns-then-n-eq0 : goal.returns-then-n-eq0
returns-then-n-eq0 c = even_base c.args.m c.args.n c.ranges.m c.if-m-eqminus1.true c.if-n-eq0.true

pub returns-else-n-eq0 : goal.returns-else-n-eq0
returns-else-n-eq0 c = odd_base c.args.m c.args.n c.ranges.m c.if-m-eqminus1.true c.if-n-eq0.false

pub returns-then-m-eq1 : goal.returns-then-m-eq1
returns-then-m-eq1 c =
    base_kept c.args.m c.args.n c.ranges.m c.if-n-lt128.false (elim c.if-m-eq1.either [ inl e ↦ inl e | inr e ↦ inr e.1 ])

pub returns-else-m-eqminus1 : goal.returns-else-m-eqminus1
returns-else-m-eqminus1 c =
    let h = c.if-m-eq1.false in
    base_past c.args.m c.args.n h.0 h.1 c.if-m-eqminus1.false c.if-n-lt128.false
