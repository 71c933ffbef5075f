-- The bits of both numbers in 128 bits are their bits.
use Rattle.std.proofs.Common.{◌∙◌, sym, ap, Some}
use Rattle.pyd_ops.proofs.Limits.{some_within}
use Rattle.pyd_ops.proofs.TwosComplement.{or_is, bits_or_fits}
use Rattle.pyd_ops.proofs.arithmetic.bits_or.Goals as goal

pub returns : goal.returns
returns c =
    ap Some (or_is c.args.m c.args.n c.ranges.m c.ranges.n) ∙ sym (some_within _ (bits_or_fits c.args.m c.args.n c.ranges.m c.ranges.n))
