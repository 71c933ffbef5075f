-- The quotient whose remainder isn't negative is 1 too great where the divisor is and something remains.
use Rattle.std.proofs.Common.{◌≡◌, FitsSigned, rules}
use Rattle.std.specs.Int.{w128, int_div_euclid}
use Rattle.pyd_ops.proofs.Division.{quotient_lower, quotient_kept, quotient_exact, quotient_upper}
use Rattle.pyd_ops.proofs.arithmetic.floor_div.Goals as goal
use Rattle.pyd_ops.proofs.arithmetic.floor_div.Goals.{else-n-lt0-via-then-n-lt0+else-wrapping_rem_euclid-ne0, else-n-lt0-via-else-n-lt0}

pub returns-then-wrapping_rem_euclid-ne0 : goal.returns-then-wrapping_rem_euclid-ne0
returns-then-wrapping_rem_euclid-ne0 c =
    let f : FitsSigned w128 c.in_ok-rounded.rounded = search rules in
    let e : c.in_ok-rounded.rounded ≡ int_div_euclid c.args.m c.args.n = search rules in
    quotient_lower c.args.m c.args.n c.in_ok-rounded.rounded c.wrapping_rem_euclid.result
    (record { first = c.ranges.m; second = c.ranges.n })
    f e c.wrapping_rem_euclid.ensures c.if-n-lt0.true c.if-wrapping_rem_euclid-ne0.true

pub returns-else-n-lt0 : goal.returns-else-n-lt0
returns-else-n-lt0 c =
    let f : FitsSigned w128 c.in_ok-rounded.rounded = search rules in
    let e : c.in_ok-rounded.rounded ≡ int_div_euclid c.args.m c.args.n = search rules in
    elim c.else-n-lt0.branch [
      | else-n-lt0-via-then-n-lt0+else-wrapping_rem_euclid-ne0 w ↦
          quotient_kept c.args.m c.args.n c.in_ok-rounded.rounded f e
          (quotient_exact c.args.m c.args.n w.wrapping_rem_euclid.result (record { first = c.ranges.m; second = c.ranges.n })
          c.requires (record { sfits = w.wrapping_rem_euclid.type_inv }) w.wrapping_rem_euclid.ensures w.if-wrapping_rem_euclid-ne0.false)
      | else-n-lt0-via-else-n-lt0 w ↦
          quotient_kept c.args.m c.args.n c.in_ok-rounded.rounded f e
          (quotient_upper c.args.m c.args.n (record { first = c.ranges.m; second = c.ranges.n }) w.if-n-lt0.false)
    ]
