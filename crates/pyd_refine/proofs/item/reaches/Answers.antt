use Rattle.std.proofs.Common.{pos, int_lt, sym, ap, ◌∙◌}
use Rattle.std.specs.Int.{w128}
use Rattle.std.proofs.lemmas.Int.{to_z-of_z}
use Rattle.pyd_ops.proofs.Limits.{fits_within}
use Rattle.pyd_refine.proofs.Spans.{reaches_up, reaches_down}
use Rattle.pyd_refine.proofs.item.reaches.Goals as goal

pub returns-then-step-gt0 : goal.returns-then-step-gt0
returns-then-step-gt0 c =
    rw (c.abs_diff.ensures, c.unsigned_abs.ensures.value, to_z-of_z w128 c.args.from c.ranges.from, to_z-of_z w128 c.args.step c.ranges.step) (reaches_up c.args.from c.args.step c.args.last (fits_within _ c.ranges.from) (ap (int_lt (pos 0)) (sym (to_z-of_z w128 c.args.step c.ranges.step)) ∙ c.if-step-gt0.true))

pub returns-else-step-gt0 : goal.returns-else-step-gt0
returns-else-step-gt0 c =
    rw (c.abs_diff-else-step-gt0.ensures, c.unsigned_abs-else-step-gt0.ensures.value, to_z-of_z w128 c.args.from c.ranges.from, to_z-of_z w128 c.args.step c.ranges.step) (reaches_down c.args.from c.args.step c.args.last (fits_within _ c.ranges.from) (ap (int_lt (pos 0)) (sym (to_z-of_z w128 c.args.step c.ranges.step)) ∙ c.if-step-gt0.false) c.requires)
