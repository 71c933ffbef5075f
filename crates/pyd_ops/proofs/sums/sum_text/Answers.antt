-- No start can be added to a character.
use Rattle.std.proofs.Common.{◌∙◌, ap, sym}
use Rattle.pyd_ops.specs.Answer.{outcome_of}
use Rattle.pyd_ops.proofs.Summing.{no_sum_of_characters}
use Rattle.pyd_ops.proofs.sums.sum_text.Goals as goal

pub returns-in_default-2 : goal.returns-in_default-2
returns-in_default-2 c =
    c.raise-in_default-2.ensures
    ∙ ap outcome_of (sym (no_sum_of_characters c.args.start.now c.args.s.now c.args.line c.is_empty.result c.is_empty.ensures.1 c.if-is_empty.false))
