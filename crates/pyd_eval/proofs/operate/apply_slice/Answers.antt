use Rattle.std.proofs.Common.{◌∙◌}
use Rattle.pyd_eval.proofs.Expressions.{answer_of}
use Rattle.pyd_eval.proofs.operate.apply_slice.Goals as goal

pub returns : goal.returns
returns c = answer_of _ _ (c.given.ensures ∙ rw c.value.ensures at c.in_ok-answer.ensures)
