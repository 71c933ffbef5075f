use Rattle.std.proofs.Common.{◌∙◌, sym}
use Rattle.pyd_words.specs.Words.{plan}
use Rattle.pyd_words.proofs.Steps.{chosen, ends, goes_on, otherwise, refused, same_answer}
use Rattle.pyd_words.proofs.read.plan.Goals as goal

pub returns-in_err-mode : goal.returns-in_err-mode
unfolding plan
returns-in_err-mode c = refused _ _ _ (ends _ _ _ c.in_err-mode.ensures) c.from_residual.ensures.1

pub returns-then-not-are_formed : goal.returns-then-not-are_formed
unfolding plan
returns-then-not-are_formed c = sym (otherwise _ _ _ c.if-not-are_formed.ensures ∙ goes_on _ _ _ c.in_ok-mode.ensures)

pub returns : goal.returns
unfolding plan
returns c = same_answer _ _ _ (chosen _ _ _ c.if-not-are_formed.ensures ∙ goes_on _ _ _ c.in_ok-mode.ensures) c.settings.ensures
