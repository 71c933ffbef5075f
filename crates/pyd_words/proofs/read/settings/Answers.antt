use Rattle.std.proofs.Common.{◌∙◌, Ok, ap, sym}
use Rattle.pyd_words.specs.Words.{plan_of, settings}
use Rattle.pyd_words.proofs.Steps.{chosen, ends, goes_on, otherwise, refused, same_answer, stopped}
use Rattle.pyd_words.proofs.read.settings.Goals as goal

pub returns-in_err-numbers : goal.returns-in_err-numbers
unfolding settings
returns-in_err-numbers c = refused _ _ _ (ends _ _ _ c.in_err-numbers.ensures) c.from_residual.ensures.1

pub returns-in_err-losses : goal.returns-in_err-losses
unfolding settings
returns-in_err-losses c =
    same_answer _ _ _ (goes_on _ _ _ c.in_ok-numbers.ensures) (stopped _ _ _ _ c.in_err-losses.ensures c.from_residual-in_err-losses.ensures.1)

pub returns-then-not-number_stands : goal.returns-then-not-number_stands
unfolding settings
returns-then-not-number_stands c =
    sym (otherwise _ _ _ c.if-not-number_stands.ensures ∙ goes_on _ _ _ (sym c.in_ok-losses.ensures) ∙ goes_on _ _ _ c.in_ok-numbers.ensures)

pub returns : goal.returns
unfolding settings
returns c =
    sym (ap (λ near. Ok (plan_of c.args.mode c.in_ok-numbers.numbers near c.in_ok-losses.losses)) c.near_in.ensures
    ∙ chosen _ _ _ c.if-not-number_stands.ensures
    ∙ goes_on _ _ _ (sym c.in_ok-losses.ensures)
    ∙ goes_on _ _ _ c.in_ok-numbers.ensures)
