use Rattle.std.proofs.Common.{◌∙◌}
use Rattle.pyd_words.specs.Words.{numbers}
use Rattle.pyd_words.proofs.Steps.{goes_on, ends, handed}
use Rattle.pyd_words.proofs.read.numbers.Goals as goal

pub returns-in_err-machines : goal.returns-in_err-machines
unfolding numbers
returns-in_err-machines c =
    handed _ _ c.from_residual.ensures.1
    ∙ ends _ _ _ c.in_err-machines.ensures

pub returns-in_err-workers : goal.returns-in_err-workers
unfolding numbers
returns-in_err-workers c =
    handed _ _ c.from_residual-in_err-workers.ensures.1
    ∙ ends _ _ _ c.in_err-workers.ensures
    ∙ goes_on _ _ _ c.in_ok-machines.ensures

pub returns-in_err-turns : goal.returns-in_err-turns
unfolding numbers
returns-in_err-turns c =
    handed _ _ c.from_residual-in_err-turns.ensures.1
    ∙ ends _ _ _ c.in_err-turns.ensures.value
    ∙ goes_on _ _ _ c.in_ok-workers.ensures
    ∙ goes_on _ _ _ c.in_ok-machines.ensures

pub returns-in_err-depth : goal.returns-in_err-depth
unfolding numbers
returns-in_err-depth c =
    handed _ _ c.from_residual-in_err-depth.ensures.1
    ∙ ends _ _ _ c.in_err-depth.ensures
    ∙ goes_on _ _ _ c.in_ok-turns.ensures.value
    ∙ goes_on _ _ _ c.in_ok-workers.ensures
    ∙ goes_on _ _ _ c.in_ok-machines.ensures

pub returns-in_err-window : goal.returns-in_err-window
unfolding numbers
returns-in_err-window c =
    handed _ _ c.from_residual-in_err-window.ensures.1
    ∙ ends _ _ _ c.in_err-window.ensures
    ∙ goes_on _ _ _ c.in_ok-depth.ensures
    ∙ goes_on _ _ _ c.in_ok-turns.ensures.value
    ∙ goes_on _ _ _ c.in_ok-workers.ensures
    ∙ goes_on _ _ _ c.in_ok-machines.ensures

pub returns-in_err-number : goal.returns-in_err-number
unfolding numbers
returns-in_err-number c =
    handed _ _ c.from_residual-in_err-number.ensures.1
    ∙ ends _ _ _ c.in_err-number.ensures.value
    ∙ goes_on _ _ _ c.in_ok-window.ensures
    ∙ goes_on _ _ _ c.in_ok-depth.ensures
    ∙ goes_on _ _ _ c.in_ok-turns.ensures.value
    ∙ goes_on _ _ _ c.in_ok-workers.ensures
    ∙ goes_on _ _ _ c.in_ok-machines.ensures

pub returns : goal.returns
unfolding numbers
returns c =
    goes_on _ _ _ c.in_ok-number.ensures.value
    ∙ goes_on _ _ _ c.in_ok-window.ensures
    ∙ goes_on _ _ _ c.in_ok-depth.ensures
    ∙ goes_on _ _ _ c.in_ok-turns.ensures.value
    ∙ goes_on _ _ _ c.in_ok-workers.ensures
    ∙ goes_on _ _ _ c.in_ok-machines.ensures
