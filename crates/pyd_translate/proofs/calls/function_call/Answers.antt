use Rattle.std.proofs.Common.{sym, ◌∙◌}
use Rattle.pyd_translate.proofs.Operands.{function_missing, function_uneven, function_even, other_form}
use Rattle.pyd_translate.proofs.calls.function_call.Goals as goal

pub returns-in_default : goal.returns-in_default
returns-in_default c =
    other_form _ _ _ _ _ (function_missing _ _ _ _ c.in_default.ensures) c.in_ok-stop_by.ensures

pub returns-then-len-routine : goal.returns-then-len-routine
returns-then-len-routine c =
    other_form _ _ _ _ _ (function_uneven _ _ _ _ c.in-Some.routine.now c.in-Some.ensures (λ e. c.if-len-routine.true (c.len.ensures ∙ e))) c.in_ok-stop_by-2.ensures

pub returns : goal.returns
returns c =
    other_form _ _ _ _ _ (function_even _ _ _ _ c.in-Some.routine.now c.in-Some.ensures (sym c.len.ensures ∙ c.if-len-routine.false))
    (rw c.function_work.ensures at c.in_ok-emit_value.ensures)
