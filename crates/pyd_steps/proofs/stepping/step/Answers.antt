use Rattle.pyd_steps.proofs.Results.{if_ok}
use Rattle.pyd_steps.proofs.StepAsked.{all_behind, asks_then_on, losses_told}
use Rattle.pyd_steps.proofs.Stepped.{steps_on}
use Rattle.pyd_steps.proofs.stepping.step.Goals as goal

pub returns-clause-steps : goal.returns-clause-steps
returns-clause-steps g c =
    if_ok c.go_on.result _ _ (λ answer is.
    steps_on c.args.halted c.args.core.now c.lose_due.new.self c.go_on.new.core c.args.who _ _
    answer c.lose_due.ensures.losses c.lose_due.ensures.none_due is) c.go_on.ensures.goes_on

pub returns-clause-asks : goal.returns-clause-asks
returns-clause-asks g c =
    asks_then_on c.beginning_law.ensures c.args.core.now c.lose_due.new.self c.go_on.new.core
    c.args.who c.args.halted _ _ _ _ _ c.go_on.result c.lose_due.ensures.losses
    (losses_told c.args.core.now c.lose_due.new.self _ _ c.args.who.seat _
    c.lose_due.ensures.losses
    (all_behind c.args.core.now.log.journal c.lose_due.new.self.log.journal.items
    c.deref.result.now c.len-before.result c.deref.ensures.value
    c.len-before.ensures)
    c.tell.ensures)
    c.go_on.ensures.goes_on c.go_on.ensures.memory c.go_on.ensures.asks
