use Rattle.pyd_steps.proofs.StepAsked.{all_behind, losses_told}
use Rattle.pyd_steps.proofs.losing.lose_due.Goals as goal

pub returns-clause-asks : goal.returns-clause-asks
returns-clause-asks g c =
    losses_told c.args.core.now c.lose_due.new.self _ _ c.args.seat _ c.lose_due.ensures.losses
    (all_behind c.args.core.now.log.journal c.lose_due.new.self.log.journal.items
    c.deref.result.now c.len-before.result c.deref.ensures.value c.len-before.ensures)
    c.tell.ensures
