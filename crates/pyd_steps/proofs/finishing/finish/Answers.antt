use Rattle.pyd_steps.proofs.ClaimAsked.{finish_asked}
use Rattle.pyd_steps.proofs.FirstLosses.{claim_still}
use Rattle.pyd_steps.proofs.StepAsked.{all_behind}
use Rattle.pyd_steps.proofs.finishing.finish.Goals as goal

pub finish-finished-requires-clause-holds : goal.finish-finished-requires-clause-holds
finish-finished-requires-clause-holds g c =
    claim_still c.event_law.ensures c.hold_law.ensures c.beginning_law.ensures c.run_law.ensures
    c.args.core.now c.lose_due.new.self c.args.who.seat c.requires.core c.lose_due.ensures.losses
    c.args.done.now.job.node c.args.done.now.job.attempt c.args.who.machine c.args.done.now.job
    c.requires.holds

pub returns-clause-asks : goal.returns-clause-asks
returns-clause-asks g c =
    let d = c.finish-finished.new.self in
    finish_asked c.args.core.now c.lose_due.new.self d c.args.done.now.job.node
    c.args.done.now.job.attempt c.args.who.machine c.args.who.seat _ _ _ c.finish-finished.result
    c.lose_due.ensures.losses c.finish-finished.ensures.entry c.finish-finished.ensures.memory
    (all_behind c.args.core.now.log.journal d.log.journal.items
    c.deref.result.now c.len-before.result c.deref.ensures.value c.len-before.ensures)
    c.tell.ensures
