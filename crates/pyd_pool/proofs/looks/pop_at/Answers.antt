use Rattle.std.proofs.Common.{◌≡◌, ap, sym, refl, ◌∙◌, ◌+◌, arith}
use Rattle.pyd_pool.specs.declared.account.Account.{Account}
use Rattle.pyd_pool.specs.Hands.{queue_account, queue_id}
use Rattle.pyd_pool.proofs.Sums.{map_same, puts_same, takes_same, puts_more, takes_more}
use Rattle.pyd_pool.proofs.looks.pop_at.Goals as goal

pub returns-in-Some-clause-same : goal.returns-in-Some-clause-same
returns-in-Some-clause-same g c = map_same queue_id c.args.queues.now.items c.args.at c.index_mut.result.now c.pop.new.self (omega arith) c.index_mut.ensures.value c.pop.ensures.same.0

pub returns-in-Some-clause-put : goal.returns-in-Some-clause-put
returns-in-Some-clause-put g c = λ h. puts_same queue_account h c.args.queues.now.items c.args.at c.index_mut.result.now c.pop.new.self (omega arith) c.index_mut.ensures.value (ap (λ (u : Account). u.put) c.in-Some.ensures.rule)

pub returns-in-Some-clause-rule : goal.returns-in-Some-clause-rule
returns-in-Some-clause-rule g c = λ h. takes_more queue_account h c.args.queues.now.items c.args.at c.index_mut.result.now c.pop.new.self c.in-Some.ticket (omega arith) c.index_mut.ensures.value (ap (λ (u : Account). u.taken) c.in-Some.ensures.rule)

pub returns-in-None-clause-same : goal.returns-in-None-clause-same
returns-in-None-clause-same g c = map_same queue_id c.args.queues.now.items c.args.at c.index_mut.result.now c.pop.new.self (omega arith) c.index_mut.ensures.value c.pop.ensures.same.0

pub returns-in-None-clause-put : goal.returns-in-None-clause-put
returns-in-None-clause-put g c = λ h. puts_same queue_account h c.args.queues.now.items c.args.at c.index_mut.result.now c.pop.new.self (omega arith) c.index_mut.ensures.value (ap (λ (u : Account). u.put) c.in-None.ensures.rule.0)

pub returns-in-None-clause-rule : goal.returns-in-None-clause-rule
returns-in-None-clause-rule g c = λ h. takes_same queue_account h c.args.queues.now.items c.args.at c.index_mut.result.now c.pop.new.self (omega arith) c.index_mut.ensures.value (ap (λ (u : Account). u.taken) c.in-None.ensures.rule.0)
