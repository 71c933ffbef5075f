use Rattle.std.proofs.Common.{◌≡◌, ap, sym, refl, ◌∙◌, ◌+◌, arith}
use Rattle.pyd_pool.specs.declared.account.Account.{Account}
use Rattle.pyd_pool.specs.Hands.{queue_account, queue_id}
use Rattle.pyd_pool.proofs.Sums.{map_same, puts_same, takes_same, puts_more, takes_more}
use Rattle.pyd_pool.proofs.Merging.{put_there}
use Rattle.pyd_pool.proofs.looks.put_at.Goals as goal

pub returns-in-Ok-clause-same : goal.returns-in-Ok-clause-same
returns-in-Ok-clause-same g c = map_same queue_id c.args.queues.now.items c.args.at c.index_mut.result.now c.put.new.self (omega arith) c.index_mut.ensures.value c.put.ensures.same.0

pub returns-in-Ok-clause-taken : goal.returns-in-Ok-clause-taken
returns-in-Ok-clause-taken g c = λ h. takes_same queue_account h c.args.queues.now.items c.args.at c.index_mut.result.now c.put.new.self (omega arith) c.index_mut.ensures.value (ap (λ (u : Account). u.taken) c.in-Ok.ensures.rule)

pub returns-in-Ok-clause-rule : goal.returns-in-Ok-clause-rule
returns-in-Ok-clause-rule g c = λ h. puts_more queue_account h c.args.queues.now.items c.args.at c.index_mut.result.now c.put.new.self c.args.ticket (omega arith) c.index_mut.ensures.value (ap (λ (u : Account). u.put) c.in-Ok.ensures.rule)

pub returns-in-Err-clause-same : goal.returns-in-Err-clause-same
returns-in-Err-clause-same g c = map_same queue_id c.args.queues.now.items c.args.at c.index_mut.result.now c.put.new.self (omega arith) c.index_mut.ensures.value c.put.ensures.same.0

pub returns-in-Err-clause-taken : goal.returns-in-Err-clause-taken
returns-in-Err-clause-taken g c = λ h. takes_same queue_account h c.args.queues.now.items c.args.at c.index_mut.result.now c.put.new.self (omega arith) c.index_mut.ensures.value (ap (λ (u : Account). u.taken) c.in-Err.ensures.rule.1)

pub returns-in-Err-clause-rule : goal.returns-in-Err-clause-rule
returns-in-Err-clause-rule g c = (c.in-Err.ensures.rule.0, λ h. puts_same queue_account h c.args.queues.now.items c.args.at c.index_mut.result.now c.put.new.self (omega arith) c.index_mut.ensures.value (ap (λ (u : Account). u.put) c.in-Err.ensures.rule.1))

pub returns-in-Ok-clause-at : goal.returns-in-Ok-clause-at
returns-in-Ok-clause-at g c = put_there queue_account c.args.queues.now.items c.args.at c.index_mut.result.now c.put.new.self c.args.ticket (omega arith) c.index_mut.ensures.value c.in-Ok.ensures.rule
