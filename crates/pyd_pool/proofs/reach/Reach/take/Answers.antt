use Rattle.std.proofs.Common.{◌<◌, [], ◌∷◌, ap, arith}
use Rattle.crossbeam_deque.specs.Handles.{worker_view}
use Rattle.pyd_pool.specs.declared.account.Account.{Account}
use Rattle.pyd_pool.specs.Accounts.{weigh}
use Rattle.pyd_pool.proofs.Steps.{take_deque, weigh-append}
use Rattle.pyd_pool.proofs.reach.Reach.take.Goals as goal

pub pop_as-requires-clause-fifo : goal.pop_as-requires-clause-fifo
pop_as-requires-clause-fifo g c = λ _. let p = c.args.self.now.part in let f = c.args.self.now.few in take_deque _ _ (omega arith)

pub returns-in-Some-clause-rule : goal.returns-in-Some-clause-rule
returns-in-Some-clause-rule g c = λ h. let e = ap (λ (u : Account). weigh h u.put) c.in-Some.ensures.rule in let k = ap (λ (u : Account). weigh h u.taken) c.in-Some.ensures.rule in
    let w = weigh-append h (worker_view c.args.self.now.own).taken (c.in-Some.ticket ∷ []) in (omega arith, omega arith)
