use Rattle.std.proofs.Common.{◌<◌, [], ◌∷◌, ap, arith}
use Rattle.crossbeam_deque.specs.Handles.{worker_view}
use Rattle.pyd_pool.specs.declared.account.Account.{Account}
use Rattle.pyd_pool.specs.Accounts.{weigh}
use Rattle.pyd_pool.proofs.Steps.{push_deque, weigh-append}
use Rattle.pyd_pool.proofs.reach.Reach.push.Goals as goal

pub push_as-requires-clause-pushes : goal.push_as-requires-clause-pushes
push_as-requires-clause-pushes g c = let p = c.args.self.now.part in let f = c.args.self.now.few in push_deque _ _ _ (omega arith)

pub returns-in-Ok-clause-rule : goal.returns-in-Ok-clause-rule
returns-in-Ok-clause-rule g c = λ h. let e = ap (λ (u : Account). weigh h u.put) c.in-Ok.ensures.rule.0 in let k = ap (λ (u : Account). weigh h u.taken) c.in-Ok.ensures.rule.0 in
    let w = weigh-append h (worker_view c.args.self.now.own).put (c.args.ticket ∷ []) in (omega arith, omega arith)
