use Rattle.std.proofs.Common.{◌≡◌, ◌<◌, ◌+◌, ap, sym, ◌∙◌, [], ◌∷◌, arith}
use Rattle.crossbeam_deque.specs.Handles.{worker_view}
use Rattle.pyd_pool.specs.declared.account.Account.{Account}
use Rattle.pyd_pool.specs.Accounts.{weigh}
use Rattle.pyd_pool.proofs.Steps.{take_deque, settles, weigh-append}
use Rattle.pyd_pool.proofs.closing.drain_owner.Goals as goal

pub pop_as-requires-clause-fifo : goal.pop_as-requires-clause-fifo
pop_as-requires-clause-fifo g c = λ _. let p = c.loop.invariant.parts in take_deque _ _ (omega arith)

pub returns-in-None-pop_as : goal.returns-in-None-pop_as
returns-in-None-pop_as g c = λ h. let s = settles _ c.in-None-pop_as.ensures.rule.1 c.loop.invariant.parts h in let p = c.loop.invariant.put h in let t = c.loop.invariant.taken h in omega arith

pub loop-preserved : goal.loop-preserved
loop-preserved g c = let r = c.in-Some-pop_as.ensures.rule in record {
  parts = ap (λ (u : Account). u.parts) r ∙ c.loop.invariant.parts;
  fifo = c.pop_as.ensures.same.0.1 ∙ c.loop.invariant.fifo;
  put = λ h. ap (λ (u : Account). weigh h u.put) r ∙ c.loop.invariant.put h;
  taken = λ h. let e = ap (λ (u : Account). weigh h u.taken) r in let w = weigh-append h (worker_view c.loop.own).taken (c.in-Some-pop_as.ticket ∷ []) in
      let k = ap (weigh h) c.keep.ensures in let m = weigh-append h c.loop.left.items (c.in-Some-pop_as.ticket ∷ []) in let t = c.loop.invariant.taken h in omega arith;
}
