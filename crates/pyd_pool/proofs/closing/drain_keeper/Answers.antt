use Rattle.std.proofs.Common.{◌≡◌, ◌<◌, ◌+◌, ap, sym, ◌∙◌, [], ◌∷◌, arith}
use Rattle.pyd_pool.specs.declared.account.Account.{Account}
use Rattle.pyd_pool.specs.Accounts.{weigh}
use Rattle.pyd_pool.specs.Ends.{keeper_account}
use Rattle.pyd_pool.proofs.Steps.{take_queue, saw_queue, settles, weigh-append}
use Rattle.pyd_pool.proofs.closing.drain_keeper.Goals as goal

pub pop_as-requires-clause-rule : goal.pop_as-requires-clause-rule
pop_as-requires-clause-rule g c = let p = c.loop.invariant.parts in (take_queue _ _ (omega arith), saw_queue _ _)

pub returns-in-None-pop_as : goal.returns-in-None-pop_as
returns-in-None-pop_as g c = λ h. let s = settles _ c.in-None-pop_as.ensures.rule.1 c.loop.invariant.parts h in let p = c.loop.invariant.put h in let t = c.loop.invariant.taken h in omega arith

pub loop-preserved : goal.loop-preserved
loop-preserved g c = let r = c.in-Some-pop_as.ensures.rule.0 in record {
  parts = ap (λ (u : Account). u.parts) r ∙ c.loop.invariant.parts;
  put = λ h. ap (λ (u : Account). weigh h u.put) r ∙ c.loop.invariant.put h;
  taken = λ h. let e = ap (λ (u : Account). weigh h u.taken) r in let w = weigh-append h (keeper_account c.loop.keeper).taken (c.in-Some-pop_as.ticket ∷ []) in
      let k = ap (weigh h) c.keep.ensures in let m = weigh-append h c.loop.left.items (c.in-Some-pop_as.ticket ∷ []) in let t = c.loop.invariant.taken h in omega arith;
}
