use Rattle.std.proofs.Common.{◌≡◌, ap, sym, refl, ◌∙◌, subst, ◌+◌, add-one, arith}
use Rattle.pyd_pool.specs.declared.account.Account.{Account}
use Rattle.pyd_pool.specs.Accounts.{WasEmpty}
use Rattle.pyd_pool.specs.Hands.{deque_account, deque_id}
use Rattle.pyd_pool.proofs.Sums.{map_same, puts_same, takes_same, takes_more, were_empty, set_long}
use Rattle.pyd_pool.proofs.looks.steal_any.Goals as goal

pub returns-in-Some-clause-same : goal.returns-in-Some-clause-same
returns-in-Some-clause-same g c = let long = c.loop-k.invariant.long in map_same deque_id c.loop-k.deques.items c.loop-k.k c.index_mut.result.now c.steal.new.self (omega arith) c.index_mut.ensures.value c.steal.ensures.same.0 ∙ c.loop-k.invariant.same

pub returns-in-Some-clause-put : goal.returns-in-Some-clause-put
returns-in-Some-clause-put g c = let long = c.loop-k.invariant.long in λ h. puts_same deque_account h c.loop-k.deques.items c.loop-k.k c.index_mut.result.now c.steal.new.self (omega arith) c.index_mut.ensures.value (ap (λ (u : Account). u.put) c.in-Some.ensures.rule) ∙ c.loop-k.invariant.put h

pub returns-in-Some-clause-rule : goal.returns-in-Some-clause-rule
returns-in-Some-clause-rule g c = let long = c.loop-k.invariant.long in λ h. takes_more deque_account h c.loop-k.deques.items c.loop-k.k c.index_mut.result.now c.steal.new.self c.in-Some.ticket (omega arith) c.index_mut.ensures.value (ap (λ (u : Account). u.taken) c.in-Some.ensures.rule) ∙ ap (λ n. n + h c.in-Some.ticket) (c.loop-k.invariant.taken h)

pub loop-k-preserved : goal.loop-k-preserved
loop-k-preserved g c = let long = c.loop-k.invariant.long in let e = c.in-None.ensures.rule in record {
  long = set_long c.loop-k.deques.items c.loop-k.k c.steal.new.self ∙ c.loop-k.invariant.long;
  same = map_same deque_id c.loop-k.deques.items c.loop-k.k c.index_mut.result.now c.steal.new.self (omega arith) c.index_mut.ensures.value c.steal.ensures.same.0 ∙ c.loop-k.invariant.same;
  put = λ h. puts_same deque_account h c.loop-k.deques.items c.loop-k.k c.index_mut.result.now c.steal.new.self (omega arith) c.index_mut.ensures.value (ap (λ (u : Account). u.put) e.0) ∙ c.loop-k.invariant.put h;
  taken = λ h. takes_same deque_account h c.loop-k.deques.items c.loop-k.k c.index_mut.result.now c.steal.new.self (omega arith) c.index_mut.ensures.value (ap (λ (u : Account). u.taken) e.0) ∙ c.loop-k.invariant.taken h;
  empty = were_empty deque_account c.loop-k.deques.items c.loop-k.k _ c.steal.new.self (add-one c.loop-k.k) (subst WasEmpty (sym e.0) e.1) c.loop-k.invariant.empty;
}
