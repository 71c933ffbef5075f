use Rattle.std.proofs.Common.{◌≡◌, ◌<◌, ap, ◌∙◌, arith, add-one, Global}
use Rattle.crossbeam_queue.proofs.Lists.{at_index}
use Rattle.crossbeam_deque.specs.Handles.{worker_deque, worker_flavor}
use Rattle.crossbeam_deque.specs.declared.handles.Worker.{Worker}
use Rattle.pyd_board.specs.declared.seat.Ticket.{Ticket}
use Rattle.pyd_pool.specs.declared.rule.Conserved.{Conserved}
use Rattle.pyd_pool.specs.declared.account.Account.{Account}
use Rattle.pyd_pool.specs.Hands.{deque_account, deque_id}
use Rattle.pyd_pool.specs.Ends.{owner_account}
use Rattle.pyd_pool.proofs.Merging.{at_map, within, every_set, last_fifo}
use Rattle.pyd_pool.proofs.Sums.{set_long}
use Rattle.pyd_pool.proofs.Splitting.{splits}
use Rattle.pyd_pool.proofs.making.new_deques.Goals as goal

pub new_deque-requires-clause-more : goal.new_deque-requires-clause-more
new_deque-requires-clause-more c = let e = (c.loop-k.invariant.splits.3 c.loop-k.k c.index_mut.result.now (at_index c.loop-k.owners.items c.loop-k.k c.index_mut.result.now (omega (arith, c.loop-k.owners.ok.0, c.loop-k.invariant.long, c.args.owners.now.ok.0)) c.index_mut.ensures.value)).1 (omega arith) in let q = ap (λ (u : Account). u.parts) e in let m = c.requires.parts.1 in omega arith

pub new_deque-requires-clause-fifo : goal.new_deque-requires-clause-fifo
new_deque-requires-clause-fifo c = last_fifo c.loop-k.owners.items c.loop-k.k c.index_mut.result.now (omega (arith, c.loop-k.owners.ok.0, c.loop-k.invariant.long, c.args.owners.now.ok.0)) c.index_mut.ensures.value c.loop-k.invariant.fifo

pub loop-k-preserved : goal.loop-k-preserved
loop-k-preserved c = record {
  long = set_long c.loop-k.owners.items c.loop-k.k c.new_deque.new.own ∙ c.loop-k.invariant.long;
  splits = splits owner_account deque_account worker_deque deque_id _ _ c.loop-k.k _ c.loop-k.owners.items c.loop-k.deques.items c.push.new.self.items c.index_mut.result.now c.new_deque.new.own c.in_ok-deque.deque c.loop-k.invariant.splits (omega (arith, c.loop-k.owners.ok.0, c.loop-k.invariant.long, c.args.owners.now.ok.0)) c.index_mut.ensures.value (add-one _) c.in_ok-push.ensures.items c.new_deque.ensures.same.0 c.in_ok-deque.ensures.deque.0 c.in_ok-deque.ensures.deque.1 c.in_ok-deque.ensures.deque.2 c.in_ok-deque.ensures.deque.3 c.in_ok-deque.ensures.deque.4;
  fifo = every_set (λ (x : Worker Ticket Global Account Conserved). worker_flavor x ≡ 0) c.loop-k.owners.items c.loop-k.k c.new_deque.new.own c.new_deque.ensures.same.1 c.loop-k.invariant.fifo;
}

pub returns-clause-parts : goal.returns-clause-parts
returns-clause-parts c = λ k x e. (c.loop-k.invariant.splits.3 k x e).0 (let w = within worker_deque c.loop-k.owners.items k _ (at_map worker_deque c.loop-k.owners.items k x e) in omega (arith, c.loop-k.owners.ok.0, c.loop-k.invariant.long, c.args.owners.now.ok.0))
