use Rattle.std.proofs.Common.{◌≡◌, ◌<◌, ◌∙◌, arith, Global}
use Rattle.crossbeam_deque.specs.Handles.{worker_deque, worker_flavor}
use Rattle.crossbeam_deque.specs.declared.handles.Worker.{Worker}
use Rattle.pyd_board.specs.declared.seat.Ticket.{Ticket}
use Rattle.pyd_pool.specs.declared.account.Account.{Account}
use Rattle.pyd_pool.specs.declared.rule.Conserved.{Conserved}
use Rattle.pyd_pool.specs.Hands.{deque_account, deque_id}
use Rattle.pyd_pool.specs.Ends.{owner_account}
use Rattle.pyd_pool.proofs.Merging.{starts, loop_fits, loop_meets, loop_has, loop_joins, every_set, last_fifo}
use Rattle.pyd_pool.proofs.closing.join_deques.Goals as goal

pub loop-deque-init : goal.loop-deque-init
loop-deque-init c = record { joins = starts owner_account deque_account worker_deque deque_id _ _ _ c.requires.is c.requires.parts.0; fifo = c.requires.fifo }

pub index_mut-requires : goal.index_mut-requires
index_mut-requires c = let a = loop_fits owner_account deque_account worker_deque deque_id c.args.parts c.args.owners.now.items c.args.deques.items c.loop-deque.owners.items c.loop-deque.deques.items c.pop.new.self.items c.in-Some.deque c.len-k.result (omega (arith, c.pop.new.self.ok.0)) c.in-Some.ensures.items c.loop-deque.invariant.joins in omega (arith, c.loop-deque.owners.ok.0)

pub join_deque-requires-clause-more : goal.join_deque-requires-clause-more
join_deque-requires-clause-more c = let a = loop_has owner_account deque_account worker_deque deque_id c.args.parts c.args.owners.now.items c.args.deques.items c.loop-deque.owners.items c.loop-deque.deques.items c.pop.new.self.items c.in-Some.deque c.len-k.result (omega (arith, c.pop.new.self.ok.0)) c.in-Some.ensures.items c.loop-deque.invariant.joins c.index_mut.result.now c.index_mut.ensures.value in let b = c.requires.parts.1 in omega arith

pub join_deque-requires-clause-is : goal.join_deque-requires-clause-is
join_deque-requires-clause-is c = loop_meets owner_account deque_account worker_deque deque_id c.args.parts c.args.owners.now.items c.args.deques.items c.loop-deque.owners.items c.loop-deque.deques.items c.pop.new.self.items c.in-Some.deque c.len-k.result (omega (arith, c.pop.new.self.ok.0)) c.in-Some.ensures.items c.loop-deque.invariant.joins c.index_mut.result.now c.index_mut.ensures.value

pub loop-deque-preserved : goal.loop-deque-preserved
loop-deque-preserved c = record {
  joins = loop_joins owner_account deque_account worker_deque deque_id c.args.parts c.args.owners.now.items c.args.deques.items c.loop-deque.owners.items c.loop-deque.deques.items c.pop.new.self.items c.in-Some.deque c.len-k.result (omega (arith, c.pop.new.self.ok.0)) c.in-Some.ensures.items c.loop-deque.invariant.joins c.index_mut.result.now c.join_deque.new.own c.index_mut.ensures.value c.join_deque.ensures.same.0 c.join_deque.ensures.rule;
  fifo = every_set (λ (x : Worker Ticket Global Account Conserved). worker_flavor x ≡ 0) c.loop-deque.owners.items c.len-k.result c.join_deque.new.own (c.join_deque.ensures.same.1 ∙ last_fifo c.loop-deque.owners.items c.len-k.result c.index_mut.result.now (omega (arith, loop_fits owner_account deque_account worker_deque deque_id c.args.parts c.args.owners.now.items c.args.deques.items c.loop-deque.owners.items c.loop-deque.deques.items c.pop.new.self.items c.in-Some.deque c.len-k.result (omega (arith, c.pop.new.self.ok.0)) c.in-Some.ensures.items c.loop-deque.invariant.joins)) c.index_mut.ensures.value c.loop-deque.invariant.fifo) c.loop-deque.invariant.fifo;
}
