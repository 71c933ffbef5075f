use Rattle.std.proofs.Common.{◌≡◌, arith}
use Rattle.std.proofs.Common.{Global}
use Rattle.crossbeam_deque.specs.declared.handles.Worker.{Worker}
use Rattle.crossbeam_deque.specs.Handles.{worker_flavor}
use Rattle.pyd_board.specs.declared.seat.Ticket.{Ticket}
use Rattle.pyd_pool.specs.declared.account.Account.{Account}
use Rattle.pyd_pool.specs.declared.rule.Conserved.{Conserved}
use Rattle.pyd_pool.specs.Ends.{owner_account}
use Rattle.pyd_pool.proofs.Merging.{last_has, front_has, puts_pop, takes_pop}
use Rattle.pyd_pool.proofs.closing.drain_owners.Goals as goal

pub drain_owner-requires-clause-parts : goal.drain_owner-requires-clause-parts
drain_owner-requires-clause-parts g c = last_has (λ (x : Worker Ticket Global Account Conserved). (owner_account x).parts ≡ 128) c.loop-own.owners.items c.pop.new.self.items c.in-Some.own c.in-Some.ensures.items c.loop-own.invariant.parts

pub drain_owner-requires-clause-fifo : goal.drain_owner-requires-clause-fifo
drain_owner-requires-clause-fifo g c = last_has (λ (x : Worker Ticket Global Account Conserved). worker_flavor x ≡ 0) c.loop-own.owners.items c.pop.new.self.items c.in-Some.own c.in-Some.ensures.items c.loop-own.invariant.fifo

pub loop-own-preserved : goal.loop-own-preserved
loop-own-preserved g c = record {
  parts = front_has (λ (x : Worker Ticket Global Account Conserved). (owner_account x).parts ≡ 128) c.loop-own.owners.items c.pop.new.self.items c.in-Some.own c.in-Some.ensures.items c.loop-own.invariant.parts;
  fifo = front_has (λ (x : Worker Ticket Global Account Conserved). worker_flavor x ≡ 0) c.loop-own.owners.items c.pop.new.self.items c.in-Some.own c.in-Some.ensures.items c.loop-own.invariant.fifo;
  same = λ h. let p = puts_pop owner_account h c.loop-own.owners.items c.pop.new.self.items c.in-Some.own c.in-Some.ensures.items in let t = takes_pop owner_account h c.loop-own.owners.items c.pop.new.self.items c.in-Some.own c.in-Some.ensures.items in let o = c.loop-own.invariant.same h in let d = c.drain_owner.ensures h in omega arith;
}
