use Rattle.std.proofs.Common.{◌≡◌, ◌+◌, ◌-◌, ℕ, [], map, ap, sym, ◌∙◌, subst, arith, Global}
use Rattle.crossbeam_deque.specs.Handles.{worker_deque}
use Rattle.crossbeam_deque.specs.declared.handles.Worker.{Worker}
use Rattle.pyd_board.specs.declared.seat.Ticket.{Ticket}
use Rattle.pyd_pool.specs.declared.account.Account.{Account}
use Rattle.pyd_pool.specs.declared.rule.Conserved.{Conserved}
use Rattle.pyd_pool.specs.declared.pool.Rest.{Rest}
use Rattle.pyd_pool.specs.declared.pool.QueueKeeper.{QueueKeeper}
use Rattle.pyd_pool.specs.Accounts.{account}
use Rattle.pyd_pool.specs.Hands.{deque_account, queue_account, deque_id, queue_id, puts, takes}
use Rattle.pyd_pool.specs.Ends.{owner_account, keeper_account, keeper_queue, Every, Unused}
use Rattle.pyd_pool.proofs.Splitting.{every_end, long_end}
use Rattle.pyd_pool.proofs.making.new_rests.Goals as goal

less : (n : ℕ) → 128 - n - 1 ≡ 128 - (n + 1)
less n = omega arith

pub loop-made-preserved : goal.loop-made-preserved
loop-made-preserved c = let i = c.loop-made.invariant in record {
  long = long_end c.push.new.self.items c.loop-made.rests.items _ c.in_ok-push.ensures.items ∙ ap (λ n. n + 1) i.long;
  owners = c.in_ok-deques.ensures.same ∙ i.owners;
  keepers = c.in_ok-queues.ensures.same ∙ i.keepers;
  fifo = c.in_ok-deques.ensures.fifo;
  owner_accounts = subst (λ n. Every (λ (x : Worker Ticket Global Account Conserved). owner_account x ≡ account n [] []) c.new_deques.new.owners.items) (less c.loop-made.made) c.in_ok-deques.ensures.parts;
  keeper_accounts = subst (λ n. Every (λ (x : QueueKeeper). keeper_account x ≡ account n [] []) c.new_queues.new.keepers.items) (less c.loop-made.made) c.in_ok-queues.ensures.parts;
  rests = every_end (λ (x : Rest). (map deque_id x.deques.items ≡ map worker_deque c.args.owners.now.items) × (map queue_id x.queues.items ≡ map keeper_queue c.args.keepers.now.items)) c.push.new.self.items c.loop-made.rests.items _ c.in_ok-push.ensures.items (c.in_ok-deques.ensures.deques ∙ i.owners, c.in_ok-queues.ensures.queues ∙ i.keepers) i.rests;
  unused = λ h. every_end (Unused h) c.push.new.self.items c.loop-made.rests.items _ c.in_ok-push.ensures.items (let a = c.in_ok-deques.ensures.logs h in let b = c.in_ok-queues.ensures.logs h in (a.0, a.1, b.0, b.1)) (i.unused h);
}
