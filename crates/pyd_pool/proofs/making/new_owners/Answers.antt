use Rattle.std.proofs.Common.{◌≡◌, ◌+◌, [], ap, ◌∙◌, Global}
use Rattle.crossbeam_deque.specs.Handles.{worker_flavor}
use Rattle.crossbeam_deque.specs.declared.handles.Worker.{Worker}
use Rattle.pyd_board.specs.declared.seat.Ticket.{Ticket}
use Rattle.pyd_pool.specs.declared.account.Account.{Account}
use Rattle.pyd_pool.specs.declared.rule.Conserved.{Conserved}
use Rattle.pyd_pool.specs.Accounts.{account}
use Rattle.pyd_pool.specs.Ends.{owner_account}
use Rattle.pyd_pool.proofs.Splitting.{every_end, long_end}
use Rattle.pyd_pool.proofs.making.new_owners.Goals as goal

pub loop-made-preserved : goal.loop-made-preserved
loop-made-preserved c = record {
  long = long_end c.push.new.self.items c.loop-made.owners.items c.in_ok-own.own c.in_ok-push.ensures.items ∙ ap (λ n. n + 1) c.loop-made.invariant.long;
  fresh = every_end (λ (x : Worker Ticket Global Account Conserved). owner_account x ≡ account 128 [] []) c.push.new.self.items c.loop-made.owners.items c.in_ok-own.own c.in_ok-push.ensures.items c.in_ok-own.ensures.0 c.loop-made.invariant.fresh;
  fifo = every_end (λ (x : Worker Ticket Global Account Conserved). worker_flavor x ≡ 0) c.push.new.self.items c.loop-made.owners.items c.in_ok-own.own c.in_ok-push.ensures.items c.in_ok-own.ensures.1 c.loop-made.invariant.fifo;
}
