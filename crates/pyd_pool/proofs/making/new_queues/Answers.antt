use Rattle.std.proofs.Common.{◌≡◌, ◌<◌, ap, ◌∙◌, arith, add-one, Global}
use Rattle.crossbeam_queue.proofs.Lists.{at_index}
use Rattle.pyd_pool.specs.declared.account.Account.{Account}
use Rattle.pyd_pool.specs.Hands.{queue_account, queue_id}
use Rattle.pyd_pool.specs.Ends.{keeper_account, keeper_queue}
use Rattle.pyd_pool.proofs.Merging.{at_map, within, every_set, last_fifo}
use Rattle.pyd_pool.proofs.Sums.{set_long}
use Rattle.pyd_pool.proofs.Splitting.{splits}
use Rattle.pyd_pool.proofs.making.new_queues.Goals as goal

pub new_queue-requires : goal.new_queue-requires
new_queue-requires c = let e = (c.loop-k.invariant.splits.3 c.loop-k.k c.index_mut.result.now (at_index c.loop-k.keepers.items c.loop-k.k c.index_mut.result.now (omega (arith, c.loop-k.keepers.ok.0, c.loop-k.invariant.long, c.args.keepers.now.ok.0)) c.index_mut.ensures.value)).1 (omega arith) in let q = ap (λ (u : Account). u.parts) e in let m = c.requires.parts.1 in omega arith

pub loop-k-preserved : goal.loop-k-preserved
loop-k-preserved c = record {
  long = set_long c.loop-k.keepers.items c.loop-k.k c.new_queue.new.keeper ∙ c.loop-k.invariant.long;
  splits = splits keeper_account queue_account keeper_queue queue_id _ _ c.loop-k.k _ c.loop-k.keepers.items c.loop-k.queues.items c.push.new.self.items c.index_mut.result.now c.new_queue.new.keeper c.in_ok-queue.queue c.loop-k.invariant.splits (omega (arith, c.loop-k.keepers.ok.0, c.loop-k.invariant.long, c.args.keepers.now.ok.0)) c.index_mut.ensures.value (add-one _) c.in_ok-push.ensures.items c.new_queue.ensures.same c.in_ok-queue.ensures.queue.0 c.in_ok-queue.ensures.queue.1 c.in_ok-queue.ensures.queue.2 c.in_ok-queue.ensures.queue.3 c.in_ok-queue.ensures.queue.4;
}

pub returns-clause-parts : goal.returns-clause-parts
returns-clause-parts c = λ k x e. (c.loop-k.invariant.splits.3 k x e).0 (let w = within keeper_queue c.loop-k.keepers.items k _ (at_map keeper_queue c.loop-k.keepers.items k x e) in omega (arith, c.loop-k.keepers.ok.0, c.loop-k.invariant.long, c.args.keepers.now.ok.0))
