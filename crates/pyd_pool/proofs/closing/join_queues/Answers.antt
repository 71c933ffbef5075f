use Rattle.std.proofs.Common.{◌≡◌, ◌<◌, arith}
use Rattle.pyd_pool.specs.Hands.{queue_account, queue_id}
use Rattle.pyd_pool.specs.Ends.{keeper_account, keeper_queue}
use Rattle.pyd_pool.proofs.Merging.{starts, loop_fits, loop_meets, loop_has, loop_joins}
use Rattle.pyd_pool.proofs.closing.join_queues.Goals as goal

pub loop-queue-init : goal.loop-queue-init
loop-queue-init c = starts keeper_account queue_account keeper_queue queue_id _ _ _ c.requires.is c.requires.parts.0

pub index_mut-requires : goal.index_mut-requires
index_mut-requires c = let a = loop_fits keeper_account queue_account keeper_queue queue_id c.args.parts c.args.keepers.now.items c.args.queues.items c.loop-queue.keepers.items c.loop-queue.queues.items c.pop.new.self.items c.in-Some.queue c.len-k.result (omega (arith, c.pop.new.self.ok.0)) c.in-Some.ensures.items c.loop-queue.invariant in omega (arith, c.loop-queue.keepers.ok.0)

pub join_queue-requires-clause-more : goal.join_queue-requires-clause-more
join_queue-requires-clause-more c = let a = loop_has keeper_account queue_account keeper_queue queue_id c.args.parts c.args.keepers.now.items c.args.queues.items c.loop-queue.keepers.items c.loop-queue.queues.items c.pop.new.self.items c.in-Some.queue c.len-k.result (omega (arith, c.pop.new.self.ok.0)) c.in-Some.ensures.items c.loop-queue.invariant c.index_mut.result.now c.index_mut.ensures.value in let b = c.requires.parts.1 in omega arith

pub join_queue-requires-clause-is : goal.join_queue-requires-clause-is
join_queue-requires-clause-is c = loop_meets keeper_account queue_account keeper_queue queue_id c.args.parts c.args.keepers.now.items c.args.queues.items c.loop-queue.keepers.items c.loop-queue.queues.items c.pop.new.self.items c.in-Some.queue c.len-k.result (omega (arith, c.pop.new.self.ok.0)) c.in-Some.ensures.items c.loop-queue.invariant c.index_mut.result.now c.index_mut.ensures.value

pub loop-queue-preserved : goal.loop-queue-preserved
loop-queue-preserved c = loop_joins keeper_account queue_account keeper_queue queue_id c.args.parts c.args.keepers.now.items c.args.queues.items c.loop-queue.keepers.items c.loop-queue.queues.items c.pop.new.self.items c.in-Some.queue c.len-k.result (omega (arith, c.pop.new.self.ok.0)) c.in-Some.ensures.items c.loop-queue.invariant c.index_mut.result.now c.join_queue.new.keeper c.index_mut.ensures.value c.join_queue.ensures.same c.join_queue.ensures.rule
