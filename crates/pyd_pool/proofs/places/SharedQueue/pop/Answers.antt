use Rattle.std.proofs.Common.{◌<◌, arith}
use Rattle.pyd_pool.proofs.Steps.{take_queue, saw_queue}
use Rattle.pyd_pool.proofs.places.SharedQueue.pop.Goals as goal

pub pop_as-requires-clause-rule : goal.pop_as-requires-clause-rule
pop_as-requires-clause-rule g c = let p = c.args.self.now.part in (take_queue _ _ (omega arith), saw_queue _ _)
