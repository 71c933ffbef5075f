use Rattle.std.proofs.Common.{◌<◌, arith}
use Rattle.pyd_pool.proofs.Steps.{push_queue}
use Rattle.pyd_pool.proofs.places.SharedQueue.put.Goals as goal

pub push_as-requires-clause-rule : goal.push_as-requires-clause-rule
push_as-requires-clause-rule g c = let p = c.args.self.now.part in λ n. push_queue n _ _ _ (omega arith)
