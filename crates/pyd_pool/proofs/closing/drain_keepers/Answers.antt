use Rattle.std.proofs.Common.{◌≡◌, arith}
use Rattle.pyd_pool.specs.declared.pool.QueueKeeper.{QueueKeeper}
use Rattle.pyd_pool.specs.Ends.{keeper_account}
use Rattle.pyd_pool.proofs.Merging.{last_has, front_has, puts_pop, takes_pop}
use Rattle.pyd_pool.proofs.closing.drain_keepers.Goals as goal

pub drain_keeper-requires : goal.drain_keeper-requires
drain_keeper-requires g c = record { parts = last_has (λ (x : QueueKeeper). (keeper_account x).parts ≡ 128) c.loop-keeper.keepers.items c.pop.new.self.items c.in-Some.keeper c.in-Some.ensures.items c.loop-keeper.invariant.parts }

pub loop-keeper-preserved : goal.loop-keeper-preserved
loop-keeper-preserved g c = record {
  parts = front_has (λ (x : QueueKeeper). (keeper_account x).parts ≡ 128) c.loop-keeper.keepers.items c.pop.new.self.items c.in-Some.keeper c.in-Some.ensures.items c.loop-keeper.invariant.parts;
  same = λ h. let p = puts_pop keeper_account h c.loop-keeper.keepers.items c.pop.new.self.items c.in-Some.keeper c.in-Some.ensures.items in let t = takes_pop keeper_account h c.loop-keeper.keepers.items c.pop.new.self.items c.in-Some.keeper c.in-Some.ensures.items in let o = c.loop-keeper.invariant.same h in let d = c.drain_keeper.ensures h in omega arith;
}
