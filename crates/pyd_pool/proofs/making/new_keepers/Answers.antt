use Rattle.std.proofs.Common.{◌≡◌, ◌+◌, [], ap, ◌∙◌, Global}
use Rattle.pyd_pool.specs.declared.pool.QueueKeeper.{QueueKeeper}
use Rattle.pyd_pool.specs.Accounts.{account}
use Rattle.pyd_pool.specs.Ends.{keeper_account}
use Rattle.pyd_pool.proofs.Splitting.{every_end, long_end}
use Rattle.pyd_pool.proofs.making.new_keepers.Goals as goal

pub loop-made-preserved : goal.loop-made-preserved
loop-made-preserved c = record {
  long = long_end c.push.new.self.items c.loop-made.keepers.items c.in_ok-keeper.keeper c.in_ok-push.ensures.items ∙ ap (λ n. n + 1) c.loop-made.invariant.long;
  fresh = every_end (λ (x : QueueKeeper). keeper_account x ≡ account 128 [] []) c.push.new.self.items c.loop-made.keepers.items c.in_ok-keeper.keeper c.in_ok-push.ensures.items c.in_ok-keeper.ensures c.loop-made.invariant.fresh;
}
