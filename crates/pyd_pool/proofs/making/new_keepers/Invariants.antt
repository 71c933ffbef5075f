use Rattle.std.proofs.Common.{◌≡◌, length, []}
use Rattle.pyd_pool.specs.Accounts.{account}
use Rattle.pyd_pool.specs.Ends.{keeper_account, Every, AllFifo}
use Rattle.pyd_pool.proofs.making.new_keepers.Given as goal

abbrev pub invariant-loop-made : goal.invariant-loop-made
invariant-loop-made l = record {
  long : length l.keepers.items ≡ l.made;
  fresh : Every (λ x. keeper_account x ≡ account 128 [] []) l.keepers.items;
}
