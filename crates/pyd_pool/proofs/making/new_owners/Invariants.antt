use Rattle.std.proofs.Common.{◌≡◌, length, []}
use Rattle.pyd_pool.specs.Accounts.{account}
use Rattle.pyd_pool.specs.Ends.{owner_account, Every, AllFifo}
use Rattle.pyd_pool.proofs.making.new_owners.Given as goal

abbrev pub invariant-loop-made : goal.invariant-loop-made
invariant-loop-made l = record {
  long : length l.owners.items ≡ l.made;
  fresh : Every (λ x. owner_account x ≡ account 128 [] []) l.owners.items;
  fifo : AllFifo l.owners.items;
}
