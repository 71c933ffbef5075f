-- What a machine that is lost takes with it, but for tickets.
use Rattle.std.specs.Prelude.{ℕ}
use Rattle.pyd_runs.specs.Desks.{Desk}
use Rattle.pyd_runs.specs.Losses.{held_elsewhere, stores_without, undone_with}

-- a desk without a machine's store and claims, and with all tickets
abbrev pub cleared : ℕ → Desk → Desk
cleared machine d = record d {
  stores = stores_without machine d.stores;
  claim = λ k. held_elsewhere machine (d.claim k);
  undone = λ k attempt. undone_with machine attempt (d.claim k) (d.undone k attempt);
}
