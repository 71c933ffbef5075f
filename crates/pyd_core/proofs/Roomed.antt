-- A core with more room in its journal.
use Rattle.std.proofs.Common.{◌≡◌, ◌<◌, ◌≤◌, ◌+◌, ◌-◌, ℕ, length, get_or, vec_capacity, refl, ap, sym, subst, ◌∙◌, arith}
use Rattle.std.proofs.lemmas.List.{length-drop}
use Rattle.pyd_board.specs.Histories.{entries}
use Rattle.pyd_core.specs.declared.keeper.Core.{Core}
use Rattle.pyd_core.specs.declared.log.Log.{Log}
use Rattle.pyd_core.specs.Cores.{HasRoom, IsCore}
use Rattle.pyd_core.specs.Log.{IsCounted}
use Rattle.pyd_core.specs.Steps.{Stays}
use Rattle.pyd_core.proofs.Stepped.{stays}

-- a journal that has grown in its room alone
pub record HasGrown (old new : Log) : Type 0 where
  pub journal : new.journal.items ≡ old.journal.items
  pub counts : new.counts ≡ old.counts
  pub grows : vec_capacity old.journal ≤ vec_capacity new.journal

module _ (c : Core) (log : Log) (grown : HasGrown c.log log) where
  -- the core with it
  abbrev pub with_log : Core
  with_log = record c { log = log }

  -- its entries are counted still
  counted : IsCounted c.log → IsCounted log
  counted is seat below =
      ap (λ v. get_or v.items seat 0) grown.counts
      ∙ is seat (subst (λ v. seat < length v.items) grown.counts below)
      ∙ ap (entries seat) (sym grown.journal)

  -- it is a core still
  pub stays_grown : IsCore c → Stays c with_log
  stays_grown core = stays c with_log core (record {
    plan = refl;
    journal = grown.journal;
    tied = record {
      state = core.tied.state;
      end = core.tied.end;
      losses = core.tied.losses;
    };
    places = record {
      settled = core.places.settled;
      stores = core.places.stores;
      alive = core.places.alive;
      seats = ap (λ v. length v.items) grown.counts ∙ core.places.seats;
    };
    counted = counted core.counted;
    room = (let room = core.room in
        let same = ap length grown.journal in
        let grows = grown.grows in
        omega (arith, room, same, grows));
  })

  -- it has room for so many entries where as many fit, and the losses to come
  pub room_grown : (count losses : ℕ) → losses ≡ length c.setup.losses - c.lost
      → length log.journal.items + (count + losses) ≤ vec_capacity log.journal
      → HasRoom count with_log
  room_grown count losses are fit =
      let left = length-drop c.lost c.setup.losses in
      omega (arith, are, fit, left)
