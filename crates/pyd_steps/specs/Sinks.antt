-- What a sink tells before and after bytes are put.
use Rattle.std.specs.Prelude.{◌≡◌, ◌≤◌, ℕ, List, Bool, false, Option, length}
use Rattle.pyd_source.specs.Content.{Added, AddedPrefix, Lowered, Exceeds}
use Rattle.pyd_source.specs.Faults.{Rose}
use Rattle.pyd_steps.specs.declared.told.Told.{Told}

-- what a sink tells, by its meanings
abbrev pub told_by : Option (List ℕ) → Option ℕ → Bool → ℕ → Told
told_by held room sure faults =
    record { held = held; room = room; sure = sure; faults = faults }

-- all of these bytes were added
pub record Puts (old : Told) (bytes : List ℕ) (new : Told) : Type 0 where
  pub held : Added old.held bytes new.held
  pub room : Lowered old.room (length bytes) new.room
  pub sure : new.sure ≡ old.sure
  pub count : old.faults ≤ new.faults

-- the sink failed, and a part of these bytes was added, from the first on
pub record PutsPart (old : Told) (bytes : List ℕ) (new : Told) : Type 0 where
  pub held : AddedPrefix old.held bytes new.held
  pub full : Exceeds (length bytes) old.room
  pub unsure : old.sure ≡ false
  pub sure : new.sure ≡ old.sure
  pub count : old.faults ≤ new.faults
  pub rose : Rose old.faults new.faults
