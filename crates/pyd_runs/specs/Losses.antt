-- What a machine that is lost takes with it, and which loss is due.
use Rattle.std.specs.Prelude.{ℕ, ◌==◌, nat_le, List, [], ◌∷◌, if◌then◌else◌, cond, Option, Some, None}
use Rattle.pyd_board.specs.declared.setup.Loss.{Loss}
use Rattle.pyd_runs.specs.Graphs.{Graph}
use Rattle.pyd_runs.specs.Desks.{Kept, Placed, Held, Stores, Desk}
use Rattle.pyd_runs.specs.Records.{is_ready}

-- the machine of the next entry of the script, if its number is at most that of the events so far
abbrev pub due_at : ℕ → List Loss → Option ℕ
due_at events [] = None
due_at events (l ∷ losses) = cond (nat_le l.event events) (Some l.machine) None

-- a record that isn't in the store of the machine
abbrev pub kept_elsewhere : ℕ → Option Kept → Option Kept
kept_elsewhere machine None = None
kept_elsewhere machine (Some k) = if k.machine == machine then None else Some k

-- a claim that isn't the machine's
abbrev pub held_elsewhere : ℕ → Option Held → Option Held
held_elsewhere machine None = None
held_elsewhere machine (Some c) = if c.machine == machine then None else Some c

-- the claim of an attempt, if it is the machine's, else what was undone before
abbrev pub undone_with : ℕ → ℕ → Option Held → Option Held → Option Held
undone_with machine attempt None before = before
undone_with machine attempt (Some c) before =
    if c.machine == machine then (if c.attempt == attempt then Some c else before) else before

-- the tickets of nodes that are ready
abbrev pub live_tickets : Graph → Stores → (ℕ → Option Placed) → ℕ → Option Placed
live_tickets g stores tickets k = cond (is_ready g stores k) (tickets k) None

-- the stores without the machine's
abbrev pub stores_without : ℕ → Stores → Stores
stores_without machine stores k = kept_elsewhere machine (stores k)

-- the desk after a loss: the machine's store is empty, its claims are undone, and the tickets of nodes that are no longer ready die
abbrev pub desk_without : Graph → ℕ → Desk → Desk
desk_without g machine d = record {
  stores = stores_without machine d.stores;
  places = d.places;
  ticket = live_tickets g (stores_without machine d.stores) d.ticket;
  claim = λ k. held_elsewhere machine (d.claim k);
  undone = λ k attempt. undone_with machine attempt (d.claim k) (d.undone k attempt);
}
