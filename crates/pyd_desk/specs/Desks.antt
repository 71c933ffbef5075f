-- What the vectors of a desk stand for.
use Rattle.std.specs.Prelude.{ℕ, ◌==◌, List, [], ◌∷◌, ◌++◌, Bool, true, false, not, ◌&&◌, if◌then◌else◌, get_or, Option, Some, None, option_map}
use Rattle.std.specs.List.{filter}
use Rattle.std.specs.FinMap as map
use Rattle.pyd_value.specs.declared.fault.Outcome.{Outcome}
use Rattle.pyd_meaning.specs.declared.ran.Ran.{Ran}
use Rattle.pyd_store.specs.Outcomes.{Outcomes}
use Rattle.pyd_runs.specs.Desks as runs
use Rattle.pyd_runs.specs.Desks.{Kept, Stores}
use Rattle.pyd_runs.specs.Records.{or_else}
use Rattle.pyd_desk.specs.declared.desk.Desk.{Desk}
use Rattle.pyd_desk.specs.declared.desk.Held.{Held}
use Rattle.pyd_desk.specs.declared.desk.Mark.{Mark}
use Rattle.pyd_desk.specs.declared.desk.Placed.{Placed}
use Rattle.pyd_desk.specs.declared.desk.PortKind.TheVariants.{One}
use Rattle.pyd_desk.specs.declared.desk.Undone.{Undone}

-- what is known of a node that was never made
abbrev pub blank : Mark
blank = record { places = 0; ticket = None; machine = None; claim = None; ports = One }

-- the mark of a node
abbrev pub mark_at : List Mark → ℕ → Mark
mark_at marks k = get_or marks k blank

-- the outcome of a node in the store of a machine
abbrev pub outcome_in : List Outcomes → ℕ → ℕ → Option Outcome
outcome_in stores machine k = map.get (get_or stores machine map.empty) k

-- what a job gave that isn't an effect's: it prints nothing
abbrev pub silent : Outcome → Ran
silent outcome = record { outcome = outcome; lines = [] }

-- the record of a node in the store of a machine
abbrev pub kept_in : List Outcomes → ℕ → Option ℕ → Option Kept
kept_in stores k None = None
kept_in stores k (Some machine) = option_map
    (λ outcome. record { machine = machine; ran = silent outcome })
    (outcome_in stores machine k)

-- the records in the stores
abbrev pub stores_of : Desk → Stores
stores_of d k = kept_in d.stores.items k (mark_at d.marks.items k).machine

-- what the driver keeps of effects
abbrev pub driver_of : Desk → ℕ → Option Ran
driver_of d k = get_or d.driver.items k None

-- whether a machine is lost
abbrev pub is_lost : List Bool → ℕ → Bool
is_lost alive machine = not (get_or alive machine true)

-- a ticket
abbrev pub placed_of : Placed → runs.Placed
placed_of t = record { attempt = t.attempt; machine = t.machine }

-- a claim
abbrev pub held_of : Held → runs.Held
held_of h =
    record { attempt = h.attempt; machine = h.machine; seat = h.seat; job = h.job.value }

-- a claim whose machine lives
abbrev pub claim_by : List Bool → Option Held → Option runs.Held
claim_by alive None = None
claim_by alive (Some h) = if is_lost alive h.machine then None else Some (held_of h)

-- the claim of an attempt, if its machine is lost, else another
abbrev pub undone_by : List Bool → ℕ → Option Held → Option runs.Held → Option runs.Held
undone_by alive attempt None other = other
undone_by alive attempt (Some h) other =
    if is_lost alive h.machine && (h.attempt == attempt) then Some (held_of h) else other

-- a claim is of an attempt of a node
abbrev pub is_of : ℕ → ℕ → Undone → Bool
is_of k attempt u = (u.node == k) && (u.held.attempt == attempt)

-- the last claim of an attempt of a node, of those that are kept apart
abbrev pub undone_in : List Undone → ℕ → ℕ → Option runs.Held
undone_in [] k attempt = None
undone_in (u ∷ us) k attempt =
    or_else (undone_in us k attempt)
    (if is_of k attempt u then Some (held_of u.held) else None)

-- the claims that are kept apart once a node gets another claim: one whose machine is lost is kept too
abbrev pub kept_apart : List Bool → List Undone → ℕ → Option Held → List Undone
kept_apart alive undone k None = undone
kept_apart alive undone k (Some h) =
    if is_lost alive h.machine then undone ++ record { node = k; held = h } ∷ [] else undone

-- the claims that are kept apart but those of an attempt of a node
abbrev pub undone_but : ℕ → ℕ → List Undone → List Undone
undone_but k attempt undone = filter (λ u. not (is_of k attempt u)) undone

-- a claim goes with an attempt where its machine is lost, and else with a machine
abbrev pub goes_with : List Bool → ℕ → ℕ → Option Held → Bool
goes_with alive attempt machine None = false
goes_with alive attempt machine (Some h) =
    if is_lost alive h.machine then h.attempt == attempt else h.machine == machine

-- what stands where
abbrev pub desk_of : Desk → runs.Desk
desk_of d = record {
  stores = stores_of d;
  places = λ k. (mark_at d.marks.items k).places;
  ticket = λ k. option_map placed_of (mark_at d.marks.items k).ticket;
  claim = λ k. claim_by d.alive.items (mark_at d.marks.items k).claim;
  undone = λ k attempt. undone_by d.alive.items attempt (mark_at d.marks.items k).claim
      (undone_in d.undone.items k attempt);
}
