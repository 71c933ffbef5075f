-- A desk whose machine is lost.
use Rattle.std.proofs.Common.{◌≡◌, ◌≢◌, ℕ, ◌==◌, ◌<◌, List, length, set, Bool, true, false, not, ◌&&◌, if◌then◌else◌, Option, Some, None, option_map, inl, inr, refl, ap, sym, ◌∙◌}
use Rattle.std.proofs.lemmas.List.{get_or-set_same, get_or-set_other}
use Rattle.std.specs.FinMap as map
use Rattle.pyd_value.specs.declared.fault.Outcome.{Outcome}
use Rattle.pyd_store.specs.Laws.{MapLaws}
use Rattle.pyd_store.specs.Outcomes.{Outcomes}
use Rattle.pyd_runs.specs.Desks as runs
use Rattle.pyd_runs.specs.Desks.{Kept, put_at}
use Rattle.pyd_runs.specs.Losses.{held_elsewhere, kept_elsewhere, undone_with}
use Rattle.pyd_runs.proofs.Putting.{at_cases, put_same, put_else, same_test, other_test}
use Rattle.pyd_desk.specs.declared.desk.Desk.{Desk}
use Rattle.pyd_desk.specs.declared.desk.Held.{Held}
use Rattle.pyd_desk.specs.Desks.{claim_by, desk_of, held_of, is_lost, kept_in, mark_at, outcome_in, silent, undone_by, undone_in}
use Rattle.pyd_desk.specs.Losing.{cleared}
use Rattle.pyd_desk.proofs.Written.{desk_by}

-- the stores with a machine's cleared
abbrev pub clear_store : List Outcomes → ℕ → List Outcomes
clear_store stores machine = set stores machine map.empty

kept : ℕ → Outcome → Kept
kept m o = record { machine = m; ran = silent o }

-- of another machine nothing goes
elsewhere_stays : (machine m : ℕ) (o : Option Outcome) → m ≢ machine
    → kept_elsewhere machine (option_map (λ x. record { machine = m; ran = silent x }) o)
    ≡ option_map (λ x. record { machine = m; ran = silent x }) o
elsewhere_stays machine m None other = refl
elsewhere_stays machine m (Some x) other =
    ap (λ b. if b then None else Some (record { machine = m; ran = silent x })) (other_test m machine other)

-- of the machine all goes
elsewhere_goes : (machine m : ℕ) (o : Option Outcome) → m ≡ machine
    → kept_elsewhere machine (option_map (λ x. record { machine = m; ran = silent x }) o) ≡ None
elsewhere_goes machine m None same = refl
elsewhere_goes machine m (Some x) same =
    ap (λ b. if b then None else Some (record { machine = m; ran = silent x })) (same_test m machine same)

clear_kept : MapLaws → (stores : List Outcomes) (machine k : ℕ) (at : Option ℕ)
    → machine < length stores
    → kept_in (clear_store stores machine) k at ≡ kept_elsewhere machine (kept_in stores k at)
clear_kept laws stores machine k None within = refl
clear_kept laws stores machine k (Some m) within = elim (at_cases m machine) [
  | inl same ↦
      ap (λ j. option_map (λ x. record { machine = m; ran = silent x }) (outcome_in (clear_store stores machine) j k)) same
      ∙ ap (λ s. option_map (λ x. record { machine = m; ran = silent x }) (map.get s k))
      (get_or-set_same stores machine map.empty map.empty within)
      ∙ ap (option_map (λ x. record { machine = m; ran = silent x })) (laws.empty k)
      ∙ sym (elsewhere_goes machine m (outcome_in stores m k) same)
  | inr other ↦
      ap (λ s. option_map (λ x. record { machine = m; ran = silent x }) (map.get s k))
      (get_or-set_other stores machine m map.empty map.empty other)
      ∙ sym (elsewhere_stays machine m (outcome_in stores m k) other)
]

-- which machines are lost, with one more
lost_at : (alive : List Bool) (machine m : ℕ) → machine < length alive
    → is_lost (set alive machine false) m ≡ put_at (is_lost alive) machine true m
lost_at alive machine m within = elim (at_cases m machine) [
  | inl same ↦
      ap (is_lost (set alive machine false)) same
      ∙ ap not (get_or-set_same alive machine false true within)
      ∙ sym (put_same (is_lost alive) machine true m same)
  | inr other ↦
      ap not (get_or-set_other alive machine m false true other)
      ∙ sym (put_else (is_lost alive) machine true m other)
]

pub lost_more : (alive : List Bool) (machine : ℕ) → machine < length alive
    → is_lost (set alive machine false) ≡ put_at (is_lost alive) machine true
lost_more alive machine within = λ i m. lost_at alive machine m within i

-- a claim, by whether its machine is lost now or was before
claim_goes : (machine : ℕ) (l t : Bool) (c : runs.Held) → (c.machine == machine) ≡ t
    → (if (if t then true else l) then None else Some c)
    ≡ held_elsewhere machine (if l then None else Some c)
claim_goes machine true true c is = refl
claim_goes machine true false c is = refl
claim_goes machine false true c is = sym (ap (λ b. if b then None else Some c) is)
claim_goes machine false false c is = sym (ap (λ b. if b then None else Some c) is)

claim_lost : (alive : List Bool) (machine : ℕ) (c : Option Held) → machine < length alive
    → claim_by (set alive machine false) c ≡ held_elsewhere machine (claim_by alive c)
claim_lost alive machine None within = refl
claim_lost alive machine (Some h) within =
    ap (λ b. if b then None else Some (held_of h)) (lost_at alive machine h.machine within)
    ∙ claim_goes machine (is_lost alive h.machine) (h.machine == machine) (held_of h) refl

-- one that is undone, the same way
undone_goes : (machine attempt : ℕ) (l t a : Bool) (c : runs.Held) (o : Option runs.Held)
    → (c.machine == machine) ≡ t → (c.attempt == attempt) ≡ a
    → (if (if t then true else l) && a then Some c else o)
    ≡ undone_with machine attempt (if l then None else Some c) (if l && a then Some c else o)
undone_goes machine attempt true true a c o is of = refl
undone_goes machine attempt true false a c o is of = refl
undone_goes machine attempt false true a c o is of =
    sym (ap (λ b. if b then (if c.attempt == attempt then Some c else o) else o) is
    ∙ ap (λ b. if b then Some c else o) of)
undone_goes machine attempt false false a c o is of =
    sym (ap (λ b. if b then (if c.attempt == attempt then Some c else o) else o) is)

undone_lost : (alive : List Bool) (machine attempt : ℕ) (c : Option Held) (o : Option runs.Held)
    → machine < length alive
    → undone_by (set alive machine false) attempt c o
    ≡ undone_with machine attempt (claim_by alive c) (undone_by alive attempt c o)
undone_lost alive machine attempt None o within = refl
undone_lost alive machine attempt (Some h) o within =
    ap (λ b. if b && (h.attempt == attempt) then Some (held_of h) else o)
    (lost_at alive machine h.machine within)
    ∙ undone_goes machine attempt (is_lost alive h.machine) (h.machine == machine) (h.attempt == attempt) (held_of h) o refl refl

-- the desk
pub cleared_is : MapLaws → (d : Desk) (machine : ℕ) → machine < length d.stores.items
    → machine < length d.alive.items
    → desk_by (clear_store d.stores.items machine) (set d.alive.items machine false)
    d.undone.items (mark_at d.marks.items)
    ≡ cleared machine (desk_of d)
cleared_is laws d machine store alive = λ i. record {
  stores = λ k. clear_kept laws d.stores.items machine k (mark_at d.marks.items k).machine store i;
  places = (desk_of d).places;
  ticket = (desk_of d).ticket;
  claim = λ k. claim_lost d.alive.items machine (mark_at d.marks.items k).claim alive i;
  undone = λ k attempt. undone_lost d.alive.items machine attempt (mark_at d.marks.items k).claim
      (undone_in d.undone.items k attempt) alive i;
}
