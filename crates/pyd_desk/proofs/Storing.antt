-- Stores in which an outcome was put.
use Rattle.std.proofs.Common.{◌≡◌, ◌≢◌, ℕ, ◌<◌, ◌≤◌, List, length, get_or, set, Option, Some, None, option_map, inl, inr, refl, ap, sym, ◌∙◌}
use Rattle.std.proofs.lemmas.List.{get_or-set_same, get_or-set_other, get_or_past}
use Rattle.std.specs.Ordering.{nat_cmp}
use Rattle.std.specs.FinMap as map
use Rattle.std.specs.FinMap.{get-empty}
use Rattle.pyd_value.specs.declared.fault.Outcome.{Outcome}
use Rattle.pyd_store.specs.Laws.{MapLaws}
use Rattle.pyd_store.specs.Outcomes.{Outcomes}
use Rattle.pyd_runs.specs.Desks.{put_at}
use Rattle.pyd_runs.proofs.Putting.{at_cases, put_same, put_else}
use Rattle.pyd_desk.specs.declared.desk.Mark.{Mark}
use Rattle.pyd_desk.specs.Desks.{kept_in, outcome_in, silent}

-- there is none in the store of a machine that isn't there
pub past_store : (stores : List Outcomes) (machine k : ℕ) → length stores ≤ machine
    → None ≡ outcome_in stores machine k
past_store stores machine k past =
    sym (ap (λ s. map.get s k) (get_or_past stores machine map.empty past)
    ∙ get-empty nat_cmp k)

-- the stores with an outcome put
abbrev pub put_store : List Outcomes → ℕ → ℕ → Outcome → List Outcomes
put_store stores machine k outcome =
    set stores machine (map.insert (get_or stores machine map.empty) k outcome)

put_there : MapLaws → (stores : List Outcomes) (machine k : ℕ) (outcome : Outcome)
    → machine < length stores
    → outcome_in (put_store stores machine k outcome) machine k ≡ Some outcome
put_there laws stores machine k outcome within =
    ap (λ s. map.get s k)
    (get_or-set_same stores machine (map.insert (get_or stores machine map.empty) k outcome) map.empty within)
    ∙ laws.put (get_or stores machine map.empty) k outcome

put_apart : MapLaws → (stores : List Outcomes) (machine k : ℕ) (outcome : Outcome) (m n : ℕ)
    → machine < length stores → n ≢ k
    → outcome_in (put_store stores machine k outcome) m n ≡ outcome_in stores m n
put_apart laws stores machine k outcome m n within other = elim (at_cases m machine) [
  | inl same ↦
      ap (λ j. outcome_in (put_store stores machine k outcome) j n) same
      ∙ ap (λ s. map.get s n)
      (get_or-set_same stores machine (map.insert (get_or stores machine map.empty) k outcome) map.empty within)
      ∙ laws.put_keeps (get_or stores machine map.empty) k outcome n other
      ∙ ap (λ j. outcome_in stores j n) (sym same)
  | inr elsewhere ↦
      ap (λ s. map.get s n)
      (get_or-set_other stores machine m (map.insert (get_or stores machine map.empty) k outcome) map.empty elsewhere)
]

-- other nodes have what they had
put_else_in : MapLaws → (stores : List Outcomes) (machine k : ℕ) (outcome : Outcome) (n : ℕ)
    (at : Option ℕ) → machine < length stores → n ≢ k
    → kept_in (put_store stores machine k outcome) n at ≡ kept_in stores n at
put_else_in laws stores machine k outcome n None within other = refl
put_else_in laws stores machine k outcome n (Some m) within other =
    ap (option_map (λ o. record { machine = m; ran = silent o }))
    (put_apart laws stores machine k outcome m n within other)

put_kept_at : MapLaws → (stores : List Outcomes) (at : ℕ → Mark) (machine k : ℕ) (outcome : Outcome)
    (m : Mark) (n : ℕ) → machine < length stores → m.machine ≡ Some machine
    → kept_in (put_store stores machine k outcome) n (put_at at k m n).machine
    ≡ put_at (λ j. kept_in stores j (at j).machine) k
    (Some (record { machine = machine; ran = silent outcome })) n
put_kept_at laws stores at machine k outcome m n within is = elim (at_cases n k) [
  | inl same ↦
      ap (λ (x : Mark). kept_in (put_store stores machine k outcome) n x.machine)
      (put_same at k m n same)
      ∙ ap (kept_in (put_store stores machine k outcome) n) is
      ∙ ap (λ j. kept_in (put_store stores machine k outcome) j (Some machine)) same
      ∙ ap (option_map (λ o. record { machine = machine; ran = silent o }))
      (put_there laws stores machine k outcome within)
      ∙ sym (put_same (λ j. kept_in stores j (at j).machine) k
      (Some (record { machine = machine; ran = silent outcome })) n same)
  | inr other ↦
      ap (λ (x : Mark). kept_in (put_store stores machine k outcome) n x.machine)
      (put_else at k m n other)
      ∙ put_else_in laws stores machine k outcome n (at n).machine within other
      ∙ sym (put_else (λ j. kept_in stores j (at j).machine) k
      (Some (record { machine = machine; ran = silent outcome })) n other)
]

-- a node whose record was put in the store of a machine has it there
pub put_kept : MapLaws → (stores : List Outcomes) (at : ℕ → Mark) (machine k : ℕ)
    (outcome : Outcome) (m : Mark) → machine < length stores → m.machine ≡ Some machine
    → (λ n. kept_in (put_store stores machine k outcome) n (put_at at k m n).machine)
    ≡ put_at (λ n. kept_in stores n (at n).machine) k
    (Some (record { machine = machine; ran = silent outcome }))
put_kept laws stores at machine k outcome m within is =
    λ i n. put_kept_at laws stores at machine k outcome m n within is i
