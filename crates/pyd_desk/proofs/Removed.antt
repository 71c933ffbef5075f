-- Stores from which an outcome was removed.
use Rattle.std.proofs.Common.{◌≡◌, ◌≢◌, ℕ, ◌<◌, List, length, get_or, set, None, inl, inr, ap, sym, ◌∙◌}
use Rattle.std.proofs.lemmas.List.{get_or-set_same, get_or-set_other}
use Rattle.std.specs.FinMap as map
use Rattle.pyd_store.specs.Laws.{MapLaws}
use Rattle.pyd_store.specs.Outcomes.{Outcomes}
use Rattle.pyd_runs.proofs.Putting.{at_cases}
use Rattle.pyd_desk.specs.Desks.{outcome_in}

-- the stores with the outcome of a node removed
pub removed_there : MapLaws → (stores left : List Outcomes) (machine k : ℕ) → machine < length stores
    → left ≡ set stores machine (map.remove (get_or stores machine map.empty) k)
    → outcome_in left machine k ≡ None
removed_there laws stores left machine k within is =
    ap (λ xs. outcome_in xs machine k) is
    ∙ ap (λ s. map.get s k)
    (get_or-set_same stores machine (map.remove (get_or stores machine map.empty) k) map.empty within)
    ∙ laws.removed (get_or stores machine map.empty) k

pub removed_apart : MapLaws → (stores left : List Outcomes) (machine k m n : ℕ)
    → machine < length stores
    → left ≡ set stores machine (map.remove (get_or stores machine map.empty) k) → n ≢ k
    → outcome_in left m n ≡ outcome_in stores m n
removed_apart laws stores left machine k m n within is other = elim (at_cases m machine) [
  | inl same ↦
      ap (λ xs. outcome_in xs m n) is
      ∙ ap (λ j. outcome_in (set stores machine (map.remove (get_or stores machine map.empty) k)) j n) same
      ∙ ap (λ s. map.get s n)
      (get_or-set_same stores machine (map.remove (get_or stores machine map.empty) k) map.empty within)
      ∙ laws.remove_keeps (get_or stores machine map.empty) k n other
      ∙ ap (λ j. outcome_in stores j n) (sym same)
  | inr elsewhere ↦
      ap (λ xs. outcome_in xs m n) is
      ∙ ap (λ s. map.get s n)
      (get_or-set_other stores machine m (map.remove (get_or stores machine map.empty) k) map.empty elsewhere)
]
