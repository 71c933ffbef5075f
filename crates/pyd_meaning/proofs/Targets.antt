-- Targets take what they are given.
use Rattle.std.proofs.Common.{[], ◌∷◌, Some, ap, ◌∙◌}
use Rattle.pyd_meaning.specs.Assignment.{values_for, bound_or_error, assign_values}
use Rattle.pyd_meaning.specs.LoopLaws.{TargetsLaw}
use Rattle.pyd_meaning.proofs.Calls.{bind_all-uneven}

-- what targets take
pub targets : TargetsLaw
targets = record {
  one = λ targets name v at names single name_is.
      ap (λ b. assign_values (values_for b v) targets.names at names) single ∙ ap (λ xs. assign_values (Some (v ∷ [])) xs at names) name_is;
  kind = λ targets v at names several missing.
      ap (λ b. assign_values (values_for b v) targets.names at names) several ∙ ap (λ o. assign_values o targets.names at names) missing;
  count = λ targets v vs at names several found uneven.
      ap (λ b. assign_values (values_for b v) targets.names at names) several ∙ ap (λ o. assign_values o targets.names at names) found
      ∙ ap (λ o. bound_or_error o at) (bind_all-uneven names targets.names vs uneven);
}
