-- Targets that aren't as many as their values.
use Rattle.std.proofs.Common.{◌≡◌, ◌≢◌, ℕ, List, [], ◌∷◌, length, Option, Some, None, ap, sym, ◌∙◌, Ok, Err, arith, slice_index_or}
use Rattle.pyd_value.specs.declared.value.Value.{Value}
use Rattle.pyd_value.specs.declared.fault.Fault.TheVariants.{Raised}
use Rattle.pyd_value.specs.declared.fault.Kind.TheVariants.{ValueError}
use Rattle.pyd_meaning.specs.Assignment.{assign_values, bound_or_error}
use Rattle.pyd_meaning.specs.Evaluation.{settled}
use Rattle.pyd_meaning.specs.Names.{Names, bind}
use Rattle.pyd_meaning.specs.Setting.{place_of}
use Rattle.pyd_meaning.proofs.Calls.{bind_all-uneven}

-- values that are there, but not as many
pub uneven : (found : Option (List Value)) (names : List (List ℕ)) (vs : List Value) (line : ℕ) (bound : Names)
    → found ≡ Some vs → length names ≢ length vs → assign_values found names (place_of line) bound ≡ settled (Err (Raised ValueError line))
uneven found names vs line bound is apart =
    ap (λ o. assign_values o names (place_of line) bound) is ∙ ap (λ o. bound_or_error o (place_of line)) (bind_all-uneven bound names vs apart)

-- one target takes the value itself
pub one_bound : (names : List (List ℕ)) (x : List ℕ) (v : Value) (line : ℕ) (bound : Names) → length names ≡ 1 → x ≡ slice_index_or names 0 x
    → assign_values (Some (v ∷ [])) names (place_of line) bound ≡ settled (Ok (bind bound x v))
one_bound [] x v line bound one at = absurd (omega arith)
one_bound (y ∷ []) x v line bound one at = ap (λ z. settled (Ok (bind bound z v))) (sym at)
one_bound (y ∷ z ∷ names) x v line bound one at = absurd (omega arith)
