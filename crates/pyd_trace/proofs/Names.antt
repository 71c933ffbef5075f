-- Where a name ends: at the first space.
use Rattle.std.proofs.Common.{◌≡◌, ℕ, zero, suc, ◌<◌, List, [], ◌∷◌, ◌++◌, length, drop, get_or, refl, sym, ◌∙◌, arith, Bool, true, false}
use Rattle.std.specs.Prelude.{◌||◌, ◌==◌}
use Rattle.pyd_trace.specs.Guessing.{has_space}

neither : (a b : Bool) → (a || b) ≡ false → (a ≡ false) × (b ≡ false)
neither false false e = (refl, refl)
neither false true e = absurd (let both : true ≡ false = e in cc)
neither true b e = absurd (let both : true ≡ false = e in cc)

both_ways : (b : Bool) → b ≡ true → b ≡ false → ⊥
both_ways b is isnt =
    let both : true ≡ false = sym is ∙ isnt in cc

-- the first space of a name and its fields stands behind the name
pub name_ends : (end : ℕ) (name fields : List ℕ) → ((k : ℕ) → k < end → (get_or (name ++ 32 ∷ fields) k 0 == 32) ≡ true → ⊥) → (get_or (name ++ 32 ∷ fields) end 0 == 32) ≡ true → has_space name ≡ false
    → drop end (name ++ 32 ∷ fields) ≡ 32 ∷ fields
name_ends zero [] fields before found none = refl
name_ends (suc end) [] fields before found none = absurd (before 0 (omega arith) refl)
name_ends zero (c ∷ name) fields before found none = absurd (both_ways (c == 32) found (neither _ _ none).0)
name_ends (suc end) (c ∷ name) fields before found none = name_ends end name fields (λ k lt. before (suc k) (omega arith)) found (neither _ _ none).1

-- there is one
pub name_is_ended : (name fields : List ℕ) → ((k : ℕ) → k < length (name ++ 32 ∷ fields) → (get_or (name ++ 32 ∷ fields) k 0 == 32) ≡ true → ⊥) → ⊥
name_is_ended [] fields none = none 0 (omega arith) refl
name_is_ended (c ∷ name) fields none = name_is_ended name fields (λ k lt. none (suc k) (omega arith))
