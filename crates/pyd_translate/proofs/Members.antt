-- A member of a list has no more parts than all members together.
use Rattle.std.proofs.Common.{◌≡◌, ℕ, zero, suc, ◌+◌, ◌<◌, ◌≤◌, ◌==◌, List, [], ◌∷◌, map, length, get_or, true, false, refl, sym, ap, subst, ◌∙◌, arith}
use Rattle.std.proofs.lemmas.Bool.Decides.{nat_tests}
use Rattle.pyd_value.specs.Size.{total}

-- a member has no more parts than all together
pub parts_of-member : {A : Type 0} (parts : A → ℕ) (xs : List A) (i : ℕ) (x : A) → i < length xs → x ≡ get_or xs i x
    → parts x ≤ total (map parts xs)
parts_of-member parts [] i x some is = absurd (omega arith)
parts_of-member parts (y ∷ ys) zero x some is = subst (λ z. parts z ≤ parts y + total (map parts ys)) (sym is) (omega arith)
parts_of-member parts (y ∷ ys) (suc i) x some is = let h = parts_of-member parts ys i x (omega arith) is in omega arith

-- nor has the first
pub parts_of-first : {A : Type 0} (parts : A → ℕ) (xs others : List A) (x : A) → xs ≡ x ∷ others
    → parts x ≤ total (map parts xs)
parts_of-first parts xs others x is = subst (λ (l : List _). parts x ≤ total (map parts l)) (sym is) (omega arith)

-- a list of no length is empty
pub no_items : {A : Type 0} (xs : List A) → length xs ≡ 0 → xs ≡ []
no_items [] n = refl
no_items (x ∷ xs) n = absurd (omega (arith, n))

-- a list that was found empty
pub emptied : {A : Type 0} (xs : List A) → true ≡ (length xs == 0) → xs ≡ []
emptied xs found =
    let n : length xs ≡ 0 = grind (arith, nat_tests) in
    no_items xs n

-- one that wasn't
pub nonempty : {A : Type 0} (xs : List A) → false ≡ (length xs == 0) → ¬ (xs ≡ [])
nonempty xs found e = differ (found ∙ ap (λ l. length l == 0) e)
  where
    differ : false ≡ true → ⊥
    differ q = cc
