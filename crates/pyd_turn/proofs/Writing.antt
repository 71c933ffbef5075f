-- Functions and lists with one entry changed, and sums over lists.
use Rattle.std.proofs.Common.{◌≡◌, ◌≢◌, ◌⊎◌, ℕ, zero, suc, ◌+◌, ◌<◌, ◌≤◌, List, [], ◌∷◌, ◌++◌, length, set, sum_by, refl, sym, ap, ◌∙◌, inl, inr, ⊎_elim, arith}
use mathlib.Core.Option.{some, some-injective, some-ne-none}
use native.Mathlib.Decide.{ℕ_discrete}
use lib.ListN.{get_elem?}
use Rattle.std.proofs.lemmas.List.Sums.{sum_by-cons}

abbrev pick : {P A : Type 0} → Dec P → A → A → A
pick (yes _) a b = a
pick (no _) a b = b

module _ {A : Type 0} where
  -- f with another value at one place
  pub put : (ℕ → A) → ℕ → A → ℕ → A
  put f i c j = pick (ℕ_discrete j i) c (f j)

  pub put_here : (f : ℕ → A) (i : ℕ) (c : A) → put f i c i ≡ c
  unfolding put
  put_here f i c = go (ℕ_discrete i i)
    where
      go : (d : Dec (i ≡ i)) → pick d c (f i) ≡ c
      go (yes _) = refl
      go (no n) = absurd (n refl)

  pub put_else : (f : ℕ → A) (i : ℕ) (c : A) (j : ℕ) → j ≢ i → put f i c j ≡ f j
  unfolding put
  put_else f i c j other = go (ℕ_discrete j i)
    where
      go : (d : Dec (j ≡ i)) → pick d c (f j) ≡ f j
      go (yes e) = absurd (other e)
      go (no _) = refl

module _ {A : Type 0} (f : A → ℕ) where
  -- a sum with one element changed
  pub sum_set : (xs : List A) (i : ℕ) (a b : A) → get_elem? xs i ≡ some a → sum_by f (set xs i b) + f a ≡ sum_by f xs + f b
  sum_set [] i a b e = absurd (some-ne-none a (sym e))
  sum_set (x ∷ xs) zero a b e = let p = sum_by-cons f b xs in let q = sum_by-cons f x xs in let same : f x ≡ f a = ap f (some-injective x a e) in omega arith
  sum_set (x ∷ xs) (suc i) a b e = let p = sum_by-cons f x (set xs i b) in let q = sum_by-cons f x xs in let r = sum_set xs i a b e in omega arith

  -- a sum of small numbers
  pub sum_small : ((a : A) → f a ≤ 1) → (xs : List A) → sum_by f xs ≤ length xs
  sum_small small [] = omega arith
  sum_small small (x ∷ xs) = let p = sum_by-cons f x xs in let q = small x in let r = sum_small small xs in omega arith

-- the place of an element
pub at_inside : {A : Type 0} (xs : List A) (i : ℕ) (a : A) → get_elem? xs i ≡ some a → i < length xs
at_inside [] i a e = absurd (some-ne-none a (sym e))
at_inside (x ∷ xs) zero a e = omega arith
at_inside (x ∷ xs) (suc i) a e = let r = at_inside xs i a e in omega arith

-- an element of a list with one more
pub at_end : {A : Type 0} (l : List A) (a b : A) (j : ℕ) → get_elem? (l ++ a ∷ []) j ≡ some b → (get_elem? l j ≡ some b) ⊎ ((j ≡ length l) × (a ≡ b))
at_end [] a b zero e = inr (refl, some-injective a b e)
at_end [] a b (suc j) e = absurd (some-ne-none b (sym e))
at_end (x ∷ xs) a b zero e = inl e
at_end (x ∷ xs) a b (suc j) e = ⊎_elim inl (λ t. inr (ap suc t.0, t.1)) (at_end xs a b j e)

-- the element of a list of one
pub at_only : {A : Type 0} (a b : A) (j : ℕ) → get_elem? (a ∷ []) j ≡ some b → (j ≡ 0) × (a ≡ b)
at_only a b zero e = (refl, some-injective a b e)
at_only a b (suc j) e = absurd (some-ne-none b (sym e))
