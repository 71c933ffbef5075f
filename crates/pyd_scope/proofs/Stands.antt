-- Items that stand in a table from a number on.
use Rattle.std.proofs.Common.{◌≡◌, ℕ, zero, suc, ◌+◌, List, [], ◌∷◌, ◌++◌, length, drop, refl, sym, ap, ◌∙◌, append_assoc, append-nil, arith, Some}
use Rattle.std.specs.List.{slice_get}
use Rattle.std.proofs.lemmas.List.{drop-drop, drop_at}
use Rattle.pyd_scope.specs.Numbering.{Stands}

-- no item stands anywhere
pub stands_nothing : {A : Type 0} (table : List A) (k : ℕ) → Stands table k []
stands_nothing table k = (drop k table, refl)

-- all items stand from 0 on
pub stands_whole : {A : Type 0} (table : List A) → Stands table 0 table
stands_whole table = ([], sym (append-nil table))

-- the first of two parts stands where both do
pub stands_first : {A : Type 0} (table : List A) (k : ℕ) (xs ys : List A)
    → Stands table k (xs ++ ys) → Stands table k xs
stands_first table k xs ys s = (ys ++ s.0, s.1 ∙ append_assoc xs ys s.0)

-- the second stands behind the first
pub stands_second : {A : Type 0} (table : List A) (k : ℕ) (xs ys : List A)
    → Stands table k (xs ++ ys) → Stands table (k + length xs) ys
stands_second table k xs ys s = (
  s.0,
  sym (drop-drop (length xs) k table)
      ∙ ap (drop (length xs)) (s.1 ∙ append_assoc xs ys s.0)
      ∙ drop_at xs (ys ++ s.0) (length xs) refl,
)

-- what stands behind one item
pub stands_behind : {A : Type 0} (table : List A) (k : ℕ) (x : A) (xs : List A)
    → Stands table k (x ∷ xs) → Stands table (suc k) xs
stands_behind table k x xs s =
    let next : k + 1 ≡ suc k = omega arith in
    (s.0, ap (λ n. drop n table) (sym next) ∙ sym (drop-drop 1 k table) ∙ ap (drop 1) s.1)

-- the first item of what is left is looked up by its number
pub dropped_first : {A : Type 0} (table : List A) (k : ℕ) (x : A) (xs : List A)
    → drop k table ≡ x ∷ xs → slice_get table k ≡ Some x
dropped_first [] zero x xs e = absurd (cc e)
dropped_first [] (suc k) x xs e = absurd (cc e)
dropped_first (y ∷ table) zero x xs e = cc e
dropped_first (y ∷ table) (suc k) x xs e = dropped_first table k x xs e

-- the first item is looked up by its number
pub stands_at : {A : Type 0} (table : List A) (k : ℕ) (x : A) (xs : List A)
    → Stands table k (x ∷ xs) → slice_get table k ≡ Some x
stands_at table k x xs s = dropped_first table k x (xs ++ s.0) s.1
