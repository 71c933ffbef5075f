-- Tables by the numbers of their routines.
use Rattle.std.proofs.Common.{◌≡◌, ℕ, zero, suc, ◌+◌, List, [], ◌∷◌, ◌++◌, length, Some, subst, arith}
use Rattle.std.specs.List.{slice_get}
use Rattle.pyd_tree.specs.declared.file.File.{File}
use Rattle.pyd_scope.specs.declared.table.Entry.{Entry}
use Rattle.pyd_scope.specs.Tables.{IsTable, AreTables}

-- the tables of the routines from this number on
abbrev pub Rows : File → ℕ → List (List Entry) → Type 0
Rows file n [] = Unit {0}
Rows file n (entries ∷ rest) = IsTable file n entries × Rows file (suc n) rest

-- one table more
pub row_more : (file : File) (n m : ℕ) (tables : List (List Entry)) (t : List Entry) → Rows file n tables → m ≡ n + length tables → IsTable file m t
    → Rows file n (tables ++ t ∷ [])
row_more file n m [] t are is one = (subst (λ (k : ℕ). IsTable file k t) (omega (arith, is)) one, tt)
row_more file n m (x ∷ xs) t are is one = (are.0, row_more file (suc n) m xs t are.1 (omega (arith, is)) one)

row_at : (file : File) (n k : ℕ) (tables : List (List Entry)) (t : List Entry) → Rows file n tables → slice_get tables k ≡ Some t → IsTable file (n + k) t
row_at file n k [] t are at = cc
row_at file n zero (x ∷ xs) t are at =
    let same : x ≡ t = cc in
    subst (λ (m : ℕ). IsTable file m t) (omega arith) (subst (λ (y : List Entry). IsTable file n y) same are.0)
row_at file n (suc k) (x ∷ xs) t are at = subst (λ (m : ℕ). IsTable file m t) (omega arith) (row_at file (suc n) k xs t are.1 at)

-- rows from 0 on are the tables by their numbers
pub rows_are : (file : File) (tables : List (List Entry)) → Rows file 0 tables → AreTables file tables
rows_are file tables are = λ k t at. subst (λ (m : ℕ). IsTable file m t) (omega arith) (row_at file 0 k tables t are at)
