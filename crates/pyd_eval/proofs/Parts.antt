-- A member of a list has no more parts than all members together.
use Rattle.std.proofs.Common.{◌≡◌, ℕ, zero, suc, ◌+◌, ◌<◌, ◌≤◌, List, [], ◌∷◌, map, length, get_or, sym, subst, arith}
use Rattle.pyd_value.specs.Size.{total}

-- a member has no more parts than all together
pub parts_of-member : {A : Type 0} (parts : A → ℕ) (xs : List A) (i : ℕ) (x : A) → i < length xs → x ≡ get_or xs i x
    → parts x ≤ total (map parts xs)
parts_of-member parts [] i x some is = absurd (omega arith)
parts_of-member parts (y ∷ ys) zero x some is = subst (λ z. parts z ≤ parts y + total (map parts ys)) (sym is) (omega arith)
parts_of-member parts (y ∷ ys) (suc i) x some is = let h = parts_of-member parts ys i x (omega arith) is in omega arith
