-- Where the least live machine stands.
use Rattle.std.proofs.Common.{◌≡◌, ℕ, zero, suc, ◌+◌, ◌<◌, ◌≤◌, List, [], ◌∷◌, Bool, true, false, true≢false, Some, Contains, cond, unwrap_or, length, take, drop, get_or, refl, sym, ap, ◌∙◌, arith, length-take, take_all}
use Rattle.std.specs.List.{position_from}
use Rattle.std.proofs.lemmas.List.{at_drop_more}
use Rattle.pyd_board.specs.Placing.{circle, lives, least_live}

-- a machine that lives is found, and one that doesn't is passed over
pub position_step : (place : ℕ) (xs : List Bool) (d : Bool) → place < length xs → position_from (λ a. a) place (drop place xs) ≡ cond (get_or xs place d) (Some place) (position_from (λ a. a) (place + 1) (drop (place + 1) xs))
position_step place xs d lt = at_drop_more (λ rest. position_from (λ a. a) place rest) xs place d lt

-- the circle has no more entries than there are numbers
pub circle_within : (alive : List Bool) → length (circle alive) ≤ 4294967296
circle_within alive = let e = length-take 4294967296 alive in omega arith

-- and all entries where they aren't more
pub circle_all : (alive : List Bool) → length alive ≤ 4294967296 → circle alive ≡ alive
circle_all alive few = take_all 4294967296 alive few

-- some machine that lives is found among the first n entries
found : (n : ℕ) (xs : List Bool) (i : ℕ) → Contains (take n xs) true → (k : ℕ) × (position_from (λ a. a) i (take n xs) ≡ Some (i + k)) × (get_or xs k false ≡ true)
found zero xs i c = absurd (omega (arith, c.1))
found (suc n) [] i c = absurd (omega (arith, c.1))
found (suc n) (true ∷ xs) i c = (0, ap Some (omega arith), refl)
found (suc n) (false ∷ xs) i (zero, lt, e) = absurd (true≢false (sym e))
found (suc n) (false ∷ xs) i (suc k, lt, e) =
    let r = found n xs (i + 1) (k, omega (arith, lt), e) in
    (suc r.0, r.1 ∙ ap Some (omega arith), r.2)

least_lives_of : (n : ℕ) (alive : List Bool) → Contains (take n alive) true → lives alive (unwrap_or (position_from (λ a. a) 0 (take n alive)) 0) ≡ true
least_lives_of n alive c =
    let r = found n alive 0 c in
    let at_zero : Some (0 + r.0) ≡ Some r.0 = ap Some (omega arith) in
    ap (λ m. lives alive (unwrap_or m 0)) (r.1 ∙ at_zero) ∙ r.2

-- the least live machine lives where some machine does
pub least_lives : (alive : List Bool) → Contains (circle alive) true → lives alive (least_live alive) ≡ true
least_lives alive c = least_lives_of 4294967296 alive c
