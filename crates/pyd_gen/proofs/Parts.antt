-- Pieces made of the numbers from 0 on, one after another.
use Rattle.std.proofs.Common.{◌≡◌, ℕ, ◌+◌, List, [], ◌∷◌, ◌++◌, map, ap, sym, ◌∙◌, append-nil, append_assoc, zero-add}
use Rattle.std.specs.List.{flat_map, range_with_len}
use Rattle.std.proofs.lemmas.List.FromFn.{map-range_with_len_more}
use Rattle.std.proofs.lemmas.List.Folds.{flat_map-map}
use Rattle.std.proofs.lemmas.Grind.{flat_map-append}

-- one more number gives one more piece
pub pieces-more : (f : ℕ → List ℕ) (n : ℕ) → flat_map f (range_with_len 0 (n + 1)) ≡ flat_map f (range_with_len 0 n) ++ f n
pieces-more f n =
    sym (flat_map-map (λ (x : List ℕ). x) f (range_with_len 0 (n + 1)))
    ∙ ap (flat_map (λ (x : List ℕ). x)) (map-range_with_len_more f 0 n n (zero-add n))
    ∙ flat_map-append (λ (x : List ℕ). x) (map f (range_with_len 0 n)) (f n ∷ [])
    ∙ ap (λ end. flat_map (λ (x : List ℕ). x) (map f (range_with_len 0 n)) ++ end) (append-nil (f n))
    ∙ ap (λ start. start ++ f n) (flat_map-map (λ (x : List ℕ). x) f (range_with_len 0 n))

-- behind what stands before them
pub pieces-behind : (before : List ℕ) (f : ℕ → List ℕ) (n : ℕ) → (before ++ flat_map f (range_with_len 0 n)) ++ f n ≡ before ++ flat_map f (range_with_len 0 (n + 1))
pieces-behind before f n = append_assoc before (flat_map f (range_with_len 0 n)) (f n) ∙ ap (λ end. before ++ end) (sym (pieces-more f n))
