-- What is left of a stack after several steps.
use Rattle.std.proofs.Common.{◌≡◌, ℕ, ◌+◌, List, get_or, drop, get_or-drop, drop-drop}

pub drop_both : {X : Type 0} → (m n : ℕ) (xs : List X) → drop m (drop n xs) ≡ drop (n + m) xs
drop_both m n xs = drop-drop m n xs

pub get_both : {X : Type 0} → (n i : ℕ) (xs : List X) (d : X) → get_or (drop n xs) i d ≡ get_or xs (n + i) d
get_both n i xs d = get_or-drop n xs i d
