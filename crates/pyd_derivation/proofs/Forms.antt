-- What an action makes of parts does not depend on what stands behind them, nor on a line that it isn't given.
use Rattle.std.proofs.Common.{◌≡◌, ℕ, ◌<◌, suc, zero, List, [], ◌∷◌, ◌++◌, get_or, drop, length, Bool, true, false, cond, eqb, ◌&&◌, refl, ap, arith}
use Rattle.std.proofs.lemmas.Bool.{and_parts}
use Rattle.pyd_syntax.specs.declared.symbol.Symbol.{Symbol}
use Rattle.pyd_syntax.specs.declared.symbol.Symbol.TheVariants.{Terminal, Rule}
use Rattle.pyd_derivation.specs.declared.piece.Piece.{Piece}
use Rattle.pyd_derivation.specs.Pieces.{part}
use Rattle.pyd_derivation.specs.Forms.{Form, Action, Of0, Of1, Of2, Of3, Of4, Of6, At1, At2, At3, At4, At5, At6, none, apply, arity}

pub append_assoc : {X : Type 0} → (xs ys zs : List X) → (xs ++ ys) ++ zs ≡ xs ++ (ys ++ zs)
append_assoc [] ys zs = refl
append_assoc (x ∷ xs) ys zs = ap (λ (z : List _). x ∷ z) (append_assoc xs ys zs)

pub part_front : (vs rest : List Piece) (i : ℕ) → i < length vs → part (vs ++ rest) i ≡ part vs i
part_front [] rest i l = absurd (omega arith)
part_front (v ∷ vs) rest zero l = refl
part_front (v ∷ vs) rest (suc i) l = part_front vs rest i (omega arith)

pub drop_front : (vs rest : List Piece) (n : ℕ) → length vs ≡ n → drop n (vs ++ rest) ≡ rest
drop_front [] rest zero l = refl
drop_front [] rest (suc n) l = absurd (omega arith)
drop_front (v ∷ vs) rest zero l = absurd (omega arith)
drop_front (v ∷ vs) rest (suc n) l = drop_front vs rest n (omega arith)

-- whether an action is given a line
abbrev pub is_lined : Action → Bool
is_lined (Of0 f) = false
is_lined (Of1 f) = false
is_lined (Of2 f) = false
is_lined (Of3 f) = false
is_lined (Of4 f) = false
is_lined (Of6 f) = false
is_lined (At1 f) = true
is_lined (At2 f) = true
is_lined (At3 f) = true
is_lined (At4 f) = true
is_lined (At5 f) = true
is_lined (At6 f) = true

-- whether one of the symbols is a terminal
abbrev pub has_token : List Symbol → Bool
has_token [] = false
has_token (Terminal k ∷ ss) = true
has_token (Rule n ∷ ss) = has_token ss

-- an action takes the parts that there are, and a line only where there is a token
abbrev pub fits : Form → Bool
fits f = eqb (length f.production.to) (arity f.does) && cond (is_lined f.does) (has_token f.production.to) true

abbrev pub all_fit : List Form → Bool
all_fit [] = true
all_fit (f ∷ fs) = fits f && all_fit fs

pub fit_at : (g : List Form) (p : ℕ) → all_fit g ≡ true → p < length g → fits (get_or g p none) ≡ true
fit_at [] p h l = absurd (omega arith)
fit_at (f ∷ g) zero h l = (and_parts _ _ h).0
fit_at (f ∷ g) (suc p) h l = fit_at g p (and_parts _ _ h).1 (omega arith)

front_Of0 : (f : Piece) (bytes : List ℕ) (line : ℕ) (vs rest : List Piece) → length vs ≡ 0 → apply (Of0 f) bytes line (vs ++ rest) ≡ apply (Of0 f) bytes line vs
front_Of0 f bytes line vs rest l = refl

front_Of1 : (f : Piece → Piece) (bytes : List ℕ) (line : ℕ) (vs rest : List Piece) → length vs ≡ 1 → apply (Of1 f) bytes line (vs ++ rest) ≡ apply (Of1 f) bytes line vs
front_Of1 f bytes line (a ∷ vs) rest l = refl
front_Of1 f bytes line [] rest l = absurd (omega arith)

front_Of2 : (f : Piece → Piece → Piece) (bytes : List ℕ) (line : ℕ) (vs rest : List Piece) → length vs ≡ 2 → apply (Of2 f) bytes line (vs ++ rest) ≡ apply (Of2 f) bytes line vs
front_Of2 f bytes line (a ∷ b ∷ vs) rest l = refl
front_Of2 f bytes line [] rest l = absurd (omega arith)
front_Of2 f bytes line (a ∷ []) rest l = absurd (omega arith)

front_Of3 : (f : Piece → Piece → Piece → Piece) (bytes : List ℕ) (line : ℕ) (vs rest : List Piece) → length vs ≡ 3 → apply (Of3 f) bytes line (vs ++ rest) ≡ apply (Of3 f) bytes line vs
front_Of3 f bytes line (a ∷ b ∷ c ∷ vs) rest l = refl
front_Of3 f bytes line [] rest l = absurd (omega arith)
front_Of3 f bytes line (a ∷ []) rest l = absurd (omega arith)
front_Of3 f bytes line (a ∷ b ∷ []) rest l = absurd (omega arith)

front_Of4 : (f : Piece → Piece → Piece → Piece → Piece) (bytes : List ℕ) (line : ℕ) (vs rest : List Piece) → length vs ≡ 4 → apply (Of4 f) bytes line (vs ++ rest) ≡ apply (Of4 f) bytes line vs
front_Of4 f bytes line (a ∷ b ∷ c ∷ d ∷ vs) rest l = refl
front_Of4 f bytes line [] rest l = absurd (omega arith)
front_Of4 f bytes line (a ∷ []) rest l = absurd (omega arith)
front_Of4 f bytes line (a ∷ b ∷ []) rest l = absurd (omega arith)
front_Of4 f bytes line (a ∷ b ∷ c ∷ []) rest l = absurd (omega arith)

front_Of6 : (f : Piece → Piece → Piece → Piece → Piece → Piece → Piece) (bytes : List ℕ) (line : ℕ) (vs rest : List Piece) → length vs ≡ 6 → apply (Of6 f) bytes line (vs ++ rest) ≡ apply (Of6 f) bytes line vs
front_Of6 f bytes line (a ∷ b ∷ c ∷ d ∷ e ∷ g ∷ vs) rest l = refl
front_Of6 f bytes line [] rest l = absurd (omega arith)
front_Of6 f bytes line (a ∷ []) rest l = absurd (omega arith)
front_Of6 f bytes line (a ∷ b ∷ []) rest l = absurd (omega arith)
front_Of6 f bytes line (a ∷ b ∷ c ∷ []) rest l = absurd (omega arith)
front_Of6 f bytes line (a ∷ b ∷ c ∷ d ∷ []) rest l = absurd (omega arith)
front_Of6 f bytes line (a ∷ b ∷ c ∷ d ∷ e ∷ []) rest l = absurd (omega arith)

front_At1 : (f : List ℕ → ℕ → Piece → Piece) (bytes : List ℕ) (line : ℕ) (vs rest : List Piece) → length vs ≡ 1 → apply (At1 f) bytes line (vs ++ rest) ≡ apply (At1 f) bytes line vs
front_At1 f bytes line (a ∷ vs) rest l = refl
front_At1 f bytes line [] rest l = absurd (omega arith)

front_At2 : (f : List ℕ → ℕ → Piece → Piece → Piece) (bytes : List ℕ) (line : ℕ) (vs rest : List Piece) → length vs ≡ 2 → apply (At2 f) bytes line (vs ++ rest) ≡ apply (At2 f) bytes line vs
front_At2 f bytes line (a ∷ b ∷ vs) rest l = refl
front_At2 f bytes line [] rest l = absurd (omega arith)
front_At2 f bytes line (a ∷ []) rest l = absurd (omega arith)

front_At3 : (f : List ℕ → ℕ → Piece → Piece → Piece → Piece) (bytes : List ℕ) (line : ℕ) (vs rest : List Piece) → length vs ≡ 3 → apply (At3 f) bytes line (vs ++ rest) ≡ apply (At3 f) bytes line vs
front_At3 f bytes line (a ∷ b ∷ c ∷ vs) rest l = refl
front_At3 f bytes line [] rest l = absurd (omega arith)
front_At3 f bytes line (a ∷ []) rest l = absurd (omega arith)
front_At3 f bytes line (a ∷ b ∷ []) rest l = absurd (omega arith)

front_At4 : (f : List ℕ → ℕ → Piece → Piece → Piece → Piece → Piece) (bytes : List ℕ) (line : ℕ) (vs rest : List Piece) → length vs ≡ 4 → apply (At4 f) bytes line (vs ++ rest) ≡ apply (At4 f) bytes line vs
front_At4 f bytes line (a ∷ b ∷ c ∷ d ∷ vs) rest l = refl
front_At4 f bytes line [] rest l = absurd (omega arith)
front_At4 f bytes line (a ∷ []) rest l = absurd (omega arith)
front_At4 f bytes line (a ∷ b ∷ []) rest l = absurd (omega arith)
front_At4 f bytes line (a ∷ b ∷ c ∷ []) rest l = absurd (omega arith)

front_At5 : (f : List ℕ → ℕ → Piece → Piece → Piece → Piece → Piece → Piece) (bytes : List ℕ) (line : ℕ) (vs rest : List Piece) → length vs ≡ 5 → apply (At5 f) bytes line (vs ++ rest) ≡ apply (At5 f) bytes line vs
front_At5 f bytes line (a ∷ b ∷ c ∷ d ∷ e ∷ vs) rest l = refl
front_At5 f bytes line [] rest l = absurd (omega arith)
front_At5 f bytes line (a ∷ []) rest l = absurd (omega arith)
front_At5 f bytes line (a ∷ b ∷ []) rest l = absurd (omega arith)
front_At5 f bytes line (a ∷ b ∷ c ∷ []) rest l = absurd (omega arith)
front_At5 f bytes line (a ∷ b ∷ c ∷ d ∷ []) rest l = absurd (omega arith)

front_At6 : (f : List ℕ → ℕ → Piece → Piece → Piece → Piece → Piece → Piece → Piece) (bytes : List ℕ) (line : ℕ) (vs rest : List Piece) → length vs ≡ 6 → apply (At6 f) bytes line (vs ++ rest) ≡ apply (At6 f) bytes line vs
front_At6 f bytes line (a ∷ b ∷ c ∷ d ∷ e ∷ g ∷ vs) rest l = refl
front_At6 f bytes line [] rest l = absurd (omega arith)
front_At6 f bytes line (a ∷ []) rest l = absurd (omega arith)
front_At6 f bytes line (a ∷ b ∷ []) rest l = absurd (omega arith)
front_At6 f bytes line (a ∷ b ∷ c ∷ []) rest l = absurd (omega arith)
front_At6 f bytes line (a ∷ b ∷ c ∷ d ∷ []) rest l = absurd (omega arith)
front_At6 f bytes line (a ∷ b ∷ c ∷ d ∷ e ∷ []) rest l = absurd (omega arith)

pub apply_front : (a : Action) (bytes : List ℕ) (line : ℕ) (vs rest : List Piece) → length vs ≡ arity a → apply a bytes line (vs ++ rest) ≡ apply a bytes line vs
apply_front (Of0 f) bytes line vs rest l = front_Of0 f bytes line vs rest l
apply_front (Of1 f) bytes line vs rest l = front_Of1 f bytes line vs rest l
apply_front (Of2 f) bytes line vs rest l = front_Of2 f bytes line vs rest l
apply_front (Of3 f) bytes line vs rest l = front_Of3 f bytes line vs rest l
apply_front (Of4 f) bytes line vs rest l = front_Of4 f bytes line vs rest l
apply_front (Of6 f) bytes line vs rest l = front_Of6 f bytes line vs rest l
apply_front (At1 f) bytes line vs rest l = front_At1 f bytes line vs rest l
apply_front (At2 f) bytes line vs rest l = front_At2 f bytes line vs rest l
apply_front (At3 f) bytes line vs rest l = front_At3 f bytes line vs rest l
apply_front (At4 f) bytes line vs rest l = front_At4 f bytes line vs rest l
apply_front (At5 f) bytes line vs rest l = front_At5 f bytes line vs rest l
apply_front (At6 f) bytes line vs rest l = front_At6 f bytes line vs rest l

pub apply_line : (a : Action) (bytes : List ℕ) (m n : ℕ) (vs : List Piece) → (is_lined a ≡ true → m ≡ n) → apply a bytes m vs ≡ apply a bytes n vs
apply_line (Of0 f) bytes m n vs h = refl
apply_line (Of1 f) bytes m n vs h = refl
apply_line (Of2 f) bytes m n vs h = refl
apply_line (Of3 f) bytes m n vs h = refl
apply_line (Of4 f) bytes m n vs h = refl
apply_line (Of6 f) bytes m n vs h = refl
apply_line (At1 f) bytes m n vs h = ap (λ (z : ℕ). apply (At1 f) bytes z vs) (h refl)
apply_line (At2 f) bytes m n vs h = ap (λ (z : ℕ). apply (At2 f) bytes z vs) (h refl)
apply_line (At3 f) bytes m n vs h = ap (λ (z : ℕ). apply (At3 f) bytes z vs) (h refl)
apply_line (At4 f) bytes m n vs h = ap (λ (z : ℕ). apply (At4 f) bytes z vs) (h refl)
apply_line (At5 f) bytes m n vs h = ap (λ (z : ℕ). apply (At5 f) bytes z vs) (h refl)
apply_line (At6 f) bytes m n vs h = ap (λ (z : ℕ). apply (At6 f) bytes z vs) (h refl)
