-- Hands are made one after another.
use Rattle.std.proofs.Common.{◌≡◌, ℕ, zero, suc, ◌+◌, ◌*◌, ◌/◌, ◌<◌, ◌≤◌, List, [], ◌∷◌, ◌++◌, length, map, sym, refl, ap, ◌∙◌, subst, append_assoc, arith}
use mathlib.Core.Option.{some, some-injective, some-ne-none}
use lib.ListN.{get_elem?}
use Rattle.std.proofs.lemmas.Nat.{div_below}
use Rattle.pyd_board.specs.declared.seat.Ticket.{Ticket}
use Rattle.pyd_pool.specs.declared.hand.Hand.{Hand}
use Rattle.pyd_pool.specs.Whole.{put_by, taken_by}
use Rattle.pyd_pool.proofs.Splitting.{map_end}
use Rattle.pyd_pool.specs.Ends.{all_put, all_taken, AreAtHome}

module _ {A : Type 0} where
  -- what holds at each place holds with one more at the end
  snoc_at : (F : ℕ → A → Type 0) (ys : List A) (y : A) → F (length ys) y → ((k : ℕ) (x : A) → get_elem? ys k ≡ some x → F k x) → (k : ℕ) (x : A) → get_elem? (ys ++ y ∷ []) k ≡ some x → F k x
  snoc_at F [] y mine all zero x e = subst (F 0) (some-injective y x e) mine
  snoc_at F [] y mine all (suc k) x e = absurd (some-ne-none x (sym e))
  snoc_at F (z ∷ ys) y mine all zero x e = all zero x e
  snoc_at F (z ∷ ys) y mine all (suc k) x e = snoc_at (λ n. F (suc n)) ys y mine (λ j u q. all (suc j) u q) k x e

  -- the first of what is left stands at the place that comes next
  at_front : {B : Type 0} (f : B → A) (hs : List B) (x : A) (rest : List A) → get_elem? (map f hs ++ x ∷ rest) (length hs) ≡ some x
  at_front f [] x rest = refl
  at_front f (z ∷ hs) x rest = at_front f hs x rest

  pub at_next : {B : Type 0} (f : B → A) (hs : List B) (l ls : List A) (x : A) (rest : List A) → map f hs ++ ls ≡ l → ls ≡ x ∷ rest → get_elem? l (length hs) ≡ some x
  at_next f hs l ls x rest e q = subst (λ m. get_elem? m (length hs) ≡ some x) (ap (λ m. map f hs ++ m) (sym q) ∙ e) (at_front f hs x rest)

  -- what is made of the first that is left goes to the end
  pub moved : {B : Type 0} (f : B → A) (zs ys : List B) (y : B) (l ls : List A) (x : A) (rest : List A) → map f ys ++ ls ≡ l → ls ≡ x ∷ rest → zs ≡ ys ++ y ∷ [] → f y ≡ x → map f zs ++ rest ≡ l
  moved f zs ys y l ls x rest e q ez ey = ap (λ m. map f m ++ rest) ez ∙ ap (λ m. m ++ rest) (map_end f ys y) ∙ append_assoc (map f ys) (f y ∷ []) rest ∙ ap (λ u. map f ys ++ u ∷ rest) ey ∙ ap (λ m. map f ys ++ m) (sym q) ∙ e

  pub inside : (l : List A) (k : ℕ) (x : A) → get_elem? l k ≡ some x → k < length l
  inside [] k x e = absurd (some-ne-none x (sym e))
  inside (z ∷ l) zero x e = omega arith
  inside (z ∷ l) (suc k) x e = let h = inside l k x e in omega arith

pub homes_end : (w : ℕ) (zs ys : List Hand) (y : Hand) → zs ≡ ys ++ y ∷ [] → y.reach.home ≡ length ys / w → AreAtHome w ys → AreAtHome w zs
homes_end w zs ys y e mine all = subst (AreAtHome w) (sym e) (snoc_at (λ (k : ℕ) (x : Hand). x.reach.home ≡ k / w) ys y mine all)

all_put_end : (h : Ticket → ℕ) (ys : List Hand) (y : Hand) → all_put h (ys ++ y ∷ []) ≡ all_put h ys + put_by h y.reach
all_put_end h [] y = omega arith
all_put_end h (z ∷ ys) y = let e = all_put_end h ys y in omega arith

all_taken_end : (h : Ticket → ℕ) (ys : List Hand) (y : Hand) → all_taken h (ys ++ y ∷ []) ≡ all_taken h ys + taken_by h y.reach
all_taken_end h [] y = omega arith
all_taken_end h (z ∷ ys) y = let e = all_taken_end h ys y in omega arith

pub none_end : (h : Ticket → ℕ) (zs ys : List Hand) (y : Hand) → zs ≡ ys ++ y ∷ [] → (put_by h y.reach ≡ 0) × (taken_by h y.reach ≡ 0) → (all_put h ys ≡ 0) × (all_taken h ys ≡ 0) → (all_put h zs ≡ 0) × (all_taken h zs ≡ 0)
none_end h zs ys y e (p, t) (ps, ts) = let a = ap (all_put h) e in let b = ap (all_taken h) e in let u = all_put_end h ys y in let v = all_taken_end h ys y in (omega arith, omega arith)
