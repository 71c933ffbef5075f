-- What the passes of a list have put and taken, where one of them changes.
use Rattle.std.proofs.Common.{◌≡◌, ◌≢◌, ℕ, zero, suc, ◌+◌, ◌<◌, ◌≤◌, ◌⊎◌, List, [], ◌∷◌, ◌++◌, length, map, set, get_or, sym, refl, ap, ◌∙◌, subst, ⊎_elim, arith}
use mathlib.Core.Option.{some, some-injective, some-ne-none}
use lib.ListN.{get_elem?}
use Rattle.crossbeam_queue.proofs.Lists.{at_set, at_index}
use Rattle.pyd_board.specs.declared.seat.Ticket.{Ticket}
use Rattle.pyd_pool.specs.declared.account.Account.{Account}
use Rattle.pyd_pool.specs.Accounts.{account, weigh, WasEmpty}
use Rattle.pyd_pool.specs.Hands.{puts, takes, WereEmpty}
use Rattle.pyd_pool.proofs.Steps.{weigh-append}

here : {A : Type 0} (l : List A) (k : ℕ) (d : A) → k < length l → get_elem? l k ≡ some (get_or l k d)
here [] k d lt = absurd (omega arith)
here (z ∷ l) zero d lt = refl
here (z ∷ l) (suc k) d lt = here l k d (omega arith)

pub map_set : {A B : Type 0} (f : A → B) (l : List A) (k : ℕ) (x y : A) → get_elem? l k ≡ some x → f y ≡ f x → map f (set l k y) ≡ map f l
map_set f [] k x y e s = refl
map_set f (z ∷ l) zero x y e s = let a = ap f (some-injective z x e) in λ i. (s ∙ sym a) i ∷ map f l
map_set f (z ∷ l) (suc k) x y e s = let a = map_set f l k x y e s in λ i. f z ∷ a i

pub map_same : {A B : Type 0} (f : A → B) (l : List A) (k : ℕ) (x y : A) → k < length l → x ≡ get_or l k x → f y ≡ f x → map f (set l k y) ≡ map f l
map_same f l k x y lt is s = map_set f l k x y (at_index l k x lt is) s

pub set_long : {A : Type 0} (l : List A) (k : ℕ) (y : A) → length (set l k y) ≡ length l
set_long [] k y = refl
set_long (z ∷ l) zero y = refl
set_long (z ∷ l) (suc k) y = ap suc (set_long l k y)

module _ {A : Type 0} (f : A → Account) where
  pub puts_set : (h : Ticket → ℕ) (l : List A) (k : ℕ) (x y : A) → get_elem? l k ≡ some x → puts f h (set l k y) + weigh h (f x).put ≡ puts f h l + weigh h (f y).put
  puts_set h [] k x y e = absurd (some-ne-none x (sym e))
  puts_set h (z ∷ l) zero x y e = let a = ap (λ u. weigh h (f u).put) (some-injective z x e) in omega arith
  puts_set h (z ∷ l) (suc k) x y e = let a = puts_set h l k x y e in omega arith

  pub takes_set : (h : Ticket → ℕ) (l : List A) (k : ℕ) (x y : A) → get_elem? l k ≡ some x → takes f h (set l k y) + weigh h (f x).taken ≡ takes f h l + weigh h (f y).taken
  takes_set h [] k x y e = absurd (some-ne-none x (sym e))
  takes_set h (z ∷ l) zero x y e = let a = ap (λ u. weigh h (f u).taken) (some-injective z x e) in omega arith
  takes_set h (z ∷ l) (suc k) x y e = let a = takes_set h l k x y e in omega arith

  pub puts_same : (h : Ticket → ℕ) (l : List A) (k : ℕ) (x y : A) → k < length l → x ≡ get_or l k x → (f y).put ≡ (f x).put → puts f h (set l k y) ≡ puts f h l
  puts_same h l k x y lt is e = let a = puts_set h l k x y (at_index l k x lt is) in let b = ap (weigh h) e in omega arith

  pub takes_same : (h : Ticket → ℕ) (l : List A) (k : ℕ) (x y : A) → k < length l → x ≡ get_or l k x → (f y).taken ≡ (f x).taken → takes f h (set l k y) ≡ takes f h l
  takes_same h l k x y lt is e = let a = takes_set h l k x y (at_index l k x lt is) in let b = ap (weigh h) e in omega arith

  pub puts_more : (h : Ticket → ℕ) (l : List A) (k : ℕ) (x y : A) (t : Ticket) → k < length l → x ≡ get_or l k x → (f y).put ≡ (f x).put ++ t ∷ [] → puts f h (set l k y) ≡ puts f h l + h t
  puts_more h l k x y t lt is e = let a = puts_set h l k x y (at_index l k x lt is) in let b = ap (weigh h) e in omega (arith, weigh-append h (f x).put (t ∷ []))

  pub takes_more : (h : Ticket → ℕ) (l : List A) (k : ℕ) (x y : A) (t : Ticket) → k < length l → x ≡ get_or l k x → (f y).taken ≡ (f x).taken ++ t ∷ [] → takes f h (set l k y) ≡ takes f h l + h t
  takes_more h l k x y t lt is e = let a = takes_set h l k x y (at_index l k x lt is) in let b = ap (weigh h) e in omega (arith, weigh-append h (f x).taken (t ∷ []))

  pub were_empty : (l : List A) (k n : ℕ) (y : A) → n ≡ suc k → WasEmpty (f y) → WereEmpty f k l → WereEmpty f n (set l k y)
  were_empty l k n y is now old j u below e = ⊎_elim (λ (x : (j ≡ k) × (y ≡ u)). subst (λ z. WasEmpty (f z)) x.1 now) (λ (x : (j ≢ k) × (get_elem? l j ≡ some u)). let apart = x.0 in old j u (omega arith) x.1) (at_set l k j y u e)
