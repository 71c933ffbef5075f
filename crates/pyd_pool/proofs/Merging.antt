-- The passes of one hand join those of the owners.
use Rattle.std.proofs.Common.{◌≡◌, ◌≢◌, ℕ, zero, suc, ◌+◌, ◌<◌, ◌≤◌, ◌⊎◌, List, [], ◌∷◌, ◌++◌, length, map, set, get_or, sym, refl, ap, ◌∙◌, subst, ⊎_elim, arith, length-append, Global}
use mathlib.Core.Option.{some, some-injective, some-ne-none}
use lib.ListN.{get_elem?}
use Rattle.crossbeam_queue.proofs.Lists.{at_set, at_index, at_longer, at_last}
use Rattle.pyd_board.specs.declared.seat.Ticket.{Ticket}
use Rattle.pyd_pool.specs.declared.account.Account.{Account}
use Rattle.pyd_pool.specs.Accounts.{account, weigh}
use Rattle.crossbeam_deque.specs.declared.handles.Worker.{Worker}
use Rattle.crossbeam_deque.specs.Handles.{worker_flavor}
use Rattle.pyd_pool.specs.declared.rule.Conserved.{Conserved}
use Rattle.pyd_pool.specs.declared.pool.Rest.{Rest}
use Rattle.pyd_pool.specs.Hands.{deque_account, queue_account, puts, takes}
use Rattle.pyd_pool.specs.Ends.{HaveParts, AllFifo, rests_put, rests_taken}
use Rattle.pyd_pool.specs.Passing.{Joins}
use Rattle.pyd_pool.proofs.Steps.{weigh-append}
use Rattle.pyd_pool.proofs.Sums.{map_set, puts_set, takes_set, set_long}

pub at_map : {A I : Type 0} (i : A → I) (xs : List A) (k : ℕ) (x : A) → get_elem? xs k ≡ some x → get_elem? (map i xs) k ≡ some (i x)
at_map i [] k x e = absurd (some-ne-none x (sym e))
at_map i (z ∷ xs) zero x e = ap some (ap i (some-injective z x e))
at_map i (z ∷ xs) (suc k) x e = at_map i xs k x e

map_set_any : {A I : Type 0} (i : A → I) (xs : List A) (k : ℕ) (y : A) → map i (set xs k y) ≡ set (map i xs) k (i y)
map_set_any i [] k y = refl
map_set_any i (z ∷ xs) zero y = refl
map_set_any i (z ∷ xs) (suc k) y = let a = map_set_any i xs k y in λ t. i z ∷ a t

-- a ticket is put through the pass at one place
pub put_there : {A : Type 0} (f : A → Account) (xs : List A) (k : ℕ) (x y : A) (t : Ticket) → k < length xs → x ≡ get_or xs k x → f y ≡ account (f x).parts ((f x).put ++ t ∷ []) (f x).taken
    → (v : Account) → get_elem? (map f xs) k ≡ some v → map f (set xs k y) ≡ set (map f xs) k (account v.parts (v.put ++ t ∷ []) v.taken)
put_there f xs k x y t lt is e v at = let same : f x ≡ v = some-injective (f x) v (sym (at_map f xs k x (at_index xs k x lt is)) ∙ at) in
    map_set_any f xs k y ∙ ap (set (map f xs) k) (e ∙ ap (λ (u : Account). account u.parts (u.put ++ t ∷ []) u.taken) same)

-- a place of the image is one of the list
pub within : {A I : Type 0} (i : A → I) (xs : List A) (k : ℕ) (a : I) → get_elem? (map i xs) k ≡ some a → k < length xs
within i [] k a e = absurd (some-ne-none a (sym e))
within i (z ∷ xs) zero a e = omega arith
within i (z ∷ xs) (suc k) a e = let h = within i xs k a e in omega arith

pub puts_end : {B : Type 0} (g : B → Account) (h : Ticket → ℕ) (ys : List B) (y : B) → puts g h (ys ++ y ∷ []) ≡ puts g h ys + weigh h (g y).put
puts_end g h [] y = omega arith
puts_end g h (z ∷ ys) y = let e = puts_end g h ys y in omega arith

pub takes_end : {B : Type 0} (g : B → Account) (h : Ticket → ℕ) (ys : List B) (y : B) → takes g h (ys ++ y ∷ []) ≡ takes g h ys + weigh h (g y).taken
takes_end g h [] y = omega arith
takes_end g h (z ∷ ys) y = let e = takes_end g h ys y in omega arith

module _ {A B I : Type 0} (f : A → Account) (g : B → Account) (i : A → I) (j : B → I) where
  pub starts : (p : ℕ) (xs : List A) (ys : List B) → map j ys ≡ map i xs → HaveParts f p xs → Joins f g i j p xs ys xs ys
  starts p xs ys same parts = (refl, (λ k y e. subst (λ l. get_elem? l k ≡ some (j y)) same (at_map j ys k y e)), (λ k x e. ((λ _. parts k x e), λ past. absurd (let w = within i xs k (i x) (at_map i xs k x e) in let l = ap length same in let a = long j ys in let b = long i xs in omega arith))), (λ h. refl), λ h. refl)
    where
      long : {C : Type 0} (u : C → I) (l : List C) → length (map u l) ≡ length l
      long u [] = refl
      long u (z ∷ l) = ap suc (long u l)

  -- the owner of the last pass is there, and it is the pass's own
  pub fits : (p : ℕ) (xs0 : List A) (ys0 : List B) (xs : List A) (ys : List B) (y : B) → Joins f g i j p xs0 ys0 xs (ys ++ y ∷ []) → length ys < length xs
  fits p xs0 ys0 xs ys y h = within i xs (length ys) (j y) (subst (λ l. get_elem? l (length ys) ≡ some (j y)) (sym h.0) (h.1 (length ys) y (at_last ys y (length ys) refl)))

  pub meets : (p : ℕ) (xs0 : List A) (ys0 : List B) (xs : List A) (ys : List B) (y : B) (x : A) → Joins f g i j p xs0 ys0 xs (ys ++ y ∷ []) → get_elem? xs (length ys) ≡ some x → j y ≡ i x
  meets p xs0 ys0 xs ys y x h at = some-injective (j y) (i x) (sym (h.1 (length ys) y (at_last ys y (length ys) refl)) ∙ ap (λ l. get_elem? l (length ys)) (sym h.0) ∙ at_map i xs (length ys) x at)

  pub has : (p : ℕ) (xs0 : List A) (ys0 : List B) (xs : List A) (ys : List B) (y : B) (x : A) → Joins f g i j p xs0 ys0 xs (ys ++ y ∷ []) → get_elem? xs (length ys) ≡ some x → (f x).parts ≡ p
  has p xs0 ys0 xs ys y x h at = (h.2 (length ys) x at).0 (let e = length-append ys (y ∷ []) in omega arith)

  pub joins : (p : ℕ) (xs0 : List A) (ys0 : List B) (xs : List A) (ys : List B) (y : B) (x w : A) → Joins f g i j p xs0 ys0 xs (ys ++ y ∷ []) → get_elem? xs (length ys) ≡ some x → i w ≡ i x
      → f w ≡ account ((f x).parts + 1) ((f x).put ++ (g y).put) ((f x).taken ++ (g y).taken) → Joins f g i j p xs0 ys0 (set xs (length ys) w) ys
  joins p xs0 ys0 xs ys y x w h at same is = (
    map_set i xs (length ys) x w at same ∙ h.0,
    (λ k z e. h.1 k z (at_longer ys (y ∷ []) k z e)),
    (λ k z e. let n = length-append ys (y ∷ []) in ⊎_elim
        (λ (c : (k ≡ length ys) × (w ≡ z)). ((λ below. absurd (let q = c.0 in omega arith)), λ _. ap (λ u. (f u).parts) (sym c.1) ∙ ap (λ (u : Account). u.parts) is ∙ ap (λ q. q + 1) (has p xs0 ys0 xs ys y x h at)))
        (λ (c : (k ≢ length ys) × (get_elem? xs k ≡ some z)). let q = c.0 in ((λ below. (h.2 k z c.1).0 (omega arith)), λ past. (h.2 k z c.1).1 (omega arith))) (at_set xs (length ys) k w z e)),
    (λ a. let s = puts_set f a xs (length ys) x w at in let e = ap (λ (u : Account). weigh a u.put) is in let v = weigh-append a (f x).put (g y).put in let t = puts_end g a ys y in let o = h.3 a in omega arith),
    (λ a. let s = takes_set f a xs (length ys) x w at in let e = ap (λ (u : Account). weigh a u.taken) is in let v = weigh-append a (f x).taken (g y).taken in let t = takes_end g a ys y in let o = h.4 a in omega arith),
  )

  -- the same, as a loop asks for it
  module _ (p : ℕ) (xs0 : List A) (ys0 : List B) (xs : List A) (zs ys : List B) (y : B) (k : ℕ) (ek : k ≡ length ys) (ez : zs ≡ ys ++ y ∷ []) (h : Joins f g i j p xs0 ys0 xs zs) where
    before : Joins f g i j p xs0 ys0 xs (ys ++ y ∷ [])
    before = subst (Joins f g i j p xs0 ys0 xs) ez h

    pub loop_fits : k < length xs
    loop_fits = let a = fits p xs0 ys0 xs ys y before in omega arith

    there : (x : A) → x ≡ get_or xs k x → get_elem? xs (length ys) ≡ some x
    there x is = subst (λ n. get_elem? xs n ≡ some x) ek (at_index xs k x loop_fits is)

    pub loop_meets : (x : A) → x ≡ get_or xs k x → j y ≡ i x
    loop_meets x is = meets p xs0 ys0 xs ys y x before (there x is)

    pub loop_has : (x : A) → x ≡ get_or xs k x → (f x).parts ≡ p
    loop_has x is = has p xs0 ys0 xs ys y x before (there x is)

    pub loop_joins : (x w : A) → x ≡ get_or xs k x → i w ≡ i x → f w ≡ account ((f x).parts + 1) ((f x).put ++ (g y).put) ((f x).taken ++ (g y).taken) → Joins f g i j p xs0 ys0 (set xs k w) ys
    loop_joins x w is same e = subst (λ n. Joins f g i j p xs0 ys0 (set xs n w) ys) (sym ek) (joins p xs0 ys0 xs ys y x w before (there x is) same e)

module _ {A : Type 0} where
  pub last_has : (F : A → Type 0) (zs ys : List A) (y : A) → zs ≡ ys ++ y ∷ [] → ((k : ℕ) (x : A) → get_elem? zs k ≡ some x → F x) → F y
  last_has F zs ys y e all = all (length ys) y (subst (λ l. get_elem? l (length ys) ≡ some y) (sym e) (at_last ys y (length ys) refl))

  pub front_has : (F : A → Type 0) (zs ys : List A) (y : A) → zs ≡ ys ++ y ∷ [] → ((k : ℕ) (x : A) → get_elem? zs k ≡ some x → F x) → (k : ℕ) (x : A) → get_elem? ys k ≡ some x → F x
  front_has F zs ys y e all k x at = all k x (subst (λ l. get_elem? l k ≡ some x) (sym e) (at_longer ys (y ∷ []) k x at))

  pub puts_pop : (f : A → Account) (h : Ticket → ℕ) (zs ys : List A) (y : A) → zs ≡ ys ++ y ∷ [] → puts f h zs ≡ puts f h ys + weigh h (f y).put
  puts_pop f h zs ys y e = ap (puts f h) e ∙ puts_end f h ys y

  pub takes_pop : (f : A → Account) (h : Ticket → ℕ) (zs ys : List A) (y : A) → zs ≡ ys ++ y ∷ [] → takes f h zs ≡ takes f h ys + weigh h (f y).taken
  takes_pop f h zs ys y e = ap (takes f h) e ∙ takes_end f h ys y

pub every_set : {A : Type 0} (F : A → Type 0) (xs : List A) (n : ℕ) (w : A) → F w → ((k : ℕ) (x : A) → get_elem? xs k ≡ some x → F x) → (k : ℕ) (x : A) → get_elem? (set xs n w) k ≡ some x → F x
every_set F xs n w mine all k x e = ⊎_elim (λ (c : (k ≡ n) × (w ≡ x)). subst F c.1 mine) (λ (c : (k ≢ n) × (get_elem? xs k ≡ some x)). all k x c.1) (at_set xs n k w x e)

rests_put_end : (h : Ticket → ℕ) (ys : List Rest) (y : Rest) → rests_put h (ys ++ y ∷ []) ≡ rests_put h ys + (puts deque_account h y.deques.items + puts queue_account h y.queues.items)
rests_put_end h [] y = omega arith
rests_put_end h (z ∷ ys) y = let e = rests_put_end h ys y in omega arith

rests_taken_end : (h : Ticket → ℕ) (ys : List Rest) (y : Rest) → rests_taken h (ys ++ y ∷ []) ≡ rests_taken h ys + (takes deque_account h y.deques.items + takes queue_account h y.queues.items)
rests_taken_end h [] y = omega arith
rests_taken_end h (z ∷ ys) y = let e = rests_taken_end h ys y in omega arith

pub rests_put_pop : (h : Ticket → ℕ) (zs ys : List Rest) (y : Rest) → zs ≡ ys ++ y ∷ [] → rests_put h zs ≡ rests_put h ys + (puts deque_account h y.deques.items + puts queue_account h y.queues.items)
rests_put_pop h zs ys y e = ap (rests_put h) e ∙ rests_put_end h ys y

pub rests_taken_pop : (h : Ticket → ℕ) (zs ys : List Rest) (y : Rest) → zs ≡ ys ++ y ∷ [] → rests_taken h zs ≡ rests_taken h ys + (takes deque_account h y.deques.items + takes queue_account h y.queues.items)
rests_taken_pop h zs ys y e = ap (rests_taken h) e ∙ rests_taken_end h ys y

pub last_fifo : (xs : List (Worker Ticket Global Account Conserved)) (k : ℕ) (x : Worker Ticket Global Account Conserved) → k < length xs → x ≡ get_or xs k x → AllFifo xs → worker_flavor x ≡ 0
last_fifo xs k x lt is all = all k x (at_index xs k x lt is)
