-- Each owner gives a part away.
use Rattle.std.proofs.Common.{◌≡◌, ◌≢◌, ℕ, zero, suc, ◌+◌, ◌-◌, ◌<◌, ◌≤◌, List, [], ◌∷◌, ◌++◌, length, map, take, set, get_or, sym, refl, ap, ◌∙◌, subst, ⊎_elim, arith, length-append}
use mathlib.Core.Option.{some, some-injective, some-ne-none}
use lib.ListN.{get_elem?}
use Rattle.crossbeam_queue.proofs.Lists.{at_set, at_index, at_snoc}
use Rattle.pyd_board.specs.declared.seat.Ticket.{Ticket}
use Rattle.pyd_pool.specs.declared.account.Account.{Account}
use Rattle.pyd_pool.specs.Accounts.{account, weigh}
use Rattle.pyd_pool.specs.Hands.{puts, takes}
use Rattle.pyd_pool.specs.Passing.{Splits}
use Rattle.pyd_pool.proofs.Sums.{map_set}
use Rattle.pyd_pool.proofs.Merging.{at_map, puts_end, takes_end}

take_more : {I : Type 0} (l : List I) (k : ℕ) (a : I) → get_elem? l k ≡ some a → take (suc k) l ≡ take k l ++ a ∷ []
take_more [] k a e = absurd (some-ne-none a (sym e))
take_more (z ∷ l) zero a e = λ t. some-injective z a e t ∷ []
take_more (z ∷ l) (suc k) a e = let r = take_more l k a e in λ t. z ∷ r t

pub map_end : {B I : Type 0} (j : B → I) (ys : List B) (y : B) → map j (ys ++ y ∷ []) ≡ map j ys ++ j y ∷ []
map_end j [] y = refl
map_end j (z ∷ ys) y = let r = map_end j ys y in λ t. j z ∷ r t

module _ {A B I : Type 0} (f : A → Account) (g : B → Account) (i : A → I) (j : B → I) where
  pub splits : (p n k : ℕ) (xs0 xs : List A) (ys zs : List B) (x w : A) (y : B) → Splits f g i j p k xs0 xs ys → k < length xs → x ≡ get_or xs k x → n ≡ suc k → zs ≡ ys ++ y ∷ []
      → i w ≡ i x → j y ≡ i x → g y ≡ account 1 [] [] → (f w).parts + 1 ≡ (f x).parts → (f w).put ≡ (f x).put → (f w).taken ≡ (f x).taken → Splits f g i j p n xs0 (set xs k w) zs
  splits p n k xs0 xs ys zs x w y h lt is en ez same of fresh parts put taken =
      let at = at_index xs k x lt is in let was = (h.3 k x at).1 (omega arith) in
      let q : (f w).parts ≡ p - 1 = (let a = ap (λ (u : Account). u.parts) was in omega arith) in
      let now : f w ≡ account (p - 1) [] [] = λ t. account (q t) ((put ∙ ap (λ (u : Account). u.put) was) t) ((taken ∙ ap (λ (u : Account). u.taken) was) t) in (
        map_set i xs k x w at same ∙ h.0,
        (let l = ap length ez in let m = length-append ys (y ∷ []) in let o = h.1 in omega arith),
        ap (map j) ez ∙ map_end j ys y ∙ ap (λ l. l ++ j y ∷ []) h.2 ∙ sym (take_more (map i xs0) k (j y) (subst (λ a. get_elem? (map i xs0) k ≡ some a) (sym of) (subst (λ l. get_elem? l k ≡ some (i x)) h.0 (at_map i xs k x at)))) ∙ ap (λ m. take m (map i xs0)) (sym en),
        (λ m z e. ⊎_elim (λ (c : (m ≡ k) × (w ≡ z)). ((λ below. ap f (sym c.1) ∙ now), λ past. absurd (let o = c.0 in omega arith)))
            (λ (c : (m ≢ k) × (get_elem? xs m ≡ some z)). let o = c.0 in ((λ below. (h.3 m z c.1).0 (omega arith)), λ past. (h.3 m z c.1).1 (omega arith))) (at_set xs k m w z e)),
        (λ a. let r = h.4 a in let r0 = r.0 in let r1 = r.1 in let e = ap (puts g a) ez ∙ puts_end g a ys y in let e' = ap (takes g a) ez ∙ takes_end g a ys y in let u = ap (λ (v : Account). weigh a v.put) fresh in let u' = ap (λ (v : Account). weigh a v.taken) fresh in (omega arith, omega arith)),
      )

pub every_end : {A : Type 0} (F : A → Type 0) (zs ys : List A) (y : A) → zs ≡ ys ++ y ∷ [] → F y → ((k : ℕ) (x : A) → get_elem? ys k ≡ some x → F x) → (k : ℕ) (x : A) → get_elem? zs k ≡ some x → F x
every_end F zs ys y ez mine all k x e = ⊎_elim (λ (c : get_elem? ys k ≡ some x). all k x c) (λ (c : y ≡ x). subst F c mine) (at_snoc ys y x k (subst (λ l. get_elem? l k ≡ some x) ez e))

pub long_end : {A : Type 0} (zs ys : List A) (y : A) → zs ≡ ys ++ y ∷ [] → length zs ≡ length ys + 1
long_end zs ys y ez = ap length ez ∙ length-append ys (y ∷ [])

pub image_end : {B I : Type 0} (j : B → I) (l : List I) (zs ys : List B) (y : B) (k n : ℕ) → zs ≡ ys ++ y ∷ [] → n ≡ suc k → get_elem? l k ≡ some (j y) → map j ys ≡ take k l → map j zs ≡ take n l
image_end j l zs ys y k n ez en at same = ap (map j) ez ∙ map_end j ys y ∙ ap (λ m. m ++ j y ∷ []) same ∙ sym (take_more l k (j y) at) ∙ ap (λ m. take m l) (sym en)
