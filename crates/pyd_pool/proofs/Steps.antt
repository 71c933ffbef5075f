-- Each step keeps the rule.
use Rattle.std.proofs.Common.{◌≡◌, ◌≢◌, ℕ, zero, suc, ◌+◌, ◌<◌, ◌≤◌, List, [], ◌∷◌, ◌++◌, length, set, sym, refl, ap, ◌∙◌, subst, ⊎_elim, append_assoc, arith, ◌-◌, add-zero}
use mathlib.Core.Option.{some, some-injective, some-ne-none}
use lib.ListN.{get_elem?}
use Rattle.crossbeam_queue.proofs.Lists.{at_set, at_snoc}
use Rattle.crossbeam_queue.specs.Fifo as queue
use Rattle.crossbeam_deque.specs.Tasks as deque
use Rattle.pyd_board.specs.declared.seat.Ticket.{Ticket}
use Rattle.pyd_pool.specs.declared.account.Account.{Account}
use Rattle.pyd_pool.specs.Accounts.{account, total, weigh, Idle, Balanced, WasEmpty, Held, Left}

pub weigh-append : (h : Ticket → ℕ) (xs ys : List Ticket) → weigh h (xs ++ ys) ≡ weigh h xs + weigh h ys
weigh-append h [] ys = omega arith
weigh-append h (x ∷ xs) ys = let e = weigh-append h xs ys in omega arith

pub total-append : (f : Account → ℕ) (xs ys : List Account) → total f (xs ++ ys) ≡ total f xs + total f ys
total-append f [] ys = omega arith
total-append f (x ∷ xs) ys = let e = total-append f xs ys in omega arith

-- the total after a change of one pass
pub total_set : (f : Account → ℕ) (views : List Account) (port : ℕ) (v w : Account) → get_elem? views port ≡ some v → total f (set views port w) + f v ≡ total f views + f w
total_set f [] port v w e = absurd (some-ne-none v (sym e))
total_set f (x ∷ xs) zero v w e = let a = ap f (some-injective x v e) in omega arith
total_set f (x ∷ xs) (suc port) v w e = let a = total_set f xs port v w e in omega arith

idle_set : (views : List Account) (port : ℕ) (w : Account) → (w.parts ≡ 0 → (w.put ≡ []) × (w.taken ≡ [])) → Idle views → Idle (set views port w)
idle_set views port w mine old j u e none = ⊎_elim (λ (x : (j ≡ port) × (w ≡ u)). subst (λ (y : Account). y.parts ≡ 0 → (y.put ≡ []) × (y.taken ≡ [])) x.1 mine none) (λ (x : (j ≢ port) × (get_elem? views j ≡ some u)). old j u x.1 none) (at_set views port j w u e)

idle_snoc : (views : List Account) (w : Account) → (w.parts ≡ 0 → (w.put ≡ []) × (w.taken ≡ [])) → Idle views → Idle (views ++ w ∷ [])
idle_snoc views w mine old j u e none = ⊎_elim (λ (x : get_elem? views j ≡ some u). old j u x none) (λ (x : w ≡ u). subst (λ (y : Account). y.parts ≡ 0 → (y.put ≡ []) × (y.taken ≡ [])) x mine none) (at_snoc views w u j e)

one_idle : Idle (account 128 [] [] ∷ [])
one_idle zero u e none = absurd (let a = ap (λ (y : Account). y.parts) (some-injective (account 128 [] []) u e) in omega arith)
one_idle (suc j) u e none = absurd (some-ne-none u (sym e))

pub begins : Balanced [] (account 128 [] [] ∷ [])
begins = ([], [], refl, refl, one_idle, (λ h. refl), λ h. refl)

-- a put
puts_at : (port : ℕ) (v : Account) (x : Ticket) → 0 < v.parts → (items : List Ticket) (views : List Account) → Balanced items views → get_elem? views port ≡ some v → Balanced (items ++ x ∷ []) (set views port (account v.parts (v.put ++ x ∷ []) v.taken))
puts_at port v x some_part items views b at = let w = account v.parts (v.put ++ x ∷ []) v.taken in (
  b.0 ++ x ∷ [],
  b.1,
  ap (λ l. l ++ x ∷ []) b.2 ∙ append_assoc b.1 items (x ∷ []),
  (let s = total_set (λ u. u.parts) views port v w at in let p = b.3 in omega arith),
  idle_set views port w (λ none. absurd (omega arith)) b.4,
  (λ h. let s = total_set (λ u. weigh h u.put) views port v w at in let p = b.5 h in omega (arith, weigh-append h v.put (x ∷ []), weigh-append h b.0 (x ∷ []))),
  (λ h. let s = total_set (λ u. weigh h u.taken) views port v w at in let p = b.6 h in omega arith),
)

-- a take at the front
takes_at : (port : ℕ) (v : Account) (xs : List Ticket) → 0 < v.parts → (items : List Ticket) (views : List Account) → Balanced (xs ++ items) views → get_elem? views port ≡ some v → Balanced items (set views port (account v.parts v.put (v.taken ++ xs)))
takes_at port v xs some_part items views b at = let w = account v.parts v.put (v.taken ++ xs) in (
  b.0,
  b.1 ++ xs,
  b.2 ∙ sym (append_assoc b.1 xs items),
  (let s = total_set (λ u. u.parts) views port v w at in let p = b.3 in omega arith),
  idle_set views port w (λ none. absurd (omega arith)) b.4,
  (λ h. let s = total_set (λ u. weigh h u.put) views port v w at in let p = b.5 h in omega arith),
  (λ h. let s = total_set (λ u. weigh h u.taken) views port v w at in let p = b.6 h in omega (arith, weigh-append h v.taken xs, weigh-append h b.1 xs)),
)

pub push_deque : (port : ℕ) (v : Account) (x : Ticket) → 0 < v.parts → deque.Pushes Balanced port v (x ∷ []) (λ w. w ≡ account v.parts (v.put ++ x ∷ []) v.taken)
push_deque port v x p items views b at = (account v.parts (v.put ++ x ∷ []) v.taken, puts_at port v x p items views b at, refl)

pub push_queue : (n port : ℕ) (v : Account) (x : Ticket) → 0 < v.parts → queue.Pushes Balanced n port v x (λ w. w ≡ account v.parts (v.put ++ x ∷ []) v.taken)
push_queue n port v x p items views left_count b at = (account v.parts (v.put ++ x ∷ []) v.taken, puts_at port v x p items views b at, refl)

pub take_deque : (port : ℕ) (v : Account) → 0 < v.parts → deque.Takes Balanced port v 1 (λ xs w. w ≡ account v.parts v.put (v.taken ++ xs))
take_deque port v p xs items views _ _ b at = (account v.parts v.put (v.taken ++ xs), takes_at port v xs p items views b at, refl)

pub take_queue : (port : ℕ) (v : Account) → 0 < v.parts → queue.Pops Balanced port v (λ x w. w ≡ account v.parts v.put (v.taken ++ x ∷ []))
take_queue port v p x items views b at = (account v.parts v.put (v.taken ++ x ∷ []), takes_at port v (x ∷ []) p items views b at, refl)

pub empty_deque : (port : ℕ) (v : Account) → deque.Finds Balanced port v (WasEmpty v)
empty_deque port v views b at = (port, views, b, at)

pub few_deque : (port : ℕ) (v : Account) → deque.FindsFew Balanced 0 port v (WasEmpty v)
few_deque port v [] views _ b at = (port, views, b, at)
few_deque port v (x ∷ xs) views few b at = absurd (omega arith)

pub saw_queue : (port : ℕ) (v : Account) → queue.Learns Balanced port v (Held v)
saw_queue port v items views b at = (port, views, b, at)

-- a pass of one part is made
pub forks : (port : ℕ) (v : Account) → 1 < v.parts → deque.Forks Balanced port v (account (v.parts - 1) v.put v.taken) (account 1 [] [])
forks port v more items views b at = let l = account (v.parts - 1) v.put v.taken in let r = account 1 [] [] in (
  b.0,
  b.1,
  b.2,
  (let s = total_set (λ u. u.parts) views port v l at in let p = b.3 in omega (arith, total-append (λ u. u.parts) (set views port l) (r ∷ []))),
  idle_snoc (set views port l) r (λ none. absurd (omega arith)) (idle_set views port l (λ none. absurd (omega arith)) b.4),
  (λ h. let s = total_set (λ u. weigh h u.put) views port v l at in let p = b.5 h in omega (arith, total-append (λ u. weigh h u.put) (set views port l) (r ∷ []))),
  (λ h. let s = total_set (λ u. weigh h u.taken) views port v l at in let p = b.6 h in omega (arith, total-append (λ u. weigh h u.taken) (set views port l) (r ∷ []))),
)

-- passes join
pub merges : (port : ℕ) (v : Account) (stealer : ℕ) (u : Account) → 0 < v.parts → deque.Merges Balanced port v stealer u (account (v.parts + u.parts) (v.put ++ u.put) (v.taken ++ u.taken)) (account 0 [] [])
merges port v stealer u more items views b at two at' = let both = account (v.parts + u.parts) (v.put ++ u.put) (v.taken ++ u.taken) in let vs = set views port both in let none = account 0 [] [] in (
  b.0,
  b.1,
  b.2,
  (let s = total_set (λ y. y.parts) views port v both at in let t = total_set (λ y. y.parts) vs stealer u none at' in let p = b.3 in omega arith),
  idle_set vs stealer none (λ _. (refl, refl)) (idle_set views port both (λ no. absurd (omega arith)) b.4),
  (λ h. let s = total_set (λ y. weigh h y.put) views port v both at in let t = total_set (λ y. weigh h y.put) vs stealer u none at' in let p = b.5 h in omega (arith, weigh-append h v.put u.put)),
  (λ h. let s = total_set (λ y. weigh h y.taken) views port v both at in let t = total_set (λ y. weigh h y.taken) vs stealer u none at' in let p = b.6 h in omega (arith, weigh-append h v.taken u.taken)),
)

-- where one pass has every part, the totals are its own
part_of : (f : Account → ℕ) (views : List Account) (port : ℕ) (v : Account) → get_elem? views port ≡ some v → f v ≤ total f views
part_of f [] port v e = absurd (some-ne-none v (sym e))
part_of f (x ∷ xs) zero v e = let a = ap f (some-injective x v e) in omega arith
part_of f (x ∷ xs) (suc port) v e = let a = part_of f xs port v e in omega arith

abbrev Quiet : (Account → ℕ) → List Account → Type 0
Quiet f views = (j : ℕ) (u : Account) → get_elem? views j ≡ some u → u.parts ≡ 0 → f u ≡ 0

no_part : (f : Account → ℕ) (views : List Account) → total (λ u. u.parts) views ≡ 0 → Quiet f views → total f views ≡ 0
no_part f [] none q = refl
no_part f (x ∷ xs) none q = let a = q 0 x refl (omega arith) in let b = no_part f xs (omega arith) (λ j u e. q (suc j) u e) in omega arith

lone : (f : Account → ℕ) (views : List Account) (port : ℕ) (v : Account) → get_elem? views port ≡ some v → total (λ u. u.parts) views ≡ v.parts → Quiet f views → total f views ≡ f v
lone f [] port v e all q = absurd (some-ne-none v (sym e))
lone f (x ∷ xs) zero v e all q = let a = ap f (some-injective x v e) in let p = ap (λ (u : Account). u.parts) (some-injective x v e) in let b = no_part f xs (omega arith) (λ j u k. q (suc j) u k) in omega arith
lone f (x ∷ xs) (suc port) v e all q = let p = part_of (λ u. u.parts) xs port v e in let a = q 0 x refl (omega arith) in let b = lone f xs port v e (omega arith) (λ j u k. q (suc j) u k) in omega arith

pub settles : (v : Account) → WasEmpty v → v.parts ≡ 128 → (h : Ticket → ℕ) → weigh h v.put ≡ weigh h v.taken
settles v (port, views, b, at) all h =
    let t : total (λ u. u.parts) views ≡ v.parts = b.3 ∙ sym all in
    let p = lone (λ u. weigh h u.put) views port v at t (λ j u e z. ap (weigh h) (b.4 j u e z).0) in
    let g = lone (λ u. weigh h u.taken) views port v at t (λ j u e z. ap (weigh h) (b.4 j u e z).1) in
    let s = b.5 h in let k = b.6 h in let m : weigh h b.0 ≡ weigh h b.1 = ap (weigh h) b.2 ∙ weigh-append h b.1 [] ∙ add-zero _ in
    sym p ∙ s ∙ m ∙ sym k ∙ g
