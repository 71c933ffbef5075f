-- The hands of a pool taken apart.
use Rattle.std.proofs.Common.{◌≡◌, ℕ, zero, suc, ◌+◌, ◌<◌, ◌≤◌, List, [], ◌∷◌, length, map, sym, refl, ap, ◌∙◌, subst, arith, Global, add-zero, vec_len}
use mathlib.Core.Option.{some, some-injective, some-ne-none}
use lib.ListN.{get_elem?}
use Rattle.atomic_blocks.specs.Lent.{RowsId}
use Rattle.crossbeam_queue.specs.SegTies.{SegId}
use Rattle.crossbeam_deque.specs.declared.handles.Worker.{Worker}
use Rattle.crossbeam_deque.specs.Handles.{worker_deque, worker_flavor, stealer_deque}
use Rattle.pyd_board.specs.declared.seat.Ticket.{Ticket}
use Rattle.pyd_pool.specs.declared.account.Account.{Account}
use Rattle.pyd_pool.specs.declared.rule.Conserved.{Conserved}
use Rattle.pyd_pool.specs.declared.hand.Hand.{Hand}
use Rattle.pyd_pool.specs.declared.pool.Rest.{Rest}
use Rattle.pyd_pool.specs.declared.pool.QueueKeeper.{QueueKeeper}
use Rattle.pyd_pool.specs.declared.pool.Pool.{Pool}
use Rattle.pyd_pool.specs.Accounts.{weigh}
use Rattle.pyd_pool.specs.Hands.{deque_id, queue_id, puts, takes}
use Rattle.pyd_pool.specs.Ends.{owner_account, owner_of, rest_of, hand_deque, keeper_account, keeper_queue, HaveParts, AllFifo, AllRests, AllHands, all_put, all_taken, rests_put, rests_taken}

abbrev Every : {A : Type 0} → (A → Type 0) → List A → Type 0
Every {A} F xs = (k : ℕ) (x : A) → get_elem? xs k ≡ some x → F x

every_map : {A B : Type 0} (f : A → B) (F : B → Type 0) (xs : List A) → Every (λ x. F (f x)) xs → Every F (map f xs)
every_map f F [] all k x e = absurd (some-ne-none x (sym e))
every_map f F (z ∷ xs) all zero x e = subst F (some-injective (f z) x e) (all zero z refl)
every_map f F (z ∷ xs) all (suc k) x e = every_map f F xs (λ j y q. all (suc j) y q) k x e

pub long_map : {A B : Type 0} (f : A → B) (xs : List A) → length (map f xs) ≡ length xs
long_map f [] = refl
long_map f (z ∷ xs) = ap suc (long_map f xs)

pub map_map : (xs : List Hand) → map (worker_deque {T = Ticket} {A = Global} {V = Account} {P = Conserved}) (map owner_of xs) ≡ map hand_deque xs
map_map [] = refl
map_map (z ∷ xs) = let e = map_map xs in λ i. hand_deque z ∷ e i

pub apart_put : (h : Ticket → ℕ) (xs : List Hand) → puts owner_account h (map owner_of xs) + rests_put h (map rest_of xs) ≡ all_put h xs
apart_put h [] = refl
apart_put h (x ∷ xs) = let e = apart_put h xs in omega arith

pub apart_taken : (h : Ticket → ℕ) (xs : List Hand) → takes owner_account h (map owner_of xs) + rests_taken h (map rest_of xs) ≡ all_taken h xs
apart_taken h [] = refl
apart_taken h (x ∷ xs) = let e = apart_taken h xs in omega arith

pub apart_fifo : (xs : List Hand) → AllFifo (map owner_of xs)
apart_fifo xs = every_map owner_of (λ (w : Worker Ticket Global Account Conserved). worker_flavor w ≡ 0) xs (λ k x e. x.reach.in_order)

pub apart_rests : (pool : Pool) (xs : List Hand) → AllHands pool xs → AllRests (map worker_deque (map owner_of xs)) (map keeper_queue pool.keepers.items) (map rest_of xs)
apart_rests pool xs all = let same = map_map xs ∙ all.0 in
    every_map rest_of (λ (r : Rest). (map deque_id r.deques.items ≡ map worker_deque (map owner_of xs)) × (map queue_id r.queues.items ≡ map keeper_queue pool.keepers.items)) xs
    (λ k x e. ((all.3 k x e).0 ∙ sym same, (all.3 k x e).1))

-- as many deques as hands
pub deques_long : (pool : Pool) (xs : List Hand) → AllHands pool xs → (k : ℕ) (x : Hand) → get_elem? xs k ≡ some x → length x.reach.deques.items ≡ length xs
deques_long pool xs all k x e = sym (long_map deque_id x.reach.deques.items) ∙ ap length ((all.3 k x e).0 ∙ sym all.0) ∙ long_map hand_deque xs

pub apart_parts : (pool : Pool) (xs : List Hand) → AllHands pool xs → (p : ℕ) → p + length xs ≡ 128 → HaveParts owner_account p (map owner_of xs) × HaveParts keeper_account p pool.keepers.items
apart_parts pool xs all p n = (
  every_map owner_of (λ (w : Worker Ticket Global Account Conserved). (owner_account w).parts ≡ p) xs (λ k x e. let l = deques_long pool xs all k x e in let v = x.reach.deques.ok.0 in let q = x.reach.part in omega arith),
  (λ k x e. let q = (all.4 k x e).0 in omega arith),
)

none_put : (h : Ticket → ℕ) (ts : List QueueKeeper) → Every (λ (x : QueueKeeper). (keeper_account x).put ≡ []) ts → puts keeper_account h ts ≡ 0
none_put h [] all = refl
none_put h (t ∷ ts) all = let a = ap (weigh h) (all zero t refl) in let b = none_put h ts (λ k x e. all (suc k) x e) in omega arith

none_taken : (h : Ticket → ℕ) (ts : List QueueKeeper) → Every (λ (x : QueueKeeper). (keeper_account x).taken ≡ []) ts → takes keeper_account h ts ≡ 0
none_taken h [] all = refl
none_taken h (t ∷ ts) all = let a = ap (weigh h) (all zero t refl) in let b = none_taken h ts (λ k x e. all (suc k) x e) in omega arith

pub pool_put : (pool : Pool) (xs : List Hand) → AllHands pool xs → (h : Ticket → ℕ) → puts keeper_account h pool.keepers.items ≡ 0
pool_put pool xs all h = none_put h pool.keepers.items (λ k x e. (all.4 k x e).1)

pub pool_taken : (pool : Pool) (xs : List Hand) → AllHands pool xs → (h : Ticket → ℕ) → takes keeper_account h pool.keepers.items ≡ 0
pool_taken pool xs all h = none_taken h pool.keepers.items (λ k x e. (all.4 k x e).2)

module _ (pool : Pool) (xs : List Hand) (owners : List (Worker Ticket Global Account Conserved)) (rests : List Rest) (eo : owners ≡ map owner_of xs) (er : rests ≡ map rest_of xs) (all : AllHands pool xs) where
  pub closes_rests : AllRests (map worker_deque owners) (map keeper_queue pool.keepers.items) rests
  closes_rests = subst (λ (y : List (Worker Ticket Global Account Conserved) × List Rest). AllRests (map worker_deque y.0) (map keeper_queue pool.keepers.items) y.1) (λ i. (sym eo i, sym er i)) (apart_rests pool xs all)

  pub closes_fifo : AllFifo owners
  closes_fifo = subst AllFifo (sym eo) (apart_fifo xs)

  pub closes_parts : (p : ℕ) → p + length rests ≡ 128 → HaveParts owner_account p owners × HaveParts keeper_account p pool.keepers.items
  closes_parts p n = subst (λ o. HaveParts owner_account p o × HaveParts keeper_account p pool.keepers.items) (sym eo) (apart_parts pool xs all p (let l = ap length er in let m = long_map rest_of xs in omega arith))

  pub closes : (h : Ticket → ℕ) (old left : ℕ) → old ≡ 0 → puts owner_account h owners + puts keeper_account h pool.keepers.items + rests_put h rests + old ≡ takes owner_account h owners + takes keeper_account h pool.keepers.items + rests_taken h rests + left → all_put h xs ≡ all_taken h xs + left
  closes h old left none e = let a = apart_put h xs in let b = apart_taken h xs in let c = pool_put pool xs all h in let d = pool_taken pool xs all h in
      let p = ap (puts owner_account h) eo in let q = ap (takes owner_account h) eo in let r = ap (rests_put h) er in let s = ap (rests_taken h) er in omega arith
