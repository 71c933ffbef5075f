-- The hands of a pool, and what they have put and taken together.
use Rattle.std.specs.Prelude.{◌≡◌, ℕ, ◌+◌, ◌/◌, ◌≤◌, ◌<◌, List, [], ◌∷◌, map, length}
use Rattle.std.proofs.Common.{Global}
use mathlib.Core.Option.{some}
use lib.ListN.{get_elem?}
use Rattle.crossbeam_deque.specs.Handles.{worker_deque, worker_flavor, worker_view, stealer_deque}
use Rattle.atomic_blocks.specs.Lent.{RowsId}
use Rattle.crossbeam_queue.specs.SegTies.{SegId}
use Rattle.pyd_board.specs.declared.seat.Ticket.{Ticket}
use Rattle.pyd_pool.specs.declared.account.Account.{Account}
use Rattle.crossbeam_deque.specs.declared.handles.Worker.{Worker}
use Rattle.pyd_pool.specs.declared.rule.Conserved.{Conserved}
use Rattle.pyd_pool.specs.declared.pool.QueueKeeper.{QueueKeeper}
use Rattle.pyd_pool.specs.declared.pool.Pool.{Pool}
use Rattle.pyd_pool.specs.declared.pool.Rest.{Rest}
use Rattle.pyd_pool.specs.declared.hand.Hand.{Hand}
use Rattle.pyd_pool.specs.Accounts.{account, weigh}
use Rattle.pyd_pool.specs.Hands.{deque_account, queue_account, deque_id, queue_id, puts, takes}
use Rattle.pyd_pool.specs.Whole.{places, put_by, taken_by}

-- a deque owner's account
abbrev pub owner_account : Worker Ticket Global Account Conserved → Account
owner_account w = worker_view w

-- a queue keeper's account
abbrev pub keeper_account : QueueKeeper → Account
keeper_account x = x.pass.me.view.client

-- which queue a keeper's is
abbrev pub keeper_queue : QueueKeeper → SegId Global
keeper_queue x = x.mailbox.value.queue

-- each has so many parts
abbrev pub HaveParts : {A : Type 0} → (A → Account) → ℕ → List A → Type 0
HaveParts {A} f n xs = (k : ℕ) (x : A) → get_elem? xs k ≡ some x → (f x).parts ≡ n

-- what all hands have put, and what they have taken
abbrev pub all_put : (Ticket → ℕ) → List Hand → ℕ
all_put h [] = 0
all_put h (x ∷ xs) = put_by h x.reach + all_put h xs

-- what all hands have taken
abbrev pub all_taken : (Ticket → ℕ) → List Hand → ℕ
all_taken h [] = 0
all_taken h (x ∷ xs) = taken_by h x.reach + all_taken h xs

-- it holds of each
abbrev pub Every : {A : Type 0} → (A → Type 0) → List A → Type 0
Every {A} F xs = (k : ℕ) (x : A) → get_elem? xs k ≡ some x → F x

-- each deque is first in, first out
abbrev pub AllFifo : List (Worker Ticket Global Account Conserved) → Type 0
AllFifo xs = (k : ℕ) (x : Worker Ticket Global Account Conserved) → get_elem? xs k ≡ some x → worker_flavor x ≡ 0

-- which deque is a hand's own
abbrev pub hand_deque : Hand → RowsId × Global
hand_deque x = worker_deque x.reach.own

-- which hand it is
abbrev pub hand_places : Hand → ℕ × (RowsId × Global) × List (RowsId × Global) × List (SegId Global)
hand_places x = places x.reach

-- what was put through these passes
abbrev pub rests_put : (Ticket → ℕ) → List Rest → ℕ
rests_put h [] = 0
rests_put h (x ∷ xs) = (puts deque_account h x.deques.items + puts queue_account h x.queues.items) + rests_put h xs

-- what was taken through these passes
abbrev pub rests_taken : (Ticket → ℕ) → List Rest → ℕ
rests_taken h [] = 0
rests_taken h (x ∷ xs) = (takes deque_account h x.deques.items + takes queue_account h x.queues.items) + rests_taken h xs

-- each has a pass of each deque and queue, in order
abbrev pub AllRests : List (RowsId × Global) → List (SegId Global) → List Rest → Type 0
AllRests ds qs xs = (k : ℕ) (x : Rest) → get_elem? xs k ≡ some x → (map deque_id x.deques.items ≡ ds) × (map queue_id x.queues.items ≡ qs)

-- nothing was put or taken through these passes
abbrev pub Unused : (Ticket → ℕ) → Rest → Type 0
Unused h x = (puts deque_account h x.deques.items ≡ 0) × (takes deque_account h x.deques.items ≡ 0) × (puts queue_account h x.queues.items ≡ 0) × (takes queue_account h x.queues.items ≡ 0)

-- each hand has a pass of each deque and queue, in order
abbrev pub HaveAll : List (RowsId × Global) → List (SegId Global) → List Hand → Type 0
HaveAll ds qs xs = (k : ℕ) (x : Hand) → get_elem? xs k ≡ some x → (map deque_id x.reach.deques.items ≡ ds) × (map queue_id x.reach.queues.items ≡ qs)

-- the hands are in order of seats, machine after machine
abbrev pub AreAtHome : ℕ → List Hand → Type 0
AreAtHome workers xs = (k : ℕ) (x : Hand) → get_elem? xs k ≡ some x → x.reach.home ≡ k / workers

-- a hand's own deque
abbrev pub owner_of : Hand → Worker Ticket Global Account Conserved
owner_of x = x.reach.own

-- a hand's passes without its own deque
abbrev pub rest_of : Hand → Rest
rest_of x = record { deques = x.reach.deques; queues = x.reach.queues }

-- the hand has a pass of each deque and queue of the pool
abbrev pub IsHandOf : Pool → Hand → Type 0
IsHandOf pool x = (map deque_id x.reach.deques.items ≡ map stealer_deque pool.stealers.items) × (map queue_id x.reach.queues.items ≡ map keeper_queue pool.keepers.items)

-- these are all hands of the pool, in the order of their deques
abbrev pub AllHands : Pool → List Hand → Type 0
AllHands pool xs = (map hand_deque xs ≡ map stealer_deque pool.stealers.items) × (0 < length xs) × (length xs ≤ 64)
    × ((k : ℕ) (x : Hand) → get_elem? xs k ≡ some x → IsHandOf pool x)
    × ((k : ℕ) (x : QueueKeeper) → get_elem? pool.keepers.items k ≡ some x → ((keeper_account x).parts + length xs ≡ 128) × ((keeper_account x).put ≡ []) × ((keeper_account x).taken ≡ []))
