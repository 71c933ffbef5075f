-- What a hand has put and taken, by weight, and that it is the same hand.
use Rattle.std.specs.Prelude.{◌≡◌, ◌⊎◌, ℕ, ◌+◌, ◌<◌, ◌≤◌, List, [], ◌∷◌, ◌++◌, map, length}
use Rattle.std.proofs.Common.{Global}
use Rattle.atomic_blocks.specs.Lent.{RowsId}
use Rattle.crossbeam_queue.specs.SegTies.{SegId}
use Rattle.crossbeam_deque.specs.Handles.{worker_deque, worker_view}
use Rattle.pyd_board.specs.declared.seat.Ticket.{Ticket}
use Rattle.pyd_pool.specs.declared.reach.Reach.{Reach}
use Rattle.pyd_pool.specs.Accounts.{account, weigh, WasEmpty}
use Rattle.pyd_pool.specs.Hands.{deque_account, queue_account, deque_id, queue_id, puts, takes, PutAt, AllWereEmpty}

-- the weight of all tickets that the hand has put; with h 1 at one ticket and else 0, how often it has put it
abbrev pub put_by : (Ticket → ℕ) → Reach → ℕ
put_by h hand = weigh h (worker_view hand.own).put + (puts deque_account h hand.deques.items + puts queue_account h hand.queues.items)

-- the weight of all tickets that the hand has taken
abbrev pub taken_by : (Ticket → ℕ) → Reach → ℕ
taken_by h hand = weigh h (worker_view hand.own).taken + (takes deque_account h hand.deques.items + takes queue_account h hand.queues.items)

-- which hand it is: its machine, its deque, and all deques and queues that it reaches
abbrev pub places : Reach → ℕ × (RowsId × Global) × List (RowsId × Global) × List (SegId Global)
places hand = (hand.home, worker_deque hand.own, map deque_id hand.deques.items, map queue_id hand.queues.items)

-- it is the same hand
abbrev pub SamePlaces : Reach → Reach → Type 0
SamePlaces old new = (new.home ≡ old.home) × (worker_deque new.own ≡ worker_deque old.own)
    × (map deque_id new.deques.items ≡ map deque_id old.deques.items) × (map queue_id new.queues.items ≡ map queue_id old.queues.items)

-- only the queue of this machine got the ticket or, where the pool has no such machine, that of the hand's own
abbrev pub Mails : Reach → Reach → ℕ → Ticket → Type 0
Mails old new machine t = (new.own ≡ old.own) × (new.deques ≡ old.deques)
    × (machine < length old.queues.items → PutAt machine t old.queues.items new.queues.items)
    × (length old.queues.items ≤ machine → PutAt old.home t old.queues.items new.queues.items)

-- only the own deque got the ticket or, where it refused, only the queue of the hand's own machine
abbrev pub Pushes : Reach → Reach → Ticket → Type 0
Pushes old new t = let v = worker_view old.own in (new.deques ≡ old.deques)
    × (((worker_view new.own ≡ account v.parts (v.put ++ t ∷ []) v.taken) × (new.queues ≡ old.queues))
    ⊎ ((worker_view new.own ≡ v) × PutAt old.home t old.queues.items new.queues.items))

-- the hand has put one more ticket, and taken as before
abbrev pub Puts : Reach → Reach → Ticket → Type 0
Puts old new t = (h : Ticket → ℕ) → (put_by h new ≡ put_by h old + h t) × (taken_by h new ≡ taken_by h old)

-- the hand has taken one more ticket, and put as before
abbrev pub Takes : Reach → Reach → Ticket → Type 0
Takes old new t = (h : Ticket → ℕ) → (put_by h new ≡ put_by h old) × (taken_by h new ≡ taken_by h old + h t)

-- the hand has put and taken as before
abbrev pub Keeps : Reach → Reach → Type 0
Keeps old new = (h : Ticket → ℕ) → (put_by h new ≡ put_by h old) × (taken_by h new ≡ taken_by h old)

-- each of its places was empty at a moment, at which the hand knew of it what it knows now
abbrev pub SawNone : Reach → Type 0
SawNone hand = WasEmpty (worker_view hand.own) × AllWereEmpty deque_account hand.deques.items × AllWereEmpty queue_account hand.queues.items
