-- What a hand has put and taken, by weight, and which hand it is.
use Rattle.std.specs.Prelude.{◌≡◌, ℕ, ◌+◌, List, [], ◌∷◌, ◌++◌, map, length, ◌<◌}
use mathlib.Core.Option.{some}
use lib.ListN.{get_elem?}
use Rattle.std.proofs.Common.{Global, set}
use Rattle.atomic_blocks.specs.Lent.{RowsId}
use Rattle.crossbeam_deque.specs.Handles.{stealer_deque, worker_deque, worker_view, view}
use Rattle.crossbeam_queue.specs.SegTies.{SegId}
use Rattle.pyd_board.specs.declared.seat.Ticket.{Ticket}
use Rattle.pyd_pool.specs.declared.account.Account.{Account}
use Rattle.pyd_pool.specs.declared.places.OtherDeque.{OtherDeque}
use Rattle.pyd_pool.specs.declared.places.SharedQueue.{SharedQueue}
use Rattle.pyd_pool.specs.Accounts.{account, weigh, total, WasEmpty}

-- the account of a pass of a deque
abbrev pub deque_account : OtherDeque → Account
deque_account l = view l.pass

-- the account of a pass of a queue
abbrev pub queue_account : SharedQueue → Account
queue_account s = s.pass.me.view.client

-- which deque it is
abbrev pub deque_id : OtherDeque → RowsId × Global
deque_id l = stealer_deque l.stealer

-- which queue it is
abbrev pub queue_id : SharedQueue → SegId Global
queue_id s = s.mailbox.value.queue

-- the passes of a list have put and taken tickets of this weight
abbrev pub puts : {A : Type 0} → (A → Account) → (Ticket → ℕ) → List A → ℕ
puts f h [] = 0
puts f h (x ∷ xs) = weigh h (f x).put + puts f h xs

-- the same of what was taken
abbrev pub takes : {A : Type 0} → (A → Account) → (Ticket → ℕ) → List A → ℕ
takes f h [] = 0
takes f h (x ∷ xs) = weigh h (f x).taken + takes f h xs

-- the ticket was put into queue number at, and through no other queue's pass was anything put or taken
abbrev pub PutAt : ℕ → Ticket → List SharedQueue → List SharedQueue → Type 0
PutAt at t old new = (v : Account) → get_elem? (map queue_account old) at ≡ some v
    → map queue_account new ≡ set (map queue_account old) at (account v.parts (v.put ++ t ∷ []) v.taken)

-- each was empty at a moment, at which its pass knew what it knows now
abbrev pub WereEmpty : {A : Type 0} → (A → Account) → ℕ → List A → Type 0
WereEmpty {A} f n xs = (k : ℕ) (x : A) → k < n → get_elem? xs k ≡ some x → WasEmpty (f x)

-- each of them was empty at a moment
abbrev pub AllWereEmpty : {A : Type 0} → (A → Account) → List A → Type 0
AllWereEmpty f xs = WereEmpty f (length xs) xs
