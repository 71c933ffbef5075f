-- What each hand has put and taken, and the rule of a deque and of a queue.
use Rattle.std.specs.Prelude.{◌≡◌, ℕ, ◌+◌, List, [], ◌∷◌, ◌++◌}
use mathlib.Core.Option.{some}
use lib.ListN.{get_elem?}
use Rattle.pyd_board.specs.declared.seat.Ticket.{Ticket}
use Rattle.pyd_pool.specs.declared.account.Account.{Account}

-- so many parts, and what was put and taken
abbrev pub account : ℕ → List Ticket → List Ticket → Account
account parts put taken = record { parts = parts; put = put; taken = taken }

-- f of each, added up; over tickets, their weight
abbrev pub total : {A : Type 0} → (A → ℕ) → List A → ℕ
total f [] = 0
total f (x ∷ xs) = f x + total f xs

-- the weight of tickets
abbrev pub weigh : (Ticket → ℕ) → List Ticket → ℕ
weigh h [] = 0
weigh h (x ∷ xs) = h x + weigh h xs

-- a pass with no part has put and taken nothing
abbrev pub Idle : List Account → Type 0
Idle views = (port : ℕ) (v : Account) → get_elem? views port ≡ some v → v.parts ≡ 0 → (v.put ≡ []) × (v.taken ≡ [])

-- What was put is what was taken from it and then what it holds, in order. The passes' lists are these, each ticket as often.
abbrev pub Balanced : List Ticket → List Account → Type 0
Balanced items views = (sent : List Ticket) × (got : List Ticket)
    × (sent ≡ got ++ items)
    × (total (λ v. v.parts) views ≡ 128)
    × Idle views
    × ((h : Ticket → ℕ) → total (λ v. weigh h v.put) views ≡ weigh h sent)
    × ((h : Ticket → ℕ) → total (λ v. weigh h v.taken) views ≡ weigh h got)

-- there was a moment at which it held these tickets, and a pass knew v
abbrev pub Held : Account → List Ticket → Type 0
Held v items = (port : ℕ) × (views : List Account) × Balanced items views × (get_elem? views port ≡ some v)

-- there was a moment at which it held none
abbrev pub WasEmpty : Account → Type 0
WasEmpty v = Held v []

-- what one pass knows to be left, where it has every part
abbrev pub Left : Account → List Ticket → Type 0
Left v items = v.parts ≡ 128 → (h : Ticket → ℕ) → weigh h v.put ≡ weigh h v.taken + weigh h items
