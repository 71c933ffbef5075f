-- Passes ys of a hand join the passes xs of the owners, the last first.
use Rattle.std.specs.Prelude.{◌≡◌, ℕ, ◌+◌, ◌<◌, ◌≤◌, ◌-◌, List, [], map, take, length}
use mathlib.Core.Option.{some}
use lib.ListN.{get_elem?}
use Rattle.pyd_board.specs.declared.seat.Ticket.{Ticket}
use Rattle.pyd_pool.specs.declared.account.Account.{Account}
use Rattle.pyd_pool.specs.Accounts.{account}
use Rattle.pyd_pool.specs.Hands.{puts, takes}

module _ {A B I : Type 0} (f : A → Account) (g : B → Account) (i : A → I) (j : B → I) where
  -- xs0 and ys0 were there first, each of xs0 with p parts; what is left of ys0 is ys
  abbrev pub Joins : ℕ → List A → List B → List A → List B → Type 0
  Joins p xs0 ys0 xs ys = (map i xs ≡ map i xs0)
      × ((k : ℕ) (y : B) → get_elem? ys k ≡ some y → get_elem? (map i xs0) k ≡ some (j y))
      × ((k : ℕ) (x : A) → get_elem? xs k ≡ some x → (k < length ys → (f x).parts ≡ p) × (length ys ≤ k → (f x).parts ≡ p + 1))
      × ((h : Ticket → ℕ) → puts f h xs + puts g h ys ≡ puts f h xs0 + puts g h ys0)
      × ((h : Ticket → ℕ) → takes f h xs + takes g h ys ≡ takes f h xs0 + takes g h ys0)

  -- parts of n of the owners xs, each of which had p, are passes ys with nothing put or taken
  abbrev pub Splits : ℕ → ℕ → List A → List A → List B → Type 0
  Splits p n xs0 xs ys = (map i xs ≡ map i xs0) × (length ys ≡ n) × (map j ys ≡ take n (map i xs0))
      × ((k : ℕ) (x : A) → get_elem? xs k ≡ some x → (k < n → f x ≡ account (p - 1) [] []) × (n ≤ k → f x ≡ account p [] []))
      × ((h : Ticket → ℕ) → (puts g h ys ≡ 0) × (takes g h ys ≡ 0))
