-- What a seat knows: as its lock is made, and after seats are split and joined.
use Rattle.std.specs.Prelude.{◌≡◌, ◌<◌, ◌+◌, ◌∷◌, ◌++◌, [], ℕ, List, Bool, true, false, Option, None, All, Contains, nat_le}
use Rattle.pyd_board.specs.Histories.{entries_of}
use Rattle.pyd_board.specs.declared.history.History.{History}
use Rattle.pyd_board.specs.declared.kept.RunName.{RunName}
use Rattle.pyd_turn.specs.declared.view.Stage.{Stage}
use Rattle.pyd_turn.specs.declared.view.Stage.TheVariants.{Idle, Waits, Holds, Spent}
use Rattle.pyd_turn.specs.declared.view.Tally.{Tally}
use Rattle.pyd_turn.specs.declared.view.View.{View}

-- a seat that isn't spent
abbrev pub lives : Stage → Bool
lives Idle = true
lives (Waits _) = true
lives (Holds _) = true
lives Spent = false

-- the number of the seat's turn
abbrev pub turn_of : Stage → ℕ
turn_of Idle = 0
turn_of (Waits turn) = turn
turn_of (Holds turn) = turn
turn_of Spent = 0

-- how many of the turns that were drawn and haven't ended are the seat's
abbrev pub turns_drawn : Stage → ℕ
turns_drawn Idle = 0
turns_drawn (Waits _) = 1
turns_drawn (Holds _) = 1
turns_drawn Spent = 0

-- the slot is empty in the hands of the seat that holds the value
abbrev pub in_hand : {T : Type 0} → Stage → List (ℕ × Option T)
in_hand Idle = []
in_hand (Waits _) = []
in_hand (Holds _) = (0, None) ∷ []
in_hand Spent = []

-- the seat holds the value
abbrev pub Has : Stage → Type 0
Has stage = stage ≡ Holds (turn_of stage)

-- a seat's number with the number of its own entries
abbrev pub own_tally : View → Tally
own_tally v = record { seat = v.number; entries = v.own }

-- each seat of the list has as many entries in the history as the list says
abbrev pub AllCounted : History → List Tally → Type 0
AllCounted history tallies = All (λ t. entries_of t.seat history ≡ t.entries) tallies

-- each seat that was made is in the list, but seat 0
abbrev pub AllListed : ℕ → List Tally → Type 0
AllListed made tallies = (k : ℕ) → 0 < k → k < made → (n : ℕ) × Contains tallies (record { seat = k; entries = n })

-- the view's numbers of entries are those of the history that the seat saw
pub record Tallied (v : View) : Type 0 where
  pub own : entries_of v.number v.seen ≡ v.own
  pub listed : AllCounted v.seen v.joined

-- the view of seat 0 as the lock is made
abbrev pub opened : List RunName → History → View
opened name history = record { name = name; seen = history; when = 0; number = 0; own = entries_of 0 history; made = 1; joined = []; earlier = history; stage = Idle }

-- the view of seat 0 after a split
abbrev pub with_one_more : View → View
with_one_more v = record v { made = v.made + 1 }

-- the view of the seat that a split makes
abbrev pub newcomer : View → View
newcomer v = record { name = v.name; seen = v.seen; when = v.when; number = v.made; own = 0; made = 0; joined = []; earlier = v.seen; stage = Idle }

-- the first of two where the test holds, else the second
abbrev pub either_of : {A : Type 0} → Bool → A → A → A
either_of true a b = a
either_of false a b = b

-- what belongs to the later of two views
abbrev pub later : {A : Type 0} → View → View → A → A → A
later v w = either_of (nat_le w.when v.when)

-- the view of seat 0 after a join
abbrev pub joined_with : View → View → View
joined_with v w = record v { seen = later v w v.seen w.seen; when = later v w v.when w.when; joined = v.joined ++ own_tally w ∷ []; earlier = later v w w.seen v.seen }

-- a history with nothing in it
abbrev pub nothing : History
nothing = record { events = []; sink_faults = []; halted = None }

-- the view of a seat that was joined into another
abbrev pub spent : View
spent = record { name = []; seen = nothing; when = 0; number = 0; own = 0; made = 0; joined = []; earlier = nothing; stage = Spent }
