-- The rule of a lock: what holds of its words, of the value and of all views between any two steps.
use Rattle.std.specs.Prelude.{◌≡◌, ◌≢◌, ◌⊎◌, ◌≤◌, ◌<◌, ◌+◌, ◌^◌, ◌∷◌, [], ℕ, List, true, Option, Some, All, length, sum_by}
use mathlib.Core.Option.{some, none}
use mathlib.Core.Option as slot
use lib.ListN.{get_elem?}
use Rattle.atomic_table.specs.Table.{State}
use Rattle.pyd_board.specs.Histories.{Extends, entries_of}
use Rattle.pyd_board.specs.declared.history.History.{History}
use Rattle.pyd_board.specs.declared.kept.RunName.{RunName}
use Rattle.pyd_turn.specs.declared.view.Stage.{Stage}
use Rattle.pyd_turn.specs.declared.view.Stage.TheVariants.{Idle, Waits, Holds, Spent}
use Rattle.pyd_turn.specs.declared.view.Tally.{Tally}
use Rattle.pyd_turn.specs.declared.view.View.{View}
use Rattle.pyd_turn.specs.Views.{lives, turns_drawn, own_tally}

-- what the rule knows of the lock; a view is named by its place in the table
pub record Books : Type 0 where
  -- the history of the value that was given back last
  pub history : History
  pub ticket : ℕ
  pub serving : ℕ
  -- how many seats were made
  pub made : ℕ
  -- the view that drew a turn
  pub drawn_by : ℕ → ℕ
  -- the view that has the number of a seat's entries
  pub counted_by : ℕ → ℕ
  -- the history after so many turns
  pub after : ℕ → History

-- the view j has the number of a seat's entries: it is that in what the view saw, and still is
pub record Counts (counted_by : ℕ → ℕ) (made : ℕ) (history : History) (j : ℕ) (seen : History) (t : Tally) : Type 0 where
  pub owner : counted_by t.seat ≡ j
  pub exists : t.seat < made
  pub then : entries_of t.seat seen ≡ t.entries
  pub now : entries_of t.seat history ≡ t.entries

-- the turn was drawn, by the view j
pub record Drawn (ticket : ℕ) (drawn_by : ℕ → ℕ) (j turn : ℕ) : Type 0 where
  pub below : turn < ticket
  pub owner : drawn_by turn ≡ j

-- the turn is served, to a view that saw all of the history
pub record Served (serving : ℕ) (history seen : History) (turn : ℕ) : Type 0 where
  pub now : turn ≡ serving
  pub below : turn < 2 ^ 62
  pub saw : seen ≡ history

-- what holds of the turn of the view j
abbrev pub Turned : Books → ℕ → History → Stage → Type 0
Turned b j seen Idle = Unit {0}
Turned b j seen (Waits turn) = Drawn b.ticket b.drawn_by j turn
Turned b j seen (Holds turn) = Drawn b.ticket b.drawn_by j turn × Served b.serving b.history seen turn
Turned b j seen Spent = Unit {0}

-- the view j, which is v, has the number of another seat's entries
abbrev pub Lists : Books → ℕ → View → Tally → Type 0
Lists b j v t = (t.seat ≢ v.number) × Counts b.counted_by b.made b.history j v.seen t

-- what holds of the view j, which is v
pub record Fits (lock_name : List RunName) (b : Books) (j : ℕ) (v : View) : Type 0 where
  pub name : v.name ≡ lock_name
  pub saw : Extends v.seen b.history
  pub when : v.when ≤ b.serving
  pub was : v.seen ≡ b.after v.when
  pub own : Counts b.counted_by b.made b.history j v.seen (own_tally v)
  pub listed : All (Lists b j v) v.joined
  pub turn : Turned b j v.seen v.stage
  pub first : v.number ≡ 0 → v.made ≡ b.made
  pub earlier : Extends v.earlier v.seen

-- a spent view carries nothing
abbrev pub Carries : List RunName → Books → ℕ → View → Type 0
Carries lock_name b j v = lives v.stage ≡ true → Fits lock_name b j v

module _ {T : Type 0} (name_of : T → List RunName) (history_of : T → History) where
  -- the value is at home, with the lock's name and all of the history
  pub record AtHome (lock_name : List RunName) (all : History) (homes : List (slot.Option (Option T))) : Type 0 where
    pub value : T
    pub there : homes ≡ some (Some value) ∷ []
    pub name : name_of value ≡ lock_name
    pub history : history_of value ≡ all

-- a view holds the value
pub record Out {T : Type 0} (views : List View) (homes : List (slot.Option (Option T))) : Type 0 where
  pub who : ℕ
  pub view : View
  pub turn : ℕ
  pub there : get_elem? views who ≡ some view
  pub holds : view.stage ≡ Holds turn
  pub away : homes ≡ none ∷ []

-- the rule
pub record Locked {T : Type 0} (name_of : T → List RunName) (history_of : T → History) (lock_name : List RunName) (s : State (Option T) View) : Type 0 where
  pub books : Books
  pub words : s.words ≡ books.ticket ∷ books.serving ∷ []
  pub made : length s.views ≡ books.made
  pub few : books.made < 2 ^ 32
  pub early : books.serving ≤ 2 ^ 62
  -- the turns that were drawn and haven't ended are the views'
  pub queue : books.ticket ≡ books.serving + sum_by (λ v. turns_drawn v.stage) s.views
  pub today : books.after books.serving ≡ books.history
  pub ordered : (i j : ℕ) → i ≤ j → j ≤ books.serving → Extends (books.after i) (books.after j)
  pub unmade : (k : ℕ) → books.made ≤ k → entries_of k books.history ≡ 0
  pub home : AtHome name_of history_of lock_name books.history s.homes ⊎ Out s.views s.homes
  pub each : (j : ℕ) (v : View) → get_elem? s.views j ≡ some v → Carries lock_name books j v
