-- What each step on a word tells the seat that makes it.
use Rattle.std.specs.Prelude.{◌≡◌, ◌≢◌, ◌+◌, ◌∷◌, [], ℕ, List, Option, Some}
use Rattle.atomic_table.specs.Table.{Me, Step}
use Rattle.pyd_board.specs.Histories.{Extends, entries_of}
use Rattle.pyd_board.specs.declared.history.History.{History}
use Rattle.pyd_board.specs.declared.kept.RunName.{RunName}
use Rattle.pyd_turn.specs.declared.view.Stage.TheVariants.{Idle, Waits, Holds}
use Rattle.pyd_turn.specs.declared.view.View.{View}
use Rattle.pyd_turn.specs.Views.{turn_of, Tallied}

-- a seat's view, and the slot where it holds that
abbrev pub Hand : Type 0 → Type 0
Hand T = Me (Option T) View

-- the view of a seat that holds a value with the history h
abbrev pub holding : View → History → View
holding v h = record v { stage = Holds (turn_of v.stage); seen = h; when = turn_of v.stage }

-- the view of a seat that gave a value with the history h back
abbrev pub gone : View → History → View
gone v h = record v { stage = Idle; seen = h; when = turn_of v.stage + 1; own = entries_of v.number h }

module _ {T : Type 0} where
  -- the ticket is raised: the number drawn is the seat's turn
  abbrev pub Queued : Step (Option T) → Hand T → ℕ → Hand T → Type 0
  Queued s m n m' = m' ≡ (record m.0 { stage = Waits n }, m.1)

  -- a word is read: the seat learns what holds of its view
  pub record Learned (s : Step (Option T)) (m : Hand T) (n : ℕ) (m' : Hand T) : Type 0 where
    pub same : m' ≡ m
    pub earlier : Extends m.0.earlier m.0.seen
    pub tallied : Tallied m.0

module _ {T : Type 0} (name_of : T → List RunName) (history_of : T → History) where
  -- the seat's turn is served: it holds the slot, with a value that has the name and further entries of others alone
  pub record Served (m m' : Hand T) : Type 0 where
    pub value : T
    pub holds : m' ≡ (holding m.0 (history_of value), (0, Some value) ∷ m.1)
    pub name : name_of value ≡ m.0.name
    pub grown : Extends m.0.seen (history_of value)
    pub own : entries_of m.0.number (history_of value) ≡ m.0.own
    pub tallied : Tallied m'.0

  -- the serving number is read, where the seat waits
  pub record Looked (s : Step (Option T)) (m : Hand T) (n : ℕ) (m' : Hand T) : Type 0 where
    pub served : n ≡ turn_of m.0.stage → Served m m'
    pub waits : n ≢ turn_of m.0.stage → m' ≡ m

module _ {T : Type 0} (history_of : T → History) where
  -- the serving number is raised, and the value that the slot then has is at home
  abbrev pub Left : Step (Option T) → Hand T → ℕ → Hand T → Type 0
  Left s m n m' = (value : T) → m.1 ≡ (0, Some value) ∷ [] → (m' ≡ (gone m.0 (history_of value), [])) × Tallied m'.0
