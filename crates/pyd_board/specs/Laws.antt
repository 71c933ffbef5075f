-- The laws of extending and of the number of a seat's entries.
use Rattle.std.specs.Prelude.{◌≡◌, ◌≢◌, ◌+◌, ℕ, length}
use Rattle.pyd_board.specs.declared.history.History.{History}
use Rattle.pyd_board.specs.Histories.{entries, entries_of, Extends, ExtendsBy}

-- a history extends itself, by no entry of any seat
abbrev pub ExtendsItself : Type 0
ExtendsItself = (seat : ℕ) (h : History) → ExtendsBy seat h h

-- extending is transitive
abbrev pub ExtendingIsTransitive : Type 0
ExtendingIsTransitive = (a b c : History) → Extends a b → Extends b c → Extends a c

-- two extensions by entries of one seat are one
abbrev pub ExtensionsByOneSeatAreOne : Type 0
ExtensionsByOneSeatAreOne = (seat : ℕ) (a b c : History) → ExtendsBy seat a b → ExtendsBy seat b c → ExtendsBy seat a c

-- the number of a seat's entries grows by what it added
pub record EntriesGrow : Type 0 where
  -- by its entries among the further events
  pub added : (seat : ℕ) (old new : History) (more : Extends old new) → entries_of seat new ≡ entries_of seat old + entries seat more.events.0
  -- by all of the further events where they are its own
  pub own : (seat : ℕ) (old new : History) (more : ExtendsBy seat old new) → entries_of seat new ≡ entries_of seat old + length more.extends.events.0
  -- not at all where they are another seat's
  pub others : (seat other : ℕ) (old new : History) → other ≢ seat → ExtendsBy seat old new → entries_of other new ≡ entries_of other old
