-- What callers see of a seat.
use Rattle.std.specs.Prelude.{◌≡◌, ◌⊎◌, [], ℕ, List}
use Rattle.atomic_table.specs.Seated.{TableId}
use Rattle.pyd_board.specs.Histories.{Extends}
use Rattle.pyd_board.specs.declared.history.History.{History}
use Rattle.pyd_board.specs.declared.kept.RunName.{RunName}
use Rattle.pyd_turn.specs.declared.seat.Seat.{Seat}
use Rattle.pyd_turn.specs.declared.seat.TurnLock.{TurnLock}
use Rattle.pyd_turn.specs.declared.view.Stage.{Stage}
use Rattle.pyd_turn.specs.declared.view.Stage.TheVariants.{Idle}
use Rattle.pyd_turn.specs.declared.view.Tally.{Tally}
use Rattle.pyd_turn.specs.Views.{AllListed, Has, own_tally}
pub use Rattle.pyd_turn.specs.Views.{AllCounted}

-- c is the later of the histories a and b, which both begin it
pub record IsLaterOf (c a b : History) : Type 0 where
  pub one : (c ≡ a) ⊎ (c ≡ b)
  pub first : Extends a c
  pub second : Extends b c

module _ {T : Type 0} where
  -- which lock the seat is of
  abbrev pub lock_of : Seat T → TableId
  lock_of s = s.place.table_id

  -- the seat is one of the lock
  abbrev pub IsSeatOf : Seat T → TurnLock T → Type 0
  IsSeatOf s lock = lock_of s ≡ lock.table.shared.table_id

  -- the lock's name
  abbrev pub name_of : Seat T → List RunName
  name_of s = s.place.me.0.name

  -- the history that it saw
  abbrev pub seen : Seat T → History
  seen s = s.place.me.0.seen

  abbrev pub number : Seat T → ℕ
  number s = s.place.me.0.number

  -- the number of its own entries
  abbrev pub own_entries : Seat T → ℕ
  own_entries s = s.place.me.0.own

  -- its number with that
  abbrev pub tally_of : Seat T → Tally
  tally_of s = own_tally s.place.me.0

  -- how many seats were made, as seat 0 knows
  abbrev pub made : Seat T → ℕ
  made s = s.place.me.0.made

  -- the seats that were joined into it
  abbrev pub joined : Seat T → List Tally
  joined s = s.place.me.0.joined

  abbrev stage : Seat T → Stage
  stage s = s.place.me.0.stage

  -- it doesn't hold the value
  abbrev pub IsFree : Seat T → Type 0
  IsFree s = stage s ≡ Idle

  -- it holds the value
  abbrev pub IsHolding : Seat T → Type 0
  IsHolding s = Has (stage s)

  -- the same seat of the same lock
  pub record IsSame (s t : Seat T) : Type 0 where
    pub lock : lock_of t ≡ lock_of s
    pub name : name_of t ≡ name_of s
    pub number : number t ≡ number s

  -- it holds the value, or doesn't, as before
  abbrev pub IsSameStage : Seat T → Seat T → Type 0
  IsSameStage s t = stage t ≡ stage s

  -- seat 0 of a new lock, with so many entries
  pub record IsFirst (s : Seat T) (entries : ℕ) : Type 0 where
    pub number : number s ≡ 0
    pub own : own_entries s ≡ entries
    pub made : made s ≡ 1
    pub joined : joined s ≡ []
    pub free : IsFree s

  -- the seat that a split of s makes
  pub record IsNewcomer (t s : Seat T) : Type 0 where
    pub lock : lock_of t ≡ lock_of s
    pub name : name_of t ≡ name_of s
    pub seen : seen t ≡ seen s
    pub number : number t ≡ made s
    pub own : own_entries t ≡ 0
    pub free : IsFree t

  -- each other seat that was made is in its list
  abbrev pub ListsAll : Seat T → Type 0
  ListsAll s = AllListed (made s) (joined s)
