-- What a step answers and appends.
use Rattle.std.specs.Prelude.{◌≡◌, ◌++◌, ◌⊎◌, [], ℕ, List, Bool, true, false}
use Rattle.pyd_board.specs.declared.event.Event.{Event}
use Rattle.pyd_board.specs.declared.seat.Who.{Who}
use Rattle.pyd_board.specs.Histories.{AllBy}
use Rattle.pyd_boards.specs.Calls.{loses, places, refines, settles, NoneIn}
use Rattle.pyd_boards.specs.Moves.{PlacesIn, RefinesIn, SettlesIn}
use Rattle.pyd_boards.specs.declared.answers.Moved.{Moved}
use Rattle.pyd_boards.specs.declared.answers.Moved.TheVariants as moved
use Rattle.pyd_meaning.specs.Module.{bytes_of}
use Rattle.pyd_runs.specs.Enabled.{CanSettle}
use Rattle.pyd_runs.specs.Plans.{Plan}
use Rattle.pyd_runs.specs.Replay.{replay}
use Rattle.pyd_core.specs.declared.keeper.Core.{Core}
use Rattle.pyd_core.specs.Cores.{plan_of}
use Rattle.pyd_core.specs.Facts.{facts_of, may_come}
use Rattle.pyd_core.specs.Steps.{ComesBy}
use Rattle.pyd_steps.specs.declared.told.Told.{Told}
use Rattle.pyd_steps.specs.Claiming.{is_over}
use Rattle.pyd_steps.specs.Losses.{events_behind, losses_first}
use Rattle.pyd_steps.specs.Settling.{head_lines}
use Rattle.pyd_steps.specs.Sinks.{Puts, PutsPart}

-- what was done once no loss was due, from a run on
module _ (p : Plan) (who : Who) (events own : List Event) (told now : Told) where
  -- nothing was appended or put
  pub record Rests : Type 0 where
    pub none : own ≡ []
    pub same : now ≡ told

  -- none of the three things may be done
  pub record HasNothing : Type 0 where
    pub no_settle : NoneIn (facts_of p) (may_come p) settles 0 events
    pub no_refine : NoneIn (facts_of p) (may_come p) refines 0 events
    pub no_place : NoneIn (facts_of p) (may_come p) places 0 events
    pub rests : Rests

  -- one of the three was done, and the lines that it put out went out
  pub record Does (tickets : List _) : Type 0 where
    pub thing : SettlesIn (facts_of p) (may_come p) 0 events own tickets
        ⊎ RefinesIn (facts_of p) (may_come p) 0 events own tickets
        ⊎ PlacesIn (facts_of p) (may_come p) 0 events own tickets
    pub lines : List (List ℕ)
    pub out : (replay p (events ++ own)).graph.out ≡ (replay p events).graph.out ++ lines
    pub puts : Puts told (bytes_of lines) now

  -- the sink failed as the head's lines went out
  pub record FailsAtHead : Type 0 where
    pub number : ℕ
    pub can : CanSettle (replay p events) number
    pub none : own ≡ []
    pub part : PutsPart told (bytes_of (head_lines p (replay p events).graph)) now

  -- the run goes on, isn't halted, and the seat's machine isn't lost
  pub record IsOpen (halted : Bool) : Type 0 where
    pub not_over : is_over halted (replay p events) ≡ false
    pub not_lost : (replay p events).lost who.machine ≡ false

  -- what a step answers where no loss is due, and what it does
  abbrev pub Moves : Bool → Moved → Type 0
  Moves halted moved.Over = (is_over halted (replay p events) ≡ true) × Rests
  Moves halted moved.Lost = (is_over halted (replay p events) ≡ false)
      × ((replay p events).lost who.machine ≡ true) × Rests
  Moves halted moved.Nothing = IsOpen halted × HasNothing
  Moves halted (moved.Did tickets) = IsOpen halted × Does tickets.items
  Moves halted moved.SinkFault = IsOpen halted × FailsAtHead

-- a step appends the losses that are due, and then does a thing
pub record Steps (halted : Bool) (old new : Core) (who : Who) (told now : Told) (answer : Moved)
    : Type 0 where
  pub own : List Event
  pub by : AllBy who.seat own
  pub comes : ComesBy old new (losses_first who.seat old ++ own)
  pub none_due : NoneIn (facts_of (plan_of old)) (may_come (plan_of old)) loses 0
      (events_behind who.seat old)
  pub moves : Moves (plan_of old) who (events_behind who.seat old) own told now halted answer

-- what a step answers where no loss is due, and what it appends and puts
pub record GoesOn (halted : Bool) (old new : Core) (who : Who) (told now : Told) (answer : Moved)
    : Type 0 where
  pub own : List Event
  pub by : AllBy who.seat own
  pub comes : ComesBy old new own
  pub moves : Moves (plan_of old) who old.log.journal.items own told now halted answer

-- what the first of the three things answers, and what it does
abbrev pub DoesOne : Plan → Who → List Event → List Event → Told → Told → Moved → Type 0
DoesOne p who events own told now moved.Over = ⊥
DoesOne p who events own told now moved.Lost = ⊥
DoesOne p who events own told now moved.Nothing = HasNothing p who events own told now
DoesOne p who events own told now (moved.Did tickets) =
    Does p who events own told now tickets.items
DoesOne p who events own told now moved.SinkFault = FailsAtHead p who events own told now

-- so it is of a core, with what it appends
pub record DoesFirst (old new : Core) (who : Who) (told now : Told) (answer : Moved)
    : Type 0 where
  pub own : List Event
  pub by : AllBy who.seat own
  pub comes : ComesBy old new own
  pub does : DoesOne (plan_of old) who old.log.journal.items own told now answer

-- the same where nothing is put
abbrev pub DoesNext : Core → Core → Who → Moved → Type 0
DoesNext old new who answer = (told : Told) → DoesFirst old new who told told answer
