-- What a step of a board does, and what it answers.
use Rattle.std.specs.Prelude.{◌≡◌, ◌≢◌, ◌<◌, ◌^◌, ◌++◌, ◌∷◌, [], ◌⊎◌, ℕ, List, Bool, true, false, Option, Some, None, if◌then◌else◌, All, Any, length}
use Rattle.std.specs.List.{filter_map}
use Rattle.pyd_boards.specs.declared.answers.Moved.{Moved}
use Rattle.pyd_boards.specs.declared.answers.Moved.TheVariants as moved
use Rattle.pyd_board.specs.declared.event.Act.{Act}
use Rattle.pyd_board.specs.declared.event.Act.TheVariants.{Place, Claim, Finish, Drop, Refine, Settle, Lose, Trim}
use Rattle.pyd_board.specs.declared.event.Event.{Event}
use Rattle.pyd_board.specs.declared.history.Halt.TheVariants.{SinkFault}
use Rattle.pyd_board.specs.declared.history.History.{History}
use Rattle.pyd_board.specs.declared.kept.RunName.{RunName}
use Rattle.pyd_board.specs.declared.seat.Ticket.{Ticket}
use Rattle.pyd_board.specs.declared.seat.Who.{Who}
use Rattle.pyd_boards.specs.Boards.{Facts, with_events, is_over, is_done, is_lost_from}
use Rattle.pyd_boards.specs.Calls.{ActKind, places, refines, settles, loses, trims, IsIn, NoneIn, AreDue, AreNext, is_loss, number_of}

-- the ticket of an act that places one
abbrev pub ticket_of : Act → Option Ticket
ticket_of (Place node attempt machine) =
    Some (record { node = node; attempt = attempt; machine = machine })
ticket_of (Claim node attempt machine) = None
ticket_of (Finish node attempt machine) = None
ticket_of (Drop node attempt machine) = None
ticket_of (Refine node) = None
ticket_of (Settle node) = None
ticket_of (Lose machine) = None
ticket_of (Trim node) = None

-- the tickets that events place, in order
abbrev pub tickets_of : List Event → List Ticket
tickets_of events = filter_map (λ e. ticket_of e.act) events

-- the nodes of tickets rise
abbrev pub AreRising : List Ticket → Type 0
AreRising [] = Unit {0}
AreRising (t ∷ tickets) = All (λ later. t.node < later.node) tickets × AreRising tickets

-- the tickets that a step answers, none where it did nothing
abbrev pub moved_tickets : Moved → List Ticket
moved_tickets (moved.Did tickets) = tickets.items
moved_tickets moved.Nothing = []
moved_tickets moved.Over = []
moved_tickets moved.Lost = []
moved_tickets moved.SinkFault = []

-- the numbers of the tickets' nodes are those of a board of one run
abbrev pub AreNumbered : List Ticket → Type 0
AreNumbered tickets = All (λ t. t.node < 2 ^ 58) tickets

module _ {J : Type 0} (facts : Facts J) (may_come : List Event → Event → Type 0) where
  -- the losses of a run that come due after events, each in its turn
  abbrev pub ComeDue : ℕ → List Event → List Event → Type 0
  ComeDue run events due = AreDue facts may_come run events due × AreNext may_come events due

  -- a ticket's node could be placed after events
  abbrev pub CouldPlace : ℕ → List Event → Ticket → Type 0
  CouldPlace run events t = (e : Event) × (may_come events e × IsIn facts places run e
      × (number_of e.act ≡ t.node))

  -- the last of events is of a kind in a run
  abbrev pub EndsIn : ActKind → ℕ → List Event → Type 0
  EndsIn kind run events = (before : List Event) × ((last : Event) × (events ≡ before ++ last ∷ []) × IsIn facts kind run last)

  -- the head is settled, and past nodes are trimmed until none may be, with losses that come due
  pub record SettlesIn (run : ℕ) (events own : List Event) (tickets : List Ticket)
      : Type 0 where
    pub settled : Event
    pub more : List Event
    pub acts : own ≡ settled ∷ more
    pub is_settle : IsIn facts settles run settled
    pub ends : (more ≡ []) ⊎ EndsIn trims run more
    pub are_trims : All (λ e. IsIn facts trims run e ⊎ IsIn facts loses run e) more
    pub none_left : (due : List Event) → ComeDue run (events ++ own) due
        → NoneIn facts may_come trims run ((events ++ own) ++ due)
    pub answers : tickets ≡ []

  -- no head may be settled, and a composite is refined
  pub record RefinesIn (run : ℕ) (events own : List Event) (tickets : List Ticket)
      : Type 0 where
    pub refined : Event
    pub acts : own ≡ refined ∷ []
    pub is_refine : IsIn facts refines run refined
    pub no_settle : NoneIn facts may_come settles run events
    pub answers : tickets ≡ []

  -- a node that could be placed was, or can be no more
  abbrev pub IsServed : ℕ → List Event → List Ticket → Event → Type 0
  IsServed run events tickets e =
      Any (λ t. t.node ≡ number_of e.act) tickets
      ⊎ ((later : Event) → may_come events later → IsIn facts places run later
      → number_of later.act ≢ number_of e.act)

  -- neither may be done, and nodes are placed, with losses that come due
  pub record PlacesIn (run : ℕ) (events own : List Event) (tickets : List Ticket)
      : Type 0 where
    pub first : Event
    pub more : List Event
    pub acts : own ≡ first ∷ more
    pub is_place : IsIn facts places run first
    pub ends : EndsIn places run own
    pub are_places : All (λ e. IsIn facts places run e ⊎ IsIn facts loses run e) more
    pub no_settle : NoneIn facts may_come settles run events
    pub no_refine : NoneIn facts may_come refines run events
    pub answers : tickets ≡ tickets_of own
    pub in_order : AreRising tickets
    pub from : All (λ t. CouldPlace run events t) tickets
    pub served : (due : List Event) → ComeDue run (events ++ own) due
        → (e : Event) → may_come events e → IsIn facts places run e
        → IsServed run ((events ++ own) ++ due) tickets e

  -- in a run that isn't over, the first of the three that may be done is done
  pub record Does (name : List RunName) (h : History) (tickets : List Ticket) (new : History)
      : Type 0 where
    pub run : ℕ
    pub is_run : run < length name
    pub goes_on : is_over facts h run ≡ false
    pub none_due : NoneIn facts may_come loses run h.events
    pub own : List Event
    pub thing : SettlesIn run h.events own tickets ⊎ RefinesIn run h.events own tickets
        ⊎ PlacesIn run h.events own tickets
    pub leaves : new ≡ with_events h own

  -- a head may be settled in a run that isn't over, and its sink fails: the run keeps the fault, which halts a board of one run
  pub record KeepsFault (is_single : Bool) (name : List RunName) (h new : History)
      : Type 0 where
    pub run : ℕ
    pub is_run : run < length name
    pub goes_on : is_over facts h run ≡ false
    pub none_due : NoneIn facts may_come loses run h.events
    pub settle : Event
    pub may_settle : may_come h.events settle
    pub is_settle : IsIn facts settles run settle
    pub leaves : new ≡ record h {
      sink_faults = h.sink_faults ++ run ∷ [];
      halted = if is_single then Some SinkFault else h.halted;
    }

  -- no loss is due in a run that isn't over, and none of the three may be done there
  abbrev pub NothingToDo : History → Type 0
  NothingToDo h = (run : ℕ) → is_over facts h run ≡ false
      → NoneIn facts may_come loses run h.events
      × NoneIn facts may_come settles run h.events × NoneIn facts may_come refines run h.events
      × NoneIn facts may_come places run h.events

  module _ (is_single : Bool) (name : List RunName) (who : Who) where
    -- the board isn't over, and the seat's machine isn't lost in a run that isn't over
    pub record IsOpen (h : History) : Type 0 where
      pub not_done : is_done facts name h ≡ false
      pub not_lost : is_lost_from facts h who.machine 0 name ≡ false

    -- what a step answers after the losses, and what it leaves
    abbrev pub Moves : History → Moved → History → Type 0
    Moves h moved.Over new = (is_done facts name h ≡ true) × (new ≡ h)
    Moves h moved.Lost new =
        (is_done facts name h ≡ false) × (is_lost_from facts h who.machine 0 name ≡ true)
        × (new ≡ h)
    Moves h moved.Nothing new = IsOpen h × NothingToDo h × (new ≡ h)
    Moves h (moved.Did tickets) new = IsOpen h
        × (Does name h tickets.items new
        ⊎ ((is_single ≡ false) × (tickets.items ≡ []) × KeepsFault is_single name h new))
    Moves h moved.SinkFault new = IsOpen h × (is_single ≡ true) × KeepsFault is_single name h new

    -- a step appends losses that are due, and then does a thing
    pub record Steps (old : History) (answer : Moved) (new : History) : Type 0 where
      pub losses : List Event
      pub are_losses : All (λ e. is_loss e.act ≡ true) losses
      pub none_left : is_single ≡ true → NoneIn facts may_come loses 0 (old.events ++ losses)
      pub moves : Moves (with_events old losses) answer new

  -- losses are appended, and nothing else
  pub record LosesAlone (old new : History) : Type 0 where
    pub losses : List Event
    pub are_losses : All (λ e. is_loss e.act ≡ true) losses
    pub leaves : new ≡ with_events old losses

  -- where there is no memory it appends losses alone, on a board of one run those that were due
  pub record LosesFirst (is_single : Bool) (old new : History) : Type 0 where
    pub alone : LosesAlone old new
    pub none_left : is_single ≡ true → NoneIn facts may_come loses 0 new.events

  -- losses are appended until none is due in any run
  pub record LosesAll (old new : History) : Type 0 where
    pub alone : LosesAlone old new
    pub none_left : (run : ℕ) → NoneIn facts may_come loses run new.events
