-- What the calls of a board append and answer.
use Rattle.std.specs.Prelude.{◌≡◌, ◌<◌, ◌≤◌, ◌^◌, ◌==◌, ◌++◌, ◌∷◌, [], ◌&&◌, ◌||◌, ℕ, List, Bool, true, false, Option, Some, None, is_some, if◌then◌else◌, All, length, count_by}
use Rattle.pyd_boards.specs.declared.answers.Claimed.{Claimed}
use Rattle.pyd_boards.specs.declared.answers.Claimed.TheVariants as claimed
use Rattle.pyd_boards.specs.declared.answers.Finished.{Finished}
use Rattle.pyd_boards.specs.declared.answers.Finished.TheVariants as finished
use Rattle.pyd_board.specs.declared.event.Act.{Act}
use Rattle.pyd_board.specs.declared.event.Act.TheVariants.{Place, Claim, Finish, Drop, Refine, Settle, Lose, Trim}
use Rattle.pyd_board.specs.declared.event.Event.{Event}
use Rattle.pyd_board.specs.declared.history.Halt.{Halt}
use Rattle.pyd_board.specs.declared.history.History.{History}
use Rattle.pyd_board.specs.declared.kept.RunName.{RunName}
use Rattle.pyd_board.specs.declared.seat.Ticket.{Ticket}
use Rattle.pyd_board.specs.declared.seat.Who.{Who}
use Rattle.pyd_board.specs.Histories.{ExtendsBy}
use Rattle.pyd_boards.specs.Boards.{Facts, ClaimAfter, entry, with_events, is_over, are_over, is_done}

-- what an act does
pub data ActKind : Type 0 where
  places : ActKind
  claims : ActKind
  finishes : ActKind
  drops : ActKind
  refines : ActKind
  settles : ActKind
  loses : ActKind
  trims : ActKind

-- the kind of an act
abbrev pub kind_of : Act → ActKind
kind_of (Place node attempt machine) = places
kind_of (Claim node attempt machine) = claims
kind_of (Finish node attempt machine) = finishes
kind_of (Drop node attempt machine) = drops
kind_of (Refine node) = refines
kind_of (Settle node) = settles
kind_of (Lose machine) = loses
kind_of (Trim node) = trims

-- the node, or what a Lose has in its place
abbrev pub number_of : Act → ℕ
number_of (Place node attempt machine) = node
number_of (Claim node attempt machine) = node
number_of (Finish node attempt machine) = node
number_of (Drop node attempt machine) = node
number_of (Refine node) = node
number_of (Settle node) = node
number_of (Lose machine) = machine
number_of (Trim node) = node

-- each of further events may come in its turn
unfoldable pub AreNext : (List Event → Event → Type 0) → List Event → List Event → Type 0
AreNext may_come events [] = Unit {0}
AreNext may_come events (e ∷ more) = may_come events e × AreNext may_come (events ++ e ∷ []) more

-- a history goes on by entries of a seat, each of which may come in its turn
pub record GoesOnBy (may_come : List Event → Event → Type 0) (seat : ℕ) (old new : History)
    : Type 0 where
  pub extends : ExtendsBy seat old new
  pub next : AreNext may_come old.events extends.extends.events.0

-- an act loses a machine
abbrev pub is_loss : Act → Bool
is_loss (Lose machine) = true
is_loss (Place node attempt machine) = false
is_loss (Claim node attempt machine) = false
is_loss (Finish node attempt machine) = false
is_loss (Drop node attempt machine) = false
is_loss (Refine node) = false
is_loss (Settle node) = false
is_loss (Trim node) = false

-- an act loses the machine of this number
abbrev pub is_loss_of : ℕ → Act → Bool
is_loss_of machine act = is_loss act && (number_of act == machine)

-- the history of a board of one run: its events are few, and so are its losses, each of another of few machines
pub record IsWithin (h : History) : Type 0 where
  pub events : length h.events < 2 ^ 58
  pub losses : count_by (λ e. is_loss e.act) h.events ≤ 15
  pub machines : All (λ e. is_loss e.act ≡ true → number_of e.act < 16) h.events
  pub different : (machine : ℕ) → count_by (λ e. is_loss_of machine e.act) h.events ≤ 1

-- a halt stays as it was; else it comes by this cause
abbrev pub halted_by : Option Halt → Halt → Halt
halted_by None why = why
halted_by (Some before) why = before

-- the job that a claim gives, if there is one
abbrev pub claimed_job : {J : Type 0} → Option J → Claimed J
claimed_job (Some job) = claimed.Job job
claimed_job None = claimed.Stale

-- a fact of the job, where one is answered
abbrev pub IfJob : {J : Type 0} → Claimed J → (J → Type 0) → Type 0
IfJob (claimed.Job job) P = P job
IfJob claimed.Over P = Unit {0}
IfJob (claimed.Lost ticket) P = Unit {0}
IfJob claimed.Stale P = Unit {0}

-- what a claim appends of its own
abbrev pub claim_entries : {J : Type 0} → Claimed J → Ticket → Who → List Event → List Event
claim_entries (claimed.Job job) ticket who events =
    entry events who.seat (Claim ticket.node ticket.attempt who.machine) ∷ []
claim_entries claimed.Over ticket who events = []
claim_entries (claimed.Lost back) ticket who events = []
claim_entries claimed.Stale ticket who events = []

-- what a finish appends of its own
abbrev pub finish_act : Finished → ClaimAfter → Who → Act
finish_act finished.Kept claim who = Finish claim.node claim.attempt who.machine
finish_act finished.Dropped claim who = Drop claim.node claim.attempt who.machine

module _ {J : Type 0} (facts : Facts J) where
  -- what a claim answers after the losses
  abbrev pub claim_answer : List RunName → Ticket → Who → History → Claimed J
  claim_answer name ticket who h =
      if is_done facts name h then claimed.Over else
      if facts.has_lost h.events (facts.run ticket.node) who.machine then claimed.Lost ticket else
      if is_over facts h (facts.run ticket.node) then claimed.Stale else
      claimed_job (facts.job h.events ticket.node ticket.attempt)

  -- what a finish answers after the losses
  abbrev pub finish_answer : ClaimAfter → Who → List Event → Finished
  finish_answer claim who events =
      if facts.has_lost events (facts.run claim.node) who.machine
      || facts.has_ended events (facts.run claim.node)
      then finished.Dropped else finished.Kept

  -- an event of a kind in a run
  pub record IsIn (kind : ActKind) (run : ℕ) (e : Event) : Type 0 where
    pub of_kind : kind_of e.act ≡ kind
    pub in_run : facts.run (number_of e.act) ≡ run

  -- the board's end is there or it is halted, where every run is over
  abbrev pub IsConcluded : List RunName → History → Type 0
  IsConcluded name h = are_over facts h 0 name ≡ true
      → (is_some (facts.end h) || is_some h.halted) ≡ true

  module _ (may_come : List Event → Event → Type 0) where
    -- no event of a kind in a run may come
    abbrev pub NoneIn : ActKind → ℕ → List Event → Type 0
    NoneIn kind run events = (e : Event) → may_come events e → IsIn kind run e → ⊥

    -- the losses of a run that were due, one after another until none is
    pub record AreDue (run : ℕ) (events losses : List Event) : Type 0 where
      pub are_losses : All (IsIn loses run) losses
      pub none_left : NoneIn loses run (events ++ losses)

    -- a claim appends the losses that are due in the node's run, and then its own entry
    pub record Claims (name : List RunName) (ticket : Ticket) (who : Who) (old : History)
        (answer : Claimed J) (new : History) : Type 0 where
      pub losses : List Event
      pub due : AreDue (facts.run ticket.node) old.events losses
      pub answers : answer ≡ claim_answer name ticket who (with_events old losses)
      pub leaves : new ≡ with_events old
          (losses ++ claim_entries answer ticket who (old.events ++ losses))

    -- a finish appends the losses that are due in the node's run, and then its own entry
    pub record Finishes (claim : ClaimAfter) (who : Who) (old : History) (answer : Finished)
        (new : History) : Type 0 where
      pub losses : List Event
      pub due : AreDue (facts.run claim.node) old.events losses
      pub answers : answer ≡ finish_answer claim who (old.events ++ losses)
      pub leaves : new ≡ with_events old
          (losses ++ entry (old.events ++ losses) who.seat (finish_act answer claim who) ∷ [])

    -- where there is no memory it appends the losses alone
    pub record LosesIn (run : ℕ) (old new : History) : Type 0 where
      pub losses : List Event
      pub due : AreDue run old.events losses
      pub leaves : new ≡ with_events old losses
