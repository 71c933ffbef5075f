-- What a board with a fixed list of tickets tells, and which events may come on it.
use Rattle.std.specs.Prelude.{◌≡◌, ◌==◌, ◌&&◌, ℕ, nat_lt, List, [], ◌∷◌, ◌++◌, Bool, true, false, Option, Some, None, is_some, if◌then◌else◌, count_by}
use Rattle.pyd_board.specs.declared.event.Act.{Act}
use Rattle.pyd_board.specs.declared.event.Act.TheVariants.{Place, Claim, Finish, Drop, Refine, Settle, Lose, Trim}
use Rattle.pyd_board.specs.declared.event.Event.{Event}
use Rattle.pyd_board.specs.declared.history.Halt.{Halt}
use Rattle.pyd_board.specs.declared.history.History.{History}
use Rattle.pyd_board.specs.declared.kept.RunName.{RunName}
use Rattle.pyd_board.specs.declared.seat.Ticket.{Ticket}
use Rattle.pyd_board.specs.declared.seat.Who.{Who}
use Rattle.pyd_board.specs.Histories.{entries}
use Rattle.pyd_boards.specs.declared.answers.Claimed.{Claimed}
use Rattle.pyd_boards.specs.declared.answers.Claimed.TheVariants as claimed
use Rattle.pyd_boards.specs.Boards.{Facts, ClaimAfter, Holds, entry}
use Rattle.pyd_boards_tests.specs.declared.fixed_board.FixedBoard.{FixedBoard}
use Rattle.pyd_boards_tests.specs.declared.slot.Slot.{Slot}

-- a board, as contracts see it
pub record Fixed : Type 0 where
  pub name : RunName
  pub events : List Event
  pub halted : Option Halt

-- the fields of one
abbrev pub view : FixedBoard → Fixed
view b = record {
  name = record { file = b.file.value; setup = b.setup; opening = None };
  events = b.journal.items;
  halted = b.halted;
}

-- its history: it has no sink
abbrev pub history_of : Fixed → History
history_of b = record { events = b.events; sink_faults = []; halted = b.halted }

-- how many tickets there are: as many as the window says
abbrev pub ticket_count : List RunName → ℕ
ticket_count [] = 0
ticket_count (run ∷ runs) = run.setup.window

-- an event claims a node
abbrev pub claims_node : ℕ → Act → Bool
claims_node node (Claim n attempt machine) = n == node
claims_node node (Place n attempt machine) = false
claims_node node (Finish n attempt machine) = false
claims_node node (Drop n attempt machine) = false
claims_node node (Refine n) = false
claims_node node (Settle n) = false
claims_node node (Lose machine) = false
claims_node node (Trim n) = false

-- how often a node was claimed
abbrev pub claims_of : ℕ → List Event → ℕ
claims_of node events = count_by (λ e. claims_node node e.act) events

-- whether there is a ticket for a node's attempt that nobody has claimed: the first attempt alone has one
abbrev pub is_live : ℕ → List Event → ℕ → ℕ → Bool
is_live count events node attempt =
    nat_lt node count && (attempt == 1) && (claims_of node events == 0)

-- the job of an attempt that has a ticket
abbrev pub job_if : Bool → ℕ → ℕ → Option Slot
job_if live node attempt =
    if live then Some (record { node = node; attempt = attempt }) else None

-- what a board tells of its run: it loses no machine, and doesn't end
abbrev pub facts : List RunName → Facts Slot
facts name = record {
  run = λ number. 0;
  has_lost = λ events run machine. false;
  has_ended = λ events run. false;
  job = λ events node attempt.
      job_if (is_live (ticket_count name) events node attempt) node attempt;
  node_of = λ job. job.node;
  attempt_of = λ job. job.attempt;
  end = λ h. None;
}

-- a seat holds the claim of a node's attempt
pub record HoldsIt (events : List Event) (who : Who) (node attempt : ℕ) : Type 0 where
  pub claim : ClaimAfter
  pub of_node : claim.node ≡ node
  pub of_attempt : claim.attempt ≡ attempt
  pub holds : Holds who claim events

-- what a seat may do: claim what has a ticket, and finish what it holds
abbrev pub MayAct : ℕ → List Event → ℕ → Act → Type 0
MayAct count events seat (Claim node attempt machine) =
    is_live count events node attempt ≡ true
MayAct count events seat (Finish node attempt machine) =
    HoldsIt events (record { seat = seat; machine = machine }) node attempt
MayAct count events seat (Place node attempt machine) = ⊥
MayAct count events seat (Drop node attempt machine) = ⊥
MayAct count events seat (Refine node) = ⊥
MayAct count events seat (Settle node) = ⊥
MayAct count events seat (Lose machine) = ⊥
MayAct count events seat (Trim node) = ⊥

-- which event may come after events
abbrev pub may_come : List RunName → List Event → Event → Type 0
may_come name events e =
    (e.nth ≡ entries e.by events) × MayAct (ticket_count name) events e.by e.act

-- a board with an entry of a seat more
abbrev pub with_entry : Fixed → ℕ → Act → Fixed
with_entry b seat act = record b { events = b.events ++ entry b.events seat act ∷ [] }

-- what a claim answers, and what it leaves
abbrev pub Answers : Fixed → Ticket → Who → Claimed Slot → Fixed → Type 0
Answers old ticket who (claimed.Job job) new =
    (old.halted ≡ None)
    × (is_live old.name.setup.window old.events ticket.node ticket.attempt ≡ true)
    × (job ≡ record { node = ticket.node; attempt = ticket.attempt })
    × (new ≡ with_entry old who.seat (Claim ticket.node ticket.attempt who.machine))
Answers old ticket who claimed.Over new = (is_some old.halted ≡ true) × (new ≡ old)
Answers old ticket who (claimed.Lost back) new = ⊥
Answers old ticket who claimed.Stale new =
    (old.halted ≡ None)
    × (is_live old.name.setup.window old.events ticket.node ticket.attempt ≡ false) × (new ≡ old)
