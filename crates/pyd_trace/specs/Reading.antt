-- What bytes are read as: the events whose text they are, or the first line that is at fault.
use Rattle.std.specs.Prelude.{◌≡◌, ◌≢◌, ℕ, ◌+◌, ◌<◌, ◌^◌, List, [], ◌++◌, length}
use Rattle.std.specs.List.{All}
use Rattle.pyd_board.specs.declared.event.Act.{Act}
use Rattle.pyd_board.specs.declared.event.Act.TheVariants.{Place, Claim, Finish, Drop, Refine, Settle, Lose, Trim}
use Rattle.pyd_board.specs.declared.event.Event.{Event}
use Rattle.pyd_trace.specs.declared.read.TraceStop.{TraceStop}
use Rattle.pyd_trace.specs.declared.read.TraceStop.TheVariants as stop
use Rattle.pyd_trace.specs.Text.{header, line_text, trace_text}

-- a node, an attempt and a machine within their types
abbrev pub IsTicket : ℕ → ℕ → ℕ → Type 0
IsTicket node attempt machine = (node < 2 ^ 64) × (attempt < 2 ^ 64) × (machine < 2 ^ 32)

-- the numbers of an act are within their types
abbrev pub IsAct : Act → Type 0
IsAct (Place node attempt machine) = IsTicket node attempt machine
IsAct (Claim node attempt machine) = IsTicket node attempt machine
IsAct (Finish node attempt machine) = IsTicket node attempt machine
IsAct (Drop node attempt machine) = IsTicket node attempt machine
IsAct (Refine node) = node < 2 ^ 64
IsAct (Settle node) = node < 2 ^ 64
IsAct (Lose machine) = machine < 2 ^ 32
IsAct (Trim node) = node < 2 ^ 64

-- the numbers of an event are within their types
pub record IsEvent (event : Event) : Type 0 where
  pub by : event.by < 2 ^ 32
  pub nth : event.nth < 2 ^ 64
  pub act : IsAct event.act

-- the bytes are the text of these events
pub record IsTrace (bytes : List ℕ) (events : List Event) : Type 0 where
  pub events_are : All IsEvent events
  pub text : bytes ≡ trace_text events

-- the first line isn't the header, or isn't ended
abbrev pub OtherVersion : List ℕ → Type 0
OtherVersion bytes = (more : List ℕ) → bytes ≢ header ++ more

-- the first line is no event's, or isn't ended
abbrev pub OtherLine : List ℕ → Type 0
OtherLine bytes = (event : Event) (more : List ℕ) → IsEvent event → bytes ≢ line_text event ++ more

-- this line, counted from 1, is the first behind the header that is no event's
pub record FirstOther (bytes : List ℕ) (number : ℕ) : Type 0 where
  pub before : List Event
  pub behind : List ℕ
  pub events_are : All IsEvent before
  pub text : bytes ≡ trace_text before ++ behind
  pub some : behind ≢ []
  pub other : OtherLine behind
  pub number_is : number ≡ length before + 2

-- why bytes are no trace
abbrev pub Stops : List ℕ → TraceStop → Type 0
Stops bytes stop.BadVersion = OtherVersion bytes
Stops bytes (stop.BadLine number) = FirstOther bytes number
Stops bytes stop.NoMemory = Unit {0}
