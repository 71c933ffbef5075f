-- What is known of a cluster, and what always holds of it.
use Rattle.std.specs.Prelude.{◌≡◌, ◌≤◌, ◌++◌, ◌∷◌, [], ℕ, List, Bool, true, false, Option, Some, cond, length, None}
use Rattle.pyd_board.specs.declared.event.Event.{Event}
use Rattle.pyd_board.specs.declared.history.Halt.{Halt}
use Rattle.pyd_board.specs.declared.history.Halt.TheVariants.{SinkFault}
use Rattle.pyd_board.specs.declared.kept.RunName.{RunName}
use Rattle.pyd_boards.specs.declared.answers.Moved.{Moved}
use Rattle.pyd_boards.specs.declared.answers.Moved.TheVariants as moved
use Rattle.pyd_boards.specs.Boards.{with_events}
use Rattle.pyd_meaning.specs.Module.{bytes_of}
use Rattle.pyd_runs.specs.Effects.{State, first_state}
use Rattle.pyd_runs.specs.Laws.{IsRunnable}
use Rattle.pyd_runs.specs.Plans.{Plan, meaning}
use Rattle.pyd_runs.specs.Replay.{IsLegal, replay}
use Rattle.pyd_source.specs.Content.{Added, Exceeds}
use Rattle.pyd_source.specs.Faults.{Rose}
use Rattle.pyd_core.specs.declared.keeper.Core.{Core}
use Rattle.pyd_core.specs.Facts.{plan_by}
use Rattle.pyd_core.specs.Losing.{losses_by}
use Rattle.pyd_steps.specs.declared.told.Told.{Told}
use Rattle.pyd_steps.specs.Settling.{head_lines}
use Rattle.pyd_steps.specs.Sinks.{Puts}
use Rattle.pyd_cluster.specs.declared.known.Known.{Known}

-- the runs that keep a fault of their sink, where there is one run
abbrev pub faults_of : Bool → List ℕ
faults_of fault = cond fault (0 ∷ []) []

-- what is known of a core, its fault and halt, and what its sink told before the run and tells now; the run is the first and only one
abbrev pub known_by : Core → Bool → Option Halt → Told → Told → Known
known_by c fault halt opening sink = record {
  run = record { file = c.program.file; setup = c.setup; opening = opening.held };
  history = record {
    events = c.log.journal.items;
    sink_faults = faults_of fault;
    halted = halt;
  };
  opening = opening;
  sink = sink;
}

-- the name of the board: its one run
abbrev pub name_of : Known → List RunName
name_of k = k.run ∷ []

-- the plan of the run
abbrev pub plan_of : Known → Plan
plan_of k = plan_by k.run

-- the state after its events
abbrev pub state_of : Known → State
state_of k = replay (plan_of k) k.history.events

-- the lines that were put out
abbrev pub lines_out : Known → List (List ℕ)
lines_out k = (state_of k).graph.out

-- the lines of the head of the chain
abbrev pub lines_next : Known → List (List ℕ)
lines_next k = head_lines (plan_of k) (state_of k).graph

-- the same with further events
abbrev pub with_more : Known → List Event → Known
with_more k es = record k { history = with_events k.history es }

-- events begin with the losses that are due before anything else, by the driver, unless the run has ended by then
pub record HasBegun (p : Plan) (events : List Event) : Type 0 where
  pub more : List Event
  pub begins : events ≡ losses_by 0 (first_state p) ++ more

-- no fault of the sink is kept: it holds what it held before, and the bytes of all lines that were put out
pub record HasPut (opening sink : Told) (halt : Option Halt) (out : List (List ℕ)) : Type 0 where
  pub puts : Puts opening (bytes_of out) sink
  pub not_halted_by_it : halt ≡ Some SinkFault → ⊥

-- a fault of the sink is kept, and halts: it holds besides a part of the bytes of the head's lines, from the first on
pub record HasFailed (p : Plan) (opening sink : Told) (halt : Option Halt)
    (out head : List (List ℕ)) : Type 0 where
  pub part : List ℕ
  pub rest : List ℕ
  pub of_head : part ++ rest ≡ bytes_of head
  -- what was put out and the head's lines begin the script's
  pub more : List (List ℕ)
  pub begins : out ++ (head ++ more) ≡ (meaning p).lines
  pub held : Added opening.held (bytes_of out ++ part) sink.held
  pub full : Exceeds (length (bytes_of (meaning p).lines)) opening.room
  pub unsure : opening.sure ≡ false
  pub sure : sink.sure ≡ opening.sure
  pub count : opening.faults ≤ sink.faults
  pub rose : Rose opening.faults sink.faults
  pub halted : halt ≡ Some SinkFault

-- what the sink holds, by whether a fault of it is kept, the lines that were put out, and the head's
abbrev pub SinkHolds : Bool → Plan → Told → Told → Option Halt → List (List ℕ)
    → List (List ℕ) → Type 0
SinkHolds false p opening sink halt out head = HasPut opening sink halt out
SinkHolds true p opening sink halt out head = HasFailed p opening sink halt out head

-- what always holds of a cluster
pub record IsKept (fault : Bool) (k : Known) : Type 0 where
  pub runnable : IsRunnable (plan_of k)
  pub legal : IsLegal (plan_of k) k.history.events
  pub begun : HasBegun (plan_of k) k.history.events
  pub faults : k.history.sink_faults ≡ faults_of fault
  pub opening : k.run.opening ≡ k.opening.held
  pub sink : SinkHolds fault (plan_of k) k.opening k.sink k.history.halted (lines_out k)
      (lines_next k)
  -- where a fault of the sink is kept, the run hasn't ended
  pub goes_on : fault ≡ true → (state_of k).graph.end ≡ None

-- some fault is kept or none, and the same holds
pub record IsCluster (k : Known) : Type 0 where
  pub fault : Bool
  pub kept : IsKept fault k

-- whether a fault of the sink is kept behind a step
abbrev pub fault_by : Moved → Bool → Bool
fault_by moved.SinkFault fault = true
fault_by (moved.Did tickets) fault = fault
fault_by moved.Nothing fault = fault
fault_by moved.Over fault = fault
fault_by moved.Lost fault = fault

-- the halt behind a step
abbrev pub halt_by : Moved → Option Halt → Option Halt
halt_by moved.SinkFault halt = Some SinkFault
halt_by (moved.Did tickets) halt = halt
halt_by moved.Nothing halt = halt
halt_by moved.Over halt = halt
halt_by moved.Lost halt = halt
