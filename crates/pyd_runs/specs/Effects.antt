-- What each event does to the state of a run.
use Rattle.std.specs.Prelude.{ℕ, ◌==◌, List, [], ◌∷◌, ◌++◌, drop, Bool, true, false, if◌then◌else◌, Option, Some, None, Result, Ok, Err}
use Rattle.std.specs.List.{filter}
use Rattle.pyd_value.specs.declared.value.Value.{Value}
use Rattle.pyd_value.specs.declared.fault.Fault.{Fault}
use Rattle.pyd_value.specs.declared.fault.Outcome.TheVariants as outcome
use Rattle.pyd_meaning.specs.declared.ran.Ran.{Ran}
use Rattle.pyd_meaning.specs.Evaluation.{Evaluation}
use Rattle.pyd_meaning.specs.Module.{ended_by}
use Rattle.pyd_board.specs.declared.event.Act.{Act}
use Rattle.pyd_board.specs.declared.event.Act.TheVariants.{Place, Claim, Finish, Drop, Refine, Settle, Lose, Trim}
use Rattle.pyd_board.specs.declared.event.Event.{Event}
use Rattle.pyd_board.specs.declared.setup.Loss.{Loss}
use Rattle.pyd_ir.specs.declared.job.Job.{Job}
use Rattle.pyd_ir.specs.declared.job.Task.{Task}
use Rattle.pyd_ir.specs.declared.job.Task.TheVariants as task
use Rattle.pyd_ir.specs.declared.node.Node.{Node}
use Rattle.pyd_ir.specs.Arguments.{is_pure}
use Rattle.pyd_ir.specs.Inputs.{leaf_meaning}
use Rattle.pyd_ir.specs.Meaning.{job_ran}
use Rattle.pyd_ir.specs.Ports.{ports_of}
use Rattle.pyd_translate.specs.Walk.{give}
use Rattle.pyd_runs.specs.Plans.{Plan, limits_of}
use Rattle.pyd_runs.specs.Graphs.{Graph, first_graph, end_at}
use Rattle.pyd_runs.specs.Desks.{Held, Stores, Desk, first_desk, put_at}
use Rattle.pyd_runs.specs.Records.{ready}
use Rattle.pyd_runs.specs.Losses.{held_elsewhere, live_tickets, desk_without}
use Rattle.pyd_runs.specs.Growth.{grown}

-- the graph, the desk, the losses to come, the machines that are lost, and the journal
pub record State : Type 0 where
  pub graph : Graph
  pub desk : Desk
  pub losses : List Loss
  pub lost : ℕ → Bool
  pub journal : List Event

-- the state before any event
abbrev pub first_state : Plan → State
first_state p = record {
  graph = first_graph p;
  desk = first_desk;
  losses = p.setup.losses;
  lost = λ machine. false;
  journal = [];
}

-- the head was passed with a value: a pure node goes to the past, and of an effect the driver keeps its value
abbrev pub passed : Bool → Graph → Node → List Node → List (List ℕ) → Value → Graph
passed true g n rest lines v = record {
  past = g.past ++ n ∷ [];
  chain = rest;
  next = g.next;
  given = give n.id (ports_of n.work v) g.given;
  driver = g.driver;
  out = g.out ++ lines;
  end = end_at rest;
}
passed false g n rest lines v = record {
  past = g.past;
  chain = rest;
  next = g.next;
  given = give n.id (ports_of n.work v) g.given;
  driver = put_at g.driver n.id (Some (record { outcome = outcome.Ok v; lines = [] }));
  out = g.out ++ lines;
  end = end_at rest;
}

-- the head gave a value or a fault, which ends the run
abbrev pub settled_by : Graph → Node → List Node → List (List ℕ) → Result Value Fault → Graph
settled_by g n rest lines (Ok v) = passed (is_pure n.work) g n rest lines v
settled_by g n rest lines (Err f) = record g { out = g.out ++ lines; end = Some (ended_by f) }

-- the head did what it means, if that is known
abbrev pub settled_as : Graph → Node → List Node → Option (Evaluation Value) → Graph
settled_as g n rest None = g
settled_as g n rest (Some e) = settled_by g n rest e.lines e.result

-- the first of the chain is settled
abbrev pub settled_chain : Plan → Graph → List Node → Graph
settled_chain p g [] = g
settled_chain p g (n ∷ rest) =
    settled_as g n rest (leaf_meaning p.file (limits_of p) g.given n)

-- the graph with the chain's head settled
unfoldable pub settled : Plan → Graph → Graph
settled p g = settled_chain p g g.chain

-- the graph without a past node
unfoldable pub trimmed : ℕ → Graph → Graph
trimmed k g = record g { past = filter (λ n. if n.id == k then false else true) g.past }

-- a claim of an attempt by a seat, of a node with a job
abbrev pub held_by : ℕ → ℕ → ℕ → Option Job → Option Held
held_by attempt machine seat None = None
held_by attempt machine seat (Some job) =
    Some (record { attempt = attempt; machine = machine; seat = seat; job = job })

-- whether a job is the call of a function that isn't pure
abbrev pub is_run : Task → Bool
is_run (task.Op op args) = false
is_run (task.Read value kind) = false
is_run (task.Call func args) = false
is_run (task.Run func args) = true

-- the state with another desk
abbrev pub with_desk : State → Desk → State
with_desk s d = record s { desk = d }

-- a node has a ticket for an attempt
abbrev pub placed : State → ℕ → ℕ → ℕ → State
placed s k attempt machine = with_desk s (record s.desk {
  places = put_at s.desk.places k attempt;
  ticket = put_at s.desk.ticket k (Some (record { attempt = attempt; machine = machine }));
})

-- a seat holds the job of an attempt, and its ticket is used
abbrev pub claimed : State → ℕ → ℕ → ℕ → ℕ → State
claimed s seat k attempt machine = with_desk s (record s.desk {
  ticket = put_at s.desk.ticket k None;
  claim = put_at s.desk.claim k
      (held_by attempt machine seat (ready s.graph s.desk.stores k attempt));
})

-- what was done goes to the driver
abbrev pub kept_by_driver : State → ℕ → Ran → State
kept_by_driver s k ran = record s {
  graph = record s.graph { driver = put_at s.graph.driver k (Some ran) };
  desk = record s.desk { claim = put_at s.desk.claim k None };
}

-- what was done goes to the store of a machine
abbrev pub kept_by_machine : State → ℕ → ℕ → Ran → State
kept_by_machine s k machine ran = with_desk s (record s.desk {
  claim = put_at s.desk.claim k None;
  stores = put_at s.desk.stores k (Some (record { machine = machine; ran = ran }));
})

-- the job of a claim was done: the outcome of a call that isn't pure goes to the driver, and any other to the machine's store
abbrev pub finished_by : Plan → State → ℕ → ℕ → Option Held → State
finished_by p s k machine None = s
finished_by p s k machine (Some c) =
    if is_run c.job.task then kept_by_driver s k (job_ran p.file (limits_of p) c.job)
    else kept_by_machine s k machine (job_ran p.file (limits_of p) c.job)

-- a claim that a loss undid, or that the end of the run left, is let go
abbrev pub dropped : State → ℕ → ℕ → ℕ → State
dropped s k attempt machine = with_desk s (record s.desk {
  claim = put_at s.desk.claim k (held_elsewhere machine (s.desk.claim k));
  undone = put_at s.desk.undone k (put_at (s.desk.undone k) attempt None);
})

-- a machine is lost
abbrev pub lost_with : State → ℕ → State
lost_with s machine = record s {
  desk = desk_without s.graph machine s.desk;
  losses = drop 1 s.losses;
  lost = put_at s.lost machine true;
}

-- the stores without the record of a node
abbrev pub stores_but : ℕ → Stores → Stores
stores_but k stores = put_at stores k None

-- a past node and its record go, and the tickets of nodes that are no longer ready die
abbrev pub without_node : State → ℕ → State
without_node s k = record s {
  graph = trimmed k s.graph;
  desk = record s.desk {
    stores = stores_but k s.desk.stores;
    ticket = live_tickets (trimmed k s.graph) (stores_but k s.desk.stores) s.desk.ticket;
  };
}

-- the state after what a seat did, but for the journal
unfoldable pub acted : Plan → State → ℕ → Act → State
acted p s seat (Place k attempt machine) = placed s k attempt machine
acted p s seat (Claim k attempt machine) = claimed s seat k attempt machine
acted p s seat (Finish k attempt machine) = finished_by p s k machine (s.desk.claim k)
acted p s seat (Drop k attempt machine) = dropped s k attempt machine
acted p s seat (Refine k) = record s { graph = grown p s.desk.stores k s.graph }
acted p s seat (Settle k) = record s { graph = settled p s.graph }
acted p s seat (Lose machine) = lost_with s machine
acted p s seat (Trim k) = without_node s k

-- the state after an event
unfoldable pub happens : Plan → State → Event → State
happens p s e = record (acted p s e.by e.act) { journal = s.journal ++ e ∷ [] }
