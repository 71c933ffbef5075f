-- What events leave as it was, which nodes they name, and what tickets, claims and records have.
use Rattle.std.specs.Prelude.{◌≡◌, ◌<◌, ℕ, List, ◌++◌, Option, Some, None}
use Rattle.pyd_board.specs.declared.event.Act.{Act}
use Rattle.pyd_board.specs.declared.event.Act.TheVariants.{Place, Claim, Finish, Drop, Refine, Settle, Lose, Trim}
use Rattle.pyd_board.specs.declared.event.Event.{Event}
use Rattle.pyd_ir.specs.declared.job.Job.{Job}
use Rattle.pyd_ir.specs.Meaning.{job_ran}
use Rattle.pyd_lineage.specs.Lineage.{IsInOrder}
use Rattle.pyd_runs.specs.Plans.{Plan, limits_of}
use Rattle.pyd_runs.specs.Graphs.{Graph}
use Rattle.pyd_runs.specs.Desks.{Placed, Held}
use Rattle.pyd_runs.specs.Records.{records, ready}
use Rattle.pyd_runs.specs.Effects.{State, happens}
use Rattle.pyd_runs.specs.Enabled.{Enabled}
use Rattle.pyd_runs.specs.Replay.{IsLegal, replay}
use Rattle.pyd_runs.specs.Sound.{IsSound, IsGraphSound}
use Rattle.pyd_runs.specs.Laws.{IsRunnable}

-- an act of tickets, claims and losses
abbrev pub IsDeskAct : Act → Type 0
IsDeskAct (Place k attempt machine) = Unit {0}
IsDeskAct (Claim k attempt machine) = Unit {0}
IsDeskAct (Finish k attempt machine) = Unit {0}
IsDeskAct (Drop k attempt machine) = Unit {0}
IsDeskAct (Lose machine) = Unit {0}
IsDeskAct (Refine k) = ⊥
IsDeskAct (Settle k) = ⊥
IsDeskAct (Trim k) = ⊥

-- a graph that has the nodes of another, what they gave, what was put out and the end
pub record IsAlike (old new : Graph) : Type 0 where
  pub past : new.past ≡ old.past
  pub chain : new.chain ≡ old.chain
  pub next : new.next ≡ old.next
  pub given : new.given ≡ old.given
  pub out : new.out ≡ old.out
  pub end : new.end ≡ old.end

-- tickets, claims and losses leave all of the graph but what the driver keeps
abbrev pub DeskLaw : Type 0
DeskLaw = (p : Plan) (s : State) (e : Event) → IsDeskAct e.act
    → IsAlike s.graph (happens p s e).graph

-- an event settles the head
abbrev pub IsSettle : Act → Type 0
IsSettle (Settle k) = Unit {0}
IsSettle (Place k attempt machine) = ⊥
IsSettle (Claim k attempt machine) = ⊥
IsSettle (Finish k attempt machine) = ⊥
IsSettle (Drop k attempt machine) = ⊥
IsSettle (Refine k) = ⊥
IsSettle (Lose machine) = ⊥
IsSettle (Trim k) = ⊥

-- an event puts lines out behind those before it, and only a Settle puts any out
pub record PutsOut (old new : Graph) (act : Act) : Type 0 where
  pub lines : List (List ℕ)
  pub out : new.out ≡ old.out ++ lines
  pub by_settle : (IsSettle act → ⊥) → new.out ≡ old.out

-- so does every event
abbrev pub OutputLaw : Type 0
OutputLaw = (p : Plan) (s : State) (e : Event) → PutsOut s.graph (happens p s e).graph e.act

-- the node that an act names; a loss names none
abbrev pub node_of : Act → Option ℕ
node_of (Place k attempt machine) = Some k
node_of (Claim k attempt machine) = Some k
node_of (Finish k attempt machine) = Some k
node_of (Drop k attempt machine) = Some k
node_of (Refine k) = Some k
node_of (Settle k) = Some k
node_of (Lose machine) = None
node_of (Trim k) = Some k

-- what may come behind a legal run names a node below the next number
abbrev pub NumberLaw : Type 0
NumberLaw = (p : Plan) (es : List Event) (e : Event) (k : ℕ) → IsRunnable p → IsLegal p es
    → Enabled p (replay p es) e → node_of e.act ≡ Some k → k < (replay p es).graph.next

-- the two lists of a sound graph stand in order, as lineage asks of them
abbrev pub InOrderLaw : Type 0
InOrderLaw = (p : Plan) (g : Graph) → IsGraphSound p g → IsInOrder g.past g.chain

-- a live ticket is the last one of its node, which is ready and has neither a record nor a claim
pub record IsLive (s : State) (k : ℕ) (t : Placed) : Type 0 where
  pub job : Job
  pub is_ready : ready s.graph s.desk.stores k t.attempt ≡ Some job
  pub no_record : records s.graph s.desk.stores k ≡ None
  pub no_claim : s.desk.claim k ≡ None
  pub last : t.attempt ≡ s.desk.places k

-- so is every ticket of a sound state
abbrev pub TicketLaw : Type 0
TicketLaw = (p : Plan) (s : State) (k : ℕ) (t : Placed) → IsSound p s
    → s.desk.ticket k ≡ Some t → IsLive s k t

-- the claim that an attempt's Claim leaves: its job is the node's before it
pub record IsClaimed (before : State) (left : Option Held) (seat k attempt machine : ℕ)
    : Type 0 where
  pub job : Job
  pub is_ready : ready before.graph before.desk.stores k attempt ≡ Some job
  pub of_node : job.node ≡ k
  pub of_attempt : job.attempt ≡ attempt
  pub claim : left ≡
      Some (record { attempt = attempt; machine = machine; seat = seat; job = job })

-- so does every Claim
abbrev pub ClaimedLaw : Type 0
ClaimedLaw = (p : Plan) (s : State) (e : Event) (k attempt machine : ℕ) → IsSound p s
    → Enabled p s e → e.act ≡ Claim k attempt machine
    → IsClaimed s ((happens p s e).desk.claim k) e.by k attempt machine

-- a Finish leaves the meaning of its claim's job as the node's record, and no claim
pub record IsFinished (p : Plan) (now : State) (k : ℕ) (c : Held) : Type 0 where
  pub kept : records now.graph now.desk.stores k ≡ Some (job_ran p.file (limits_of p) c.job)
  pub no_claim : now.desk.claim k ≡ None

-- so does every Finish
abbrev pub FinishedLaw : Type 0
FinishedLaw = (p : Plan) (s : State) (e : Event) (k attempt machine : ℕ) (c : Held)
    → IsSound p s → Enabled p s e → e.act ≡ Finish k attempt machine
    → s.desk.claim k ≡ Some c → IsFinished p (happens p s e) k c
