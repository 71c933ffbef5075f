-- What settling the head puts out and appends.
use Rattle.std.specs.Prelude.{◌≡◌, ◌++◌, ◌∷◌, ◌⊎◌, [], ℕ, List, All, Option, Some, None}
use Rattle.pyd_value.specs.declared.value.Value.{Value}
use Rattle.pyd_board.specs.declared.event.Event.{Event}
use Rattle.pyd_board.specs.Histories.{AllBy}
use Rattle.pyd_boards.specs.Calls.{IsIn, loses, trims}
use Rattle.pyd_boards.specs.Moves.{EndsIn, SettlesIn}
use Rattle.pyd_ir.specs.declared.node.Node.{Node}
use Rattle.pyd_ir.specs.Inputs.{leaf_meaning}
use Rattle.pyd_meaning.specs.Evaluation.{Evaluation}
use Rattle.pyd_meaning.specs.Module.{bytes_of}
use Rattle.pyd_runs.specs.Effects.{State}
use Rattle.pyd_lineage.specs.Lineage.{AreUnreached}
use Rattle.pyd_runs.specs.Enabled.{CanSettle, CanTrim}
use Rattle.pyd_runs.specs.Graphs.{Graph}
use Rattle.pyd_runs.specs.Plans.{Plan, limits_of, meaning}
use Rattle.pyd_core.specs.declared.keeper.Core.{Core}
use Rattle.pyd_core.specs.Cores.{plan_of, state_of}
use Rattle.pyd_core.specs.Facts.{facts_of, may_come}
use Rattle.pyd_core.specs.Settling.{IsSettling, NoneSettles, SettlesHead}
use Rattle.pyd_core.specs.Steps.{ComesBy, Stays}
use Rattle.pyd_steps.specs.declared.settling.Headed.{Headed}
use Rattle.pyd_steps.specs.declared.settling.Headed.TheVariants as headed
use Rattle.pyd_steps.specs.declared.settling.Prepared.{Prepared}
use Rattle.pyd_steps.specs.declared.told.Told.{Told}
use Rattle.pyd_steps.specs.Sinks.{Puts, PutsPart}

-- the lines of what a node does, where that is known
abbrev pub lines_of : Option (Evaluation Value) → List (List ℕ)
lines_of None = []
lines_of (Some e) = e.lines

-- the lines that the first of the chain puts out
abbrev pub lines_at : Plan → Graph → List Node → List (List ℕ)
lines_at p g [] = []
lines_at p g (n ∷ rest) = lines_of (leaf_meaning p.file (limits_of p) g.given n)

-- the lines of the head
abbrev pub head_lines : Plan → Graph → List (List ℕ)
head_lines p g = lines_at p g g.chain

-- what settles the head, with the bytes of its lines
pub record IsPrepared (p : Plan) (s : State) (prepared : Prepared) : Type 0 where
  pub settles : IsSettling p s prepared.settling
  pub bytes : prepared.bytes.items ≡ bytes_of prepared.settling.lines
  pub lines : prepared.settling.lines ≡ head_lines p s.graph

-- these are the past nodes of a graph that no node of its chain reaches, unless its run has ended
abbrev pub HasUnreached : Graph → List ℕ → Type 0
HasUnreached g nodes = g.end ≡ None → AreUnreached g.past g.chain nodes

-- no node may be trimmed while the run goes on
abbrev pub NoneTrimmable : State → Type 0
NoneTrimmable s = s.graph.end ≡ None → (k : ℕ) → CanTrim s k → ⊥

-- an event is a Trim or a loss
abbrev pub IsTrimOrLoss : Plan → Event → Type 0
IsTrimOrLoss p e = IsIn (facts_of p) trims 0 e ⊎ IsIn (facts_of p) loses 0 e

-- a seat trimmed past nodes until none may be, with losses that came due; the last event, if any, is a Trim
pub record TrimsUnreached (old new : Core) (seat : ℕ) : Type 0 where
  pub own : List Event
  pub comes : ComesBy old new own
  pub by : AllBy seat own
  pub ends : (own ≡ []) ⊎ EndsIn (facts_of (plan_of old)) (may_come (plan_of old)) trims 0 own
  pub are_trims : All (IsTrimOrLoss (plan_of old)) own
  pub none_left : NoneTrimmable (state_of new)
  pub out : (state_of new).graph.out ≡ (state_of old).graph.out

-- the lines of the head went out, and a seat settled it
pub record SettlesOut (old new : Core) (seat : ℕ) (told now : Told) : Type 0 where
  pub settles : SettlesHead old new seat (head_lines (plan_of old) (state_of old).graph)
  pub puts : Puts told (bytes_of (head_lines (plan_of old) (state_of old).graph)) now

-- the sink failed as the lines of the head went out
abbrev pub FailsOut : Core → Told → Told → Type 0
FailsOut c told now = PutsPart told (bytes_of (head_lines (plan_of c) (state_of c).graph)) now

-- the lines of the head went out, a seat settled it, and then trimmed past nodes, with losses that came due
pub record SettlesAndTrims (old new : Core) (seat : ℕ) (told now : Told) : Type 0 where
  pub own : List Event
  pub comes : ComesBy old new own
  pub by : AllBy seat own
  pub settles : SettlesIn (facts_of (plan_of old)) (may_come (plan_of old)) 0
      old.log.journal.items own []
  pub out : (state_of new).graph.out
      ≡ (state_of old).graph.out ++ head_lines (plan_of old) (state_of old).graph
  pub puts : Puts told (bytes_of (head_lines (plan_of old) (state_of old).graph)) now

-- the sink failed, and nothing was appended; what was put out and the head's lines begin the script's
pub record Fails (old new : Core) (told now : Told) : Type 0 where
  pub number : ℕ
  pub can : CanSettle (state_of old) number
  pub more : List (List ℕ)
  pub begins : (state_of old).graph.out ++ (head_lines (plan_of old) (state_of old).graph ++ more)
      ≡ (meaning (plan_of old)).lines
  pub stays : Stays old new
  pub part : FailsOut old told now

-- nothing may be settled, and nothing was done
pub record Waits (old new : Core) (told now : Told) : Type 0 where
  pub none : NoneSettles (state_of old)
  pub stays : Stays old new
  pub same : now ≡ told

-- what became of the head
abbrev pub HeadMoves : Core → Core → ℕ → Told → Told → Headed → Type 0
HeadMoves old new seat told now headed.Settled = SettlesAndTrims old new seat told now
HeadMoves old new seat told now headed.Waits = Waits old new told now
HeadMoves old new seat told now headed.SinkFault = Fails old new told now
