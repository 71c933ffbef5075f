-- The past once the head of the chain is settled, and Trims in a row.
use Rattle.std.specs.Prelude.{◌≡◌, ℕ, List, [], ◌∷◌, ◌++◌, Bool, if◌then◌else◌, None, drop, take}
use Rattle.std.specs.List.{All}
use Rattle.pyd_value.specs.declared.value.Value.{Value}
use Rattle.pyd_board.specs.declared.event.Act.TheVariants.{Settle, Trim}
use Rattle.pyd_board.specs.declared.event.Event.{Event}
use Rattle.pyd_boards.specs.Boards.{entry}
use Rattle.pyd_ir.specs.declared.node.Node.{Node}
use Rattle.pyd_lineage.specs.Lineage.{AreUnreached, IsInOrder}
use Rattle.pyd_runs.specs.Choices.{AreDistinct}
use Rattle.pyd_runs.specs.Plans.{Plan}
use Rattle.pyd_runs.specs.Effects.{State, acted, passed}
use Rattle.pyd_runs.specs.Enabled.{CanSettle, CanTrim}
use Rattle.pyd_runs.specs.Replay.{after}
use Rattle.pyd_runs.specs.Sound.{IsSound}
use Rattle.pyd_core.specs.declared.keeper.Core.{Core}
use Rattle.pyd_core.specs.Cores.{state_of}
use Rattle.pyd_core.specs.Losing.{losses_by}

-- the past nodes once the head of the chain is settled, which stays there or is gone
abbrev pub past_behind : Bool → List Node → List Node → List Node
past_behind stays past chain = if stays then past ++ take 1 chain else past

-- losses that are due, and then the Trim of a node, by a seat
abbrev pub trim_by : ℕ → State → ℕ → List Event
trim_by seat s k = losses_by seat s ++ entry (s.journal ++ losses_by seat s) seat (Trim k) ∷ []

-- the same of one node after the other
abbrev pub trims_by : Plan → ℕ → State → List ℕ → List Event
trims_by p seat s [] = []
trims_by p seat s (k ∷ ks) =
    trim_by seat s k ++ trims_by p seat (after p s (trim_by seat s k)) ks

-- each of some nodes may be trimmed, and none comes twice
pub record AreTrimmable (s : State) (ks : List ℕ) : Type 0 where
  pub may : All (CanTrim s) ks
  pub distinct : AreDistinct ks

-- the Trim of a node, and losses, leave that a run goes on, and what other nodes may be trimmed
pub record LeavesTrims (old new : Core) (k : ℕ) : Type 0 where
  pub goes_on : (state_of old).graph.end ≡ None → (state_of new).graph.end ≡ None
  pub others : (j : ℕ) → (j ≡ k → ⊥) → CanTrim (state_of old) j → CanTrim (state_of new) j

-- past nodes that the chain doesn't reach may be trimmed
abbrev pub UnreachedLaw : Type 0
UnreachedLaw = (p : Plan) (s : State) (ks : List ℕ) → IsSound p s
    → AreUnreached s.graph.past s.graph.chain ks → AreTrimmable s ks

-- the head may be settled, and gave a value; a pure one stays in the past then
pub record PassesHead (p : Plan) (s : State) (pure : Bool) : Type 0 where
  pub head : Node
  pub rest : List Node
  pub lines : List (List ℕ)
  pub value : Value
  pub chain : s.graph.chain ≡ head ∷ rest
  pub can : CanSettle s head.id
  pub graph : (seat : ℕ) → (acted p s seat (Settle head.id)).graph
      ≡ passed pure s.graph head rest lines value

-- the two lists stand in order behind the head
abbrev pub BehindHeadLaw : Type 0
BehindHeadLaw = (p : Plan) (s : State) (pure : Bool) → PassesHead p s pure
    → IsSound p s → s.graph.end ≡ None
    → IsInOrder (past_behind pure s.graph.past s.graph.chain) (drop 1 s.graph.chain)
