-- Tests of what may be done in a state: which nodes may be placed, refined, settled or trimmed.
use Rattle.std.specs.Prelude.{◌≡◌, ◌==◌, ℕ, suc, pred, nat_lt, List, [], ◌∷◌, Bool, true, false, not, ◌&&◌, ◌||◌, Option, Some, None, is_some}
use Rattle.pyd_ir.specs.declared.arg.Arg.{Arg}
use Rattle.pyd_ir.specs.declared.node.Node.{Node}
use Rattle.pyd_ir.specs.declared.work.Work.{Work}
use Rattle.pyd_ir.specs.declared.work.Work.TheVariants.{Op, Read, Call, Stop, Print, Run, Cond, While, For, Pick, Enter}
use Rattle.pyd_ir.specs.Arguments.{control, is_composite}
use Rattle.pyd_ir.specs.Inputs.{Given, has_value, have_values}
use Rattle.pyd_lineage.specs.Lineage.{is_among}
use Rattle.pyd_lineage.specs.Marking.{reached_names}
use Rattle.pyd_runs.specs.Plans.{Plan}
use Rattle.pyd_runs.specs.Records.{node_at, recorded, is_ready}
use Rattle.pyd_runs.specs.Effects.{State}
use Rattle.pyd_runs.specs.Enabled.{Lives, CanPlace, CanRefine, CanSettle, CanTrim}
use Rattle.pyd_runs.specs.Sound.{IsSound, stands}
use Rattle.pyd_runs.specs.HeadOrder.{has_record}

-- whether a node is needed: it stands in the chain, or the chain reaches it through nodes without records
abbrev pub is_needed : State → ℕ → Bool
is_needed s k = stands k s.graph.chain
    || is_among (reached_names s.graph.past s.graph.chain (has_record s)) k

-- whether a node has none of a record, a ticket and a claim
abbrev pub is_free : State → ℕ → Bool
is_free s k = not (has_record s k)
    && (not (is_some (s.desk.ticket k)) && not (is_some (s.desk.claim k)))

-- whether a node may be placed, on any machine that lives
abbrev pub may_place : State → ℕ → Bool
may_place s k = is_ready s.graph s.desk.stores k && (is_needed s k && is_free s k)

-- the test is met exactly where the node may be placed, as the next attempt
pub record TellsPlaces (p : Plan) (s : State) (k : ℕ) : Type 0 where
  pub may : may_place s k ≡ true → (machine : ℕ) → Lives p s.lost machine
      → CanPlace p s k (suc (s.desk.places k)) machine
  pub only : (attempt machine : ℕ) → CanPlace p s k attempt machine → may_place s k ≡ true

-- so it is in a sound state
abbrev pub PlaceTestLaw : Type 0
PlaceTestLaw = (p : Plan) (s : State) (k : ℕ) → IsSound p s → TellsPlaces p s k

-- whether fewer nodes than the window stand before the node of a number
abbrev pub is_within : ℕ → ℕ → List Node → Bool
is_within window k [] = false
is_within window k (n ∷ ns) = nat_lt 0 window && (n.id == k || is_within (pred window) k ns)

-- whether the control has a record, if there is one
abbrev pub is_controlled : Given → Option Arg → Bool
is_controlled given None = true
is_controlled given (Some a) = has_value given a

-- whether a node, if it is there, is a composite whose control has a record
abbrev pub is_refinable : Given → Option Node → Bool
is_refinable given None = false
is_refinable given (Some n) = is_composite n.work && is_controlled given (control n.work)

-- whether a node may be refined
abbrev pub may_refine : Plan → State → ℕ → Bool
may_refine p s k = is_refinable (recorded s.graph s.desk.stores) (node_at s.graph.chain k)
    && is_within p.setup.window k s.graph.chain

-- the test is met exactly where the node may be refined
abbrev pub RefineTestLaw : Type 0
RefineTestLaw = (p : Plan) (s : State) (k : ℕ) → IsSound p s
    → (may_refine p s k ≡ true → CanRefine p s k) × (CanRefine p s k → may_refine p s k ≡ true)

-- whether a head doesn't wait
abbrev pub waits_not : State → ℕ → Work → Bool
waits_not s k (Op op args) = has_record s k
waits_not s k (Read arg kind) = has_record s k
waits_not s k (Call func args) = has_record s k
waits_not s k (Stop fault) = true
waits_not s k (Print args) = have_values (recorded s.graph s.desk.stores) args
waits_not s k (Run func args) = has_record s k
waits_not s k (Cond test stmt arm rest env) = false
waits_not s k (While test stmt turns rest env) = false
waits_not s k (For over stmt turns rest env) = false
waits_not s k (Pick test first second env) = false
waits_not s k (Enter func args) = false

-- whether the first of a list is the node of a number and doesn't wait
abbrev pub settles_first : State → ℕ → List Node → Bool
settles_first s k [] = false
settles_first s k (n ∷ ns) = n.id == k && waits_not s k n.work

-- whether a node may be settled
abbrev pub may_settle : State → ℕ → Bool
may_settle s k = settles_first s k s.graph.chain

-- the test is met exactly where the node may be settled
abbrev pub SettleTestLaw : Type 0
SettleTestLaw = (s : State) (k : ℕ)
    → (may_settle s k ≡ true → CanSettle s k) × (CanSettle s k → may_settle s k ≡ true)

-- whether a node may be trimmed: it stands in the past, and the chain doesn't reach it
abbrev pub may_trim : State → ℕ → Bool
may_trim s k = stands k s.graph.past
    && not (is_among (reached_names s.graph.past s.graph.chain (λ n. false)) k)

-- the test is met exactly where the node may be trimmed
abbrev pub TrimTestLaw : Type 0
TrimTestLaw = (p : Plan) (s : State) (k : ℕ) → IsSound p s
    → (may_trim s k ≡ true → CanTrim s k) × (CanTrim s k → may_trim s k ≡ true)
