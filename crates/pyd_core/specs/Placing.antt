-- Which nodes may be placed, by what is kept of them.
use Rattle.std.specs.Prelude.{◌≡◌, ℕ, suc, ◌==◌, List, [], ◌∷◌, All, Bool, true, false, not, ◌&&◌, ◌||◌, cond, None, is_some}
use Rattle.pyd_board.specs.declared.event.Event.{Event}
use Rattle.pyd_ir.specs.declared.node.Node.{Node}
use Rattle.pyd_ir.specs.Arguments.{is_pure}
use Rattle.pyd_ir.specs.Inputs.{has_inputs, task_of}
use Rattle.pyd_lineage.specs.Marking.{numbers_where}
use Rattle.pyd_runs.specs.Deciding.{is_free, is_needed, may_place}
use Rattle.pyd_runs.specs.Effects.{State}
use Rattle.pyd_runs.specs.Enabled.{IsLoss}
use Rattle.pyd_runs.specs.HeadOrder.{has_record}
use Rattle.pyd_runs.specs.Plans.{Plan}
use Rattle.pyd_runs.specs.Replay.{after}
use Rattle.pyd_desk.specs.declared.desk.Desk.{Desk}
use Rattle.pyd_desk.specs.declared.desk.Mark.{Mark}
use Rattle.pyd_desk.specs.Desks.{claim_by, mark_at}
use Rattle.pyd_desk.specs.Reading.{given_of, outcome_at}
use Rattle.pyd_core.specs.declared.keeper.Core.{Core}
use Rattle.pyd_core.specs.Cores.{state_of}

-- the attempt that a node is placed for next
abbrev pub next_attempt_of : Core → ℕ → ℕ
next_attempt_of c k = suc ((state_of c).desk.places k)

-- whether a node is pure, has no record and is needed
abbrev pub is_missing : State → Node → Bool
is_missing s n = is_pure n.work && (not (has_record s n.id) && is_needed s n.id)

-- whether a node is needed and free: it may be placed where it is ready
abbrev pub is_wanted : State → ℕ → Bool
is_wanted s k = is_needed s k && is_free s k

-- losses leave wanted what is wanted
abbrev pub WantedLaw : Type 0
WantedLaw = (p : Plan) (s : State) (k : ℕ) (es : List Event) → All (λ e. IsLoss e.act) es
    → is_wanted s k ≡ true → is_wanted (after p s es) k ≡ true

-- the numbers of the nodes that have records, in list order
abbrev pub recorded_numbers : Core → List ℕ
recorded_numbers c = numbers_where (λ n. is_some (outcome_at c.desk n.id)) c.line.nodes.items

-- the numbers of the missing nodes, in list order
abbrev pub missing_numbers : Core → List ℕ
missing_numbers c = numbers_where (is_missing (state_of c)) c.line.nodes.items

-- the numbers of the nodes that may be placed, in list order
abbrev pub placeable_numbers : Core → List ℕ
placeable_numbers c = numbers_where (λ n. may_place (state_of c) n.id) c.line.nodes.items

-- whether the first of some numbers is this one
abbrev pub is_first : ℕ → List ℕ → Bool
is_first k [] = false
is_first k (n ∷ ns) = n == k

-- whether a node is ready; an effect is at the head of the chain
abbrev pub is_ready_on : Desk → Node → Bool → Bool
is_ready_on d n is_head =
    is_some (cond (has_inputs (given_of d) n.work && (is_pure n.work || is_head))
    (task_of (given_of d) n.work) None)

-- whether a mark has neither a ticket nor a claim whose machine lives
abbrev pub is_unmarked : List Bool → Mark → Bool
is_unmarked alive m = not (is_some m.ticket) && not (is_some (claim_by alive m.claim))

-- whether a node has none of a record, a ticket and a claim
abbrev pub is_free_on : Desk → ℕ → Bool
is_free_on d k = not (is_some (outcome_at d k))
    && is_unmarked d.alive.items (mark_at d.marks.items k)
