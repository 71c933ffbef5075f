-- How many events a run has at most where the head alone is refined, and how many may come yet.
use Rattle.std.specs.Prelude.{◌==◌, ◌≤◌, ◌+◌, ◌*◌, ℕ, suc, List, [], ◌∷◌, length, Bool, true, false, IsTrue}
use Rattle.std.specs.List.{count_by}
use Rattle.pyd_board.specs.declared.event.Act.{Act}
use Rattle.pyd_board.specs.declared.event.Act.TheVariants.{Place, Claim, Finish, Drop, Refine, Settle, Lose, Trim}
use Rattle.pyd_board.specs.declared.event.Event.{Event}
use Rattle.pyd_translate.specs.Counts.{file_items}
use Rattle.pyd_translate.specs.Walk.{walk}
use Rattle.pyd_runs.specs.Plans.{Plan, limits_of, meaning}
use Rattle.pyd_runs.specs.Records.{heads}
use Rattle.pyd_runs.specs.Effects.{State, first_state, happens}
use Rattle.pyd_runs.specs.Replay.{IsLegal, IsLegalFrom, replay}
use Rattle.pyd_runs.specs.Laws.{IsRunnable, advances}

-- this holds of each state and the act in it, from a state on
abbrev pub AllAlong : (State → Act → Type 0) → Plan → State → List Event → Type 0
AllAlong Holds p s [] = Unit {0}
AllAlong Holds p s (e ∷ es) = Holds s e.act × AllAlong Holds p (happens p s e) es

-- a composite that is refined is the head
abbrev pub RefinesHead : State → Act → Type 0
RefinesHead s (Refine k) = IsTrue (heads k s.graph.chain)
RefinesHead s (Place k attempt machine) = Unit {0}
RefinesHead s (Claim k attempt machine) = Unit {0}
RefinesHead s (Finish k attempt machine) = Unit {0}
RefinesHead s (Drop k attempt machine) = Unit {0}
RefinesHead s (Settle k) = Unit {0}
RefinesHead s (Lose machine) = Unit {0}
RefinesHead s (Trim k) = Unit {0}

-- where the head alone is refined, the chain takes at most 4 steps for each step of the script
abbrev pub HeadStepsLaw : Type 0
HeadStepsLaw = (p : Plan) (es : List Event) → IsRunnable p → IsLegal p es
    → AllAlong RefinesHead p (first_state p) es
    → count_by (λ e. advances e.act) es ≤ 4 * (meaning p).steps

-- what a run in head order may have: of composites the head alone is refined, and nothing is dropped or trimmed
abbrev pub InHeadOrder : State → Act → Type 0
InHeadOrder s (Refine k) = IsTrue (heads k s.graph.chain)
InHeadOrder s (Place k attempt machine) = Unit {0}
InHeadOrder s (Claim k attempt machine) = Unit {0}
InHeadOrder s (Finish k attempt machine) = Unit {0}
InHeadOrder s (Settle k) = Unit {0}
InHeadOrder s (Lose machine) = Unit {0}
InHeadOrder s (Drop k attempt machine) = ⊥
InHeadOrder s (Trim k) = ⊥

-- an event places, claims or finishes a node
abbrev pub serves : ℕ → Act → Bool
serves k (Place n attempt machine) = n == k
serves k (Claim n attempt machine) = n == k
serves k (Finish n attempt machine) = n == k
serves k (Drop n attempt machine) = false
serves k (Refine n) = false
serves k (Settle n) = false
serves k (Lose machine) = false
serves k (Trim n) = false

-- an event is a loss
abbrev pub is_loss : Act → Bool
is_loss (Lose machine) = true
is_loss (Place n attempt machine) = false
is_loss (Claim n attempt machine) = false
is_loss (Finish n attempt machine) = false
is_loss (Drop n attempt machine) = false
is_loss (Refine n) = false
is_loss (Settle n) = false
is_loss (Trim n) = false

-- how many losses events have
abbrev pub losses_of : List Event → ℕ
losses_of es = count_by (λ e. is_loss e.act) es

-- a run has no more losses than its script
abbrev pub LossCountLaw : Type 0
LossCountLaw = (p : Plan) (es : List Event) → IsLegal p es → losses_of es ≤ length p.setup.losses

-- a node is placed, claimed and finished 3 times at most, and 3 times more for each loss
abbrev pub NodeCountLaw : Type 0
NodeCountLaw = (p : Plan) (es : List Event) (k : ℕ) → IsRunnable p → IsLegal p es
    → AllAlong InHeadOrder p (first_state p) es
    → count_by (λ e. serves k e.act) es ≤ 3 * (1 + losses_of es)

-- a run in head order has at most 4 events for each step of the script, one for each loss, and 3 for each node that was made, and for each node and loss
abbrev pub EventCountLaw : Type 0
EventCountLaw = (p : Plan) (es : List Event) → IsRunnable p → IsLegal p es
    → AllAlong InHeadOrder p (first_state p) es
    → length es
    ≤ 4 * (meaning p).steps + losses_of es
    + 3 * (suc (losses_of es) * (replay p es).graph.next)

-- a run makes at most 3 nodes for each statement, arm, expression and suffix of its file, and for each step of the chain as many and 3 more
abbrev pub MadeCountLaw : Type 0
MadeCountLaw = (p : Plan) (es : List Event) → IsRunnable p → IsLegal p es
    → (replay p es).graph.next
    ≤ 3 * file_items p.file
    + 3 * (count_by (λ e. advances e.act) es * suc (file_items p.file))

-- the bound on events, by the statements, arms, expressions and suffixes of the file, the steps of the script and the losses of the plan
abbrev pub event_bound : Plan → ℕ
event_bound p =
    100 * file_items p.file * ((meaning p).steps + 1) * (1 + length p.setup.losses)

-- a run in head order has no more events
abbrev pub RunBound : Type 0
RunBound = (p : Plan) (es : List Event) → IsRunnable p → IsLegal p es
    → AllAlong InHeadOrder p (first_state p) es → length es ≤ event_bound p

-- the steps of the chain that are left, as walking it counts them
abbrev pub steps_left : Plan → State → ℕ
steps_left p s = (walk p.file (limits_of p) s.graph.chain s.graph.given).steps

-- how many nodes there are at most once the chain has taken them
abbrev pub most_nodes : Plan → State → ℕ
most_nodes p s = s.graph.next + 3 * (steps_left p s * suc (file_items p.file))

-- one for each step that is left and for each loss to come, and 3 for each node, and for each node and loss
abbrev pub onward_bound : Plan → State → ℕ
onward_bound p s =
    steps_left p s + length s.losses + 3 * (suc (length s.losses) * most_nodes p s)

-- no more events come in head order, whatever came before
abbrev pub OnwardBound : Type 0
OnwardBound = (p : Plan) (es more : List Event) → IsRunnable p → IsLegal p es
    → IsLegalFrom p (replay p es) more → AllAlong InHeadOrder p (replay p es) more
    → length more ≤ onward_bound p (replay p es)
