-- The acts that may come while a run goes on and no loss is due, in a list: by what they do, then by node, then by machine.
use Rattle.std.specs.Prelude.{◌==◌, ℕ, zero, suc, List, [], ◌∷◌, ◌++◌, cond, Option, Some, None}
use Rattle.std.specs.List.{Contains, flat_map}
use Rattle.pyd_board.specs.declared.event.Act.{Act}
use Rattle.pyd_board.specs.declared.event.Act.TheVariants.{Place, Claim, Finish, Drop, Refine, Settle, Trim}
use Rattle.pyd_board.specs.declared.event.Event.{Event}
use Rattle.pyd_runs.specs.Plans.{Plan}
use Rattle.pyd_runs.specs.Desks.{Placed, Held}
use Rattle.pyd_runs.specs.Effects.{State}
use Rattle.pyd_runs.specs.Enabled.{CanAct, IsQuiet}
use Rattle.pyd_runs.specs.Replay.{IsLegal, replay}
use Rattle.pyd_runs.specs.Sound.{IsSound}
use Rattle.pyd_runs.specs.Laws.{IsRunnable}
use Rattle.pyd_runs.specs.Deciding.{may_place, may_refine, may_settle, may_trim}

-- the numbers below one, in order
abbrev pub below : ℕ → List ℕ
below zero = []
below (suc n) = below n ++ n ∷ []

-- one act for each machine that isn't lost
abbrev pub on_live : Plan → State → (ℕ → Act) → List Act
on_live p s act = flat_map (λ m. cond (s.lost m) [] (act m ∷ [])) (below p.setup.machines)

-- those that place a node
abbrev pub places : Plan → State → ℕ → List Act
places p s k = cond (may_place s k) (on_live p s (Place k (suc (s.desk.places k)))) []

-- those that claim it, by its live ticket
abbrev pub claims : Plan → State → ℕ → Option Placed → List Act
claims p s k None = []
claims p s k (Some t) = on_live p s (Claim k t.attempt)

-- the one that finishes it, by its claim
abbrev pub finishes : State → ℕ → Option Held → List Act
finishes s k None = []
finishes s k (Some c) = cond (s.lost c.machine) [] (Finish k c.attempt c.machine ∷ [])

-- the one that drops a claim of the machine, if it was undone
abbrev pub drops_one : ℕ → ℕ → Option Held → List Act
drops_one k machine None = []
drops_one k machine (Some c) = cond (c.machine == machine) (Drop k c.attempt machine ∷ []) []

-- those that drop claims of it that losses undid, machine after machine
abbrev pub drops : Plan → State → ℕ → List Act
drops p s k = flat_map
    (λ m. flat_map (λ a. drops_one k m (s.desk.undone k a)) (below (suc (s.desk.places k))))
    (below p.setup.machines)

-- those of all nodes, node after node
abbrev pub of_each : State → (ℕ → List Act) → List Act
of_each s acts = flat_map acts (below s.graph.next)

-- the acts that may come: Places, Claims, Finishes, Drops, Refines, a Settle, Trims
abbrev pub choices : Plan → State → List Act
choices p s =
    of_each s (places p s) ++ (of_each s (λ k. claims p s k (s.desk.ticket k))
    ++ (of_each s (λ k. finishes s k (s.desk.claim k)) ++ (of_each s (drops p s)
    ++ (of_each s (λ k. cond (may_refine p s k) (Refine k ∷ []) [])
    ++ (of_each s (λ k. cond (may_settle s k) (Settle k ∷ []) [])
    ++ of_each s (λ k. cond (may_trim s k) (Trim k ∷ []) []))))))

-- the list has exactly the acts that some seat may do
pub record AreChoices (p : Plan) (s : State) : Type 0 where
  pub may : (act : Act) → Contains (choices p s) act → (seat : ℕ) × CanAct p s seat act
  pub all : (seat : ℕ) (act : Act) → CanAct p s seat act → Contains (choices p s) act

-- so it has behind a legal run that goes on, where no loss is due
abbrev pub ChoicesLaw : Type 0
ChoicesLaw = (p : Plan) (es : List Event) → IsRunnable p → IsLegal p es → IsQuiet (replay p es)
    → AreChoices p (replay p es)

-- no element of a list stands in it twice
abbrev pub AreDistinct : {A : Type 0} → List A → Type 0
AreDistinct [] = Unit {0}
AreDistinct (x ∷ xs) = (Contains xs x → ⊥) × AreDistinct xs

-- no act stands twice in the list
abbrev pub DistinctLaw : Type 0
DistinctLaw = (p : Plan) (s : State) → IsSound p s → AreDistinct (choices p s)
