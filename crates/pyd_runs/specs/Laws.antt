-- What is promised of every run.
use Rattle.std.specs.Prelude.{◌≡◌, ◌≢◌, ◌<◌, ◌≤◌, ◌==◌, ℕ, suc, List, [], ◌∷◌, ◌++◌, length, map, take, max, ◌*◌, Bool, true, false, Some, None, is_some, IsTrue, ◌⊎◌}
use Rattle.std.specs.List.{All, Contains, count_by, zip}
use Rattle.pyd_value.specs.declared.value.Value.{Value}
use Rattle.pyd_value.specs.declared.fault.End.{End}
use Rattle.pyd_board.specs.declared.event.Act.{Act}
use Rattle.pyd_board.specs.declared.event.Act.TheVariants.{Place, Claim, Finish, Drop, Refine, Settle, Lose, Trim}
use Rattle.pyd_board.specs.declared.event.Event.{Event}
use Rattle.pyd_board.specs.declared.setup.Loss.{Loss}
use Rattle.pyd_ir.specs.declared.node.Node.{Node}
use Rattle.pyd_lineage.specs.Lineage.{Reaches, is_among}
use Rattle.pyd_runs.specs.Plans.{Plan, meaning}
use Rattle.pyd_runs.specs.Graphs.{Graph}
use Rattle.pyd_runs.specs.Desks.{Stores}
use Rattle.pyd_runs.specs.Records.{records}
use Rattle.pyd_runs.specs.Reach.{Reached, Needed}
use Rattle.pyd_runs.specs.Effects.{State, acted, happens}
use Rattle.pyd_runs.specs.Enabled.{CanPlace, CanClaim, CanFinish, CanLose, CanRefine, CanSettle, CanTrim, Enabled, due}
use Rattle.pyd_runs.specs.Replay.{IsLegal, replay}
use Rattle.pyd_runs.specs.Sound.{IsSound, IsGraphSound, IsWhole, ports_seen, leaf_seen, sight, stands}

-- entries in order of their events
abbrev pub AreInOrder : List Loss → Type 0
AreInOrder [] = Unit {0}
AreInOrder (l ∷ losses) = All (λ more. l.event ≤ more.event) losses × AreInOrder losses

-- no machine is named twice
abbrev pub AreDifferent : List Loss → Type 0
AreDifferent [] = Unit {0}
AreDifferent (l ∷ losses) = All (λ more. l.machine ≢ more.machine) losses × AreDifferent losses

-- a plan that may be run: its window holds a node, and its losses, in order, name different machines but not all
pub record IsRunnable (p : Plan) : Type 0 where
  pub window : 0 < p.setup.window
  pub workers : 0 < p.setup.workers
  pub in_order : AreInOrder p.setup.losses
  pub different : AreDifferent p.setup.losses
  pub machines : All (λ l. l.machine < p.setup.machines) p.setup.losses
  pub some_spared : length p.setup.losses < p.setup.machines

-- what the chain reaches is what lineage says that it reaches
abbrev pub ReachLaw : Type 0
ReachLaw = (g : Graph) (k : ℕ)
    → (Reached g k → Reaches g.past g.chain [] k) × (Reaches g.past g.chain [] k → Reached g k)

-- what is needed stands in the chain, or is what lineage says that the chain reaches where all that has a record is known
abbrev pub NeedLaw : Type 0
NeedLaw = (p : Plan) (g : Graph) (stores : Stores) (known : List ℕ) (k : ℕ) → IsGraphSound p g
    → ((n : ℕ) → is_among known n ≡ is_some (records g stores n))
    → (Needed g stores k → IsTrue (stands k g.chain) ⊎ Reaches g.past g.chain known k)
    × (IsTrue (stands k g.chain) ⊎ Reaches g.past g.chain known k → Needed g stores k)

-- while a run goes on, a loss that is due bars any other event
abbrev pub BarLaw : Type 0
BarLaw = (p : Plan) (s : State) (e : Event) (machine : ℕ) → s.graph.end ≡ None
    → due s ≡ Some machine → Enabled p s e → e.act ≡ Lose machine

-- a ticket that may be placed keeps what holds
abbrev pub PlaceLaw : Type 0
PlaceLaw = (p : Plan) (s : State) (seat k attempt machine : ℕ) → IsSound p s
    → CanPlace p s k attempt machine → IsSound p (acted p s seat (Place k attempt machine))

-- a claim of a live ticket keeps what holds
abbrev pub ClaimLaw : Type 0
ClaimLaw = (p : Plan) (s : State) (seat k attempt machine : ℕ) → IsSound p s
    → CanClaim p s seat k attempt machine
    → IsSound p (acted p s seat (Claim k attempt machine))

-- a claim that may be finished keeps what holds
abbrev pub FinishLaw : Type 0
FinishLaw = (p : Plan) (s : State) (seat k attempt machine : ℕ) → IsSound p s
    → CanFinish p s seat k attempt machine
    → IsSound p (acted p s seat (Finish k attempt machine))

-- a claim that is dropped keeps what holds
abbrev pub DropLaw : Type 0
DropLaw = (p : Plan) (s : State) (seat k attempt machine : ℕ) → IsSound p s
    → IsSound p (acted p s seat (Drop k attempt machine))

-- the head of a chain that may be settled keeps what holds
abbrev pub SettleLaw : Type 0
SettleLaw = (p : Plan) (s : State) (seat k : ℕ) → IsSound p s → s.graph.end ≡ None
    → CanSettle s k → IsSound p (acted p s seat (Settle k))

-- a composite that may be refined keeps what holds
abbrev pub RefineLaw : Type 0
RefineLaw = (p : Plan) (s : State) (seat k : ℕ) → IsSound p s → s.graph.end ≡ None
    → CanRefine p s k → IsSound p (acted p s seat (Refine k))

-- every event that may come keeps what holds
abbrev pub EventLaw : Type 0
EventLaw = (p : Plan) (s : State) (e : Event) → IsSound p s → Enabled p s e
    → IsSound p (happens p s e)

-- what is seen of a settled node is what it gave, and of a node of the chain what it does by what is seen
pub record IsSight (p : Plan) (g : Graph) : Type 0 where
  pub given : (k port : ℕ) (v : Value) → g.given k port ≡ Some v → sight p g k port ≡ Some v
  pub chain : (n : Node) → Contains g.chain n → (port : ℕ)
      → sight p g n.id port ≡ ports_seen n (leaf_seen p (sight p g) n) port

-- what is seen of a sound graph
abbrev pub SightLaw : Type 0
SightLaw = (p : Plan) (g : Graph) → IsGraphSound p g → IsSight p g

-- a loss that is due keeps what holds
abbrev pub LoseLaw : Type 0
LoseLaw = (p : Plan) (s : State) (seat machine : ℕ) → IsSound p s → CanLose s seat machine
    → IsSound p (acted p s seat (Lose machine))

-- a past node that may be trimmed keeps what holds
abbrev pub TrimLaw : Type 0
TrimLaw = (p : Plan) (s : State) (seat k : ℕ) → IsSound p s → CanTrim s k
    → IsSound p (acted p s seat (Trim k))

-- the state after every legal run is sound
abbrev pub RunLaw : Type 0
RunLaw = (p : Plan) (es : List Event)
    → IsRunnable p → IsLegal p es → IsSound p (replay p es)

-- what was put out is a beginning of the script's lines
abbrev pub PrefixLaw : Type 0
PrefixLaw = (p : Plan) (es : List Event) → IsRunnable p → IsLegal p es
    → (more : List (List ℕ)) × ((replay p es).graph.out ++ more ≡ (meaning p).lines)

-- at its end it is all of them, and the run ends as the script does
abbrev pub EndLaw : Type 0
EndLaw = (p : Plan) (es : List Event) (end : End) → IsRunnable p → IsLegal p es
    → (replay p es).graph.end ≡ Some end → IsWhole p (replay p es).graph.out end

-- an event on the way to the end: neither a Trim nor a Drop
abbrev pub IsForward : Act → Type 0
IsForward (Place k attempt machine) = Unit {0}
IsForward (Claim k attempt machine) = Unit {0}
IsForward (Finish k attempt machine) = Unit {0}
IsForward (Drop k attempt machine) = ⊥
IsForward (Refine k) = Unit {0}
IsForward (Settle k) = Unit {0}
IsForward (Lose machine) = Unit {0}
IsForward (Trim k) = ⊥

-- a state goes on: such an event may come next
abbrev pub GoesOn : Plan → State → Type 0
GoesOn p s = (e : Event) × Enabled p s e × IsForward e.act

-- a sound state in which the run hasn't ended goes on
abbrev pub ProgressLaw : Type 0
ProgressLaw = (p : Plan) (s : State) → IsRunnable p → IsSound p s → s.graph.end ≡ None
    → GoesOn p s

-- an event settles a node
abbrev pub settles : ℕ → Act → Bool
settles k (Settle n) = n == k
settles k (Place n attempt machine) = false
settles k (Claim n attempt machine) = false
settles k (Finish n attempt machine) = false
settles k (Drop n attempt machine) = false
settles k (Refine n) = false
settles k (Lose machine) = false
settles k (Trim n) = false

-- no node is settled twice
abbrev pub OnceLaw : Type 0
OnceLaw = (p : Plan) (es : List Event) (k : ℕ) → IsRunnable p → IsLegal p es
    → count_by (λ e. settles k e.act) es ≤ 1

-- an event takes the chain a step further: its head is settled, or a composite is refined
abbrev pub advances : Act → Bool
advances (Settle k) = true
advances (Refine k) = true
advances (Place k attempt machine) = false
advances (Claim k attempt machine) = false
advances (Finish k attempt machine) = false
advances (Drop k attempt machine) = false
advances (Lose machine) = false
advances (Trim k) = false

-- where only the head is refined, the chain takes at most 4 steps for each step of the script
abbrev pub StepsLaw : Type 0
StepsLaw = (p : Plan) (es : List Event) → IsRunnable p → p.setup.window ≡ 1 → IsLegal p es
    → count_by (λ e. advances e.act) es ≤ 4 * (meaning p).steps

-- between two claims of a node stands a loss of the first one's machine
abbrev pub AgainLaw : Type 0
AgainLaw = (p : Plan) (before between behind : List Event) (first second : Event)
    (k a b m n : ℕ) → IsRunnable p
    → IsLegal p (before ++ (first ∷ (between ++ (second ∷ behind))))
    → first.act ≡ Claim k a m → second.act ≡ Claim k b n
    → (e : Event) × Contains between e × (e.act ≡ Lose m)

-- the places in a run at which losses come: the number of an entry, or the next place behind the loss before
abbrev pub places_from : ℕ → List Loss → List ℕ
places_from next [] = []
places_from next (l ∷ losses) = max next l.event ∷ places_from (suc (max next l.event)) losses

-- an event at a place before the losses behind it: a loss comes first, and any other is none
abbrev pub loss_at : ℕ → Act → List (ℕ × ℕ) → List (ℕ × ℕ)
loss_at k (Lose machine) more = (k, machine) ∷ more
loss_at k (Place n attempt machine) more = more
loss_at k (Claim n attempt machine) more = more
loss_at k (Finish n attempt machine) more = more
loss_at k (Drop n attempt machine) more = more
loss_at k (Refine n) more = more
loss_at k (Settle n) more = more
loss_at k (Trim n) more = more

-- the losses of a run with their places, counted from a number on
abbrev pub losses_in : ℕ → List Event → List (ℕ × ℕ)
losses_in k [] = []
losses_in k (e ∷ es) = loss_at k e.act (losses_in (suc k) es)

-- the losses of a script with their places
abbrev pub losses_due : List Loss → List (ℕ × ℕ)
losses_due losses = zip (places_from 0 losses) (map (λ l. l.machine) losses)

-- losses stand exactly at their places: those of a run are the first of the script, and the place of any other isn't reached, or the run had ended by then
pub record AreAtPlaces (p : Plan) (es : List Event) : Type 0 where
  pub more : List (ℕ × ℕ)
  pub first : losses_due p.setup.losses ≡ losses_in 0 es ++ more
  pub later : All (λ l. (length es ≤ l.0) ⊎ ((replay p (take l.0 es)).graph.end ≢ None)) more

-- losses stand exactly at their places
abbrev pub LossLaw : Type 0
LossLaw = (p : Plan) (es : List Event) → IsRunnable p → IsLegal p es → AreAtPlaces p es
