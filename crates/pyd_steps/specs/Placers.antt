-- What placers are asked and told, and where nodes are placed without one.
use Rattle.std.specs.Prelude.{◌≡◌, ℕ, List, [], ◌∷◌, ◌++◌, Bool, Option, Some, None, All}
use Rattle.pyd_board.specs.declared.event.Act.{Act}
use Rattle.pyd_board.specs.declared.event.Act.TheVariants.{Place, Claim, Finish, Drop, Refine, Settle, Lose, Trim}
use Rattle.pyd_board.specs.declared.event.Event.{Event}
use Rattle.pyd_board.specs.declared.placer.Asked.{Asked}
use Rattle.pyd_board.specs.declared.placer.Asked.TheVariants as asked
use Rattle.pyd_board.specs.Placing.{Told, placed_on}
use Rattle.pyd_runs.specs.Effects.{State, happens}
use Rattle.pyd_runs.specs.Plans.{Plan}
use Rattle.pyd_runs.specs.Replay.{replay}
use Rattle.pyd_core.specs.declared.keeper.Core.{Core}
use Rattle.pyd_core.specs.Cores.{plan_of}
use Rattle.pyd_steps.specs.Machines.{alive_in, callee_in, home_of}

-- calls were made that are so: they are told behind those before, where these are told then and now; what isn't told is never told again
abbrev pub Adds : (List Asked → Type 0) → Option (List Asked) → Option (List Asked) → Type 0
Adds Are None after = after ≡ None
Adds Are (Some before) None = Unit {0}
Adds Are (Some before) (Some after) =
    (made : List Asked) × (after ≡ before ++ made) × Are made

-- of the placer, if there is one, such calls were made, and without one this is so
abbrev pub AddsOr : Type 0 → (List Asked → Type 0) → Option (Option (List Asked))
    → Option (Option (List Asked)) → Type 0
AddsOr Without Are None None = Without
AddsOr Without Are None (Some after) = ⊥
AddsOr Without Are (Some before) None = ⊥
AddsOr Without Are (Some before) (Some after) = Adds Are before after

-- a node that calls a routine is placed where an answer says, or else on the least live machine
pub record IsAnswered (alive : List Bool) (k func machine : ℕ) (calls : List Asked) : Type 0 where
  pub answer : ℕ
  pub made : calls ≡ asked.Place k func answer ∷ []
  pub followed : machine ≡ placed_on alive answer

-- the answer of the placer, if there is one, for a node that calls a routine
abbrev pub Answers : ℕ → ℕ → Option ℕ → Option (Option (List Asked))
    → Option (Option (List Asked)) → Type 0
Answers k func None None None = Unit {0}
Answers k func None None (Some after) = ⊥
Answers k func None (Some before) after = ⊥
Answers k func (Some answer) None after = ⊥
Answers k func (Some answer) (Some before) None = ⊥
Answers k func (Some answer) (Some before) (Some after) =
    Told before (asked.Place k func answer) after

-- the calls of a placer for an act
abbrev pub AreCallsOf : Plan → State → Act → List Asked → Type 0
AreCallsOf p s (Place k attempt machine) made = IsAnswered (alive_in p s) k (callee_in s k) machine made
AreCallsOf p s (Claim k attempt machine) made = made ≡ []
AreCallsOf p s (Finish k attempt machine) made = made ≡ asked.Ended k machine ∷ []
AreCallsOf p s (Drop k attempt machine) made = made ≡ []
AreCallsOf p s (Refine k) made = made ≡ []
AreCallsOf p s (Settle k) made = made ≡ []
AreCallsOf p s (Lose machine) made = made ≡ asked.Lost machine ∷ []
AreCallsOf p s (Trim k) made = made ≡ []

-- some calls, and then more
pub record AreBoth (First Then : List Asked → Type 0) (calls : List Asked) : Type 0 where
  pub one : List Asked
  pub more : List Asked
  pub both : calls ≡ one ++ more
  pub first : First one
  pub behind : Then more

-- the calls of a placer for events, from a state on: one for each Place, Finish and Lose, in order
unfoldable pub AreCalls : Plan → State → List Event → List Asked → Type 0
AreCalls p s [] made = made ≡ []
AreCalls p s (e ∷ es) made =
    AreBoth (AreCallsOf p s e.act) (AreCalls p (happens p s e) es) made

-- where no placer chooses, a node is placed at home
abbrev pub IsAtHome : Plan → State → Act → Type 0
IsAtHome p s (Place k attempt machine) = machine ≡ home_of (alive_in p s) k
IsAtHome p s (Claim k attempt machine) = Unit {0}
IsAtHome p s (Finish k attempt machine) = Unit {0}
IsAtHome p s (Drop k attempt machine) = Unit {0}
IsAtHome p s (Refine k) = Unit {0}
IsAtHome p s (Settle k) = Unit {0}
IsAtHome p s (Lose machine) = Unit {0}
IsAtHome p s (Trim k) = Unit {0}

-- so is each of the nodes that events place, from a state on
unfoldable pub AreAtHome : Plan → State → List Event → Type 0
AreAtHome p s [] = Unit {0}
AreAtHome p s (e ∷ es) = IsAtHome p s e.act × AreAtHome p (happens p s e) es

-- what the placer, if there is one, tells before and after it was asked and told of events, from a state on
unfoldable pub Asks : Plan → State → List Event → Option (Option (List Asked))
    → Option (Option (List Asked)) → Type 0
Asks p s es told now = AddsOr (AreAtHome p s es) (AreCalls p s es) told now

-- before and after a machine was chosen for the next Place of a node
abbrev pub Chooses : Plan → State → ℕ → ℕ → Option (Option (List Asked))
    → Option (Option (List Asked)) → Type 0
Chooses p s k machine told now = (e : Event) (attempt : ℕ) → e.act ≡ Place k attempt machine
    → Asks p s (e ∷ []) told now

-- an act is no Place
abbrev pub IsNoPlace : Act → Type 0
IsNoPlace (Place k attempt machine) = ⊥
IsNoPlace (Claim k attempt machine) = Unit {0}
IsNoPlace (Finish k attempt machine) = Unit {0}
IsNoPlace (Drop k attempt machine) = Unit {0}
IsNoPlace (Refine k) = Unit {0}
IsNoPlace (Settle k) = Unit {0}
IsNoPlace (Lose machine) = Unit {0}
IsNoPlace (Trim k) = Unit {0}

-- before and after it was told of an event of an act that is no Place
abbrev pub TellsOf : Act → Option (Option (List Asked)) → Option (Option (List Asked)) → Type 0
TellsOf act told now = (p : Plan) (s : State) (e : Event) → e.act ≡ act → IsNoPlace act
    → Asks p s (e ∷ []) told now

-- before and after it was told of events none of which is a Place
abbrev pub Tells : List Event → Option (Option (List Asked)) → Option (Option (List Asked))
    → Type 0
Tells es told now = (p : Plan) (s : State) → All (λ e. IsNoPlace e.act) es → Asks p s es told now

-- before and after a run went on: what was asked is what the events behind those before ask
abbrev pub AsksOver : Plan → List Event → List Event → Option (Option (List Asked))
    → Option (Option (List Asked)) → Type 0
AsksOver p events now_events told now = (es : List Event) → now_events ≡ events ++ es
    → Asks p (replay p events) es told now

-- before and after one core came from another
abbrev pub AsksBetween : Core → Core → Option (Option (List Asked))
    → Option (Option (List Asked)) → Type 0
AsksBetween old new told now =
    AsksOver (plan_of old) old.log.journal.items new.log.journal.items told now
