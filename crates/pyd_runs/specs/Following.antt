-- How runs go on: what comes behind a beginning, one event more, and Trims in a row.
use Rattle.std.specs.Prelude.{◌≡◌, ◌<◌, ◌+◌, ℕ, suc, List, [], ◌∷◌, ◌++◌, length, None}
use Rattle.pyd_board.specs.declared.event.Act.TheVariants.{Trim}
use Rattle.pyd_board.specs.declared.event.Event.{Event}
use Rattle.pyd_board.specs.Histories.{entries}
use Rattle.pyd_lineage.specs.Lineage.{AreUnreached}
use Rattle.pyd_runs.specs.Plans.{Plan, IsSeat}
use Rattle.pyd_runs.specs.Losses.{due_at}
use Rattle.pyd_runs.specs.Effects.{State, acted, happens, lost_with}
use Rattle.pyd_runs.specs.Enabled.{CanTrim, Enabled}
use Rattle.pyd_runs.specs.Replay.{IsLegal, IsLegalFrom, after, replay}
use Rattle.pyd_runs.specs.Sound.{IsSound}

-- a run that goes on behind its beginning: the state comes from the one there, and it is legal where the beginning is and what follows is legal from there on
pub record GoesOnBehind (p : Plan) (es more : List Event) : Type 0 where
  pub state : replay p (es ++ more) ≡ after p (replay p es) more
  pub beginning : IsLegal p (es ++ more) → IsLegal p es
  pub behind : IsLegal p (es ++ more) → IsLegalFrom p (replay p es) more
  pub whole : IsLegal p es → IsLegalFrom p (replay p es) more → IsLegal p (es ++ more)

-- every run goes on so
abbrev pub BeginningLaw : Type 0
BeginningLaw = (p : Plan) (es more : List Event) → GoesOnBehind p es more

-- one event more is a step from the state before it, and legal where it may come there
pub record IsStep (p : Plan) (es : List Event) (e : Event) : Type 0 where
  pub state : replay p (es ++ e ∷ []) ≡ happens p (replay p es) e
  pub legal : IsLegal p es → Enabled p (replay p es) e → IsLegal p (es ++ e ∷ [])
  pub enabled : IsLegal p (es ++ e ∷ []) → Enabled p (replay p es) e

-- so is every event
abbrev pub StepLaw : Type 0
StepLaw = (p : Plan) (es : List Event) (e : Event) → IsStep p es e

-- the journal of the state after a run is the run
abbrev pub JournalLaw : Type 0
JournalLaw = (p : Plan) (es : List Event) → (replay p es).journal ≡ es

-- a Trim leaves what other nodes may be trimmed
abbrev pub TrimmedLaw : Type 0
TrimmedLaw = (p : Plan) (s : State) (seat k j : ℕ) → CanTrim s j → (j ≡ k → ⊥)
    → CanTrim (acted p s seat (Trim k)) j

-- so does a loss
abbrev pub SparedLaw : Type 0
SparedLaw = (s : State) (machine j : ℕ) → CanTrim s j → CanTrim (lost_with s machine) j

-- Trims of nodes by a seat that has had so many events before
abbrev pub trims : ℕ → ℕ → List ℕ → List Event
trims seat nth [] = []
trims seat nth (k ∷ ks) =
    record { by = seat; nth = nth; act = Trim k } ∷ trims seat (suc nth) ks

-- no loss comes due before so many events more
abbrev pub IsSpared : ℕ → State → Type 0
IsSpared count s = (i : ℕ) → i < count → due_at (length s.journal + i) s.losses ≡ None

-- where no loss comes due, all past nodes that the chain doesn't reach may be trimmed in a row
abbrev pub TrimsLaw : Type 0
TrimsLaw = (p : Plan) (s : State) (seat : ℕ) (ks : List ℕ) → IsSound p s → IsSeat p seat
    → s.graph.end ≡ None → AreUnreached s.graph.past s.graph.chain ks → IsSpared (length ks) s
    → IsLegalFrom p s (trims seat (entries seat s.journal) ks)
