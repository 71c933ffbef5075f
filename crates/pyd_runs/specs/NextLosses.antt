-- Which losses come due one after another, which have come, and by which seat.
use Rattle.std.specs.Prelude.{◌≡◌, ◌==◌, ℕ, suc, nat_le, List, [], ◌∷◌, ◌++◌, length, drop, Bool, cond, false, Some, None}
use Rattle.std.specs.List.{All, list_any}
use Rattle.pyd_board.specs.declared.event.Act.{Act}
use Rattle.pyd_board.specs.declared.event.Act.TheVariants.{Place, Claim, Finish, Drop, Refine, Settle, Lose, Trim}
use Rattle.pyd_board.specs.declared.event.Event.{Event}
use Rattle.pyd_board.specs.declared.setup.Loss.{Loss}
use Rattle.pyd_board.specs.Histories.{entries}
use Rattle.pyd_runs.specs.Plans.{Plan, IsSeat}
use Rattle.pyd_runs.specs.Effects.{State, first_state}
use Rattle.pyd_runs.specs.Enabled.{CanLose, IsLoss, due}
use Rattle.pyd_runs.specs.Replay.{IsLegal, IsLegalFrom, after, replay}
use Rattle.pyd_runs.specs.Bounds.{losses_of}

-- the machines of the entries that come due one after another behind so many events
abbrev pub due_after : ℕ → List Loss → List ℕ
due_after events [] = []
due_after events (l ∷ losses) =
    cond (nat_le l.event events) (l.machine ∷ due_after (suc events) losses) []

-- the losses of machines by a seat that has had so many events before
abbrev pub loses : ℕ → ℕ → List ℕ → List Event
loses seat nth [] = []
loses seat nth (machine ∷ machines) =
    record { by = seat; nth = nth; act = Lose machine } ∷ loses seat (suc nth) machines

-- the losses that come due in a state, appended by a seat
abbrev pub due_losses : ℕ → State → List Event
due_losses seat s =
    loses seat (entries seat s.journal) (due_after (length s.journal) s.losses)

-- they may come, one after another, and none is due behind them
pub record AreDue (p : Plan) (s : State) (seat : ℕ) : Type 0 where
  pub legal : IsLegalFrom p s (due_losses seat s)
  pub goes_on : (after p s (due_losses seat s)).graph.end ≡ None
  pub none_left : due (after p s (due_losses seat s)) ≡ None

-- so it is while a run goes on, by any seat, but by the driver where losses alone stand before them
abbrev pub DueLaw : Type 0
DueLaw = (p : Plan) (s : State) (seat : ℕ) → IsSeat p seat → s.graph.end ≡ None
    → (All (λ e. IsLoss e.act) s.journal → seat ≡ 0) → AreDue p s seat

-- no other losses by the seat may come so that none is due behind them
abbrev pub OnlyDueLaw : Type 0
OnlyDueLaw = (p : Plan) (s : State) (seat : ℕ) (es : List Event) → IsLegalFrom p s es
    → All (λ e. IsLoss e.act) es → All (λ e. e.by ≡ seat) es → due (after p s es) ≡ None
    → es ≡ due_losses seat s

-- the losses that come before anything else, by the driver
abbrev pub first_losses : Plan → List Event
first_losses p = due_losses 0 (first_state p)

-- behind them any seat may append a loss that is due
abbrev pub LossSeatLaw : Type 0
LossSeatLaw = (p : Plan) (more : List Event) (seat machine : ℕ)
    → IsLegal p (first_losses p ++ more) → (replay p (first_losses p ++ more)).graph.end ≡ None
    → due (replay p (first_losses p ++ more)) ≡ Some machine
    → CanLose (replay p (first_losses p ++ more)) seat machine

-- an event loses a machine
abbrev pub is_lost_by : ℕ → Act → Bool
is_lost_by machine (Lose m) = machine == m
is_lost_by machine (Place k attempt m) = false
is_lost_by machine (Claim k attempt m) = false
is_lost_by machine (Finish k attempt m) = false
is_lost_by machine (Drop k attempt m) = false
is_lost_by machine (Refine k) = false
is_lost_by machine (Settle k) = false
is_lost_by machine (Trim k) = false

-- behind events the entries to come are those that are left of the script, and just the machines that they lose are lost
pub record AreLeft (p : Plan) (es : List Event) : Type 0 where
  pub losses : (replay p es).losses ≡ drop (losses_of es) p.setup.losses
  pub lost : (machine : ℕ) → (replay p es).lost machine
      ≡ list_any (λ e. is_lost_by machine e.act) es

-- so it is behind all events
abbrev pub LeftLaw : Type 0
LeftLaw = (p : Plan) (es : List Event) → AreLeft p es
