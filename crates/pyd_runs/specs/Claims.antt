-- Which claims a seat holds, by the seat's own events alone.
use Rattle.std.specs.Prelude.{◌≡◌, ◌==◌, ◌<◌, ℕ, List, [], ◌∷◌, ◌++◌, Bool, true, false, ◌&&◌, if◌then◌else◌, Some, ◌⊎◌}
use Rattle.std.specs.List.{All, filter}
use Rattle.pyd_board.specs.declared.event.Act.{Act}
use Rattle.pyd_board.specs.declared.event.Act.TheVariants.{Place, Claim, Finish, Drop, Refine, Settle, Lose, Trim}
use Rattle.pyd_board.specs.declared.event.Event.{Event}
use Rattle.pyd_ir.specs.declared.job.Job.{Job}
use Rattle.pyd_runs.specs.Plans.{Plan, IsSeatOf}
use Rattle.pyd_runs.specs.Desks.{Held}
use Rattle.pyd_runs.specs.Records.{ready}
use Rattle.pyd_runs.specs.Effects.{State, happens}
use Rattle.pyd_runs.specs.Enabled.{Enabled}
use Rattle.pyd_runs.specs.Replay.{IsLegal, replay}
use Rattle.pyd_runs.specs.Sound.{IsSound}
use Rattle.pyd_runs.specs.Laws.{IsRunnable}

-- a claim of a node stands, or a loss undid it and it wasn't dropped since
abbrev pub IsHeld : State → ℕ → Held → Type 0
IsHeld s k c = (s.desk.claim k ≡ Some c) ⊎ (s.desk.undone k c.attempt ≡ Some c)

-- an act finishes or drops an attempt of a node
abbrev pub LetsGo : ℕ → ℕ → Act → Type 0
LetsGo k a (Finish n b machine) = (n ≡ k) × (b ≡ a)
LetsGo k a (Drop n b machine) = (n ≡ k) × (b ≡ a)
LetsGo k a (Place n b machine) = ⊥
LetsGo k a (Claim n b machine) = ⊥
LetsGo k a (Refine n) = ⊥
LetsGo k a (Settle n) = ⊥
LetsGo k a (Lose machine) = ⊥
LetsGo k a (Trim n) = ⊥

-- the claim's own seat finishes or drops it
abbrev pub IsLetGo : ℕ → Held → Event → Type 0
IsLetGo k c e = (e.by ≡ c.seat) × LetsGo k c.attempt e.act

-- an event claims it
pub record IsTaken (k : ℕ) (c : Held) (e : Event) : Type 0 where
  pub by : e.by ≡ c.seat
  pub act : e.act ≡ Claim k c.attempt c.machine

-- a claim is held until its own seat finishes or drops the same attempt of the node
abbrev pub HoldLaw : Type 0
HoldLaw = (p : Plan) (s : State) (e : Event) (k : ℕ) (c : Held) → IsSound p s → Enabled p s e
    → (IsLetGo k c e → ⊥) → IsHeld s k c → IsHeld (happens p s e) k c

-- then it isn't held any more
abbrev pub LetGoLaw : Type 0
LetGoLaw = (p : Plan) (s : State) (e : Event) (k : ℕ) (c : Held) → IsSound p s → Enabled p s e
    → IsLetGo k c e → IsHeld (happens p s e) k c → ⊥

-- what is held was held before, or is claimed now
abbrev pub TakeLaw : Type 0
TakeLaw = (p : Plan) (s : State) (e : Event) (k : ℕ) (c : Held) → Enabled p s e
    → IsHeld (happens p s e) k c → IsHeld s k c ⊎ IsTaken k c e

-- a claim is by a seat of a machine of the plan
pub record IsSeated (p : Plan) (c : Held) : Type 0 where
  pub is_machine : c.machine < p.setup.machines
  pub of_machine : IsSeatOf p c.machine c.seat

-- so is every claim that is held, also one that a loss undid
abbrev pub AreSeated : Plan → State → Type 0
AreSeated p s = (k : ℕ) (c : Held) → IsHeld s k c → IsSeated p c

-- so they are behind every legal run
abbrev pub SeatLaw : Type 0
SeatLaw = (p : Plan) (es : List Event) → IsLegal p es → AreSeated p (replay p es)

-- and each event that may come keeps them so
abbrev pub KeptSeatLaw : Type 0
KeptSeatLaw = (p : Plan) (s : State) (e : Event) → Enabled p s e → AreSeated p s
    → AreSeated p (happens p s e)

-- the events of a seat
abbrev pub own_events : ℕ → List Event → List Event
own_events seat es = filter (λ e. e.by == seat) es

-- whether an attempt of a node is held behind an act of the seat, by whether it was before
abbrev pub held_by_act : ℕ → ℕ → Act → Bool → Bool
held_by_act k a (Claim n b machine) held = if (n == k) && (b == a) then true else held
held_by_act k a (Finish n b machine) held = if (n == k) && (b == a) then false else held
held_by_act k a (Drop n b machine) held = if (n == k) && (b == a) then false else held
held_by_act k a (Place n b machine) held = held
held_by_act k a (Refine n) held = held
held_by_act k a (Settle n) held = held
held_by_act k a (Lose machine) held = held
held_by_act k a (Trim n) held = held

-- whether it is behind events of the seat
abbrev pub held_from : ℕ → ℕ → Bool → List Event → Bool
held_from k a held [] = held
held_from k a held (e ∷ es) = held_from k a (held_by_act k a e.act held) es

-- the seat holds an attempt of a node
pub record HoldsAttempt (s : State) (seat k a : ℕ) : Type 0 where
  pub claim : Held
  pub held : IsHeld s k claim
  pub by_seat : claim.seat ≡ seat
  pub of_attempt : claim.attempt ≡ a

-- after a run a seat holds what it does by its own events
pub record IsOwn (p : Plan) (es : List Event) (seat k a : ℕ) : Type 0 where
  pub holds : held_from k a false (own_events seat es) ≡ true → HoldsAttempt (replay p es) seat k a
  pub held : HoldsAttempt (replay p es) seat k a → held_from k a false (own_events seat es) ≡ true

-- which claims a seat holds depends on its own events alone
abbrev pub OwnLaw : Type 0
OwnLaw = (p : Plan) (es : List Event) (seat k a : ℕ) → IsRunnable p → IsLegal p es
    → IsOwn p es seat k a

-- a claim that is held with the job that its node had before the Claim
pub record IsHeldSince (before now : State) (seat k a machine : ℕ) : Type 0 where
  pub job : Job
  pub is_ready : ready before.graph before.desk.stores k a ≡ Some job
  pub held : IsHeld now k
      (record { attempt = a; machine = machine; seat = seat; job = job })

-- behind its Claim a job is held, as the node's job was then, as long as its seat doesn't let it go
abbrev pub SinceLaw : Type 0
SinceLaw = (p : Plan) (before behind : List Event) (first : Event) (k a machine : ℕ)
    → IsRunnable p → IsLegal p (before ++ first ∷ behind) → first.act ≡ Claim k a machine
    → All (λ e. (e.by ≡ first.by) → LetsGo k a e.act → ⊥) behind
    → IsHeldSince (replay p before) (replay p (before ++ first ∷ behind)) first.by k a machine
