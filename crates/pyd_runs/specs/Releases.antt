-- Which claims a seat may finish or drop, and which tickets and nodes to be placed events leave.
use Rattle.std.specs.Prelude.{◌≡◌, ◌≢◌, ℕ, true, Some, None, ◌⊎◌}
use Rattle.pyd_board.specs.declared.event.Act.{Act}
use Rattle.pyd_board.specs.declared.event.Act.TheVariants.{Place, Claim, Finish, Drop, Refine, Settle, Lose, Trim}
use Rattle.pyd_board.specs.declared.event.Event.{Event}
use Rattle.pyd_runs.specs.Plans.{Plan}
use Rattle.pyd_runs.specs.Desks.{Placed, Held}
use Rattle.pyd_runs.specs.Effects.{State, happens}
use Rattle.pyd_runs.specs.Enabled.{Enabled, IsClaimOf, IsUnbarred, CanAct, CanPlace}
use Rattle.pyd_runs.specs.Sound.{IsSound}
use Rattle.pyd_runs.specs.Claims.{IsHeld}

-- a seat of a machine holds the claim of a node's attempt
pub record HoldsClaim (s : State) (seat k attempt machine : ℕ) : Type 0 where
  pub claim : Held
  pub held : IsHeld s k claim
  pub of_seat : IsClaimOf seat attempt machine claim

-- a claim of the machine is in vain: the machine is lost, or the run has ended
abbrev pub IsInVain : State → ℕ → Type 0
IsInVain s machine = (s.lost machine ≡ true) ⊎ (s.graph.end ≢ None)

-- a seat may drop exactly the claims that it holds in vain, and finish exactly those that it holds otherwise
pub record IsReleased (p : Plan) (s : State) (seat k attempt machine : ℕ) : Type 0 where
  pub drops : HoldsClaim s seat k attempt machine → IsInVain s machine
      → CanAct p s seat (Drop k attempt machine)
  pub finishes : HoldsClaim s seat k attempt machine → (IsInVain s machine → ⊥)
      → CanAct p s seat (Finish k attempt machine)
  pub dropped : CanAct p s seat (Drop k attempt machine)
      → HoldsClaim s seat k attempt machine × IsInVain s machine
  pub finished : CanAct p s seat (Finish k attempt machine)
      → HoldsClaim s seat k attempt machine × (IsInVain s machine → ⊥)

-- so it is in a sound state, unless a loss is due while the run goes on
abbrev pub ReleaseLaw : Type 0
ReleaseLaw = (p : Plan) (s : State) (seat k attempt machine : ℕ) → IsSound p s → IsUnbarred s
    → IsReleased p s seat k attempt machine

-- a Place of one node leaves which attempts of others may be placed
pub record IsApart (p : Plan) (s : State) (e : Event) (k attempt machine : ℕ) : Type 0 where
  pub still : CanPlace p s k attempt machine → CanPlace p (happens p s e) k attempt machine
  pub before : CanPlace p (happens p s e) k attempt machine → CanPlace p s k attempt machine

-- so does every Place
abbrev pub PlaceApartLaw : Type 0
PlaceApartLaw = (p : Plan) (s : State) (e : Event) (k attempt machine n b other : ℕ)
    → e.act ≡ Place k attempt machine → n ≢ k → IsApart p s e n b other

-- an act may take away the live ticket of a node: its Claim, a loss, or a Trim
abbrev pub MayTakeTicket : ℕ → Act → Type 0
MayTakeTicket k (Claim n attempt machine) = n ≡ k
MayTakeTicket k (Lose machine) = Unit {0}
MayTakeTicket k (Trim n) = Unit {0}
MayTakeTicket k (Place n attempt machine) = ⊥
MayTakeTicket k (Finish n attempt machine) = ⊥
MayTakeTicket k (Drop n attempt machine) = ⊥
MayTakeTicket k (Refine n) = ⊥
MayTakeTicket k (Settle n) = ⊥

-- no other act does
abbrev pub TicketStaysLaw : Type 0
TicketStaysLaw = (p : Plan) (s : State) (e : Event) (k : ℕ) (t : Placed) → Enabled p s e
    → (MayTakeTicket k e.act → ⊥) → s.desk.ticket k ≡ Some t
    → (happens p s e).desk.ticket k ≡ Some t
