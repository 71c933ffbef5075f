-- How long a seat holds its claims.
use Rattle.std.specs.Prelude.{◌≡◌, ◌≢◌, ◌++◌, ◌==◌, ◌&&◌, ℕ, List, Bool, true, false, All}
use Rattle.pyd_board.specs.declared.event.Act.{Act}
use Rattle.pyd_board.specs.declared.event.Act.TheVariants.{Place, Claim, Finish, Drop, Refine, Settle, Lose, Trim}
use Rattle.pyd_board.specs.declared.event.Event.{Event}
use Rattle.pyd_board.specs.declared.history.History.{History}
use Rattle.pyd_board.specs.declared.kept.RunName.{RunName}
use Rattle.pyd_board.specs.declared.seat.Ticket.{Ticket}
use Rattle.pyd_board.specs.declared.seat.Who.{Who}
use Rattle.pyd_board.specs.Histories.{entries_of, Extends, ExtendsBy}
use Rattle.pyd_boards.specs.declared.answers.Claimed.TheVariants as claimed
use Rattle.pyd_boards.specs.Boards.{Facts, ClaimAfter, Holds, HoldsJob}
use Rattle.pyd_boards.specs.Calls.{Claims}

-- a claim is held after the entries of another seat
abbrev pub HeldAfterOthers : Type 0
HeldAfterOthers = (who : Who) (claim : ClaimAfter) (seat : ℕ) (old new : History) → seat ≢ who.seat → ExtendsBy seat old new → Holds who claim old.events → Holds who claim new.events

-- it is held wherever its seat has no further entry
abbrev pub HeldMeanwhile : Type 0
HeldMeanwhile = (who : Who) (claim : ClaimAfter) (old new : History) → Extends old new → entries_of who.seat new ≡ entries_of who.seat old → Holds who claim old.events → Holds who claim new.events

-- after events a seat holds no claim
abbrev pub HoldsNone : Who → List Event → Type 0
HoldsNone who events = (claim : ClaimAfter) → Holds who claim events → ⊥

-- an act is a claim
abbrev pub is_claim : Act → Bool
is_claim (Claim node attempt machine) = true
is_claim (Place node attempt machine) = false
is_claim (Finish node attempt machine) = false
is_claim (Drop node attempt machine) = false
is_claim (Refine node) = false
is_claim (Settle node) = false
is_claim (Lose machine) = false
is_claim (Trim node) = false

-- a seat that holds none holds none after further events without a claim of its own
abbrev pub NoneHeldAfter : Type 0
NoneHeldAfter = (who : Who) (events more : List Event) → HoldsNone who events
    → All (λ e. ((e.by == who.seat) && is_claim e.act) ≡ false) more → HoldsNone who (events ++ more)

-- a job that a claim of a board gives is held
abbrev pub ClaimedIsHeld : {J : Type 0} → (List RunName → Facts J)
    → (List RunName → List Event → Event → Type 0) → Type 0
ClaimedIsHeld {J} facts may_come = (name : List RunName) (ticket : Ticket) (who : Who)
    (old new : History) (job : J)
    → Claims (facts name) (may_come name) name ticket who old (claimed.Job job) new
    → HoldsJob (facts name) who job new.events
