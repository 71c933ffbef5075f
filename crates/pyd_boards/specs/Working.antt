-- What comes of a ticket that is claimed, run and finished in one turn.
use Rattle.std.specs.Prelude.{◌++◌, List}
use Rattle.pyd_boards.specs.declared.answers.Claimed.TheVariants as claimed
use Rattle.pyd_boards.specs.declared.answers.Finished.{Finished}
use Rattle.pyd_board.specs.declared.event.Event.{Event}
use Rattle.pyd_board.specs.declared.history.History.{History}
use Rattle.pyd_board.specs.declared.kept.RunName.{RunName}
use Rattle.pyd_board.specs.declared.seat.Ticket.{Ticket}
use Rattle.pyd_board.specs.declared.seat.Who.{Who}
use Rattle.pyd_boards.specs.declared.tickets.Served.{Served}
use Rattle.pyd_boards.specs.declared.tickets.Served.TheVariants as served
use Rattle.pyd_boards.specs.Boards.{Facts, ClaimAfter}
use Rattle.pyd_boards.specs.Calls.{Claims, Finishes}

-- the claim that a ticket's Claim makes after events
abbrev pub claim_made : Ticket → List Event → ClaimAfter
claim_made ticket before = record { node = ticket.node; attempt = ticket.attempt; before = before }

module _ {J : Type 0} (facts : Facts J) (may_come : List Event → Event → Type 0)
    (name : List RunName) (ticket : Ticket) (who : Who) where
  -- the ticket's job was claimed, and then its claim was finished
  pub record Completes (old : History) (answer : Finished) (new : History) : Type 0 where
    pub job : J
    pub between : History
    pub claims : Claims facts may_come name ticket who old (claimed.Job job) between
    pub finishes : Finishes facts may_come (claim_made ticket (old.events ++ claims.losses)) who
        between answer new

  -- what came of the ticket
  abbrev pub Works : History → Served → History → Type 0
  Works old (served.Done answer) new = Completes old answer new
  Works old served.Over new = Claims facts may_come name ticket who old claimed.Over new
  Works old served.Lost new = Claims facts may_come name ticket who old (claimed.Lost ticket) new
  Works old served.Stale new = Claims facts may_come name ticket who old claimed.Stale new
