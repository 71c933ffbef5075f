-- What a claim gives is held.
use Rattle.std.proofs.Common.{◌≡◌, List, [], ◌∷◌, ◌++◌, Bool, true, false, Option, Some, None, if◌then◌else◌, sym, ap, ◌∙◌, append_assoc}
use Rattle.std.proofs.lemmas.List.Elements.{All-nil}
use Rattle.pyd_boards.specs.declared.answers.Claimed.TheVariants as claimed
use Rattle.pyd_boards.specs.declared.answers.Finished.{Finished}
use Rattle.pyd_board.specs.declared.event.Act.TheVariants.{Claim}
use Rattle.pyd_board.specs.declared.event.Event.{Event}
use Rattle.pyd_board.specs.declared.history.History.{History}
use Rattle.pyd_board.specs.declared.kept.RunName.{RunName}
use Rattle.pyd_board.specs.declared.seat.Ticket.{Ticket}
use Rattle.pyd_board.specs.declared.seat.Who.{Who}
use Rattle.pyd_boards.specs.Boards.{Facts, Holds, HoldsJob, entry, with_events, is_release, is_over, is_done}
use Rattle.pyd_boards.specs.Calls.{Claims, Finishes, claimed_job}
use Rattle.pyd_boards.specs.Working.{Completes, claim_made}

-- a choice that answers a job chose it
job_of : {J : Type 0} (option : Option J) (job : J) → claimed.Job job ≡ claimed_job option → option ≡ Some job
job_of (Some other) job e = ap Some (sym (ap (λ a. elim a [ claimed.Job j ↦ j | claimed.Over ↦ job | claimed.Lost t ↦ job | claimed.Stale ↦ job ]) e))
job_of None job e = cc

chosen : {J : Type 0} (done lost over : Bool) (ticket : Ticket) (option : Option J) (job : J)
    → claimed.Job job ≡ (if done then claimed.Over else if lost then claimed.Lost ticket else if over then claimed.Stale else claimed_job option) → option ≡ Some job
chosen true lost over ticket option job e = cc
chosen false true over ticket option job e = cc
chosen false false true ticket option job e = cc
chosen false false false ticket option job e = job_of option job e

-- a claim that gives a job has it
pub claim_has_job : {J : Type 0} (facts : Facts J) (may_come : List Event → Event → Type 0) (name : List RunName) (ticket : Ticket) (who : Who) (old new : History) (job : J)
    → (c : Claims facts may_come name ticket who old (claimed.Job job) new) → facts.job (old.events ++ c.losses) ticket.node ticket.attempt ≡ Some job
claim_has_job facts may_come name ticket who old new job c = chosen
    (is_done facts name (with_events old c.losses))
    (facts.has_lost (old.events ++ c.losses) (facts.run ticket.node) who.machine)
    (is_over facts (with_events old c.losses) (facts.run ticket.node))
    ticket (facts.job (old.events ++ c.losses) ticket.node ticket.attempt) job c.answers

-- and the seat holds it
pub claim_holds : {J : Type 0} (facts : Facts J) (may_come : List Event → Event → Type 0) (name : List RunName) (ticket : Ticket) (who : Who) (old new : History) (job : J)
    → (c : Claims facts may_come name ticket who old (claimed.Job job) new) → Holds who (claim_made ticket (old.events ++ c.losses)) new.events
claim_holds facts may_come name ticket who old new job c = record {
  since = [];
  claimed = ap (λ h. h.events) c.leaves ∙ sym (append_assoc old.events c.losses (entry (old.events ++ c.losses) who.seat (Claim ticket.node ticket.attempt who.machine) ∷ []));
  held = All-nil (λ (e : Event). is_release who.seat (claim_made ticket (old.events ++ c.losses)) e ≡ false);
}

-- so what a claim gives is held
pub claimed_is_held : {J : Type 0} {facts : Facts J} {may_come : List Event → Event → Type 0} {name : List RunName} {ticket : Ticket} {who : Who} {old new : History} {job : J}
    → Claims facts may_come name ticket who old (claimed.Job job) new → HoldsJob facts who job new.events
claimed_is_held {facts = facts} {may_come = may_come} {name = name} {ticket = ticket} {who = who} {old = old} {new = new} {job = job} c = record {
  claim = claim_made ticket (old.events ++ c.losses);
  holds = claim_holds facts may_come name ticket who old new job c;
  has_job = claim_has_job facts may_come name ticket who old new job c;
}

-- a finish of each claim with the job that was claimed is one of the ticket's claim
pub completes : {J : Type 0} {facts : Facts J} {may_come : List Event → Event → Type 0} {name : List RunName} {ticket : Ticket} {who : Who} {old between new : History} {job : J} {answer : Finished}
    → Claims facts may_come name ticket who old (claimed.Job job) between
    → ((held : HoldsJob facts who job between.events) → Finishes facts may_come held.claim who between answer new)
    → Completes facts may_come name ticket who old answer new
completes {facts = facts} {may_come = may_come} {name = name} {ticket = ticket} {who = who} {old = old} {between = between} {job = job} c finishes = record {
  job = job;
  between = between;
  claims = c;
  finishes = finishes (record {
    claim = claim_made ticket (old.events ++ c.losses);
    holds = claim_holds facts may_come name ticket who old between job c;
    has_job = claim_has_job facts may_come name ticket who old between job c;
  });
}
