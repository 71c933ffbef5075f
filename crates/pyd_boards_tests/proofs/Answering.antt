-- What the calls of the board append and answer.
use Rattle.std.proofs.Common.{◌≡◌, ℕ, List, [], ◌∷◌, ◌++◌, true, false, if◌then◌else◌, Option, is_some, ◌⊎◌, inl, inr, refl, sym, ap, ◌∙◌, subst, append-nil, true≢false}
use Rattle.std.proofs.lemmas.List.Elements.{All-nil}
use Rattle.pyd_board.specs.declared.event.Act.{Act}
use Rattle.pyd_board.specs.declared.event.Act.TheVariants.{Place, Claim, Finish, Drop, Refine, Settle, Lose, Trim}
use Rattle.pyd_board.specs.declared.event.Event.{Event}
use Rattle.pyd_board.specs.declared.history.Halt.{Halt}
use Rattle.pyd_board.specs.declared.history.History.{History}
use Rattle.pyd_board.specs.declared.kept.RunName.{RunName}
use Rattle.pyd_board.specs.declared.seat.Ticket.{Ticket}
use Rattle.pyd_board.specs.declared.seat.Who.{Who}
use Rattle.pyd_boards.specs.declared.answers.Claimed.{Claimed}
use Rattle.pyd_boards.specs.declared.answers.Claimed.TheVariants as claimed
use Rattle.pyd_boards.specs.declared.answers.Finished.TheVariants as finished
use Rattle.pyd_boards.specs.Boards.{HoldsJob, entry, with_events}
use Rattle.pyd_boards.specs.Calls.{ActKind, claims, finishes, loses, settles, refines, places, kind_of, claimed_job, IfJob, IsConcluded, NoneIn, AreDue, Claims, Finishes, LosesIn, GoesOnBy}
use Rattle.pyd_boards.specs.declared.answers.Moved.TheVariants as moved
use Rattle.pyd_boards.specs.Moves.{NothingToDo, LosesAlone, LosesAll, Steps}
use Rattle.pyd_boards.proofs.Going.{goes_nowhere, goes_on_one}
use Rattle.pyd_boards_tests.specs.declared.slot.Slot.{Slot}
use Rattle.pyd_boards_tests.specs.Fixed.{Fixed, history_of, ticket_count, is_live, job_if, facts, MayAct, may_come, with_entry, Answers}
use Rattle.pyd_boards_tests.specs.Lawful.{job_tells}

-- what may come is a Claim or a Finish
acts_so : (count : ℕ) (events : List Event) (seat : ℕ) (act : Act) → MayAct count events seat act
    → (kind_of act ≡ claims) ⊎ (kind_of act ≡ finishes)
acts_so count events seat (Claim node attempt machine) may = inl refl
acts_so count events seat (Finish node attempt machine) may = inr refl
acts_so count events seat (Place node attempt machine) may = absurd may
acts_so count events seat (Drop node attempt machine) may = absurd may
acts_so count events seat (Refine node) may = absurd may
acts_so count events seat (Settle node) may = absurd may
acts_so count events seat (Lose machine) may = absurd may
acts_so count events seat (Trim node) may = absurd may

-- so nothing of another kind
none_in : (name : List RunName) (kind : ActKind) (run : ℕ) (events : List Event)
    → (claims ≡ kind → ⊥) → (finishes ≡ kind → ⊥) → NoneIn (facts name) (may_come name) kind run events
none_in name kind run events apart other e may is =
    elim (acts_so (ticket_count name) events e.by e.act may.1) [
      | inl so ↦ apart (sym so ∙ is.of_kind)
      | inr so ↦ other (sym so ∙ is.of_kind)
    ]

-- no loss is due
pub none_due : (name : List RunName) (run : ℕ) (events : List Event)
    → NoneIn (facts name) (may_come name) loses run events
none_due name run events = none_in name loses run events (λ z. cc (z)) (λ z. cc (z))

-- none of the three things can be done
pub nothing_to_do : (name : List RunName) (h : History)
    → NothingToDo (facts name) (may_come name) h
nothing_to_do name h run goes = (
  none_due name run h.events,
  none_in name settles run h.events (λ z. cc (z)) (λ z. cc (z)),
  none_in name refines run h.events (λ z. cc (z)) (λ z. cc (z)),
  none_in name places run h.events (λ z. cc (z)) (λ z. cc (z)),
)

-- no losses are all that are due
pub due_none : (name : List RunName) (run : ℕ) (events : List Event)
    → AreDue (facts name) (may_come name) run events []
due_none name run events = record {
  are_losses = All-nil _;
  none_left = none_due name run (events ++ []);
}

-- a board whose history is as it was
pub same_history : (old new : Fixed) → new ≡ old
    → history_of new ≡ with_events (history_of old) []
same_history old new is =
    ap history_of is
    ∙ ap (λ (events : List Event). record { events = events; sink_faults = []; halted = old.halted })
    (sym (append-nil old.events))

-- one with an entry more
pub one_entry : (old new : Fixed) (seat : ℕ) (act : Act) → new ≡ with_entry old seat act
    → history_of new
    ≡ with_events (history_of old) (entry (old.events ++ []) seat act ∷ [])
one_entry old new seat act is =
    ap history_of is
    ∙ ap (λ (events : List Event). record { events = old.events ++ entry events seat act ∷ []; sink_faults = []; halted = old.halted })
    (sym (append-nil old.events))

-- its run isn't over
pub never_over : (run : RunName) (b : Fixed)
    → IsConcluded (facts (run ∷ [])) (run ∷ []) (history_of b)
never_over run b over = absurd (true≢false (sym over))

-- a board that is as it was goes on by nothing
pub stays_so : (old new : Fixed) (seat : ℕ) → new ≡ old
    → GoesOnBy (may_come (old.name ∷ [])) seat (history_of old) (history_of new)
stays_so old new seat is =
    subst (λ (b : Fixed). GoesOnBy (may_come (old.name ∷ [])) seat (history_of old) (history_of b))
    (sym is) (goes_nowhere (may_come (old.name ∷ [])) seat (history_of old))

-- where a claim answers this, the answer is by the halt, the ticket and the job
module _ (old : Fixed) (ticket : Ticket) (who : Who) where
  abbrev answer_by : Option Halt → Option Slot → Claimed Slot
  answer_by halted job = if is_some halted then claimed.Over else claimed_job job

  pub answers_claims : (answer : Claimed Slot) (new : Fixed) → Answers old ticket who answer new
      → Claims (facts (old.name ∷ [])) (may_come (old.name ∷ [])) (old.name ∷ []) ticket who
      (history_of old) answer (history_of new)
  answers_claims (claimed.Job job) new a = record {
    losses = [];
    due = due_none (old.name ∷ []) 0 old.events;
    answers =
        ap (λ j. claimed.Job j) a.2
        ∙ sym (ap (λ h. answer_by h (job_if (is_live old.name.setup.window (old.events ++ []) ticket.node ticket.attempt) ticket.node ticket.attempt)) a.0
        ∙ ap (λ (events : List Event). claimed_job (job_if (is_live old.name.setup.window events ticket.node ticket.attempt) ticket.node ticket.attempt)) (append-nil old.events)
        ∙ ap (λ b. claimed_job (job_if b ticket.node ticket.attempt)) a.1);
    leaves = one_entry old new who.seat (Claim ticket.node ticket.attempt who.machine) a.3;
  }
  answers_claims claimed.Over new a = record {
    losses = [];
    due = due_none (old.name ∷ []) 0 old.events;
    answers = sym (ap (λ b. if b then claimed.Over else claimed_job (job_if (is_live old.name.setup.window (old.events ++ []) ticket.node ticket.attempt) ticket.node ticket.attempt)) a.0);
    leaves = same_history old new a.1;
  }
  answers_claims (claimed.Lost back) new a = absurd a
  answers_claims claimed.Stale new a = record {
    losses = [];
    due = due_none (old.name ∷ []) 0 old.events;
    answers =
        sym (ap (λ h. answer_by h (job_if (is_live old.name.setup.window (old.events ++ []) ticket.node ticket.attempt) ticket.node ticket.attempt)) a.0
        ∙ ap (λ (events : List Event). claimed_job (job_if (is_live old.name.setup.window events ticket.node ticket.attempt) ticket.node ticket.attempt)) (append-nil old.events)
        ∙ ap (λ b. claimed_job (job_if b ticket.node ticket.attempt)) a.1);
    leaves = same_history old new a.2;
  }

  -- the history goes on so
  pub answers_go_on : (answer : Claimed Slot) (new : Fixed) → Answers old ticket who answer new
      → GoesOnBy (may_come (old.name ∷ [])) who.seat (history_of old) (history_of new)
  answers_go_on (claimed.Job job) new a =
      goes_on_one (may_come (old.name ∷ [])) who.seat (history_of old) (history_of new)
      (entry old.events who.seat (Claim ticket.node ticket.attempt who.machine)) refl (refl, a.1)
      (ap history_of a.3)
  answers_go_on claimed.Over new a = stays_so old new who.seat a.1
  answers_go_on (claimed.Lost back) new a = absurd a
  answers_go_on claimed.Stale new a = stays_so old new who.seat a.2

-- its name stays
pub answers_name : (old new : Fixed) (ticket : Ticket) (who : Who) (answer : Claimed Slot)
    → Answers old ticket who answer new → new.name ≡ old.name
answers_name old new ticket who (claimed.Job job) a = ap (λ (b : Fixed). b.name) a.3
answers_name old new ticket who claimed.Over a = ap (λ (b : Fixed). b.name) a.1
answers_name old new ticket who (claimed.Lost back) a = absurd a
answers_name old new ticket who claimed.Stale a = ap (λ (b : Fixed). b.name) a.2

-- what is so of each job is so of the answer's
pub if_job : (answer : Claimed Slot) (P : Slot → Type 0) → ((job : Slot) → P job) → IfJob answer P
if_job (claimed.Job job) P all = all job
if_job claimed.Over P all = tt
if_job (claimed.Lost back) P all = tt
if_job claimed.Stale P all = tt

-- where nothing changed, no losses were due
pub loses_none : (old new : Fixed) (run : ℕ) → new ≡ old
    → LosesIn (facts (old.name ∷ [])) (may_come (old.name ∷ [])) run (history_of old) (history_of new)
loses_none old new run is = record {
  losses = [];
  due = due_none (old.name ∷ []) run old.events;
  leaves = same_history old new is;
}

-- a Finish of a claim that is held
module _ (old new : Fixed) (who : Who) (job : Slot)
    (held : HoldsJob (facts (old.name ∷ [])) who job old.events)
    (is : new ≡ with_entry old who.seat (Finish job.node job.attempt who.machine)) where
  tells : (job.node ≡ held.claim.node) × (job.attempt ≡ held.claim.attempt)
  tells = job_tells
      (is_live old.name.setup.window held.claim.before held.claim.node held.claim.attempt)
      held.claim.node held.claim.attempt job held.has_job

  pub finish_goes_on : GoesOnBy (may_come (old.name ∷ [])) who.seat (history_of old) (history_of new)
  finish_goes_on =
      goes_on_one (may_come (old.name ∷ [])) who.seat (history_of old) (history_of new)
      (entry old.events who.seat (Finish job.node job.attempt who.machine)) refl (
        refl,
        record {
          claim = held.claim;
          of_node = sym tells.0;
          of_attempt = sym tells.1;
          holds = held.holds;
        },
      ) (ap history_of is)

  pub finish_finishes : Finishes (facts (old.name ∷ [])) (may_come (old.name ∷ [])) held.claim who
      (history_of old) finished.Kept (history_of new)
  finish_finishes = record {
    losses = [];
    due = due_none (old.name ∷ []) 0 old.events;
    answers = refl;
    leaves =
        one_entry old new who.seat (Finish job.node job.attempt who.machine) is
        ∙ ap (λ (node : ℕ). with_events (history_of old) (entry (old.events ++ []) who.seat (Finish node job.attempt who.machine) ∷ [])) tells.0
        ∙ ap (λ (attempt : ℕ). with_events (history_of old) (entry (old.events ++ []) who.seat (Finish held.claim.node attempt who.machine) ∷ [])) tells.1;
  }

-- no losses
loses_nothing : (old new : Fixed) → new ≡ old
    → LosesAlone (facts (old.name ∷ [])) (may_come (old.name ∷ [])) (history_of old) (history_of new)
loses_nothing old new is = record {
  losses = [];
  are_losses = All-nil _;
  leaves = same_history old new is;
}

pub loses_all : (old new : Fixed) → new ≡ old
    → LosesAll (facts (old.name ∷ [])) (may_come (old.name ∷ [])) (history_of old) (history_of new)
loses_all old new is = record {
  alone = loses_nothing old new is;
  none_left = λ run. none_due (old.name ∷ []) run new.events;
}

-- a step of a board that is halted, and of one that isn't
pub step_over : (b : Fixed) (who : Who) → is_some b.halted ≡ true
    → Steps (facts (b.name ∷ [])) (may_come (b.name ∷ [])) false (b.name ∷ []) who
    (history_of b) moved.Over (history_of b)
step_over b who halted = record {
  losses = [];
  are_losses = All-nil _;
  none_left = λ single. none_due (b.name ∷ []) 0 (b.events ++ []);
  moves = (halted, same_history b b refl);
}

pub step_nothing : (b : Fixed) (who : Who) → is_some b.halted ≡ false
    → Steps (facts (b.name ∷ [])) (may_come (b.name ∷ [])) false (b.name ∷ []) who
    (history_of b) moved.Nothing (history_of b)
step_nothing b who goes = record {
  losses = [];
  are_losses = All-nil _;
  none_left = λ single. none_due (b.name ∷ []) 0 (b.events ++ []);
  moves = (
    record { not_done = goes; not_lost = refl },
    nothing_to_do (b.name ∷ []) (with_events (history_of b) []),
    same_history b b refl,
  );
}
