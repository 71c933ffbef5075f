-- Which claims have jobs, and a core after one.
use Rattle.std.proofs.Common.{◌≡◌, ◌==◌, ℕ, Bool, true, Option, Some, None, is_some, option_map, Result, Ok, Err, IfOk, if◌then◌else◌, inl, inr, refl, ap, sym, ◌∙◌}
use Rattle.pyd_board.specs.declared.event.Act.TheVariants.{Claim}
use Rattle.pyd_ir.specs.declared.job.Job.{Job}
use Rattle.pyd_runs.specs.Desks as runs
use Rattle.pyd_runs.specs.Effects.{State, acted, claimed}
use Rattle.pyd_runs.specs.Enabled.{CanAct, IsQuiet, Lives}
use Rattle.pyd_runs.specs.Facts.{IsLive, TicketLaw}
use Rattle.pyd_runs.specs.Following.{JournalLaw, StepLaw}
use Rattle.pyd_runs.specs.Laws.{RunLaw}
use Rattle.pyd_runs.specs.Plans.{IsSeat, IsSeatOf}
use Rattle.pyd_runs.specs.Records.{ready}
use Rattle.pyd_runs.proofs.Going.{seat_there}
use Rattle.pyd_runs.proofs.Putting.{at_cases, if_cases, other_test, same_test, test_same}
use Rattle.pyd_desk.specs.declared.line.Line.{Line}
use Rattle.pyd_desk.specs.Desks.{mark_at, placed_of, stores_of}
use Rattle.pyd_desk.specs.States.{IsStateOf}
use Rattle.pyd_core.specs.declared.keeper.Core.{Core}
use Rattle.pyd_core.specs.Claiming.{is_for, live_job}
use Rattle.pyd_core.specs.Cores.{HasRoom, IsCore, plan_of, state_of}
use Rattle.pyd_core.specs.Steps.{Makes}
use Rattle.pyd_core.proofs.Noted.{HasNoted, notes}

-- a ticket for an attempt of a node that is ready
pub record IsLiveTicket (attempt : ℕ) (ticket : Option runs.Placed) (there : Option Job) (job : Job)
    : Type 0 where
  pub placed : runs.Placed
  pub is_there : ticket ≡ Some placed
  pub of_attempt : placed.attempt ≡ attempt
  pub is_ready : there ≡ Some job

-- where there is a job there is a ticket
ticket_is : (attempt : ℕ) (ticket : Option runs.Placed) (there : Option Job) (job : Job)
    → (if is_for attempt ticket then there else None) ≡ Some job
    → IsLiveTicket attempt ticket there job
ticket_is attempt None there job e = absurd (cc (e))
ticket_is attempt (Some t) there job e =
    elim (if_cases (t.attempt == attempt) there None (Some job) e) [
      | inl is ↦ record {
        placed = t;
        is_there = refl;
        of_attempt = test_same t.attempt attempt is.0;
        is_ready = is.1;
      }
      | inr other ↦ absurd (let none = other.1 in cc (none))
    ]

-- a state has a job exactly where its ticket is for the attempt, if all tickets are live
has_job : (s : State) (k attempt : ℕ) (ticket : Option runs.Placed) → s.desk.ticket k ≡ ticket
    → ((t : runs.Placed) → s.desk.ticket k ≡ Some t → IsLive s k t)
    → is_some (if is_for attempt ticket then ready s.graph s.desk.stores k attempt else None)
    ≡ is_for attempt ticket
has_job s k attempt None has live = refl
has_job s k attempt (Some t) has live =
    let there : Option Job = ready s.graph s.desk.stores k attempt in
    elim (at_cases t.attempt attempt) [
      | inl same ↦
          let test = same_test t.attempt attempt same in
          ap (λ (b : Bool). is_some (if b then there else None)) test
          ∙ ap (λ (a : ℕ). is_some (ready s.graph s.desk.stores k a)) (sym same)
          ∙ ap is_some (live t has).is_ready ∙ sym test
      | inr other ↦
          let test = other_test t.attempt attempt other in
          ap (λ (b : Bool). is_some (if b then there else None)) test ∙ sym test
    ]

-- so it is of a core
answers_live : RunLaw → TicketLaw → (c : Core) (k attempt : ℕ) (job : Option Job) → IsCore c
    → job ≡ live_job (state_of c) k attempt
    → is_some job ≡ is_for attempt ((state_of c).desk.ticket k)
answers_live run tickets c k attempt job core is =
    let sound = run (plan_of c) c.log.journal.items core.runnable core.legal in
    ap is_some is
    ∙ has_job (state_of c) k attempt ((state_of c).desk.ticket k) refl
    (λ t has. tickets (plan_of c) (state_of c) k t sound has)

-- so it is of what the desk answers for a ticket
pub answers_ready : {E : Type 0} → RunLaw → TicketLaw → (c : Core) (k attempt : ℕ)
    (answer : Result (Option Job) E) → IsCore c
    → is_for attempt (option_map placed_of (mark_at c.desk.marks.items k).ticket) ≡ true
    → IfOk answer (λ job. job ≡ ready (state_of c).graph (stores_of c.desk) k attempt)
    → IfOk answer (λ job. is_some job ≡ is_for attempt ((state_of c).desk.ticket k))
answers_ready run tickets c k attempt (Err e) core test is = tt
answers_ready run tickets c k attempt (Ok job) core test is =
    answers_live run tickets c k attempt job core
    (is
    ∙ ap (λ (b : Bool). if b then ready (state_of c).graph (stores_of c.desk) k attempt else None)
    (sym test)
    ∙ ap (λ (d : runs.Desk). if is_for attempt (d.ticket k)
    then ready (state_of c).graph d.stores k attempt else None) (sym core.tied.state.desk))

-- what is needed for a claim
pub record IsClaiming (c : Core) (seat k attempt machine : ℕ) (job : Job) : Type 0 where
  pub core : IsCore c
  pub quiet : IsQuiet (state_of c)
  pub of : IsSeatOf (plan_of c) machine seat
  pub lives : Lives (plan_of c) (state_of c).lost machine
  pub live : live_job (state_of c) k attempt ≡ Some job

module _ (c : Core) (seat k attempt machine : ℕ) (job : Job)
    (is : IsClaiming c seat k attempt machine job) where
  -- the node has the ticket
  ticket : IsLiveTicket attempt ((state_of c).desk.ticket k)
      (ready (state_of c).graph (state_of c).desk.stores k attempt) job
  ticket = ticket_is attempt _ _ job is.live

  -- its seat is there
  seated : IsSeat (plan_of c) seat
  seated = seat_there (plan_of c) machine seat is.lives.is_machine is.of

  -- the attempt may be claimed
  can : CanAct (plan_of c) (state_of c) seat (Claim k attempt machine)
  can = (
    is.quiet,
    record {
      ticket = ticket.placed;
      is_live = ticket.is_there;
      of_attempt = ticket.of_attempt;
      lives = is.lives;
      by_seat = is.of;
    },
  )

  -- a core with the claim
  pub makes_claim : StepLaw → JournalLaw → HasRoom 1 c → (d : Core)
      → HasNoted c d seat (Claim k attempt machine)
      → ((line : Line) (s : State) → IsStateOf line c.desk s
      → ready s.graph s.desk.stores k attempt ≡ Some job
      → IsStateOf line d.desk (claimed s seat k attempt machine))
      → Makes c d seat (Claim k attempt machine)
  unfolding acted
  makes_claim step journal room d noted becomes =
      notes c d seat (Claim k attempt machine) noted step journal is.core room seated can
      (record { end = refl; losses = refl })
      (becomes c.line (state_of c) is.core.tied.state ticket.is_ready)
