-- The jobs that a seat holds, and those that it gets.
use Rattle.std.proofs.Common.{◌≡◌, ◌==◌, ℕ, List, [], ◌∷◌, ◌++◌, Bool, true, false, ◌&&◌, if◌then◌else◌, Option, Some, None, map, inl, inr, refl, ap, sym, subst, ◌∙◌}
use Rattle.std.specs.Prelude.{slice_get}
use Rattle.std.proofs.lemmas.List.Elements.{All-weaker}
use Rattle.pyd_tree.specs.declared.file.File.{File}
use Rattle.pyd_board.specs.declared.event.Act.{Act}
use Rattle.pyd_board.specs.declared.event.Act.TheVariants.{Place, Claim, Finish, Drop, Refine, Settle, Lose, Trim}
use Rattle.pyd_board.specs.declared.event.Event.{Event}
use Rattle.pyd_board.specs.declared.kept.RunName.{RunName}
use Rattle.pyd_board.specs.declared.seat.Ticket.{Ticket}
use Rattle.pyd_board.specs.declared.seat.Who.{Who}
use Rattle.pyd_board.specs.Serving.{Basis, Serves, basis_of}
use Rattle.pyd_boards.specs.declared.answers.Claimed.{Claimed}
use Rattle.pyd_boards.specs.declared.answers.Claimed.TheVariants as claimed
use Rattle.pyd_boards.specs.declared.answers.Finished.{Finished}
use Rattle.pyd_boards.specs.Boards.{ClaimAfter, HoldsJob, entry, is_release, lets_go}
use Rattle.pyd_boards.specs.Calls.{AreNext, IfJob, claimed_job}
use Rattle.pyd_ir.specs.declared.job.Job.{Job}
use Rattle.pyd_ir.specs.Meaning.{TaskFits}
use Rattle.pyd_meaning.specs.declared.limits.Limits.{Limits}
use Rattle.pyd_runs.specs.Callees.{CalleeLaw, SilentLaw}
use Rattle.pyd_runs.specs.Claims.{IsHeld, LetsGo, SinceLaw}
use Rattle.pyd_runs.specs.Effects.{State}
use Rattle.pyd_runs.specs.Following.{BeginningLaw}
use Rattle.pyd_runs.specs.Records.{ready}
use Rattle.pyd_runs.specs.Replay.{IsLegal, replay}
use Rattle.pyd_runs.proofs.Putting.{if_cases, same_test}
use Rattle.pyd_core.specs.declared.keeper.Core.{Core}
use Rattle.pyd_core.specs.Claiming.{is_for, live_job}
use Rattle.pyd_core.specs.Cores.{IsCore, plan_of, state_of}
use Rattle.pyd_core.specs.Facts.{LawfulLaw, NextLaw, facts_of, may_come}
use Rattle.pyd_core.specs.Finishing.{HoldsClaimWith}
use Rattle.pyd_steps.specs.Claiming.{Claims, answer_in, is_over}
use Rattle.pyd_steps.specs.Finishing.{Finishes}
use Rattle.pyd_steps.specs.Losses.{events_behind}

-- a job that is told is that of the node
job_ready : (s : State) (k attempt : ℕ) (job : Job) → live_job s k attempt ≡ Some job
    → ready s.graph s.desk.stores k attempt ≡ Some job
job_ready s k attempt job is =
    elim (if_cases (is_for attempt (s.desk.ticket k)) (ready s.graph s.desk.stores k attempt) None
    (Some job) is) [
      | inl live ↦ live.1
      | inr other ↦ absurd (let none = other.1 in cc (none))
    ]

-- what finishes or drops an attempt is told by the test
lets_go_same : (k a : ℕ) (act : Act) → LetsGo k a act → lets_go k a act ≡ true
lets_go_same k a (Finish n b machine) goes =
    ap (λ t. t && (b == a)) (same_test n k goes.0) ∙ same_test b a goes.1
lets_go_same k a (Drop n b machine) goes =
    ap (λ t. t && (b == a)) (same_test n k goes.0) ∙ same_test b a goes.1
lets_go_same k a (Place n b machine) goes = absurd goes
lets_go_same k a (Claim n b machine) goes = absurd goes
lets_go_same k a (Refine n) goes = absurd goes
lets_go_same k a (Settle n) goes = absurd goes
lets_go_same k a (Lose machine) goes = absurd goes
lets_go_same k a (Trim n) goes = absurd goes

-- an event that isn't the release of a claim doesn't let it go
not_let_go : (seat : ℕ) (claim : ClaimAfter) (e : Event) → is_release seat claim e ≡ false
    → e.by ≡ seat → LetsGo claim.node claim.attempt e.act → ⊥
not_let_go seat claim e kept by goes =
    let is : is_release seat claim e ≡ true
    = ap (λ t. t && lets_go claim.node claim.attempt e.act) (same_test e.by seat by)
    ∙ lets_go_same claim.node claim.attempt e.act goes in
    cc (is, kept)

-- the laws on which it stands
pub record HeldLaws : Type 0 where
  pub beginning : BeginningLaw
  pub since : SinceLaw
  pub next : NextLaw
  pub lawful : LawfulLaw

module _ (laws : HeldLaws) (c : Core) (core : IsCore c) (who : Who) (job : Job)
    (holds : HoldsJob (facts_of (plan_of c)) who job c.log.journal.items) where
  abbrev claim : ClaimAfter
  claim = holds.claim

  abbrev first : Event
  first = entry holds.claim.before who.seat
      (Claim holds.claim.node holds.claim.attempt who.machine)

  -- the run with the Claim at its place
  legal_since : IsLegal (plan_of c) (claim.before ++ first ∷ holds.holds.since)
  legal_since = subst (IsLegal (plan_of c)) holds.holds.claimed core.legal

  -- the claim is held with that job
  held_with : HoldsClaimWith (state_of c) who.seat claim.node claim.attempt who.machine job
  held_with =
      let p = plan_of c in
      let since = laws.since p claim.before holds.holds.since first claim.node claim.attempt
      who.machine core.runnable legal_since refl
      (All-weaker (λ e. is_release who.seat claim e ≡ false)
      (λ e. (e.by ≡ who.seat) → LetsGo claim.node claim.attempt e.act → ⊥)
      (not_let_go who.seat claim) holds.holds.since holds.holds.held) in
      let ready_now = job_ready (replay p claim.before) claim.node claim.attempt job
      holds.has_job in
      let alike : Some since.job ≡ Some job = sym since.is_ready ∙ ready_now in
      record {
        claim = record {
          attempt = claim.attempt;
          machine = who.machine;
          seat = who.seat;
          job = since.job;
        };
        held = subst (λ es. IsHeld (replay p es) claim.node (record {
          attempt = claim.attempt;
          machine = who.machine;
          seat = who.seat;
          job = since.job;
        })) (sym holds.holds.claimed) since.held;
        of_seat = record { of_attempt = refl; on_machine = refl; by_seat = refl };
        of_job = cc (alike);
      }

  -- before the Claim too the run was legal
  next_before : AreNext (may_come (plan_of c)) [] claim.before
  next_before =
      (laws.next (plan_of c) [] claim.before).next core.runnable
      ((laws.beginning (plan_of c) claim.before (first ∷ holds.holds.since)).beginning
      legal_since)

  -- the job tells the node and the attempt of its claim
  pub job_tells : (job.node ≡ holds.claim.node) × (job.attempt ≡ holds.claim.attempt)
  job_tells =
      let run : RunName = record { file = c.program.file; setup = c.setup; opening = None } in
      (laws.lawful (run ∷ []) claim.before next_before).tells claim.node claim.attempt job
      holds.has_job

  -- by these the seat holds the claim
  pub holds_claim : HoldsClaimWith (state_of c) who.seat job.node job.attempt who.machine job
  holds_claim =
      subst (λ k. HoldsClaimWith (state_of c) who.seat k job.attempt who.machine job)
      (sym job_tells.0)
      (subst (λ a. HoldsClaimWith (state_of c) who.seat claim.node a who.machine job)
      (sym job_tells.1) held_with)

  -- a finish by these is one of the claim
  pub finishes_claim : (d : Core) (answer : Finished)
      → Finishes c d job.node job.attempt who answer
      → Finishes c d holds.claim.node holds.claim.attempt who answer
  finishes_claim d answer is =
      subst (λ k. Finishes c d k claim.attempt who answer) job_tells.0
      (subst (λ a. Finishes c d job.node a who answer) job_tells.1 is)

-- a job is done under the run's file and limits
pub record IsUnder (run : RunName) (file : File) (limits : Limits) : Type 0 where
  pub same_file : file ≡ run.file
  pub same_limits : limits ≡ record { turns = run.setup.turns; depth = run.setup.depth }

-- so it is where it names the first run's
pub done_under : (run : RunName) (file : File) (limits : Limits)
    → slice_get (map basis_of (run ∷ [])) 0
    ≡ Some (record { file = file; turns = limits.turns; depth = limits.depth })
    → IsUnder run file limits
done_under run file limits is =
    let same : basis_of run ≡ record { file = file; turns = limits.turns; depth = limits.depth }
    = cc (is) in
    record {
      same_file = sym (ap (λ (b : Basis). b.file) same);
      same_limits =
          sym (ap (λ (b : Basis). record { turns = b.turns; depth = b.depth }) same);
    }

-- a job that a claim gets is for the run's file
pub job_serves : CalleeLaw → SilentLaw → (c : Core) (run : RunName) (es : List Event)
    (k attempt : ℕ) (job : Job) → c.program.file ≡ run.file
    → live_job (replay (plan_of c) es) k attempt ≡ Some job
    → Serves (map basis_of (run ∷ [])) 0 (TaskFits job.task)
job_serves callees silent c run es k attempt job same is = (
  basis_of run,
  refl,
  subst (TaskFits job.task) same
      ((silent (plan_of c) (replay (plan_of c) es) c.program.accepted (callees (plan_of c) es)).of_ready
      k attempt job (job_ready (replay (plan_of c) es) k attempt job is)).fits,
)

-- where a claim answers a job, it is the node's
job_got : (over lost : Bool) (ticket : Ticket) (there : Option Job) (job : Job)
    → claimed.Job job ≡ (if over then claimed.Over else
    if lost then claimed.Lost ticket else claimed_job there)
    → there ≡ Some job
job_got true lost ticket there job is = absurd (cc (is))
job_got false true ticket there job is = absurd (cc (is))
job_got false false ticket None job is = absurd (cc (is))
job_got false false ticket (Some other) job is = cc (is)

-- so a job that a claim answers is for the run's file
pub claim_serves : CalleeLaw → SilentLaw → (halted : Bool) (c d : Core) (run : RunName)
    (ticket : Ticket) (who : Who) (answer : Claimed Job) → c.program.file ≡ run.file
    → Claims halted c d ticket who answer
    → IfJob answer (λ job. Serves (map basis_of (run ∷ [])) 0 (TaskFits job.task))
claim_serves callees silent halted c d run ticket who answer same claims =
    by_answer answer claims.answers
  where
    by_answer : (a : Claimed Job)
        → a ≡ answer_in halted (replay (plan_of c) (events_behind who.seat c)) ticket who
        → IfJob a (λ job. Serves (map basis_of (run ∷ [])) 0 (TaskFits job.task))
    by_answer claimed.Over is = tt
    by_answer (claimed.Lost back) is = tt
    by_answer claimed.Stale is = tt
    by_answer (claimed.Job job) is =
        let s = replay (plan_of c) (events_behind who.seat c) in
        job_serves callees silent c run (events_behind who.seat c) ticket.node ticket.attempt job
        same (job_got (is_over halted s) (s.lost who.machine) ticket
        (live_job s ticket.node ticket.attempt) job is)
