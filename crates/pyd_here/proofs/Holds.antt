-- A run with its jobs behind a Claim, a Finish and a Drop.
use Rattle.std.proofs.Common.{◌≡◌, ◌<◌, ◌||◌, ℕ, List, [], ◌∷◌, ◌++◌, Bool, true, if◌then◌else◌, Option, Some, None, is_some, inl, inr, refl, ap, sym, subst, ◌∙◌}
use Rattle.std.specs.List.{slice_get}
use Rattle.pyd_board.specs.declared.event.Act.{Act}
use Rattle.pyd_board.specs.declared.event.Act.TheVariants.{Claim, Drop, Finish}
use Rattle.pyd_board.specs.declared.event.Event.{Event}
use Rattle.pyd_board.specs.Serving.{Basis}
use Rattle.pyd_boards.specs.Boards.{entry}
use Rattle.pyd_ir.specs.declared.job.Job.{Job}
use Rattle.pyd_ir.specs.Meaning.{TaskFits}
use Rattle.pyd_runs.specs.Callees.{CalleeLaw, SilentLaw}
use Rattle.pyd_runs.specs.Claims.{IsHeld, LetGoLaw, LetsGo, SeatLaw}
use Rattle.pyd_runs.specs.Desks.{Held}
use Rattle.pyd_runs.specs.Effects.{State, happens}
use Rattle.pyd_runs.specs.Enabled.{CanClaim, CanDrop, Holds, IsClaimOf, IsLoss, IsQuiet, Lives}
use Rattle.pyd_runs.specs.Facts.{ClaimedLaw, IsClaimed}
use Rattle.pyd_runs.specs.Plans.{Plan, first_seat}
use Rattle.pyd_runs.specs.Records.{ready}
use Rattle.pyd_runs.specs.Releases.{HoldsClaim, IsInVain, ReleaseLaw}
use Rattle.pyd_runs.specs.Sound.{IsSound}
use Rattle.pyd_runs.proofs.Putting.{same_test}
use Rattle.pyd_core.specs.Claiming.{is_for, live_job}
use Rattle.pyd_core.specs.declared.keeper.Core.{Core}
use Rattle.pyd_core.specs.Cores.{IsCore, plan_of, state_of}
use Rattle.pyd_core.specs.Finishing.{act_of, answer_by, answer_of, is_in_vain}
use Rattle.pyd_boards.specs.declared.answers.Finished.{Finished}
use Rattle.pyd_value.specs.declared.fault.End.{End}
use Rattle.pyd_core.specs.Steps.{Makes}
use Rattle.pyd_here.specs.Going.{HasBegun, IsHere, basis_by}
use Rattle.pyd_here.specs.Jobs.{AreJobsOf, HasJob, TakesOut}
use Rattle.pyd_here.proofs.Claims.{with_claim}
use Rattle.pyd_here.proofs.Keeps.{HereLaws, begun_then, of_state, sound}
use Rattle.pyd_here.proofs.Onward.{may_come, state_then}
use Rattle.pyd_here.proofs.Taken.{left_held, taken_is}

module _ (laws : HereLaws) (claims : ClaimedLaw) (c d : Core) (seat k a m : ℕ)
    (jobs : List Job) (job : Job) (here : IsHere c jobs) (seated : seat ≡ first_seat (plan_of c) m)
    (can : CanClaim (plan_of c) (state_of c) (first_seat (plan_of c) m) k a m)
    (made : Makes c d seat (Claim k a m)) (is : Some job ≡ live_job (state_of c) k a) where
  abbrev e : Event
  e = entry c.log.journal.items seat (Claim k a m)

  claimed : IsClaimed (state_of c) ((happens (plan_of c) (state_of c) e).desk.claim k) seat k a m
  claimed =
      claims (plan_of c) (state_of c) e k a m
      (sound laws c d seat (Claim k a m) made here.is_core)
      (may_come laws.step c d seat (Claim k a m) made) refl

  same_job : claimed.job ≡ job
  same_job =
      let s = state_of c in
      let tells : is_for a (s.desk.ticket k) ≡ true
      = ap (is_for a) can.is_live ∙ same_test can.ticket.attempt a can.of_attempt in
      let both : Some job ≡ Some claimed.job
      = is ∙ ap (λ (b : Bool). if b then ready s.graph s.desk.stores k a else None) tells
      ∙ claimed.is_ready in
      cc (both)

  sound_now : IsSound (plan_of c) (happens (plan_of c) (state_of c) e)
  sound_now =
      subst (IsSound (plan_of c)) (state_then laws.step c d seat (Claim k a m) made)
      (subst (λ q. IsSound q (state_of d)) made.plan
      (laws.run (plan_of d) d.log.journal.items made.core.runnable made.core.legal))

  -- behind a Claim its job is kept too
  pub claim_here : IsHere d (jobs ++ job ∷ [])
  claim_here = record {
    is_core = made.core;
    begun = of_state laws c d seat (Claim k a m) made here.is_core (λ q s. HasBegun s)
        (begun_then (plan_of c) (state_of c) e (λ none. none));
    keeps = of_state laws c d seat (Claim k a m) made here.is_core
        (λ q s. AreJobsOf q s (jobs ++ job ∷ []))
        (subst (λ (j : Job). AreJobsOf (plan_of c) (happens (plan_of c) (state_of c) e)
        (jobs ++ j ∷ [])) same_job
        (with_claim (plan_of c) (state_of c) (first_seat (plan_of c) m) k a m e jobs
        (sound laws c d seat (Claim k a m) made here.is_core) here.keeps
        (may_come laws.step c d seat (Claim k a m) made) refl seated can claimed laws.hold
        laws.take sound_now));
  }

-- an act that lets go of an attempt of a node, and does nothing else
pub record IsRelease (k a : ℕ) (act : Act) : Type 0 where
  pub lets : LetsGo k a act
  pub only : (n b : ℕ) → LetsGo n b act → (n ≡ k) × (b ≡ a)
  pub no_claim : (n b m : ℕ) → act ≡ Claim n b m → ⊥
  pub no_loss : IsLoss act → ⊥

pub finish_releases : (k a m : ℕ) → IsRelease k a (Finish k a m)
finish_releases k a m = record {
  lets = (refl, refl);
  only = λ n b is. (sym is.0, sym is.1);
  no_claim = λ n b o is. cc (is);
  no_loss = λ none. none;
}

pub drop_releases : (k a m : ℕ) → IsRelease k a (Drop k a m)
drop_releases k a m = record {
  lets = (refl, refl);
  only = λ n b is. (sym is.0, sym is.1);
  no_claim = λ n b o is. cc (is);
  no_loss = λ none. none;
}

-- a claim of an attempt that a seat holds
pub record IsHolding (s : State) (seat k a m : ℕ) : Type 0 where
  pub claim : Held
  pub held : IsHeld s k claim
  pub of_seat : IsClaimOf seat a m claim

pub holding : (s : State) (seat k a m : ℕ) → Holds (s.desk.claim k) seat a m
    → IsHolding s seat k a m
holding s seat k a m holds = by_claim (s.desk.claim k) refl holds
  where
    by_claim : (o : Option Held) → s.desk.claim k ≡ o → Holds o seat a m
        → IsHolding s seat k a m
    by_claim None is holds = absurd holds
    by_claim (Some c) is holds = record { claim = c; held = inl is; of_seat = holds }

module _ (c : Core) (seat k a m : ℕ) (jobs : List Job) (here : IsHere c jobs)
    (is : IsHolding (state_of c) seat k a m) where
  -- its job is kept
  pub has_job : HasJob jobs k a
  has_job =
      let kept = here.keeps.claims k is.claim is.held in
      record {
        job = is.claim.job;
        there = kept.kept;
        is_of = record {
          of_node = kept.of_job.of_node;
          of_attempt = kept.of_job.of_attempt ∙ is.of_seat.of_attempt;
        };
      }

  module _ (laws : HereLaws) (left : List Job) (job : Job) (taken : TakesOut jobs left k a job) where
    sound_here : IsSound (plan_of c) (state_of c)
    sound_here =
        laws.run (plan_of c) c.log.journal.items here.is_core.runnable here.is_core.legal

    -- it is the one that was taken out
    pub is_its : job ≡ is.claim.job
    is_its =
        taken_is (plan_of c) (state_of c) k a jobs left job is.claim sound_here here.keeps taken
        is.held is.of_seat.of_attempt

    -- which may be done under the file
    pub fits : SilentLaw → CalleeLaw → TaskFits job.task c.program.file
    fits silent callee =
        subst (λ (j : Job). TaskFits j.task c.program.file) (sym is_its)
        ((silent (plan_of c) (state_of c) c.program.accepted
        (callee (plan_of c) c.log.journal.items)).of_held k is.claim is.held).fits

    -- behind the act that lets the claim go
    pub release_here : LetGoLaw → (d : Core) (act : Act) → IsRelease k a act
        → Makes c d seat act → IsHere d left
    release_here gone d act release made =
        let e : Event = entry c.log.journal.items seat act in
        record {
          is_core = made.core;
          begun = of_state laws c d seat act made here.is_core (λ q s. HasBegun s)
              (begun_then (plan_of c) (state_of c) e release.no_loss);
          keeps = of_state laws c d seat act made here.is_core
              (λ q s. AreJobsOf q s left)
              (left_held (plan_of c) (state_of c) k a jobs left job is.claim sound_here here.keeps
              taken is.held is.of_seat.of_attempt laws.hold laws.take gone e
              (may_come laws.step c d seat act made) (
                sym is.of_seat.by_seat,
                subst (λ n. LetsGo k n act) (sym is.of_seat.of_attempt) release.lets,
              )
              release.no_claim release.only);
        }

-- the run's file and limits are the only ones of a runner
pub serves_here : (p : Plan) (bases : List Basis) → bases ≡ basis_by p ∷ []
    → slice_get bases 0 ≡ Some (basis_by p)
serves_here p bases is = ap (λ bs. slice_get bs 0) is

-- a claim that may be dropped while the run goes on is in vain
vain_by : (s : State) (m : ℕ) → s.graph.end ≡ None → IsInVain s m → is_in_vain s m ≡ true
vain_by s m on (inl lost) = ap (λ b. b || is_some s.graph.end) lost
vain_by s m on (inr ended) = absurd (ended on)

module _ (releases : ReleaseLaw) (run : HereLaws) (c : Core) (seat k a m : ℕ) (core : IsCore c)
    (quiet : IsQuiet (state_of c)) (can : CanDrop (state_of c) seat k a m) where
  dropped : HoldsClaim (state_of c) seat k a m × IsInVain (state_of c) m
  dropped =
      (releases (plan_of c) (state_of c) seat k a m
      (run.run (plan_of c) c.log.journal.items core.runnable core.legal)
      (λ on. quiet.none_due)).dropped can

  pub drop_holding : IsHolding (state_of c) seat k a m
  drop_holding = record {
    claim = dropped.0.claim;
    held = dropped.0.held;
    of_seat = dropped.0.of_seat;
  }

  pub drop_in_vain : is_in_vain (state_of c) m ≡ true
  drop_in_vain = vain_by (state_of c) m quiet.goes_on dropped.1

  -- its machine is one of the plan
  pub drop_machine : SeatLaw → m < c.setup.machines
  drop_machine seats =
      subst (λ n. n < c.setup.machines) drop_holding.of_seat.on_machine
      (seats (plan_of c) c.log.journal.items core.legal k drop_holding.claim
      drop_holding.held).is_machine

-- while the run goes on what a machine gives that lives is kept
pub made_finish : (c d : Core) (seat k a m : ℕ) → IsQuiet (state_of c)
    → Lives (plan_of c) (state_of c).lost m → (answer : Finished)
    → answer ≡ answer_of (state_of c) m → Makes c d seat (act_of answer k a m)
    → Makes c d seat (Finish k a m)
made_finish c d seat k a m quiet lives answer is made =
    subst (λ x. Makes c d seat (act_of x k a m))
    (is ∙ ap (λ b. answer_by (b || is_some (state_of c).graph.end)) lives.not_lost
    ∙ ap (λ (o : Option End). answer_by (is_some o)) quiet.goes_on) made
