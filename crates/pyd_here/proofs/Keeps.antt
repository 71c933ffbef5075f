-- Which jobs are held behind events, and how a run begins.
use Rattle.std.proofs.Common.{◌≡◌, ℕ, List, [], ◌∷◌, ◌++◌, Some, None, inl, inr, sym, subst}
use Rattle.std.specs.List.{All}
use Rattle.std.proofs.lemmas.List.Elements.{All-head, All-tail}
use Rattle.pyd_board.specs.declared.event.Act.{Act}
use Rattle.pyd_board.specs.declared.event.Act.TheVariants.{Claim, Place, Refine, Settle, Trim, Lose}
use Rattle.pyd_board.specs.declared.event.Event.{Event}
use Rattle.pyd_boards.specs.Boards.{entry}
use Rattle.pyd_ir.specs.declared.job.Job.{Job}
use Rattle.pyd_runs.specs.Claims.{HoldLaw, LetsGo, TakeLaw}
use Rattle.pyd_runs.specs.Effects.{State, happens}
use Rattle.pyd_runs.specs.Enabled.{Enabled, IsLoss, due}
use Rattle.pyd_runs.specs.Following.{StepLaw}
use Rattle.pyd_runs.specs.Laws.{RunLaw}
use Rattle.pyd_runs.specs.Plans.{Plan}
use Rattle.pyd_runs.specs.Sound.{IsSound}
use Rattle.pyd_runs.proofs.NextLost.{all_first}
use Rattle.pyd_core.specs.declared.keeper.Core.{Core}
use Rattle.pyd_core.specs.Cores.{IsCore, plan_of, state_of}
use Rattle.pyd_core.specs.Steps.{Makes}
use Rattle.pyd_here.specs.Going.{HasBegun, IsHere}
use Rattle.pyd_here.specs.Jobs.{AreJobsOf}
use Rattle.pyd_here.proofs.Onward.{may_come, state_then}

-- an act that neither claims a node nor lets a claim go
pub record IsOther (act : Act) : Type 0 where
  pub no_claim : (k a m : ℕ) → act ≡ Claim k a m → ⊥
  pub no_release : (k a : ℕ) → LetsGo k a act → ⊥

-- such acts
pub place_other : (k a m : ℕ) → IsOther (Place k a m)
place_other k a m = record { no_claim = λ k a m is. cc (is); no_release = λ k a is. is }

pub refine_other : (k : ℕ) → IsOther (Refine k)
refine_other k = record { no_claim = λ k a m is. cc (is); no_release = λ k a is. is }

pub settle_other : (k : ℕ) → IsOther (Settle k)
settle_other k = record { no_claim = λ k a m is. cc (is); no_release = λ k a is. is }

pub trim_other : (k : ℕ) → IsOther (Trim k)
trim_other k = record { no_claim = λ k a m is. cc (is); no_release = λ k a is. is }

pub lose_other : (m : ℕ) → IsOther (Lose m)
lose_other m = record { no_claim = λ k a m is. cc (is); no_release = λ k a is. is }

-- they leave which jobs are held
pub jobs_stay : HoldLaw → TakeLaw → (p : Plan) (s : State) (e : Event) (jobs : List Job)
    → IsSound p s → Enabled p s e → IsOther e.act → AreJobsOf p s jobs
    → AreJobsOf p (happens p s e) jobs
jobs_stay holds takes p s e jobs sound enabled other are = record {
  claims = λ k c held. elim (takes p s e k c enabled held) [
    | inl was ↦ are.claims k c was
    | inr taken ↦ absurd (other.no_claim k c.attempt c.machine taken.act)
  ];
  held = λ job at. (let was = are.held job at in record {
    claim = was.claim;
    held = holds p s e job.node was.claim sound enabled
        (λ gone. other.no_release job.node was.claim.attempt gone.1) was.held;
    attempt = was.attempt;
    same = was.same;
  });
  distinct = are.distinct;
}

all_last : {X : Type 0} (P : X → Type 0) (xs : List X) (x : X) → All P (xs ++ x ∷ []) → P x
all_last P [] x all = All-head P x [] all
all_last P (y ∷ xs) x all = all_last P xs x (All-tail P y (xs ++ x ∷ []) all)

-- behind an event that is no loss
pub begun_then : (p : Plan) (s : State) (e : Event) → (IsLoss e.act → ⊥)
    → HasBegun (happens p s e)
unfolding happens
begun_then p s e other on machine is all =
    other (all_last (λ (e : Event). IsLoss e.act) s.journal e all)

-- behind a loss
pub begun_lost : (p : Plan) (s : State) (e : Event) (machine : ℕ) → HasBegun s
    → s.graph.end ≡ None → due s ≡ Some machine → HasBegun (happens p s e)
unfolding happens
begun_lost p s e machine begun was_on was on m is all =
    begun was_on machine was (all_first (λ (e : Event). IsLoss e.act) s.journal (e ∷ []) all)

-- the laws of claims that are held
pub record HereLaws : Type 0 where
  pub run : RunLaw
  pub step : StepLaw
  pub hold : HoldLaw
  pub take : TakeLaw

module _ (laws : HereLaws) (c d : Core) (seat : ℕ) (act : Act) (made : Makes c d seat act)
    (core : IsCore c) where
  abbrev e : Event
  e = entry c.log.journal.items seat act

  -- the state there is sound
  pub sound : IsSound (plan_of c) (state_of c)
  sound = laws.run (plan_of c) c.log.journal.items core.runnable core.legal

  -- what holds of the state behind the event holds of the core's
  pub of_state : (P : Plan → State → Type 0) → P (plan_of c) (happens (plan_of c) (state_of c) e)
      → P (plan_of d) (state_of d)
  of_state P holds =
      subst (λ q. P q (state_of d)) (sym made.plan)
      (subst (P (plan_of c)) (sym (state_then laws.step c d seat act made)) holds)

  -- the jobs that are held stay
  pub still_jobs : IsOther act → (jobs : List Job) → AreJobsOf (plan_of c) (state_of c) jobs
      → AreJobsOf (plan_of d) (state_of d) jobs
  still_jobs other jobs are =
      of_state (λ q s. AreJobsOf q s jobs)
      (jobs_stay laws.hold laws.take (plan_of c) (state_of c) e jobs sound
      (may_come laws.step c d seat act made) other are)

  -- it is a run here, behind an event that is no loss
  pub still_here : IsOther act → (IsLoss act → ⊥) → (jobs : List Job) → IsHere c jobs
      → IsHere d jobs
  still_here other no_loss jobs here = record {
    is_core = made.core;
    begun = of_state (λ q s. HasBegun s) (begun_then (plan_of c) (state_of c) e no_loss);
    keeps = still_jobs other jobs here.keeps;
  }
