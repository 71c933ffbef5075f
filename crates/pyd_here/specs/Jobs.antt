-- The jobs that are kept from their claims on.
use Rattle.std.specs.Prelude.{◌≡◌, ◌++◌, ◌∷◌, ℕ, List, Some}
use Rattle.std.specs.List.{Contains, slice_get}
use Rattle.pyd_ir.specs.declared.job.Job.{Job}
use Rattle.pyd_runs.specs.Choices.{AreDistinct}
use Rattle.pyd_runs.specs.Claims.{IsHeld}
use Rattle.pyd_runs.specs.Desks.{Held}
use Rattle.pyd_runs.specs.Effects.{State}
use Rattle.pyd_runs.specs.Plans.{Plan, first_seat}

-- a job is of an attempt of a node
pub record IsOf (k attempt : ℕ) (job : Job) : Type 0 where
  pub of_node : job.node ≡ k
  pub of_attempt : job.attempt ≡ attempt

-- a claim of a node by the first seat of its machine, with a job of its attempt that is kept
pub record IsClaimKept (p : Plan) (jobs : List Job) (k : ℕ) (c : Held) : Type 0 where
  pub of_job : IsOf k c.attempt c.job
  pub kept : Contains jobs c.job
  pub seat : c.seat ≡ first_seat p c.machine

-- a job is that of a claim that is held
pub record IsJobHeld (s : State) (job : Job) : Type 0 where
  pub claim : Held
  pub held : IsHeld s job.node claim
  pub attempt : claim.attempt ≡ job.attempt
  pub same : claim.job ≡ job

-- the jobs are those of all claims that are held, each once
pub record AreJobsOf (p : Plan) (s : State) (jobs : List Job) : Type 0 where
  pub claims : (k : ℕ) (c : Held) → IsHeld s k c → IsClaimKept p jobs k c
  pub held : (job : Job) → Contains jobs job → IsJobHeld s job
  pub distinct : AreDistinct jobs

-- one of the jobs is of an attempt of a node
pub record HasJob (jobs : List Job) (k attempt : ℕ) : Type 0 where
  pub job : Job
  pub there : Contains jobs job
  pub is_of : IsOf k attempt job

-- a job of an attempt of a node stands at a place
pub record IsPlaceOf (jobs : List Job) (k attempt at : ℕ) : Type 0 where
  pub job : Job
  pub there : slice_get jobs at ≡ Some job
  pub is_of : IsOf k attempt job

-- a job of an attempt of a node was taken out from between two parts
pub record TakesOut (old new : List Job) (k attempt : ℕ) (job : Job) : Type 0 where
  pub before : List Job
  pub behind : List Job
  pub was : old ≡ before ++ job ∷ behind
  pub left : new ≡ before ++ behind
  pub is_of : IsOf k attempt job
