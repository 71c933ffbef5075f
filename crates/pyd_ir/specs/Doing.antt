-- Jobs that print nothing, whatever the file and the limits are.
use Rattle.std.specs.Prelude.{◌≡◌, []}
use Rattle.pyd_value.specs.declared.fault.Outcome.{Outcome}
use Rattle.pyd_tree.specs.declared.file.File.{File}
use Rattle.pyd_ops.specs.Answer.{outcome_of}
use Rattle.pyd_meaning.specs.declared.limits.Limits.{Limits}
use Rattle.pyd_ir.specs.declared.job.Job.{Job}
use Rattle.pyd_ir.specs.Meaning.{job_meaning}

-- the job prints nothing and gives this outcome
pub record IsSilent (job : Job) (given : Outcome) : Type 0 where
  pub lines : (file : File) (limits : Limits) → (job_meaning file limits job).lines ≡ []
  pub outcome : (file : File) (limits : Limits)
      → given ≡ outcome_of (job_meaning file limits job).result
