-- When an answer is of this job, under this file and these limits.
use Rattle.std.specs.Prelude.{◌≡◌}
use Rattle.pyd_tree.specs.declared.file.File.{File}
use Rattle.pyd_meaning.specs.declared.limits.Limits.{Limits}
use Rattle.pyd_ir.specs.declared.job.Job.{Job}
use Rattle.pyd_ir.specs.declared.done.Done.{Done}

-- it is of this job, and names this file and these limits
pub record IsDoneUnder (file : File) (limits : Limits) (job : Job) (done : Done) : Type 0 where
  pub answers : done.job ≡ job
  pub under : done.file.value ≡ file
  pub within : done.limits ≡ limits
