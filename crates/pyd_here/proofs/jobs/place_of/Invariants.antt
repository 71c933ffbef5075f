-- None of the jobs so far is of it.
use Rattle.std.proofs.Common.{◌≡◌, ◌<◌, Some, ℕ}
use Rattle.std.specs.List.{slice_get}
use Rattle.pyd_ir.specs.declared.job.Job.{Job}
use Rattle.pyd_here.specs.Jobs.{IsOf}
use Rattle.pyd_here.proofs.jobs.place_of.Given as goal

abbrev pub invariant-loop-place : goal.invariant-loop-place
invariant-loop-place l =
    (at : ℕ) (job : Job) → at < l.place → slice_get l.jobs at ≡ Some job
    → IsOf l.node l.attempt job → ⊥
