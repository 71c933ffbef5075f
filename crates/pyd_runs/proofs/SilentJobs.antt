-- Jobs that have their callees fit the file, and print nothing but as effects.
use Rattle.std.proofs.Common.{◌≡◌, ℕ, suc, Bool, true, false, if◌then◌else◌, List, Option, None, Some, inl, refl, ap, ◌∙◌}
use Rattle.std.specs.Prelude.{IsSome}
use Rattle.pyd_value.specs.declared.value.Value.{Value}
use Rattle.pyd_value.specs.declared.fault.Kind.{Kind}
use Rattle.pyd_tree.specs.declared.file.File.{File}
use Rattle.pyd_tree.specs.declared.file.Func.{Func}
use Rattle.pyd_names.specs.Binding.{function}
use Rattle.pyd_scope.specs.Checks.{refusal}
use Rattle.pyd_scope.specs.Rules.{is_functional_routine}
use Rattle.pyd_meaning.specs.declared.limits.Limits.{Limits}
use Rattle.pyd_meaning.specs.declared.ran.Ran.{Ran}
use Rattle.pyd_meaning.specs.Setting.{Place as At, place_of, value_or}
use Rattle.pyd_ir.specs.declared.job.Job.{Job}
use Rattle.pyd_ir.specs.declared.job.Task.{Task}
use Rattle.pyd_ir.specs.declared.job.Task.TheVariants as task
use Rattle.pyd_ir.specs.Meaning.{job_ran, task_meaning, TaskFits}
use Rattle.pyd_translate.proofs.Silence.{IsSilent, silent-settled}
use Rattle.pyd_translate.proofs.FunctionalCalls.{functional_call}
use Rattle.pyd_runs.specs.Plans.{Plan, limits_of}
use Rattle.pyd_runs.specs.Desks.{Held}
use Rattle.pyd_runs.specs.Effects.{State, acted, is_run, finished_by, kept_by_driver, kept_by_machine}
use Rattle.pyd_runs.specs.Callees.{IsCalled, IsRun, IsThere, TaskHasCallee, HasCallees, IsJobOf, SilentLaw, LeavesRecord, LeaveLaw}
use Rattle.pyd_runs.proofs.Calling.{ready_callee}

-- a function that is there
there_some : (P : Func → Type 0) (o : Option Func) → IsThere P o → IsSome o
there_some P None is = absurd is
there_some P (Some f) is = refl

-- and is marked
there_marked : (o : Option Func) → IsThere IsCalled o → is_functional_routine o ≡ true
there_marked None is = absurd is
there_marked (Some f) is = is.1

task_fits : (file : File) (t : Task) → TaskHasCallee file t → TaskFits t file
task_fits file (task.Op op args) has = tt
task_fits file (task.Read v kind) has = tt
task_fits file (task.Call func args) has = there_some IsCalled (function file func) has
task_fits file (task.Run func args) has = there_some IsRun (function file func) has

-- a value that is read, or the exception
read_silent : (v : Option Value) (kind : Kind) (at : At) → IsSilent (value_or v kind at)
read_silent None kind at = silent-settled _
read_silent (Some v) kind at = silent-settled _

task_silent : (file : File) (limits : Limits) (t : Task) (line depth : ℕ)
    → refusal file ≡ None → TaskHasCallee file t → is_run t ≡ false
    → IsSilent (task_meaning file limits t line depth)
task_silent file limits (task.Op op args) line depth accepted has pure = silent-settled _
task_silent file limits (task.Read v kind) line depth accepted has pure =
    read_silent v kind (place_of line)
task_silent file limits (task.Call func args) line depth accepted has pure =
    functional_call file limits (suc depth) func args line accepted
    (there_marked (function file func) has)
task_silent file limits (task.Run func args) line depth accepted has pure = absurd (cc (pure))

-- a job with its callee
job_of : (p : Plan) (job : Job) → refusal p.file ≡ None → TaskHasCallee p.file job.task
    → IsJobOf p job
job_of p job accepted has = record {
  fits = task_fits p.file job.task has;
  silent = task_silent p.file (limits_of p) job.task job.line job.depth accepted has;
}

-- the law
pub jobs_silent : SilentLaw
jobs_silent p s accepted has = record {
  of_ready = λ k attempt job is.
      job_of p job accepted (ready_callee p.file s.graph s.desk.stores k attempt job has.nodes is);
  of_held = λ k c held. job_of p c.job accepted (has.held k c held);
}

-- what is done, by whether it is an effect
left_by : (p : Plan) (s : State) (k machine : ℕ) (c : Held) (b : Bool) → is_run c.job.task ≡ b
    → finished_by p s k machine (Some c)
    ≡ (if b then kept_by_driver s k (job_ran p.file (limits_of p) c.job)
    else kept_by_machine s k machine (job_ran p.file (limits_of p) c.job))
left_by p s k machine c b is =
    ap (λ t. if t then kept_by_driver s k (job_ran p.file (limits_of p) c.job)
    else kept_by_machine s k machine (job_ran p.file (limits_of p) c.job)) is

-- the record of a claim that is finished
finished_leaves : (p : Plan) (s : State) (k machine : ℕ) (c : Held) → refusal p.file ≡ None
    → HasCallees p s → s.desk.claim k ≡ Some c
    → LeavesRecord p s (finished_by p s k machine (s.desk.claim k)) k machine c
finished_leaves p s k machine c accepted has is =
    let ran : Ran = job_ran p.file (limits_of p) c.job in
    let found = ap (finished_by p s k machine) is in record {
      effect = λ e. found ∙ left_by p s k machine c true e;
      outcome = λ e.
          (let silent = (job_of p c.job accepted (has.held k c (inl is))).silent e in
          found ∙ left_by p s k machine c false e
          ∙ ap (λ (lines : List (List ℕ)).
          kept_by_machine s k machine (record { outcome = ran.outcome; lines = lines })) silent);
    }

-- the law
pub records_left : LeaveLaw
unfolding acted
records_left p s seat k attempt machine c accepted has is =
    finished_leaves p s k machine c accepted has is
