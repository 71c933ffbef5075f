-- That each node and each job which calls a function calls one of the file, in the manner that its marks ask for.
use Rattle.std.specs.Prelude.{◌≡◌, ℕ, List, [], ◌∷◌, Option, Some, None, true, false}
use Rattle.pyd_tree.specs.declared.file.File.{File}
use Rattle.pyd_tree.specs.declared.file.Func.{Func}
use Rattle.pyd_names.specs.Binding.{function}
use Rattle.pyd_scope.specs.Rules.{is_functional}
use Rattle.pyd_scope.specs.Checks.{refusal}
use Rattle.pyd_board.specs.declared.event.Act.TheVariants.{Finish}
use Rattle.pyd_board.specs.declared.event.Event.{Event}
use Rattle.pyd_ir.specs.declared.job.Job.{Job}
use Rattle.pyd_ir.specs.declared.job.Task.{Task}
use Rattle.pyd_ir.specs.declared.job.Task.TheVariants as task
use Rattle.pyd_ir.specs.declared.node.Node.{Node}
use Rattle.pyd_ir.specs.declared.work.Work.{Work}
use Rattle.pyd_ir.specs.declared.work.Work.TheVariants.{Op, Read, Call, Stop, Print, Run, Cond, While, For, Pick, Enter}
use Rattle.pyd_ir.specs.Meaning.{job_ran, TaskFits}
use Rattle.pyd_translate.specs.Expressions.{is_unfolded}
use Rattle.pyd_runs.specs.Plans.{Plan, limits_of}
use Rattle.pyd_runs.specs.Graphs.{nodes}
use Rattle.pyd_runs.specs.Desks.{Held}
use Rattle.pyd_runs.specs.Records.{ready}
use Rattle.pyd_runs.specs.Effects.{State, is_run, acted, happens, kept_by_driver, kept_by_machine}
use Rattle.pyd_runs.specs.Replay.{replay}
use Rattle.pyd_runs.specs.Claims.{IsHeld}

-- a function that is entered: a `@schedule` one
abbrev pub IsEntered : Func → Type 0
IsEntered f = is_unfolded f ≡ true

-- one whose calls are pure: any other that is `@functional`
abbrev pub IsCalled : Func → Type 0
IsCalled f = (is_unfolded f ≡ false) × (is_functional f ≡ true)

-- one whose calls are effects: one without either mark
abbrev pub IsRun : Func → Type 0
IsRun f = (is_unfolded f ≡ false) × (is_functional f ≡ false)

-- a function is there, and is so
abbrev pub IsThere : (Func → Type 0) → Option Func → Type 0
IsThere P None = ⊥
IsThere P (Some f) = P f

-- the function that a node calls is one of the file, of those that are called so
abbrev pub HasCallee : File → Work → Type 0
HasCallee file (Op op args) = Unit {0}
HasCallee file (Read arg kind) = Unit {0}
HasCallee file (Call func args) = IsThere IsCalled (function file func)
HasCallee file (Stop fault) = Unit {0}
HasCallee file (Print args) = Unit {0}
HasCallee file (Run func args) = IsThere IsRun (function file func)
HasCallee file (Cond test stmt arm rest env) = Unit {0}
HasCallee file (While test stmt turns rest env) = Unit {0}
HasCallee file (For over stmt turns rest env) = Unit {0}
HasCallee file (Pick test first second env) = Unit {0}
HasCallee file (Enter func args) = IsThere IsEntered (function file func)

-- so it is of each node
abbrev pub HaveCallees : File → List Node → Type 0
HaveCallees file [] = Unit {0}
HaveCallees file (n ∷ ns) = HasCallee file n.work × HaveCallees file ns

-- the function that a task calls is one of the file, of those that are called so
abbrev pub TaskHasCallee : File → Task → Type 0
TaskHasCallee file (task.Op op args) = Unit {0}
TaskHasCallee file (task.Read value kind) = Unit {0}
TaskHasCallee file (task.Call func args) = IsThere IsCalled (function file func)
TaskHasCallee file (task.Run func args) = IsThere IsRun (function file func)

-- in a state each node has its callee, and so has the job of each claim that is held
pub record HasCallees (p : Plan) (s : State) : Type 0 where
  pub nodes : HaveCallees p.file (nodes s.graph)
  pub held : (k : ℕ) (c : Held) → IsHeld s k c → TaskHasCallee p.file c.job.task

-- so it is behind all events
abbrev pub CalleeLaw : Type 0
CalleeLaw = (p : Plan) (es : List Event) → HasCallees p (replay p es)

-- and each event keeps it so
abbrev pub KeptCalleeLaw : Type 0
KeptCalleeLaw = (p : Plan) (s : State) (e : Event) → HasCallees p s → HasCallees p (happens p s e)

-- a job is for a file that has what it calls, and prints nothing unless it is an effect
pub record IsJobOf (p : Plan) (job : Job) : Type 0 where
  pub fits : TaskFits job.task p.file
  pub silent : is_run job.task ≡ false → (job_ran p.file (limits_of p) job).lines ≡ []

-- in a state every job is so that is ready, or is held
pub record HasJobs (p : Plan) (s : State) : Type 0 where
  pub of_ready : (k attempt : ℕ) (job : Job) → ready s.graph s.desk.stores k attempt ≡ Some job
      → IsJobOf p job
  pub of_held : (k : ℕ) (c : Held) → IsHeld s k c → IsJobOf p c.job

-- where the file breaks no rule
abbrev pub SilentLaw : Type 0
SilentLaw = (p : Plan) (s : State) → refusal p.file ≡ None → HasCallees p s → HasJobs p s

-- a Finish of a claim leaves what was done: an effect's with the driver, and any other job's in the store of its machine as an outcome without lines
pub record LeavesRecord (p : Plan) (s now : State) (k machine : ℕ) (c : Held) : Type 0 where
  pub effect : is_run c.job.task ≡ true
      → now ≡ kept_by_driver s k (job_ran p.file (limits_of p) c.job)
  pub outcome : is_run c.job.task ≡ false → now ≡ kept_by_machine s k machine
      (record { outcome = (job_ran p.file (limits_of p) c.job).outcome; lines = [] })

-- so it does where the file breaks no rule
abbrev pub LeaveLaw : Type 0
LeaveLaw = (p : Plan) (s : State) (seat k attempt machine : ℕ) (c : Held) → refusal p.file ≡ None
    → HasCallees p s → s.desk.claim k ≡ Some c
    → LeavesRecord p s (acted p s seat (Finish k attempt machine)) k machine c
