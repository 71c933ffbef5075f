-- What jobs do.
use Rattle.std.proofs.Common.{◌≡◌, ℕ, suc, List, [], Option, Some, None, refl, sym, ap, ◌∙◌}
use Rattle.pyd_value.specs.declared.value.Value.{Value}
use Rattle.pyd_value.specs.declared.fault.Kind.{Kind}
use Rattle.pyd_value.specs.declared.fault.Outcome.{Outcome}
use Rattle.pyd_value.specs.declared.fault.Outcome.TheVariants as outcome
use Rattle.pyd_ops.specs.Answer.{raise, outcome_of}
use Rattle.pyd_meaning.specs.Evaluation.{settled}
use Rattle.pyd_meaning.specs.Setting.{Place, place_of, value_or}
use Rattle.pyd_meaning.proofs.Calls.{functions}
use Rattle.pyd_ir.specs.declared.code.OpCode.{OpCode}
use Rattle.pyd_ir.specs.declared.job.Job.{Job}
use Rattle.pyd_ir.specs.declared.job.Task.TheVariants as task
use Rattle.pyd_ir.specs.Operation.{operation}
use Rattle.pyd_ir.specs.Meaning.{task_meaning}
use Rattle.pyd_ir.specs.Doing.{IsSilent}
use Rattle.pyd_ir.specs.Laws.{ReadLaw, CallLaw}

-- reads
pub reads : ReadLaw
reads = record {
  bound = λ file limits v kind line depth. refl;
  unbound = λ file limits kind line depth. refl;
}

-- calls
pub calls : CallLaw
calls = record {
  count = λ file limits func line depth f args found uneven. functions.count file limits (suc depth) func line f args found uneven;
  deep = λ file limits func line depth f args found even above. functions.deep file limits (suc depth) func line f args found even above;
  run = λ file limits func line depth args. refl;
}

-- a read prints nothing
value_or-lines : (o : Option Value) (kind : Kind) (at : Place) → (value_or o kind at).lines ≡ []
unfolding settled
value_or-lines (Some v) kind at = refl
value_or-lines None kind at = refl

-- what a read of a value gives
pub value_or-some : (o : Option Value) (v : Value) (kind : Kind) (at : Place)
    → o ≡ Some v → outcome.Ok v ≡ outcome_of (value_or o kind at).result
unfolding settled
value_or-some o v kind at is = ap (λ o. outcome_of (value_or o kind at).result) (sym is)

-- what a read of nothing gives
pub value_or-none : (o : Option Value) (kind : Kind) (line : ℕ)
    → o ≡ None → outcome_of (raise kind line) ≡ outcome_of (value_or o kind (place_of line)).result
unfolding settled
value_or-none o kind line is = ap (λ o. outcome_of (value_or o kind (place_of line)).result) (sym is)

-- an operator prints nothing
pub silent-op : (job : Job) (op : OpCode) (args : List Value) (given : Outcome)
    → job.task ≡ task.Op op args → given ≡ outcome_of (operation op args job.line) → IsSilent job given
unfolding settled
silent-op job op args given is e = record {
  lines = λ file limits. ap (λ t. (task_meaning file limits t job.line job.depth).lines) is;
  outcome = λ file limits. e ∙ ap (λ t. outcome_of (task_meaning file limits t job.line job.depth).result) (sym is);
}

-- nor does a read
pub silent-read : (job : Job) (o : Option Value) (kind : Kind) (given : Outcome)
    → job.task ≡ task.Read o kind → given ≡ outcome_of (value_or o kind (place_of job.line)).result
    → IsSilent job given
silent-read job o kind given is e = record {
  lines = λ file limits. ap (λ t. (task_meaning file limits t job.line job.depth).lines) is ∙ value_or-lines o kind (place_of job.line);
  outcome = λ file limits. e ∙ ap (λ t. outcome_of (task_meaning file limits t job.line job.depth).result) (sym is);
}
