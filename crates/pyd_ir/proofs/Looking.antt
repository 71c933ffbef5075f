-- What pure leaves give.
use Rattle.std.proofs.Common.{◌≡◌, ℕ, suc, List, ◌∷◌, Bool, true, false, cond, ◌&&◌, Option, Some, None, option_map, Contains, refl, ap, ◌∙◌, arith}
use Rattle.std.proofs.lemmas.Option.{none-some, same_Some}
use Rattle.pyd_value.specs.declared.value.Value.{Value}
use Rattle.pyd_value.specs.declared.operator.Builtin.TheVariants as named
use Rattle.pyd_tree.specs.declared.file.File.{File}
use Rattle.pyd_meaning.specs.declared.limits.Limits.{Limits}
use Rattle.pyd_meaning.specs.Evaluation.{Evaluation}
use Rattle.pyd_meaning.specs.Calls.{builtin_called, printed}
use Rattle.pyd_meaning.specs.Module.{call_at}
use Rattle.pyd_ir.specs.declared.arg.Arg.{Arg}
use Rattle.pyd_ir.specs.declared.job.Task.{Task}
use Rattle.pyd_ir.specs.declared.job.Task.TheVariants as task
use Rattle.pyd_ir.specs.declared.work.Work.{Work}
use Rattle.pyd_ir.specs.declared.work.Work.TheVariants.{Op, Read, Call, Stop, Print, Run, Cond, While, For, Pick, Enter}
use Rattle.pyd_ir.specs.Arguments.{arguments, control, is_pure, is_composite}
use Rattle.pyd_ir.specs.Meaning.{task_meaning}
use Rattle.pyd_ir.specs.Inputs.{Given, values_of, has_inputs, task_of, work_meaning}
use Rattle.pyd_ir.specs.Laws.{LookLaw, EffectLaw, CompositeLaw}

-- what may be there, by way of a task
by_task : (vs : Option (List Value)) (make : List Value → Task) (mean : Task → Evaluation Value) (job : Task)
    → option_map make vs ≡ Some job → option_map (λ us. mean (make us)) vs ≡ Some (mean job)
by_task None make mean job made = absurd (none-some job made)
by_task (Some vs) make mean job made = ap (λ t. Some (mean t)) (same_Some (make vs) job made)

-- a leaf does what its task does
work-task : (file : File) (limits : Limits) (given : Given) (line depth : ℕ) (w : Work) (job : Task)
    → task_of given w ≡ Some job
    → work_meaning file limits given line depth w ≡ Some (task_meaning file limits job line depth)
work-task file limits given line depth (Op op args) job made =
    by_task (values_of given args) (task.Op op) (λ t. task_meaning file limits t line depth) job made
work-task file limits given line depth (Read arg kind) job made =
    ap (λ t. Some (task_meaning file limits t line depth)) (same_Some _ job made)
work-task file limits given line depth (Call func args) job made =
    by_task (values_of given args) (task.Call func) (λ t. task_meaning file limits t line depth) job made
work-task file limits given line depth (Stop fault) job made = absurd (none-some job made)
work-task file limits given line depth (Print args) job made = absurd (none-some job made)
work-task file limits given line depth (Run func args) job made =
    by_task (values_of given args) (task.Run func) (λ t. task_meaning file limits t line depth) job made
work-task file limits given line depth (Cond test stmt arm rest env) job made = absurd (none-some job made)
work-task file limits given line depth (While test stmt turns rest env) job made = absurd (none-some job made)
work-task file limits given line depth (For over stmt turns rest env) job made = absurd (none-some job made)
work-task file limits given line depth (Pick test first second env) job made = absurd (none-some job made)
work-task file limits given line depth (Enter func args) job made = absurd (none-some job made)

-- what is there under two tests
under_both : {A : Type 0} (p q : Bool) (x : A) (o : Option A)
    → p ≡ true → q ≡ true → o ≡ Some x → cond (p && q) o None ≡ Some x
under_both p q x o first second some =
    ap (λ b. cond (b && q) o None) first ∙ ap (λ b. cond b o None) second ∙ some

-- nothing under a test that fails
under_neither : {A : Type 0} (p q : Bool) (o : Option A) → q ≡ false → cond (p && q) o None ≡ None
under_neither true q o fails = ap (λ b. cond b o None) fails
under_neither false q o fails = refl

-- pure leaves
pub looks : LookLaw
looks = record {
  job = λ file limits given node job leaf there made.
      under_both (is_pure node.work) (has_inputs given node.work) (task_meaning file limits job node.line node.depth)
      (work_meaning file limits given node.line node.depth node.work)
      leaf there (work-task file limits given node.line node.depth node.work job made);
  stop = λ file limits given node fault stops.
      ap (λ w. cond (is_pure w && has_inputs given w) (work_meaning file limits given node.line node.depth w) None) stops;
  others = λ file limits given node other.
      ap (λ b. cond (b && has_inputs given node.work) (work_meaning file limits given node.line node.depth node.work) None) other;
  absent = λ file limits given node away.
      under_neither (is_pure node.work) (has_inputs given node.work)
      (work_meaning file limits given node.line node.depth node.work) away;
}

-- effects
pub effects : EffectLaw
effects = record {
  prints = λ file limits given node args vs text is there fits.
      ap (λ w. work_meaning file limits given node.line node.depth w) is
      ∙ ap (option_map (λ us. builtin_called named.Print us node.line)) there
      ∙ ap (λ r. Some (printed r)) fits;
  too_long = λ file limits given node args vs fault is there long.
      ap (λ w. work_meaning file limits given node.line node.depth w) is
      ∙ ap (option_map (λ us. builtin_called named.Print us node.line)) there
      ∙ ap (λ r. Some (printed r)) long;
  run = λ file limits given node func args vs is there.
      ap (λ w. work_meaning file limits given node.line node.depth w) is
      ∙ ap (option_map (λ us. call_at file limits (suc node.depth) func us node.line)) there;
}

-- a composite does nothing itself
no_leaf : (file : File) (limits : Limits) (given : Given) (line depth : ℕ) (w : Work)
    → is_composite w ≡ true → work_meaning file limits given line depth w ≡ None
no_leaf file limits given line depth (Op op args) e = cc
no_leaf file limits given line depth (Read arg kind) e = cc
no_leaf file limits given line depth (Call func args) e = cc
no_leaf file limits given line depth (Stop fault) e = cc
no_leaf file limits given line depth (Print args) e = cc
no_leaf file limits given line depth (Run func args) e = cc
no_leaf file limits given line depth (Cond test stmt arm rest env) e = refl
no_leaf file limits given line depth (While test stmt turns rest env) e = refl
no_leaf file limits given line depth (For over stmt turns rest env) e = refl
no_leaf file limits given line depth (Pick test first second env) e = refl
no_leaf file limits given line depth (Enter func args) e = refl

-- nor may it be done at any time
not_pure : (w : Work) → is_composite w ≡ true → is_pure w ≡ false
not_pure (Op op args) e = cc
not_pure (Read arg kind) e = cc
not_pure (Call func args) e = cc
not_pure (Stop fault) e = cc
not_pure (Print args) e = refl
not_pure (Run func args) e = refl
not_pure (Cond test stmt arm rest env) e = refl
not_pure (While test stmt turns rest env) e = refl
not_pure (For over stmt turns rest env) e = refl
not_pure (Pick test first second env) e = refl
not_pure (Enter func args) e = refl

-- the first of some arguments
first_of : (x : Arg) (xs : List Arg) (a : Arg) → Some x ≡ Some a → Contains (x ∷ xs) a
first_of x xs a e = (0, omega arith, same_Some x a e)

-- the control is the first argument
controlled : (w : Work) (a : Arg) → control w ≡ Some a → Contains (arguments w) a
controlled (Op op args) a e = absurd (none-some a e)
controlled (Read arg kind) a e = absurd (none-some a e)
controlled (Call func args) a e = absurd (none-some a e)
controlled (Stop fault) a e = absurd (none-some a e)
controlled (Print args) a e = absurd (none-some a e)
controlled (Run func args) a e = absurd (none-some a e)
controlled (Cond test stmt arm rest env) a e = first_of test _ a e
controlled (While test stmt turns rest env) a e = first_of test _ a e
controlled (For over stmt turns rest env) a e = first_of over _ a e
controlled (Pick test first second env) a e = first_of test _ a e
controlled (Enter func args) a e = absurd (none-some a e)

-- composites
pub composites : CompositeLaw
composites = record {
  no_leaf = λ file limits given node e. no_leaf file limits given node.line node.depth node.work e;
  not_pure = not_pure;
  control = controlled;
}
