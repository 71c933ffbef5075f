-- What a node does is the same where more is given, if all that it waits for was given before.
use Rattle.std.proofs.Common.{◌≡◌, ℕ, suc, Bool, true, false, ◌&&◌, cond, List, [], ◌∷◌, Option, None, Some, is_some, inl, inr, refl, ap, sym, ◌∙◌}
use Rattle.std.specs.Prelude.{IsTrue, option_map}
use Rattle.pyd_value.specs.declared.value.Value.{Value}
use Rattle.pyd_value.specs.declared.operator.Builtin.TheVariants as named
use Rattle.pyd_tree.specs.declared.file.File.{File}
use Rattle.pyd_meaning.specs.declared.limits.Limits.{Limits}
use Rattle.pyd_meaning.specs.Evaluation.{Evaluation, settled}
use Rattle.pyd_meaning.specs.Setting.{place_of, value_or}
use Rattle.pyd_meaning.specs.Calls.{builtin_called}
use Rattle.pyd_meaning.specs.Module.{call_at}
use Rattle.pyd_ir.specs.declared.arg.Arg.{Arg}
use Rattle.pyd_ir.specs.declared.arg.Arg.TheVariants.{Known, From, Slot, Unbound}
use Rattle.pyd_ir.specs.declared.job.Job.{Job}
use Rattle.pyd_ir.specs.declared.job.Task.{Task}
use Rattle.pyd_ir.specs.declared.job.Task.TheVariants as task
use Rattle.pyd_ir.specs.declared.node.Node.{Node}
use Rattle.pyd_ir.specs.declared.work.Work.{Work}
use Rattle.pyd_ir.specs.declared.work.Work.TheVariants.{Op, Read, Call, Stop, Print, Run, Cond, While, For, Pick, Enter}
use Rattle.pyd_ir.specs.Arguments.{is_pure, arguments}
use Rattle.pyd_ir.specs.Inputs.{Given, value_of, both, values_of, has_value, may_be_read, have_values, has_inputs, task_of, work_meaning, leaf_meaning, look}
use Rattle.pyd_ir.specs.Meaning.{task_meaning, job_ran, job_meaning}
use Rattle.pyd_ir.specs.Operation.{operation}
use Rattle.pyd_translate.specs.Naming.{Numbers, AreAmong}
use Rattle.pyd_runs.specs.Plans.{Plan, limits_of}
use Rattle.pyd_runs.specs.Graphs.{Graph}
use Rattle.pyd_runs.specs.Reach.{AreOf}
use Rattle.pyd_runs.specs.Effects.{is_run}
use Rattle.pyd_runs.specs.Sound.{IsSeen, IsJob, leaf_seen, sight}
use Rattle.pyd_runs.proofs.Readiness.{IsWithin, and_parts, and_both, values_within, inputs_within}
use Rattle.pyd_runs.proofs.Seeing.{AgreeOn, value_same, values_same}

-- what is there
pub some_there : {A : Type 0} (o : Option A) → IsTrue (is_some o) → (a : A) × (o ≡ Some a)
some_there None e = absurd (cc (e))
some_there (Some a) e = (a, refl)

-- what is there under a test, taken apart and put together
pub under_some : {A : Type 0} (b : Bool) (o : Option A) (a : A) → cond b o None ≡ Some a
    → (b ≡ true) × (o ≡ Some a)
under_some true o a e = (refl, e)
under_some false o a e = absurd (cc (e))

pub some_under : {A : Type 0} (b : Bool) (o : Option A) (a : A) → b ≡ true → o ≡ Some a
    → cond b o None ≡ Some a
some_under b o a t e = ap (λ c. cond c o None) t ∙ e

-- arguments that all have values
pub values_there : (given : Given) (args : List Arg) → IsTrue (have_values given args)
    → (vs : List Value) × (values_of given args ≡ Some vs)
values_there given [] e = ([], refl)
values_there given (a ∷ args) e =
    let parts = and_parts (has_value given a) (have_values given args) e in
    let v = some_there (value_of given a) parts.0 in
    let vs = values_there given args parts.1 in (
      v.0 ∷ vs.0,
      ap (λ o. both o (values_of given args)) v.1 ∙ ap (both (Some v.0)) vs.1,
    )

-- the values of arguments, where all are given
pub values_equal : (less more : Given) → IsWithin less more → (args : List Arg)
    → IsTrue (have_values less args) → values_of less args ≡ values_of more args
values_equal less more h args e =
    let vs = values_there less args e in
    vs.1 ∙ sym (values_within less more h args vs.0 vs.1)

-- what is read, where it may be
pub read_equal : (less more : Given) → IsWithin less more → (a : Arg)
    → IsTrue (may_be_read less a) → value_of less a ≡ value_of more a
read_equal less more h (Known v) e = refl
read_equal less more h (From at) e =
    let v = some_there (less at.node at.port) e in v.1 ∙ sym (h at.node at.port v.0 v.1)
read_equal less more h (Slot at) e =
    let v = some_there (less at.node at.port) e in v.1 ∙ sym (h at.node at.port v.0 v.1)
read_equal less more h Unbound e = refl

-- what the work of a node does
pub meaning_equal : (less more : Given) → IsWithin less more → (file : File) (limits : Limits)
    (line depth : ℕ) (w : Work) → IsTrue (has_inputs less w)
    → work_meaning file limits less line depth w ≡ work_meaning file limits more line depth w
meaning_equal less more h file limits line depth (Op op args) e =
    ap (option_map (λ vs. settled (operation op vs line))) (values_equal less more h args e)
meaning_equal less more h file limits line depth (Read arg kind) e =
    ap (λ o. Some (value_or o kind (place_of line))) (read_equal less more h arg e)
meaning_equal less more h file limits line depth (Call func args) e =
    ap (option_map (λ vs. call_at file limits (suc depth) func vs line))
    (values_equal less more h args e)
meaning_equal less more h file limits line depth (Stop fault) e = refl
meaning_equal less more h file limits line depth (Print args) e =
    ap (option_map (λ vs. builtin_called named.Print vs line)) (values_equal less more h args e)
meaning_equal less more h file limits line depth (Run func args) e =
    ap (option_map (λ vs. call_at file limits (suc depth) func vs line))
    (values_equal less more h args e)
meaning_equal less more h file limits line depth (Cond test stmt arm rest env) e = refl
meaning_equal less more h file limits line depth (While test stmt turns rest env) e = refl
meaning_equal less more h file limits line depth (For over stmt turns rest env) e = refl
meaning_equal less more h file limits line depth (Pick test first second env) e = refl
meaning_equal less more h file limits line depth (Enter func args) e = refl

-- what is seen of a leaf
pub leaf_within : (p : Plan) (less more : Given) → IsWithin less more → (n : Node)
    (e : Evaluation Value) → leaf_seen p less n ≡ Some e → leaf_seen p more n ≡ Some e
leaf_within p less more h n e s =
    let parts = under_some (has_inputs less n.work)
    (leaf_meaning p.file (limits_of p) less n) e s in
    some_under (has_inputs more n.work) (leaf_meaning p.file (limits_of p) more n) e
    (inputs_within less more h n.work parts.0)
    (sym (meaning_equal less more h p.file (limits_of p) n.line n.depth n.work parts.0)
    ∙ parts.1)

-- what a pure leaf gives is what is seen of it
pub look_leaf : (p : Plan) (given : Given) (n : Node) (e : Evaluation Value)
    → look p.file (limits_of p) given n ≡ Some e
    → (is_pure n.work ≡ true) × (leaf_seen p given n ≡ Some e)
look_leaf p given n e l =
    let meant = leaf_meaning p.file (limits_of p) given n in
    let parts = under_some (is_pure n.work && has_inputs given n.work) meant e l in
    let tests = and_parts (is_pure n.work) (has_inputs given n.work) parts.0 in
    (tests.0, some_under (has_inputs given n.work) meant e tests.1 parts.1)

pub leaf_look : (p : Plan) (given : Given) (n : Node) (e : Evaluation Value)
    → is_pure n.work ≡ true → leaf_seen p given n ≡ Some e
    → look p.file (limits_of p) given n ≡ Some e
leaf_look p given n e pure s =
    let meant = leaf_meaning p.file (limits_of p) given n in
    let parts = under_some (has_inputs given n.work) meant e s in
    some_under (is_pure n.work && has_inputs given n.work) meant e
    (and_both (is_pure n.work) (has_inputs given n.work) pure parts.0) parts.1

-- the task of a node
pub task_equal : (less more : Given) → IsWithin less more → (w : Work)
    → IsTrue (has_inputs less w) → task_of less w ≡ task_of more w
task_equal less more h (Op op args) e =
    ap (option_map (task.Op op)) (values_equal less more h args e)
task_equal less more h (Read arg kind) e =
    ap (λ o. Some (task.Read o kind)) (read_equal less more h arg e)
task_equal less more h (Call func args) e =
    ap (option_map (task.Call func)) (values_equal less more h args e)
task_equal less more h (Stop fault) e = refl
task_equal less more h (Print args) e = refl
task_equal less more h (Run func args) e =
    ap (option_map (task.Run func)) (values_equal less more h args e)
task_equal less more h (Cond test stmt arm rest env) e = refl
task_equal less more h (While test stmt turns rest env) e = refl
task_equal less more h (For over stmt turns rest env) e = refl
task_equal less more h (Pick test first second env) e = refl
task_equal less more h (Enter func args) e = refl

-- and where the same is given of all that it names
pub task_same : (known : Numbers) (f h : Given) → AgreeOn known f h → (w : Work)
    → AreAmong known (arguments w) → task_of f w ≡ task_of h w
task_same known f h agree (Op op args) among =
    ap (option_map (task.Op op)) (values_same known f h agree args among)
task_same known f h agree (Read arg kind) among =
    ap (λ o. Some (task.Read o kind)) (value_same known f h agree arg among.0)
task_same known f h agree (Call func args) among =
    ap (option_map (task.Call func)) (values_same known f h agree args among)
task_same known f h agree (Stop fault) among = refl
task_same known f h agree (Print args) among = refl
task_same known f h agree (Run func args) among =
    ap (option_map (task.Run func)) (values_same known f h agree args among)
task_same known f h agree (Cond test stmt arm rest env) among = refl
task_same known f h agree (While test stmt turns rest env) among = refl
task_same known f h agree (For over stmt turns rest env) among = refl
task_same known f h agree (Pick test first second env) among = refl
task_same known f h agree (Enter func args) among = refl

-- what is given of some nodes alone
abbrev pub only : Numbers → Given → Given
only known given k port = cond (known k) (given k port) None

pub only_agrees : (known : Numbers) (given : Given) → AgreeOn known given (only known given)
only_agrees known given k is =
    sym (ap (λ b. λ (port : ℕ). cond b (given k port) None) is)

-- arguments name only what all of their names are among
pub among_names : (known : Numbers) (args : List Arg)
    → ((m : ℕ) → AreOf m args → known m ≡ true) → AreAmong known args
among_names known [] h = tt
among_names known (Known v ∷ args) h = (tt, among_names known args (λ m of. h m (inr of)))
among_names known (From at ∷ args) h =
    (h at.node (inl refl), among_names known args (λ m of. h m (inr of)))
among_names known (Slot at ∷ args) h =
    (h at.node (inl refl), among_names known args (λ m of. h m (inr of)))
among_names known (Unbound ∷ args) h = (tt, among_names known args (λ m of. h m (inr of)))

-- what a task of values does
of_values : (file : File) (limits : Limits) (line depth : ℕ) (make : List Value → Task)
    (does : List Value → Evaluation Value)
    → ((vs : List Value) → does vs ≡ task_meaning file limits (make vs) line depth)
    → (o : Option (List Value)) (t : Task) → option_map make o ≡ Some t
    → option_map does o ≡ Some (task_meaning file limits t line depth)
of_values file limits line depth make does same None t e = absurd (cc (e))
of_values file limits line depth make does same (Some vs) t e =
    let z : make vs ≡ t = cc (e) in
    ap (λ x. Some x) (same vs ∙ ap (λ x. task_meaning file limits x line depth) z)

-- what the task of a node does is what the node does
pub task_does : (file : File) (limits : Limits) (given : Given) (line depth : ℕ) (w : Work)
    (t : Task) → task_of given w ≡ Some t
    → work_meaning file limits given line depth w ≡ Some (task_meaning file limits t line depth)
task_does file limits given line depth (Op op args) t e =
    of_values file limits line depth (task.Op op) (λ vs. settled (operation op vs line))
    (λ vs. refl) (values_of given args) t e
task_does file limits given line depth (Read arg kind) t e =
    let z : task.Read (value_of given arg) kind ≡ t = cc (e) in
    ap (λ x. Some (task_meaning file limits x line depth)) z
task_does file limits given line depth (Call func args) t e =
    of_values file limits line depth (task.Call func)
    (λ vs. call_at file limits (suc depth) func vs line)
    (λ vs. refl) (values_of given args) t e
task_does file limits given line depth (Stop fault) t e = absurd (cc (e))
task_does file limits given line depth (Print args) t e = absurd (cc (e))
task_does file limits given line depth (Run func args) t e =
    of_values file limits line depth (task.Run func)
    (λ vs. call_at file limits (suc depth) func vs line)
    (λ vs. refl) (values_of given args) t e
task_does file limits given line depth (Cond test stmt arm rest env) t e = absurd (cc (e))
task_does file limits given line depth (While test stmt turns rest env) t e = absurd (cc (e))
task_does file limits given line depth (For over stmt turns rest env) t e = absurd (cc (e))
task_does file limits given line depth (Pick test first second env) t e = absurd (cc (e))
task_does file limits given line depth (Enter func args) t e = absurd (cc (e))

-- a job of a node does what is seen of it
pub job_seen : (p : Plan) (g : Graph) (k : ℕ) (job : Job) → IsJob p g k job
    → IsSeen p g k (job_ran p.file (limits_of p) job)
job_seen p g k job h = record {
  node = h.node;
  stands = h.stands;
  number = h.number;
  does = job_meaning p.file (limits_of p) job;
  meaning =
      some_under (has_inputs (sight p g) h.node.work)
      (leaf_meaning p.file (limits_of p) (sight p g) h.node)
      (job_meaning p.file (limits_of p) job) h.inputs
      (task_does p.file (limits_of p) (sight p g) h.node.line h.node.depth h.node.work job.task
      h.task
      ∙ ap (λ (line : ℕ). Some (task_meaning p.file (limits_of p) job.task line h.node.depth))
      (sym h.line)
      ∙ ap (λ (depth : ℕ). Some (task_meaning p.file (limits_of p) job.task job.line depth))
      (sym h.depth));
  has_job = ap is_some h.task;
  as_done = refl;
}

-- a call that isn't pure is the task of a node that isn't
mapped_run : (make : List Value → Task) → ((vs : List Value) → is_run (make vs) ≡ false)
    → (o : Option (List Value)) (t : Task) → option_map make o ≡ Some t → IsTrue (is_run t) → ⊥
mapped_run make none None t e run = absurd (cc (e))
mapped_run make none (Some vs) t e run =
    let z : make vs ≡ t = cc (e) in
    let w = none vs in
    let y : is_run (make vs) ≡ true = ap is_run z ∙ run in cc (w, y)

pub run_impure : (given : Given) (w : Work) (t : Task) → task_of given w ≡ Some t
    → IsTrue (is_run t) → is_pure w ≡ false
run_impure given (Op op args) t e run =
    absurd (mapped_run (task.Op op) (λ vs. refl) (values_of given args) t e run)
run_impure given (Read arg kind) t e run =
    let z : task.Read (value_of given arg) kind ≡ t = cc (e) in
    let y : false ≡ true = ap is_run z ∙ run in absurd (cc (y))
run_impure given (Call func args) t e run =
    absurd (mapped_run (task.Call func) (λ vs. refl) (values_of given args) t e run)
run_impure given (Stop fault) t e run = absurd (cc (e))
run_impure given (Print args) t e run = absurd (cc (e))
run_impure given (Run func args) t e run = refl
run_impure given (Cond test stmt arm rest env) t e run = absurd (cc (e))
run_impure given (While test stmt turns rest env) t e run = absurd (cc (e))
run_impure given (For over stmt turns rest env) t e run = absurd (cc (e))
run_impure given (Pick test first second env) t e run = absurd (cc (e))
run_impure given (Enter func args) t e run = absurd (cc (e))
