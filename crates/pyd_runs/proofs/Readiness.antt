-- A node that is ready stays so where more is recorded.
use Rattle.std.proofs.Common.{◌≡◌, ℕ, Bool, true, false, ◌&&◌, ◌||◌, cond, List, [], ◌∷◌, Option, None, Some, is_some, refl, ap, sym, ◌∙◌}
use Rattle.std.specs.Prelude.{IsTrue, option_map}
use Rattle.pyd_value.specs.declared.value.Value.{Value}
use Rattle.pyd_meaning.specs.declared.ran.Ran.{Ran}
use Rattle.pyd_ir.specs.declared.arg.Arg.{Arg}
use Rattle.pyd_ir.specs.declared.arg.Arg.TheVariants.{Known, From, Slot, Unbound}
use Rattle.pyd_ir.specs.declared.node.Node.{Node}
use Rattle.pyd_ir.specs.declared.work.Work.{Work}
use Rattle.pyd_ir.specs.declared.work.Work.TheVariants.{Op, Read, Call, Stop, Print, Run, Cond, While, For, Pick, Enter}
use Rattle.pyd_ir.specs.Arguments.{is_pure}
use Rattle.pyd_ir.specs.Inputs.{Given, value_of, both, values_of, has_value, may_be_read, have_values, has_inputs, task_of}
use Rattle.pyd_runs.specs.Graphs.{Graph, nodes}
use Rattle.pyd_runs.specs.Desks.{Stores}
use Rattle.pyd_runs.specs.Records.{ports_kept, records, recorded, node_at, heads, task_by, job_with, job_by, ready, is_ready}

-- what one gives, the other gives
abbrev pub IsWithin : Given → Given → Type 0
IsWithin less more = (k port : ℕ) (v : Value) → less k port ≡ Some v → more k port ≡ Some v

-- what the first option has, the second has
abbrev pub IsBelow : {A : Type 0} → Option A → Option A → Type 0
IsBelow {A} less more = (a : A) → less ≡ Some a → more ≡ Some a

-- a test of both, taken apart and put together
pub and_parts : (a b : Bool) → IsTrue (a && b) → IsTrue a × IsTrue b
and_parts true b e = (refl, e)
and_parts false b e = absurd (cc (e))

pub and_both : (a b : Bool) → IsTrue a → IsTrue b → IsTrue (a && b)
and_both true b e f = f
and_both false b e f = absurd (cc (e))

-- what is there stays there
pub there : {A : Type 0} (less more : Option A) → IsBelow less more → IsTrue (is_some less)
    → IsTrue (is_some more)
there None more h e = absurd (cc (e))
there (Some a) more h e = ap is_some (h a refl)

-- the value of an argument
pub value_within : (less more : Given) → IsWithin less more → (a : Arg)
    → IsBelow (value_of less a) (value_of more a)
value_within less more h (Known v) w e = e
value_within less more h (From at) w e = h at.node at.port w e
value_within less more h (Slot at) w e = h at.node at.port w e
value_within less more h Unbound w e = e

-- whether it has one
has_within : (less more : Given) → IsWithin less more → (a : Arg) → IsTrue (has_value less a)
    → IsTrue (has_value more a)
has_within less more h a e =
    there (value_of less a) (value_of more a) (value_within less more h a) e

-- whether it may be read
read_within : (less more : Given) → IsWithin less more → (a : Arg)
    → IsTrue (may_be_read less a) → IsTrue (may_be_read more a)
read_within less more h (Known v) e = e
read_within less more h (From at) e = has_within less more h (From at) e
read_within less more h (Slot at) e = has_within less more h (Slot at) e
read_within less more h Unbound e = e

-- whether all have one
have_within : (less more : Given) → IsWithin less more → (args : List Arg)
    → IsTrue (have_values less args) → IsTrue (have_values more args)
have_within less more h [] e = e
have_within less more h (a ∷ args) e =
    let parts = and_parts (has_value less a) (have_values less args) e in
    and_both (has_value more a) (have_values more args)
    (has_within less more h a parts.0) (have_within less more h args parts.1)

-- a value and those of a list
both_within : (a b : Option Value) (us ws : Option (List Value)) → IsBelow a b → IsBelow us ws
    → IsBelow (both a us) (both b ws)
both_within None b us ws h hs w e = absurd (cc (e))
both_within (Some v) b None ws h hs w e = absurd (cc (e))
both_within (Some v) b (Some vs) ws h hs w e = rw (h v refl, hs vs refl) e

-- the values of arguments
pub values_within : (less more : Given) → IsWithin less more → (args : List Arg)
    → IsBelow (values_of less args) (values_of more args)
values_within less more h [] w e = e
values_within less more h (a ∷ args) w e =
    both_within (value_of less a) (value_of more a) (values_of less args) (values_of more args)
    (value_within less more h a) (values_within less more h args) w e

-- what a node waits for
pub inputs_within : (less more : Given) → IsWithin less more → (w : Work)
    → IsTrue (has_inputs less w) → IsTrue (has_inputs more w)
inputs_within less more h (Op op args) e = have_within less more h args e
inputs_within less more h (Read arg kind) e = read_within less more h arg e
inputs_within less more h (Call func args) e = have_within less more h args e
inputs_within less more h (Stop fault) e = e
inputs_within less more h (Print args) e = have_within less more h args e
inputs_within less more h (Run func args) e = have_within less more h args e
inputs_within less more h (Cond test stmt arm rest env) e = has_within less more h test e
inputs_within less more h (While test stmt turns rest env) e = has_within less more h test e
inputs_within less more h (For over stmt turns rest env) e = has_within less more h over e
inputs_within less more h (Pick test first second env) e = has_within less more h test e
inputs_within less more h (Enter func args) e = e

-- whether something is there isn't changed by a function of it
pub some_mapped : {A B : Type 0} (f : A → B) (o : Option A)
    → is_some (option_map f o) ≡ is_some o
some_mapped f None = refl
some_mapped f (Some a) = refl

-- a function of what is there
mapped_there : {A B : Type 0} (f : A → B) (less more : Option A) → IsBelow less more
    → IsTrue (is_some (option_map f less)) → IsTrue (is_some (option_map f more))
mapped_there f less more h e =
    some_mapped f more ∙ there less more h (sym (some_mapped f less) ∙ e)

-- whether there is a task
task_there : (less more : Given) → IsWithin less more → (w : Work)
    → IsTrue (is_some (task_of less w)) → IsTrue (is_some (task_of more w))
task_there less more h (Op op args) e =
    mapped_there _ (values_of less args) (values_of more args) (values_within less more h args) e
task_there less more h (Read arg kind) e = refl
task_there less more h (Call func args) e =
    mapped_there _ (values_of less args) (values_of more args) (values_within less more h args) e
task_there less more h (Stop fault) e = e
task_there less more h (Print args) e = e
task_there less more h (Run func args) e =
    mapped_there _ (values_of less args) (values_of more args) (values_within less more h args) e
task_there less more h (Cond test stmt arm rest env) e = e
task_there less more h (While test stmt turns rest env) e = e
task_there less more h (For over stmt turns rest env) e = e
task_there less more h (Pick test first second env) e = e
task_there less more h (Enter func args) e = e

-- what is there under a test, taken apart and put together
pub under_parts : {A : Type 0} (b : Bool) (o : Option A) → IsTrue (is_some (cond b o None))
    → IsTrue b × IsTrue (is_some o)
under_parts true o e = (refl, e)
under_parts false o e = absurd (cc (e))

under_both : {A : Type 0} (b : Bool) (o : Option A) → IsTrue b → IsTrue (is_some o)
    → IsTrue (is_some (cond b o None))
under_both true o e f = f
under_both false o e f = absurd (cc (e))

-- whether a node has a task that can be done
pub by_within : (less more : Given) → IsWithin less more → (chain : List Node) (n : Node)
    → IsTrue (is_some (task_by chain less n)) → IsTrue (is_some (task_by chain more n))
by_within less more h chain n e =
    let turn = is_pure n.work || heads n.id chain in
    let parts = under_parts (has_inputs less n.work && turn) (task_of less n.work) e in
    let tests = and_parts (has_inputs less n.work) turn parts.0 in
    under_both (has_inputs more n.work && turn) (task_of more n.work)
    (and_both (has_inputs more n.work) turn (inputs_within less more h n.work tests.0) tests.1)
    (task_there less more h n.work parts.1)

-- whether there is a job
job_within : (less more : Given) → IsWithin less more → (chain : List Node) (attempt : ℕ)
    (o : Option Node) → IsTrue (is_some (job_by chain less attempt o))
    → IsTrue (is_some (job_by chain more attempt o))
job_within less more h chain attempt None e = e
job_within less more h chain attempt (Some n) e =
    some_mapped (job_with n attempt) (task_by chain more n)
    ∙ by_within less more h chain n
    (sym (some_mapped (job_with n attempt) (task_by chain less n)) ∙ e)

-- what stands at ports by records
ports_within : (n : Option Node) (less more : Option Ran) → IsBelow less more
    → (port : ℕ) (v : Value) → ports_kept n less port ≡ Some v → ports_kept n more port ≡ Some v
ports_within n None more h port v e = absurd (cc (e))
ports_within n (Some ran) more h port v e =
    ap (λ o. ports_kept n o port) (h ran refl) ∙ e

-- a node that is ready stays so where more is recorded of the same nodes
pub ready_within : (g now : Graph) (stores after : Stores) (k : ℕ) → nodes now ≡ nodes g
    → now.chain ≡ g.chain
    → ((n : ℕ) → IsBelow (records g stores n) (records now after n))
    → IsTrue (is_ready g stores k) → IsTrue (is_ready now after k)
unfolding ready
ready_within g now stores after k same chain more e =
    let within : IsWithin (recorded g stores) (recorded now after)
    = (λ n port v has. ap (λ ns. ports_kept (node_at ns n) (records now after n) port) same
    ∙ ports_within (node_at (nodes g) n) (records g stores n) (records now after n)
    (more n) port v has) in
    ap (λ ns. is_some (job_by ns (recorded now after) 0 (node_at (nodes now) k))) chain
    ∙ ap (λ ns. is_some (job_by g.chain (recorded now after) 0 (node_at ns k))) same
    ∙ job_within (recorded g stores) (recorded now after) within g.chain 0
    (node_at (nodes g) k) e
