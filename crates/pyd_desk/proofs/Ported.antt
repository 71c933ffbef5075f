-- Which nodes are ready, and what stands at ports.
use Rattle.std.proofs.Common.{◌≡◌, ℕ, zero, suc, nat_lt, List, [], ◌∷◌, length, map, slice_get, Bool, true, false, ◌&&◌, ◌||◌, cond, Option, Some, None, option_map, is_some, refl, ap, sym, ◌∙◌, arith}
use Rattle.std.proofs.lemmas.List.{length-map}
use Rattle.std.proofs.lemmas.Bool.Decides.{nat_tests}
use Rattle.pyd_value.specs.declared.value.Value.{Value, Text, Tuple as Tuple_}
use Rattle.pyd_value.proofs.Constructs.{shape_of-text, shape_of-tuple}
use Rattle.pyd_ops.specs.Sequence.{character, item_at, item_in, items_in}
use Rattle.pyd_value.specs.declared.fault.Outcome.{Outcome}
use Rattle.pyd_value.specs.declared.fault.Outcome.TheVariants as outcome
use Rattle.pyd_meaning.specs.declared.ran.Ran.{Ran}
use Rattle.pyd_ir.specs.declared.arg.Arg.{Arg}
use Rattle.pyd_ir.specs.declared.code.OpCode.{OpCode}
use Rattle.pyd_ir.specs.declared.code.OpCode.TheVariants.{Unary, Binary, Compare, Index, Slice, Tuple, Unpack, Len, Abs, Min, Max, Sum, Str, Repr, Int, Bool as Truth, Range, Assert}
use Rattle.pyd_ir.specs.declared.node.Node.{Node}
use Rattle.pyd_ir.specs.declared.work.Work.{Work}
use Rattle.pyd_ir.specs.declared.work.Work.TheVariants.{Op, Read, Call, Stop, Print, Run, Cond, While, For, Pick, Enter}
use Rattle.pyd_ir.specs.Arguments.{is_pure}
use Rattle.pyd_ir.specs.Inputs.{Given, both, value_of, values_of, has_value, have_values, may_be_read, has_inputs, task_of}
use Rattle.pyd_ir.specs.Ports.{op_ports, ports_of}
use Rattle.pyd_runs.specs.Records.{ports_behind, ports_by as ports_given, ports_kept}
use Rattle.pyd_desk.specs.Works.{has_job, op_kind, port_kind}
use Rattle.pyd_desk.specs.Reading.{ports_at, ports_by}
use Rattle.pyd_desk.specs.Lines.{kind_of}

both_there : (v : Option Value) (vs : Option (List Value))
    → is_some (both v vs) ≡ (is_some v && is_some vs)
both_there None vs = refl
both_there (Some v) None = refl
both_there (Some v) (Some vs) = refl

-- all arguments have values where there is a list of them
pub values_there : (given : Given) (args : List Arg)
    → is_some (values_of given args) ≡ have_values given args
values_there given [] = refl
values_there given (a ∷ args) =
    both_there (value_of given a) (values_of given args)
    ∙ ap (λ b. has_value given a && b) (values_there given args)

mapped_there : {A B : Type 0} (f : A → B) (o : Option A) → is_some (option_map f o) ≡ is_some o
mapped_there f None = refl
mapped_there f (Some a) = refl

under : {A : Type 0} (b c : Bool) (o : Option A) → is_some o ≡ b
    → is_some (cond (b && c) o None) ≡ (b && c)
under true true o e = e
under true false o e = refl
under false c o e = refl

under_some : {A : Type 0} (b : Bool) (a : A) → is_some (cond b (Some a) None) ≡ b
under_some true a = refl
under_some false a = refl

under_none : {A : Type 0} (b : Bool) (o : Option A) → o ≡ None
    → is_some (cond b o None) ≡ false
under_none true o none = ap is_some none
under_none false o none = refl

-- a node is ready where it has a job and may be done
pub task_there : (given : Given) (w : Work) (h : Bool)
    → is_some (cond (has_inputs given w && (is_pure w || h)) (task_of given w) None)
    ≡ (has_job w && (has_inputs given w && (is_pure w || h)))
task_there given (Op op args) h =
    under (have_values given args) true _ (mapped_there _ (values_of given args) ∙ values_there given args)
task_there given (Read arg kind) h = under_some (may_be_read given arg && true) _
task_there given (Call func args) h =
    under (have_values given args) true _ (mapped_there _ (values_of given args) ∙ values_there given args)
task_there given (Stop fault) h = refl
task_there given (Print args) h = under_none (have_values given args && h) None refl
task_there given (Run func args) h =
    under (have_values given args) h _ (mapped_there _ (values_of given args) ∙ values_there given args)
task_there given (Cond test stmt arm rest env) h = under_none (has_value given test && h) None refl
task_there given (While test stmt turns rest env) h = under_none (has_value given test && h) None refl
task_there given (For over stmt turns rest env) h = under_none (has_value given over && h) None refl
task_there given (Pick test first second env) h = under_none (has_value given test && h) None refl
task_there given (Enter func args) h = under_none h None refl

op_ports_by : (op : OpCode) (v : Value) → op_ports op v ≡ ports_by (op_kind op) v
op_ports_by (Unary op) v = refl
op_ports_by (Binary op) v = refl
op_ports_by (Compare op) v = refl
op_ports_by Index v = refl
op_ports_by (Slice low high) v = refl
op_ports_by Tuple v = refl
op_ports_by (Unpack count) v = refl
op_ports_by Len v = refl
op_ports_by Abs v = refl
op_ports_by Min v = refl
op_ports_by Max v = refl
op_ports_by Sum v = refl
op_ports_by Str v = refl
op_ports_by Repr v = refl
op_ports_by Int v = refl
op_ports_by Truth v = refl
op_ports_by Range v = refl
op_ports_by Assert v = refl

work_ports_by : (w : Work) (v : Value) → ports_of w v ≡ ports_by (port_kind w) v
work_ports_by (Op op args) v = op_ports_by op v
work_ports_by (Read arg kind) v = refl
work_ports_by (Call func args) v = refl
work_ports_by (Stop fault) v = refl
work_ports_by (Print args) v = refl
work_ports_by (Run func args) v = refl
work_ports_by (Cond test stmt arm rest env) v = refl
work_ports_by (While test stmt turns rest env) v = refl
work_ports_by (For over stmt turns rest env) v = refl
work_ports_by (Pick test first second env) v = refl
work_ports_by (Enter func args) v = refl

behind_by : (n : Option Node) (v : Value) → ports_behind n v ≡ ports_by (kind_of n) v
behind_by None v = refl
behind_by (Some n) v = work_ports_by n.work v

outcome_by : (n : Option Node) (o : Outcome) → ports_given n o ≡ ports_at (kind_of n) (Some o)
outcome_by n (outcome.Ok v) = behind_by n v
outcome_by n (outcome.Fault f) = refl

-- what stands at the ports of a node by its record
pub kept_by : (n : Option Node) (r : Option Ran)
    → ports_kept n r ≡ ports_at (kind_of n) (option_map (λ ran. ran.outcome) r)
kept_by n None = refl
kept_by n (Some ran) = outcome_by n ran.outcome

-- an item stands at each place of a list
item_there : {A : Type 0} (xs : List A) (at : ℕ) → nat_lt at (length xs) ≡ is_some (slice_get xs at)
item_there [] at = grind arith
item_there (x ∷ xs) zero = grind arith
item_there (x ∷ xs) (suc at) =
    let e = item_there xs at in
    let z : nat_lt (suc at) (suc (length xs)) ≡ nat_lt at (length xs) = grind (arith, nat_tests) in
    z ∙ e

-- a value has an item at a place
pub text_item : (s : List ℕ) (at : ℕ) → nat_lt at (length s) ≡ is_some (item_at (Text s) at)
text_item s at =
    ap (nat_lt at) (sym (length-map s character)) ∙ item_there (map character s) at
    ∙ ap (λ x. is_some (item_in (items_in x) at)) (sym (shape_of-text s))

pub tuple_item : (xs : List Value) (at : ℕ) → nat_lt at (length xs) ≡ is_some (item_at (Tuple_ xs) at)
tuple_item xs at =
    item_there xs at ∙ ap (λ x. is_some (item_in (items_in x) at)) (sym (shape_of-tuple xs))
