-- What a walk does at a leaf.
use Rattle.std.proofs.Common.{◌≡◌, ℕ, false, List, [], ◌∷◌, ◌++◌, Option, None, Some, is_some, refl, ap, sym, ◌∙◌}
use Rattle.std.specs.Prelude.{IsTrue, Result, Ok, Err, option_map}
use Rattle.std.proofs.lemmas.List.{append-nil}
use Rattle.pyd_value.specs.declared.value.Value.{Value}
use Rattle.pyd_value.specs.declared.fault.Fault.{Fault}
use Rattle.pyd_value.specs.declared.fault.Kind.{Kind}
use Rattle.pyd_tree.specs.declared.file.File.{File}
use Rattle.pyd_meaning.specs.declared.limits.Limits.{Limits}
use Rattle.pyd_meaning.specs.Evaluation.{Evaluation, settled, gives, go_on, ◌>>=◌}
use Rattle.pyd_meaning.specs.Setting.{Place, place_of, value_or}
use Rattle.pyd_ir.specs.declared.arg.Arg.{Arg}
use Rattle.pyd_ir.specs.declared.arg.Arg.TheVariants.{Known, From, Slot, Unbound}
use Rattle.pyd_ir.specs.declared.node.Node.{Node}
use Rattle.pyd_ir.specs.declared.work.Work.{Work}
use Rattle.pyd_ir.specs.declared.work.Work.TheVariants.{Op, Read, Call, Stop, Print, Run, Cond, While, For, Pick, Enter}
use Rattle.pyd_ir.specs.Arguments.{is_pure}
use Rattle.pyd_ir.specs.Inputs.{Given, value_of, both, values_of, has_value, may_be_read, have_values, has_inputs, work_meaning, leaf_meaning}
use Rattle.pyd_ir.specs.Ports.{Ports, only_port, ports_of}
use Rattle.pyd_translate.specs.Walk.{give, if_there, count_leaf, leaf_ports, work_ports, walk}
use Rattle.pyd_translate.proofs.Sequencing.{then-ok, then-err}
use Rattle.pyd_runs.proofs.Readiness.{some_mapped, and_both}

-- a value and those of a list are there where both are
both_there : (o : Option Value) (os : Option (List Value)) → IsTrue (is_some (both o os))
    → IsTrue (is_some o) × IsTrue (is_some os)
both_there None os e = absurd (cc (e))
both_there (Some v) None e = absurd (cc (e))
both_there (Some v) (Some vs) e = (refl, refl)

-- arguments whose values are there all have values
have_there : (given : Given) (args : List Arg) → IsTrue (is_some (values_of given args))
    → IsTrue (have_values given args)
have_there given [] e = refl
have_there given (a ∷ args) e =
    let parts = both_there (value_of given a) (values_of given args) e in
    and_both (has_value given a) (have_values given args) parts.0
    (have_there given args parts.1)

-- so do those of what was made of them
have_mapped : {A : Type 0} (given : Given) (args : List Arg) (f : List Value → A) (a : A)
    → option_map f (values_of given args) ≡ Some a → IsTrue (have_values given args)
have_mapped given args f a e =
    have_there given args (sym (some_mapped f (values_of given args)) ∙ ap is_some e)

-- what is read and gives a value has one
value_read : (o : Option Value) (kind : Kind) (at : Place) (e : Evaluation Value) (v : Value)
    → value_or o kind at ≡ e → e.result ≡ Ok v → IsTrue (is_some o)
unfolding settled
value_read (Some w) kind at e v is gave = refl
value_read None kind at e v is gave =
    let z = ap (λ (x : Evaluation Value). x.result) is ∙ gave in absurd cc

may_read : (given : Given) (a : Arg) (kind : Kind) (at : Place) (e : Evaluation Value) (v : Value)
    → value_or (value_of given a) kind at ≡ e → e.result ≡ Ok v → IsTrue (may_be_read given a)
may_read given (Known w) kind at e v is gave = refl
may_read given (From r) kind at e v is gave =
    value_read (given r.node r.port) kind at e v is gave
may_read given (Slot r) kind at e v is gave =
    value_read (given r.node r.port) kind at e v is gave
may_read given Unbound kind at e v is gave = refl

-- a leaf that gives a value has its inputs
pub value_inputs : (file : File) (limits : Limits) (given : Given) (line depth : ℕ) (w : Work)
    (e : Evaluation Value) (v : Value)
    → work_meaning file limits given line depth w ≡ Some e → e.result ≡ Ok v
    → IsTrue (has_inputs given w)
value_inputs file limits given line depth (Op op args) e v is gave =
    have_mapped given args _ e is
value_inputs file limits given line depth (Read arg kind) e v is gave =
    may_read given arg kind (place_of line) e v (cc (is)) gave
value_inputs file limits given line depth (Call func args) e v is gave =
    have_mapped given args _ e is
value_inputs file limits given line depth (Stop fault) e v is gave = refl
value_inputs file limits given line depth (Print args) e v is gave =
    have_mapped given args _ e is
value_inputs file limits given line depth (Run func args) e v is gave =
    have_mapped given args _ e is
value_inputs file limits given line depth (Cond test stmt arm rest env) e v is gave =
    absurd (cc (is))
value_inputs file limits given line depth (While test stmt turns rest env) e v is gave =
    absurd (cc (is))
value_inputs file limits given line depth (For over stmt turns rest env) e v is gave =
    absurd (cc (is))
value_inputs file limits given line depth (Pick test first second env) e v is gave =
    absurd (cc (is))
value_inputs file limits given line depth (Enter func args) e v is gave = absurd (cc (is))

-- an effect has one port
pub effect_ports : (file : File) (limits : Limits) (given : Given) (line depth : ℕ) (w : Work)
    (e : Evaluation Value) (v : Value)
    → work_meaning file limits given line depth w ≡ Some e → is_pure w ≡ false
    → ports_of w v ≡ only_port v
effect_ports file limits given line depth (Op op args) e v is impure = absurd (cc (impure))
effect_ports file limits given line depth (Read arg kind) e v is impure = absurd (cc (impure))
effect_ports file limits given line depth (Call func args) e v is impure = absurd (cc (impure))
effect_ports file limits given line depth (Stop fault) e v is impure = absurd (cc (impure))
effect_ports file limits given line depth (Print args) e v is impure = refl
effect_ports file limits given line depth (Run func args) e v is impure = refl
effect_ports file limits given line depth (Cond test stmt arm rest env) e v is impure =
    absurd (cc (is))
effect_ports file limits given line depth (While test stmt turns rest env) e v is impure =
    absurd (cc (is))
effect_ports file limits given line depth (For over stmt turns rest env) e v is impure =
    absurd (cc (is))
effect_ports file limits given line depth (Pick test first second env) e v is impure =
    absurd (cc (is))
effect_ports file limits given line depth (Enter func args) e v is impure = absurd (cc (is))

-- a walk comes to what the leaf does
leaf_work : (file : File) (limits : Limits) (given : Given) (node : Node) (w : Work)
    (e : Evaluation Value)
    → work_meaning file limits given node.line node.depth w ≡ Some e
    → work_ports file limits w node given ≡ leaf_ports file limits node given
leaf_work file limits given node (Op op args) e is = refl
leaf_work file limits given node (Read arg kind) e is = refl
leaf_work file limits given node (Call func args) e is = refl
leaf_work file limits given node (Stop fault) e is = refl
leaf_work file limits given node (Print args) e is = refl
leaf_work file limits given node (Run func args) e is = refl
leaf_work file limits given node (Cond test stmt arm rest env) e is = absurd (cc (is))
leaf_work file limits given node (While test stmt turns rest env) e is = absurd (cc (is))
leaf_work file limits given node (For over stmt turns rest env) e is = absurd (cc (is))
leaf_work file limits given node (Pick test first second env) e is = absurd (cc (is))
leaf_work file limits given node (Enter func args) e is = absurd (cc (is))

-- the ports of a leaf's value
abbrev pub made_ports : Node → Value → Evaluation Ports
made_ports node v = gives (ports_of node.work v)

-- what it does, by what it means
pub leaf_as : (file : File) (limits : Limits) (given : Given) (node : Node) (e : Evaluation Value)
    (r : Result Value Fault)
    → leaf_meaning file limits given node ≡ Some e → e.result ≡ r
    → work_ports file limits node.work node given ≡ go_on e.lines 1 r (made_ports node)
unfolding ◌>>=◌
leaf_as file limits given node e r meant gave =
    leaf_work file limits given node node.work e meant
    ∙ ap (λ (o : Option (Evaluation Value)).
    count_leaf (if_there o node.line (λ d. d)) >>= made_ports node) meant
    ∙ ap (λ (x : Result Value Fault). go_on e.lines 1 x (made_ports node)) gave

-- a leaf that gives a value
pub leaf_ok : (file : File) (limits : Limits) (given : Given) (node : Node) (e : Evaluation Value)
    (v : Value)
    → leaf_meaning file limits given node ≡ Some e → e.result ≡ Ok v
    → ((work_ports file limits node.work node given).lines ≡ e.lines)
    × ((work_ports file limits node.work node given).result ≡ Ok (ports_of node.work v))
unfolding settled
leaf_ok file limits given node e v meant gave =
    let same = leaf_as file limits given node e (Ok v) meant gave in (
      ap (λ (x : Evaluation Ports). x.lines) same ∙ append-nil e.lines,
      ap (λ (x : Evaluation Ports). x.result) same,
    )

-- and one that ends at a fault
pub leaf_err : (file : File) (limits : Limits) (given : Given) (node : Node) (e : Evaluation Value)
    (f : Fault)
    → leaf_meaning file limits given node ≡ Some e → e.result ≡ Err f
    → ((work_ports file limits node.work node given).lines ≡ e.lines)
    × ((work_ports file limits node.work node given).result ≡ Err f)
leaf_err file limits given node e f meant gave =
    let same = leaf_as file limits given node e (Err f) meant gave in (
      ap (λ (x : Evaluation Ports). x.lines) same,
      ap (λ (x : Evaluation Ports). x.result) same,
    )

-- a walk whose first node gives a value
pub walk_ok : (file : File) (limits : Limits) (given : Given) (node : Node) (rest : List Node)
    (e : Evaluation Value) (v : Value)
    → leaf_meaning file limits given node ≡ Some e → e.result ≡ Ok v
    → ((walk file limits (node ∷ rest) given).lines
    ≡ e.lines ++ (walk file limits rest (give node.id (ports_of node.work v) given)).lines)
    × ((walk file limits (node ∷ rest) given).result
    ≡ (walk file limits rest (give node.id (ports_of node.work v) given)).result)
unfolding walk
walk_ok file limits given node rest e v meant gave =
    let next : Ports → Evaluation Given = λ ports. walk file limits rest (give node.id ports given) in
    let does = leaf_ok file limits given node e v meant gave in
    let all = then-ok (work_ports file limits node.work node given) (ports_of node.work v) next
    does.1 in (
      ap (λ (x : Evaluation Given). x.lines) all
          ∙ ap (λ (lines : List (List ℕ)). lines ++ (next (ports_of node.work v)).lines) does.0,
      ap (λ (x : Evaluation Given). x.result) all,
    )

-- and one whose first node ends at a fault
pub walk_err : (file : File) (limits : Limits) (given : Given) (node : Node) (rest : List Node)
    (e : Evaluation Value) (f : Fault)
    → leaf_meaning file limits given node ≡ Some e → e.result ≡ Err f
    → ((walk file limits (node ∷ rest) given).lines ≡ e.lines)
    × ((walk file limits (node ∷ rest) given).result ≡ Err f)
unfolding walk
walk_err file limits given node rest e f meant gave =
    let next : Ports → Evaluation Given = λ ports. walk file limits rest (give node.id ports given) in
    let does = leaf_err file limits given node e f meant gave in
    let all = then-err (work_ports file limits node.work node given) f next does.1 in (
      ap (λ (x : Evaluation Given). x.lines) all ∙ does.0,
      ap (λ (x : Evaluation Given). x.result) all,
    )
