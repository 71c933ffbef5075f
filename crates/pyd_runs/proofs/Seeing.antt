-- What is seen of nodes: what they gave, or what they do by what is seen.
use Rattle.std.proofs.Common.{◌≡◌, ◌==◌, ℕ, Bool, true, false, ◌&&◌, ◌||◌, cond, List, [], ◌∷◌, None, Some, is_some, inl, refl, ap, sym, ◌∙◌}
use Rattle.std.specs.Prelude.{option_map}
use Rattle.std.specs.List.{AllByRecursion}
use Rattle.std.proofs.lemmas.List.Elements.{All-from_recursion, All-contains}
use Rattle.pyd_value.specs.declared.value.Value.{Value}
use Rattle.pyd_value.specs.declared.operator.Builtin.TheVariants as named
use Rattle.pyd_tree.specs.declared.file.File.{File}
use Rattle.pyd_meaning.specs.declared.limits.Limits.{Limits}
use Rattle.pyd_meaning.specs.Evaluation.{settled}
use Rattle.pyd_meaning.specs.Setting.{place_of, value_or}
use Rattle.pyd_meaning.specs.Calls.{builtin_called}
use Rattle.pyd_meaning.specs.Module.{call_at}
use Rattle.std.specs.Prelude.{suc}
use Rattle.pyd_ir.specs.declared.arg.Arg.{Arg}
use Rattle.pyd_ir.specs.declared.arg.Arg.TheVariants.{Known, From, Slot, Unbound}
use Rattle.pyd_ir.specs.declared.node.Node.{Node}
use Rattle.pyd_ir.specs.declared.work.Work.{Work}
use Rattle.pyd_ir.specs.declared.work.Work.TheVariants.{Op, Read, Call, Stop, Print, Run, Cond, While, For, Pick, Enter}
use Rattle.pyd_ir.specs.Arguments.{arguments}
use Rattle.pyd_ir.specs.Inputs.{Given, value_of, both, values_of, may_be_read, have_values, has_inputs, work_meaning, leaf_meaning}
use Rattle.pyd_ir.specs.Operation.{operation}
use Rattle.pyd_ir.specs.Ports.{Ports}
use Rattle.pyd_translate.specs.Naming.{Numbers, IsAmong, AreAmong}
use Rattle.pyd_translate.specs.Walk.{give}
use Rattle.pyd_refine.specs.Ordering.{IsOrdered, and_one}
use Rattle.pyd_runs.specs.Plans.{Plan, limits_of}
use Rattle.pyd_runs.specs.Graphs.{Graph}
use Rattle.pyd_runs.specs.Sound.{IsGraphSound, IsFresh, ports_seen, leaf_seen, seen, sight, stands, is_over}
use Rattle.pyd_runs.specs.Laws.{SightLaw}
use Rattle.pyd_runs.proofs.Putting.{put_same, put_else, same_test, test_other, none_apart}

-- two that give the same of known nodes
abbrev pub AgreeOn : Numbers → Given → Given → Type 0
AgreeOn known f h = (k : ℕ) → known k ≡ true → f k ≡ h k

-- the value of an argument
pub value_same : (known : Numbers) (f h : Given) → AgreeOn known f h → (a : Arg) → IsAmong known a
    → value_of f a ≡ value_of h a
value_same known f h agree (Known v) among = refl
value_same known f h agree (From at) among =
    ap (λ (ports : Ports). ports at.port) (agree at.node among)
value_same known f h agree (Slot at) among =
    ap (λ (ports : Ports). ports at.port) (agree at.node among)
value_same known f h agree Unbound among = refl

-- whether it may be read
read_same : (known : Numbers) (f h : Given) → AgreeOn known f h → (a : Arg) → IsAmong known a
    → may_be_read f a ≡ may_be_read h a
read_same known f h agree (Known v) among = refl
read_same known f h agree (From at) among =
    ap (λ (ports : Ports). is_some (ports at.port)) (agree at.node among)
read_same known f h agree (Slot at) among =
    ap (λ (ports : Ports). is_some (ports at.port)) (agree at.node among)
read_same known f h agree Unbound among = refl

-- the values of arguments
pub values_same : (known : Numbers) (f h : Given) → AgreeOn known f h → (args : List Arg)
    → AreAmong known args → values_of f args ≡ values_of h args
values_same known f h agree [] among = refl
values_same known f h agree (a ∷ args) among =
    ap (λ o. both o (values_of f args)) (value_same known f h agree a among.0)
    ∙ ap (both (value_of h a)) (values_same known f h agree args among.1)

-- whether all have values
have_same : (known : Numbers) (f h : Given) → AgreeOn known f h → (args : List Arg)
    → AreAmong known args → have_values f args ≡ have_values h args
have_same known f h agree [] among = refl
have_same known f h agree (a ∷ args) among =
    ap (λ o. is_some o && have_values f args) (value_same known f h agree a among.0)
    ∙ ap (λ b. is_some (value_of h a) && b) (have_same known f h agree args among.1)

-- what a node waits for
pub inputs_same : (known : Numbers) (f h : Given) → AgreeOn known f h → (w : Work)
    → AreAmong known (arguments w) → has_inputs f w ≡ has_inputs h w
inputs_same known f h agree (Op op args) among = have_same known f h agree args among
inputs_same known f h agree (Read arg kind) among = read_same known f h agree arg among.0
inputs_same known f h agree (Call func args) among = have_same known f h agree args among
inputs_same known f h agree (Stop fault) among = refl
inputs_same known f h agree (Print args) among = have_same known f h agree args among
inputs_same known f h agree (Run func args) among = have_same known f h agree args among
inputs_same known f h agree (Cond test stmt arm rest env) among =
    ap is_some (value_same known f h agree test among.0)
inputs_same known f h agree (While test stmt turns rest env) among =
    ap is_some (value_same known f h agree test among.0)
inputs_same known f h agree (For over stmt turns rest env) among =
    ap is_some (value_same known f h agree over among.0)
inputs_same known f h agree (Pick test first second env) among =
    ap is_some (value_same known f h agree test among.0)
inputs_same known f h agree (Enter func args) among = refl

-- what a leaf does
meaning_same : (known : Numbers) (f h : Given) → AgreeOn known f h → (file : File)
    (limits : Limits) (line depth : ℕ) (w : Work) → AreAmong known (arguments w)
    → work_meaning file limits f line depth w ≡ work_meaning file limits h line depth w
meaning_same known f h agree file limits line depth (Op op args) among =
    ap (option_map (λ vs. settled (operation op vs line))) (values_same known f h agree args among)
meaning_same known f h agree file limits line depth (Read arg kind) among =
    ap (λ o. Some (value_or o kind (place_of line))) (value_same known f h agree arg among.0)
meaning_same known f h agree file limits line depth (Call func args) among =
    ap (option_map (λ vs. call_at file limits (suc depth) func vs line))
    (values_same known f h agree args among)
meaning_same known f h agree file limits line depth (Stop fault) among = refl
meaning_same known f h agree file limits line depth (Print args) among =
    ap (option_map (λ vs. builtin_called named.Print vs line))
    (values_same known f h agree args among)
meaning_same known f h agree file limits line depth (Run func args) among =
    ap (option_map (λ vs. call_at file limits (suc depth) func vs line))
    (values_same known f h agree args among)
meaning_same known f h agree file limits line depth (Cond test stmt arm rest env) among = refl
meaning_same known f h agree file limits line depth (While test stmt turns rest env) among = refl
meaning_same known f h agree file limits line depth (For over stmt turns rest env) among = refl
meaning_same known f h agree file limits line depth (Pick test first second env) among = refl
meaning_same known f h agree file limits line depth (Enter func args) among = refl

-- what is seen of a leaf
pub leaf_same : (p : Plan) (known : Numbers) (f h : Given) → AgreeOn known f h → (n : Node)
    → AreAmong known (arguments n.work) → leaf_seen p f n ≡ leaf_seen p h n
leaf_same p known f h agree n among =
    ap (λ b. cond b (leaf_meaning p.file (limits_of p) f n) None)
    (inputs_same known f h agree n.work among)
    ∙ ap (λ o. cond (has_inputs h n.work) o None)
    (meaning_same known f h agree p.file (limits_of p) n.line n.depth n.work among)

-- the second of two tests that is met, and both where neither is
pub or_second : (a b : Bool) → b ≡ true → (a || b) ≡ true
or_second true b e = refl
or_second false b e = e

pub or_neither : (a b : Bool) → (a || b) ≡ false → (a ≡ false) × (b ≡ false)
or_neither true b e = absurd (cc (e))
or_neither false b e = (refl, e)

-- what is known is fresh in an ordered list
pub known_fresh : (known : Numbers) (next : ℕ) (ns : List Node) (k : ℕ) → IsOrdered known next ns
    → known k ≡ true → IsFresh k ns
known_fresh known next [] k ordered is = tt
known_fresh known next (n ∷ ns) k ordered is = (
  (λ same. none_true (known k) is (ap known (sym same) ∙ ordered.1)),
  known_fresh (and_one known n.id) next ns k ordered.3 (or_second (k == n.id) (known k) is),
)
  where
    none_true : (b : Bool) → b ≡ true → b ≡ false → ⊥
    none_true b t f = absurd (cc (t, f))

-- what no node of a list has as its number is fresh
pub unseen_fresh : (k : ℕ) (ns : List Node) → stands k ns ≡ false → IsFresh k ns
unseen_fresh k [] e = tt
unseen_fresh k (n ∷ ns) e =
    let parts = or_neither (n.id == k) (stands k ns) e in
    (test_other n.id k parts.0, unseen_fresh k ns parts.1)

-- what isn't in the list stays
pub seen_else : (p : Plan) (given : Given) (ns : List Node) (k : ℕ) → IsFresh k ns
    → seen p given ns k ≡ given k
unfolding seen
seen_else p given [] k fresh = refl
seen_else p given (n ∷ ns) k fresh =
    let new : Ports = ports_seen n (leaf_seen p given n) in
    seen_else p (give n.id new given) ns k fresh.1
    ∙ put_else given n.id new k (λ same. fresh.0 (sym same))

-- what is seen of a node of the list is what it does by what is seen
pub seen_fixed : (p : Plan) (known : Numbers) (next : ℕ) (given : Given) (ns : List Node)
    → IsOrdered known next ns
    → AllByRecursion (λ (n : Node).
    seen p given ns n.id ≡ ports_seen n (leaf_seen p (seen p given ns) n)) ns
unfolding seen
seen_fixed p known next given [] ordered = tt
seen_fixed p known next given (n ∷ ns) ordered =
    let new : Ports = ports_seen n (leaf_seen p given n) in
    let more : Given = give n.id new given in
    let all : Given = seen p more ns in
    let one : and_one known n.id n.id ≡ true = ap (λ b. b || known n.id) (same_test n.id n.id refl) in
    let here : all n.id ≡ new
    = seen_else p more ns n.id (known_fresh (and_one known n.id) next ns n.id ordered.3 one)
    ∙ put_same given n.id new n.id refl in
    let agree : AgreeOn known given all = (λ k is.
    sym (seen_else p given (n ∷ ns) k (known_fresh known next (n ∷ ns) k ordered is))) in (
      here ∙ ap (ports_seen n) (leaf_same p known given all agree n ordered.2),
      seen_fixed p (and_one known n.id) next more ns ordered.3,
    )

-- what was given is seen
given_seen : (p : Plan) (g : Graph) → IsGraphSound p g → (k port : ℕ) (v : Value)
    → g.given k port ≡ Some v → sight p g k port ≡ Some v
given_seen p g sound k port v e = by_place (stands k g.chain) refl
  where
    by_place : (b : Bool) → stands k g.chain ≡ b → sight p g k port ≡ Some v
    by_place true here =
        absurd (none_apart (g.given k port) v (sound.blank k port (inl here)) e)
    by_place false away =
        ap (λ (ports : Ports). ports port) (seen_else p g.given g.chain k (unseen_fresh k g.chain away))
        ∙ e

-- the law
pub sight_fixed : SightLaw
sight_fixed p g sound =
    let P : Node → Type 0 = (λ n. sight p g n.id ≡ ports_seen n (leaf_seen p (sight p g) n)) in
    record {
      given = given_seen p g sound;
      chain = λ n at port. ap (λ (ports : Ports). ports port)
          (All-contains P g.chain n (All-from_recursion P g.chain
          (seen_fixed p (is_over g) g.next g.given g.chain sound.listed)) at);
    }
