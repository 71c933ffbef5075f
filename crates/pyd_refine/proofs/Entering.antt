-- The piece of an Enter takes its place: the body of its function with new slots.
use Rattle.std.proofs.Common.{◌≡◌, ℕ, zero, suc, ◌-◌, ◌≤◌, ◌<◌, List, [], ◌∷◌, ◌++◌, length, map, nat_eq, Bool, true, false, if◌then◌else◌, Option, Some, None, refl, sym, ap, subst, ◌∙◌, arith}
use Rattle.std.specs.Prelude.{◌||◌}
use Rattle.std.proofs.lemmas.Bool.Decides.{nat_tests}
use Rattle.std.proofs.lemmas.List.Folds.{list_any-append}
use Rattle.pyd_value.specs.declared.value.Value.{Value}
use Rattle.pyd_value.specs.declared.fault.Fault.TheVariants.{Raised, Limit}
use Rattle.pyd_value.specs.declared.fault.Limit.TheVariants.{Depth}
use Rattle.pyd_value.specs.declared.fault.Kind.TheVariants.{NameError, TypeError}
use Rattle.pyd_tree.specs.declared.file.File.{File}
use Rattle.pyd_tree.specs.declared.file.Func.{Func}
use Rattle.pyd_tree.specs.declared.statement.Block.{out-Block}
use Rattle.pyd_names.specs.Binding.{locals, locals_in, function, same_name, is_among, bindings, names_of as bound_names}
use Rattle.pyd_names.proofs.Names.{is_same}
use Rattle.pyd_names.proofs.Turns.{is_among-distinct}
use Rattle.pyd_meaning.specs.declared.limits.Limits.{Limits}
use Rattle.pyd_meaning.specs.Evaluation.{Evaluation, gives, ◌>>=◌}
use Rattle.pyd_meaning.specs.Names.{Names, no_names, bind, bind_all}
use Rattle.pyd_meaning.specs.Setting.{place_of, raises, exceeds}
use Rattle.pyd_meaning.specs.Completion.{Completion, Normal, Break, Continue, Return, value_after}
use Rattle.pyd_meaning.specs.Statement.{block_action}
use Rattle.pyd_meaning.specs.Module.{setting_of, setting_at, with_function, body_value, call_within, call_at}
use Rattle.pyd_meaning.proofs.Calls.{functions}
use Rattle.pyd_meaning.proofs.Sequencing.{gives-then, faults-then, then-then}
use Rattle.pyd_meaning.proofs.Statements.{suite}
use Rattle.pyd_ir.specs.declared.arg.Arg.{Arg}
use Rattle.pyd_ir.specs.Inputs.{Given, both, values_of}
use Rattle.pyd_ir.specs.Ports.{Ports, only_port}
use Rattle.pyd_scope.specs.Numbering.{body, body_of}
use Rattle.pyd_translate.specs.declared.at.Start.TheVariants as start
use Rattle.pyd_translate.specs.Making.{Context, stop_by}
use Rattle.pyd_translate.specs.Slots.{set_slot, unbound_slots}
use Rattle.pyd_translate.specs.Statements.{context}
use Rattle.pyd_translate.specs.Walk.{acts, rested, then_rest, if_there, count_composite}
use Rattle.pyd_translate.specs.Matching.{AreSlots, HaveValues, Matches}
use Rattle.pyd_translate.proofs.Slots.{slots_bind, slots_unbound}
use Rattle.pyd_refine.specs.Composites.{started, with_parameters, body_refined, function_refined}
use Rattle.pyd_refine.proofs.Ordering.{second-true, test-equal}
use Rattle.pyd_refine.proofs.Ports.{AreImages}
use Rattle.pyd_refine.proofs.Pieces.{Replaces, takes-place, only-returned}
use Rattle.pyd_refine.proofs.Starting.{started-does}
use Rattle.pyd_refine.proofs.Translated.{AreListed}
use Rattle.pyd_refine.proofs.Sides.{stop-takes}

-- arguments that have values, as many as they are
values-there : (ids : ℕ) (given : Given) (args : List Arg) → HaveValues ids given args
    → (vs : List Value) × (values_of given args ≡ Some vs) × (length vs ≡ length args)
values-there ids given [] p = ([], refl, refl)
values-there ids given (a ∷ args) p =
    let more = values-there ids given args p.1 in
    (p.0.0 ∷ more.0, (λ i. both (p.0.1.0 i) (more.1 i)), ap suc more.2)

-- parameters that are slots take arguments that have values
bound-slots : (slots : List (List ℕ)) (ids : ℕ) (given : Given) (ps : List (List ℕ)) (args : List Arg)
    (env : List Arg) (names : Names)
    → AreListed slots ps → HaveValues ids given args → length ps ≡ length args → AreSlots slots ids given env names
    → (vs : List Value) × (bound : Names) × (values_of given args ≡ Some vs)
    × (bind_all names ps vs ≡ Some bound)
    × AreSlots slots ids given (with_parameters slots env ps args) bound
bound-slots slots ids given [] [] env names l p e s = ([], names, refl, refl, s)
bound-slots slots ids given [] (a ∷ args) env names l p e s = absurd (omega (arith, e))
bound-slots slots ids given (x ∷ ps) [] env names l p e s = absurd (omega (arith, e))
bound-slots slots ids given (x ∷ ps) (a ∷ args) env names l p e s =
    let v = p.0.0 in
    let fewer : length ps ≡ length args = omega (arith, e) in
    let more =
    bound-slots slots ids given ps args (set_slot slots env x a) (bind names x v) l.1 p.1 fewer
    (slots_bind slots ids given env names x a v l.0 s p.0.1) in
    (v ∷ more.0, more.1, (λ i. both (p.0.1.0 i) (more.2 i)), more.3, more.4)

-- names that are among others are listed there
listed-from : (slots ps : List (List ℕ)) → ((n : List ℕ) → is_among ps n ≡ true → is_among slots n ≡ true)
    → AreListed slots ps
listed-from slots [] f = tt
listed-from slots (p ∷ ps) f = (
  f p (ap (λ b. b || is_among ps p) (is_same p p refl)),
  listed-from slots ps (λ n e. f n (second-true (same_name n p) (is_among ps n) e)),
)

-- the parameters of a function are slots of its routine
params-listed : (file : File) (func : ℕ) (f : Func) → function file func ≡ Some f
    → AreListed (locals file func) (map (λ p. p.1) f.params)
params-listed file zero f e = absurd (cc e)
params-listed file (suc k) f e =
    let ps = map (λ p. p.1) f.params in
    let bs = bound_names (bindings f.body) in
    subst (λ (o : Option Func). AreListed (locals_in o) ps) (sym e)
    (listed-from (locals_in (Some f)) ps (λ n q.
    is_among-distinct (ps ++ bs) n ∙ list_any-append (same_name n) ps bs ∙ ap (λ b. b || is_among bs n) q))

-- the statements of a function's routine are its body's
body-found : (file : File) (func : ℕ) (f : Func) → function file func ≡ Some f
    → body file func ≡ (out-Block f.body).stmts
body-found file zero f e = absurd (cc e)
body-found file (suc k) f e = ap body_of e

-- a call of a function that isn't there
not-found : (file : File) (limits : Limits) (depths func line : ℕ) (vs : List Value) → function file func ≡ None
    → call_within file limits depths func vs line ≡ raises NameError (place_of line)
unfolding call_within
not-found file limits zero func line vs e =
    ap (λ o. with_function o vs line (λ f names. exceeds Depth (place_of line))) e
not-found file limits (suc depths) func line vs e =
    ap (λ o. with_function o vs line (body_value (setting_of file limits func (call_within file limits depths)))) e

module _ (file : File) (limits : Limits) (func : ℕ) (args : List Arg) (routine depth line ids : ℕ)
    (given : Given) (have : HaveValues ids given args) where
  -- the call
  abbrev called : List Value → Evaluation Ports
  called vs = call_at file limits (suc depth) func vs line >>= (λ u. gives (only_port u))

  -- where the nodes are made
  abbrev at : Context
  at = context routine depth line []

  -- the value of a body that was left
  body-value : (c : Completion) (names : Names)
      → (rested file limits func (suc depth) given [] c names >>= (λ fin. gives (only_port fin.value)))
      ≡ (gives (value_after c) >>= (λ u. gives (only_port u)))
  unfolding rested
  body-value Normal names = gives-then _ (λ fin. gives (only_port fin.value)) ∙ sym (gives-then (value_after Normal) (λ u. gives (only_port u)))
  body-value Break names = gives-then _ (λ fin. gives (only_port fin.value)) ∙ sym (gives-then (value_after Break) (λ u. gives (only_port u)))
  body-value Continue names = gives-then _ (λ fin. gives (only_port fin.value)) ∙ sym (gives-then (value_after Continue) (λ u. gives (only_port u)))
  body-value (Return v) names = gives-then _ (λ fin. gives (only_port fin.value)) ∙ sym (gives-then v (λ u. gives (only_port u)))

  module _ (f : Func) (found : function file func ≡ Some f) where
    -- the body does what the call does
    body-does : (bound : Names) (vs : List Value) → bind_all no_names (map (λ p. p.1) f.params) vs ≡ Some bound
        → suc depth ≤ limits.depth
        → ((acts (setting_at file limits func (suc depth)) (body file func) bound
        >>= then_rest file limits func (suc depth) given []) >>= (λ fin. gives (only_port fin.value)))
        ≡ called vs
    body-does bound vs some within =
        let setting = setting_at file limits func (suc depth) in
        then-then (acts setting (body file func) bound) (then_rest file limits func (suc depth) given []) (λ fin. gives (only_port fin.value))
        ∙ (λ i. acts setting (body-found file func f found i) bound >>= (λ r. body-value r.completion r.names i))
        ∙ ap (λ e. e >>= (λ r. gives (value_after r.completion) >>= (λ u. gives (only_port u)))) (sym (suite setting f.body bound))
        ∙ sym (then-then (block_action setting f.body bound) (λ r. gives (value_after r.completion)) (λ u. gives (only_port u)))
        ∙ ap (λ e. e >>= (λ u. gives (only_port u)))
        (sym (functions.body file limits (suc depth) func line f vs bound found some within))

    -- with so many depths left
    body-takes : (left : ℕ) → limits.depth - depth ≡ left → length args ≡ length f.params
        → (vs : List Value) → values_of given args ≡ Some vs → length vs ≡ length args
        → Replaces file limits ids given (body_refined file left func f args at ids) (count_composite 0 (called vs))
    body-takes zero e even vs are many =
        let above : limits.depth < suc depth = omega (arith, e) in
        stop-takes file limits ids 0 given at (Limit Depth line) (called vs)
        (ap (λ m. m >>= (λ u. gives (only_port u)))
        (functions.deep file limits (suc depth) func line f vs found (sym even ∙ sym many) above)
        ∙ faults-then (Limit Depth line) (λ u. gives (only_port u)))
    body-takes (suc left) e even vs are many =
        let slots = locals file func in
        let ps = map (λ p. p.1) f.params in
        let within : suc depth ≤ limits.depth = omega (arith, e) in
        let b =
        bound-slots slots ids given ps args (unbound_slots slots) no_names
        (params-listed file func f found) have (names-many f.params ∙ sym even) (slots_unbound slots ids given) in
        let same : b.0 ≡ vs = values-same b.0 vs (sym b.2 ∙ are) in
        let env = with_parameters slots (unbound_slots slots) ps args in
        takes-place file limits 0 ids given 0 _ (called vs) (omega arith)
        (subst (λ m. Matches file limits 0 ids given (body_refined file (suc left) func f args at ids) m AreImages)
        (body-does b.1 vs (ap (bind_all no_names ps) (sym same) ∙ b.3) within)
        (only-returned file limits 0 ids given slots (started file func (suc depth) start.Body [] env) _
        (started-does file limits func (suc depth) start.Body [] ids given env b.1 tt b.4)))
      where
        names-many : (ps : List (ℕ × List ℕ)) → length (map (λ p. p.1) ps) ≡ length ps
        names-many [] = refl
        names-many (p ∷ ps) = ap suc (names-many ps)

        or_other : List Value → Option (List Value) → List Value
        or_other d (Some x) = x
        or_other d None = d

        values-same : (xs ys : List Value) → ◌≡◌ {A = Option (List Value)} (Some xs) (Some ys) → xs ≡ ys
        values-same xs ys e = ap (or_other xs) e

    -- as many arguments as parameters, or a TypeError
    count-takes : (b : Bool) → nat_eq (length args) (length f.params) ≡ b
        → (vs : List Value) → values_of given args ≡ Some vs → length vs ≡ length args
        → Replaces file limits ids given
        ((if b then body_refined file (limits.depth - depth) func f args at else stop_by at TypeError) ids)
        (count_composite 0 (called vs))
    count-takes true e vs are many =
        body-takes (limits.depth - depth) refl (test-equal (length args) (length f.params) e) vs are many
    count-takes false e vs are many =
        stop-takes file limits ids 0 given at (Raised TypeError line) (called vs)
        (ap (λ m. m >>= (λ u. gives (only_port u)))
        (functions.count file limits (suc depth) func line f vs found (λ q. uneven (length args) (length f.params) e (sym many ∙ sym q)))
        ∙ faults-then (Raised TypeError line) (λ u. gives (only_port u)))
      where
        uneven : (m n : ℕ) → nat_eq m n ≡ false → m ≡ n → ⊥
        uneven m n e q = grind (arith, nat_tests)

  -- a function that is there, or a NameError
  function-takes : (o : Option Func) → function file func ≡ o
      → (vs : List Value) → values_of given args ≡ Some vs → length vs ≡ length args
      → Replaces file limits ids given (function_refined file limits o func args at ids) (count_composite 0 (called vs))
  function-takes None e vs are many =
      stop-takes file limits ids 0 given at (Raised NameError line) (called vs)
      (ap (λ m. m >>= (λ u. gives (only_port u))) (not-found file limits _ func line vs e)
      ∙ faults-then (Raised NameError line) (λ u. gives (only_port u)))
  function-takes (Some f) e vs are many =
      count-takes f e (nat_eq (length args) (length f.params)) refl vs are many

  -- an Enter
  pub enter-takes : Replaces file limits ids given (function_refined file limits (function file func) func args at ids)
      (if_there (values_of given args) line (λ vs. count_composite 0 (called vs)))
  enter-takes =
      let v = values-there ids given args have in
      subst (λ o. Replaces file limits ids given (function_refined file limits (function file func) func args at ids)
      (if_there o line (λ vs. count_composite 0 (called vs)))) (sym v.1)
      (function-takes (function file func) refl v.0 v.1 v.2)
