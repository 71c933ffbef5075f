-- A call, from its callee, its arguments and its body.
use Rattle.std.proofs.Common.{◌≡◌, ◌≢◌, ℕ, zero, suc, ◌+◌, ◌-◌, ◌<◌, ◌≤◌, ◌*◌, ◌++◌, List, map, length, length-append, replicate, add-one, IfOk, inl, inr, ◌⊎◌, Option, Some, None, Result, Ok, Err, refl, sym, ap, ◌∙◌, subst, arith}
use Rattle.std.specs.Borrow.{Bor}
use Rattle.std.specs.List.{list_all}
use Rattle.std.proofs.lemmas.List.{length-map, length-replicate}
use Rattle.pyd_value.specs.declared.value.Value.{Value}
use Rattle.pyd_value.specs.declared.fault.Fault.{Fault}
use Rattle.pyd_value.specs.declared.fault.Fault.TheVariants as fault
use Rattle.pyd_value.specs.declared.fault.Kind.TheVariants.{NameError, TypeError}
use Rattle.pyd_value.specs.declared.fault.Limit.TheVariants.{Depth}
use Rattle.pyd_tree.specs.declared.expression.Expr.{Expr}
use Rattle.pyd_tree.specs.declared.expression.Expr.TheVariants as expression
use Rattle.pyd_tree.specs.declared.file.File.{File}
use Rattle.pyd_tree.specs.declared.file.Func.{Func}
use Rattle.pyd_names.specs.Binding.{function}
use Rattle.pyd_names.specs.Resolution.{Resolution}
use Rattle.pyd_names.specs.Resolution as resolution
use Rattle.pyd_scope.specs.declared.uses.Use.{Use}
use Rattle.pyd_scope.specs.declared.uses.Use.TheVariants as uses
use Rattle.pyd_scope.specs.Resolving.{resolution_of}
use Rattle.pyd_meaning.specs.declared.limits.Limits.{Limits}
use Rattle.pyd_meaning.specs.Evaluation.{Evaluation, settled, gives, step, ◌>>=◌}
use Rattle.pyd_meaning.specs.Names.{Names}
use Rattle.pyd_meaning.specs.Setting.{Place, place_of, Setting}
use Rattle.pyd_meaning.specs.Reference.{Callee, Defined, Given, Uncallable, read, callee_as}
use Rattle.pyd_meaning.specs.Calls.{called}
use Rattle.pyd_meaning.specs.Completion.{Completion, left, value_after}
use Rattle.pyd_meaning.specs.Expression.{meaning_of, each}
use Rattle.pyd_meaning.specs.Statement.{block_action}
use Rattle.pyd_meaning.specs.Module.{parameters, with_function, body_value, call_within, call_at, setting_at}
use Rattle.pyd_meaning.specs.Outcome.{outcome}
use Rattle.pyd_meaning.proofs.Sequencing.{gives-then, faults-then, outcome-step, outcome-settled, outcome-ok, outcome-err}
use Rattle.pyd_meaning.proofs.Calls.{functions}
use Rattle.pyd_meaning.proofs.Expressions.{call}
use Rattle.pyd_value.specs.declared.memory.NoMemory.{NoMemory}
use Rattle.pyd_names.specs.Binding.{bindings, names_of as bound_names, function_locals, is_among}
use Rattle.pyd_names.specs.WellFormed.{block_parts, parts}
use Rattle.pyd_eval.specs.declared.activation.Activation.{Activation}
use Rattle.pyd_eval.specs.declared.got.Got.{Got}
use Rattle.pyd_eval.specs.Calls.{IsEntered, DoesCall}
use Rattle.pyd_eval.specs.Frames.{slot_names, setting, bound_by, names_of, suite_execution, Holds}
use Rattle.pyd_eval.specs.Given.{Does, seen}
use Rattle.pyd_eval.specs.Measure.{left_for}
use Rattle.pyd_eval.specs.Passed.{values_in}
use Rattle.pyd_eval.proofs.Entering.{entered}
use Rattle.pyd_eval.proofs.Program.{parameter_names, once, fewer_parts, slots_of_function, all_among, one-deeper}

module _ (file : File) (limits : Limits) (k line : ℕ) (args : List Value) (old : List (List ℕ)) where
  within-missing : (depths : ℕ) → function file k ≡ None → outcome old (call_within file limits depths k args line) ≡ (old, Err (fault.Raised NameError line))
  unfolding call_within
  within-missing zero missing = rw missing (outcome-settled old (Err (fault.Raised NameError line)))
  within-missing (suc depths) missing = rw missing (outcome-settled old (Err (fault.Raised NameError line)))

  -- a call of no function
  pub call-missing : (depth : ℕ) → function file k ≡ None → outcome old (call_at file limits depth k args line) ≡ (old, Err (fault.Raised NameError line))
  call-missing depth missing = within-missing (suc limits.depth - depth) missing

  -- a call with a wrong count of arguments
  pub call-uneven : (depth : ℕ) (f : Func) → function file k ≡ Some f → length f.params ≢ length args
      → outcome old (call_at file limits depth k args line) ≡ (old, Err (fault.Raised TypeError line))
  call-uneven depth f found uneven = ap (outcome old) (functions.count file limits depth k line f args found uneven) ∙ outcome-settled old (Err (fault.Raised TypeError line))

  -- a call that is too deep
  pub call-deep : (depth : ℕ) (f : Func) → function file k ≡ Some f → length f.params ≡ length args → limits.depth < depth
      → outcome old (call_at file limits depth k args line) ≡ (old, Err (fault.Limit Depth line))
  call-deep depth f found even deep = ap (outcome old) (functions.deep file limits depth k line f args found even deep) ∙ outcome-settled old (Err (fault.Limit Depth line))

  module _ (depth : ℕ) (f : Func) (names : Names) (found : function file k ≡ Some f) (bound : parameters f args ≡ Some names) (within : depth ≤ limits.depth) (new : List (List ℕ)) where
    -- a call whose body is left
    pub call-left : (how : Completion) (after : Names) → outcome old (block_action (setting_at file limits k depth) f.body names) ≡ (new, Ok (left how after))
        → outcome old (call_at file limits depth k args line) ≡ (new, Ok (value_after how))
    call-left how after body =
        ap (outcome old) (functions.body file limits depth k line f args names found bound within)
        ∙ outcome-ok old new (block_action (setting_at file limits k depth) f.body names) (λ r. gives (value_after r.completion)) (left how after) body
        ∙ outcome-settled new (Ok (value_after how))

    -- a call whose body faults
    pub call-faults : (fault : Fault) → outcome old (block_action (setting_at file limits k depth) f.body names) ≡ (new, Err fault)
        → outcome old (call_at file limits depth k args line) ≡ (new, Err fault)
    call-faults fault body =
        ap (outcome old) (functions.body file limits depth k line f args names found bound within)
        ∙ outcome-err old new (block_action (setting_at file limits k depth) f.body names) (λ r. gives (value_after r.completion)) fault body

-- from whichever line a function is called, its call is the same
pub same-from-lines : (file : File) (limits : Limits) (depth k line line' : ℕ) (f : Func) (args : List Value) (names : Names)
    → function file k ≡ Some f → parameters f args ≡ Some names → depth ≤ limits.depth
    → call_at file limits depth k args line ≡ call_at file limits depth k args line'
same-from-lines file limits depth k line line' f args names found bound within =
    functions.body file limits depth k line f args names found bound within
    ∙ sym (functions.body file limits depth k line' f args names found bound within)

module _ (setting : Setting) (name : List ℕ) (args : List Expr) (at : Place) (names : Names) (old : List (List ℕ)) where
  -- what a call does with its callee
  abbrev onward : Callee → Evaluation Value
  onward f = each (map (meaning_of setting) args) at names >>= (λ vs. called setting f vs at)

  begins : outcome old (meaning_of setting (expression.Call name args) at names) ≡ outcome old (callee_as (setting.resolve name) (read setting name at names) >>= onward)
  begins = ap (outcome old) (call setting name args at names) ∙ outcome-step old (callee_as (setting.resolve name) (read setting name at names) >>= onward)

  -- a call of a name that is a function or a builtin
  pub call-found : (r : Resolution) (f : Callee) → r ≡ setting.resolve name
      → callee_as r (read setting name at names) ≡ gives f
      → outcome old (meaning_of setting (expression.Call name args) at names) ≡ outcome old (onward f)
  call-found r f is known =
      begins ∙ ap (λ k. outcome old (callee_as k (read setting name at names) >>= onward)) (sym is)
      ∙ ap (λ e. outcome old (e >>= onward)) known ∙ ap (outcome old) (gives-then f onward)

  module _ (r : Resolution) (is : r ≡ setting.resolve name) (reads : callee_as r (read setting name at names) ≡ read setting name at names >>= (λ v. gives Uncallable)) where
    -- a call of a name that has a value
    pub call-valued : (v : Value) → read setting name at names ≡ settled (Ok v)
        → outcome old (meaning_of setting (expression.Call name args) at names) ≡ outcome old (onward Uncallable)
    call-valued v value =
        begins ∙ ap (λ k. outcome old (callee_as k (read setting name at names) >>= onward)) (sym is)
        ∙ ap (λ e. outcome old (e >>= onward)) (reads ∙ ap (λ e. e >>= (λ v. gives Uncallable)) value ∙ gives-then v (λ v. gives Uncallable))
        ∙ ap (outcome old) (gives-then Uncallable onward)

    -- a call of a name that has none
    pub call-unvalued : (fault : Fault) → read setting name at names ≡ settled (Err fault)
        → outcome old (meaning_of setting (expression.Call name args) at names) ≡ (old, Err fault)
    call-unvalued fault none =
        begins ∙ ap (λ k. outcome old (callee_as k (read setting name at names) >>= onward)) (sym is)
        ∙ ap (λ e. outcome old (e >>= onward)) (reads ∙ ap (λ e. e >>= (λ v. gives Uncallable)) none ∙ faults-then fault (λ (v : Value). gives Uncallable))
        ∙ ap (outcome old) (faults-then fault onward) ∙ outcome-settled old (Err fault)

-- a use of a name that is neither a function nor a builtin
abbrev pub IsNoFunction : Use → Type 0
IsNoFunction u =
    ((i : ℕ) × (u ≡ uses.Slot i)) ⊎ (((v : Bor Value) × (u ≡ uses.Constant v)) ⊎ ((u ≡ uses.Imported) ⊎ ((u ≡ uses.Variable) ⊎ (u ≡ uses.Unbound))))

-- its callee is read
pub no-function : (u : Use) (v : Evaluation Value) → IsNoFunction u → callee_as (resolution_of u) v ≡ v >>= (λ x. gives Uncallable)
no-function u v (inl (i, is)) = rw is refl
no-function u v (inr (inl (c, is))) = rw is refl
no-function u v (inr (inr (inl is))) = rw is refl
no-function u v (inr (inr (inr (inl is)))) = rw is refl
no-function u v (inr (inr (inr (inr is)))) = rw is refl

-- an evaluation that goes on as another does what that does
pub continues : (r : Result (Result Got Fault) NoMemory) (old mid new : List (List ℕ)) (e e' : Evaluation Value) → outcome old e ≡ outcome mid e'
    → IfOk r (λ got. Does mid e' new (seen got)) → IfOk r (λ got. Does old e new (seen got))
continues (Ok got) old mid new e e' same does = same ∙ does
continues (Err f) old mid new e e' same does = tt

-- an activation of a function that was entered, with its slots
pub record IsCallee (on callee : Activation) (k : ℕ) (f : Func) (xs slots : List (Option Value)) : Type 0 where
  pub entered : IsEntered on k f xs
  pub program : callee.program ≡ on.program
  pub limits : callee.limits ≡ on.limits
  pub routine : callee.routine ≡ k
  pub depth : callee.depth ≡ on.depth + 1
  pub filled : slots ≡ xs ++ replicate (length (slot_names callee) - length xs) None

-- it is one where its slots were filled up
pub is-callee : {on callee : Activation} {k count : ℕ} {f : Func} {xs filled slots : List (Option Value)} → IsEntered on k f xs
    → callee.program ≡ on.program → callee.limits ≡ on.limits → callee.routine ≡ k → callee.depth ≡ on.depth + 1
    → count ≡ length (slot_names callee) → filled ≡ xs ++ replicate (count - length xs) None → slots ≡ filled → IsCallee on callee k f xs slots
is-callee {xs = xs} entered program limits routine depth counted filled lent = record {
  entered = entered;
  program = program;
  limits = limits;
  routine = routine;
  depth = depth;
  filled = lent ∙ filled ∙ ap (λ n. xs ++ replicate (n - length xs) None) counted;
}

module _ {on callee : Activation} {k : ℕ} {f : Func} {xs slots : List (Option Value)} (is : IsCallee on callee k f xs slots) where
  -- its slots are those of the function
  callee-names : slot_names callee ≡ function_locals f
  callee-names = rw (is.program, is.routine) (slots_of_function on.program.now.file f k on.program.now.routines on.program.now.its_routines is.entered.found)

  -- what its body binds has slots
  pub callee-holds : Holds callee slots (bound_names (bindings f.body))
  callee-holds =
      let n : length slots ≡ length xs + (length (slot_names callee) - length xs) = ap length is.filled ∙ rw (length-append, length-replicate) refl in
      record {
        enough = omega arith;
        named = ap (λ ns. list_all (is_among ns) (bound_names (bindings f.body))) callee-names ∙ all_among (parameter_names f) (bound_names (bindings f.body));
      }

  -- it has less left to do
  pub callee-less : left_for callee (block_parts f.body) 1 < left_for on 0 1
  callee-less =
      let fewer : block_parts f.body < suc (parts on.program.now.file) = omega (arith, fewer_parts on.program.now.file f k is.entered.found) in
      rw (is.program, is.limits, is.depth) (one-deeper on.limits.depth on.depth (suc (parts on.program.now.file)) (block_parts f.body) is.entered.within fewer)

  -- its setting is the function's, one deeper
  callee-setting : setting callee ≡ setting_at on.program.now.file on.limits k (suc on.depth)
  callee-setting = rw (is.program, is.limits, is.routine, is.depth, add-one) refl

  -- its slots bind the parameters
  callee-bound : parameters f (values_in xs) ≡ Some (names_of callee slots)
  callee-bound =
      let apart = once on.program.now.file f k on.program.now.accepted is.entered.found in
      entered (parameter_names f) (bound_names (bindings f.body)) xs (length (slot_names callee) - length xs) apart is.entered.full (callee-even)
      ∙ ap (λ (m : Names). Some m) (ap (λ ns. bound_by ns (xs ++ replicate (length (slot_names callee) - length xs) None)) (sym callee-names)
      ∙ ap (bound_by (slot_names callee)) (sym is.filled))
    where
      callee-even : length (parameter_names f) ≡ length xs
      callee-even = length-map f.params (λ p. p.1) ∙ is.entered.even

  module _ (old new : List (List ℕ)) where
    -- a body that was left
    pub callee-left : (how : Completion) (after : Names) → outcome old (suite_execution callee f.body slots) ≡ (new, Ok (left how after))
        → DoesCall on k (values_in xs) old new (Ok (value_after how))
    callee-left how after body =
        let b = subst (λ s. outcome old (block_action s f.body (names_of callee slots)) ≡ (new, Ok (left how after))) callee-setting body in
        λ line. call-left on.program.now.file on.limits k line (values_in xs) old (suc on.depth) f (names_of callee slots) is.entered.found callee-bound is.entered.within new how after b

    -- a body that faults
    pub callee-faults : (fault : Fault) → outcome old (suite_execution callee f.body slots) ≡ (new, Err fault)
        → DoesCall on k (values_in xs) old new (Err fault)
    callee-faults fault body =
        let b = subst (λ s. outcome old (block_action s f.body (names_of callee slots)) ≡ (new, Err fault)) callee-setting body in
        λ line. call-faults on.program.now.file on.limits k line (values_in xs) old (suc on.depth) f (names_of callee slots) is.entered.found callee-bound is.entered.within new fault b
