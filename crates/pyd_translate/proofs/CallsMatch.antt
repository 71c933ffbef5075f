-- The nodes of calls do what these mean.
use Rattle.std.proofs.Common.{◌≡◌, ◌≢◌, ℕ, zero, suc, ◌+◌, ◌-◌, List, map, length, refl, sym, ap, subst, ◌∙◌, arith, nat_eq, Bool, true, false, if◌then◌else◌, Option, Some, None}
use Rattle.std.specs.Prelude.{option_map}
use Rattle.std.proofs.lemmas.Bool.Decides.{nat_tests}
use Rattle.pyd_value.specs.declared.value.Value.{Value}
use Rattle.pyd_value.specs.declared.fault.Fault.TheVariants.{Raised}
use Rattle.pyd_value.specs.declared.fault.Kind.TheVariants.{NameError, TypeError}
use Rattle.pyd_value.specs.declared.fault.Limit.TheVariants.{Depth}
use Rattle.pyd_value.specs.declared.operator.Builtin.{Builtin}
use Rattle.pyd_value.specs.declared.operator.Builtin.TheVariants as builtin
use Rattle.pyd_tree.specs.declared.expression.Expr.{Expr}
use Rattle.pyd_tree.specs.declared.file.File.{File}
use Rattle.pyd_tree.specs.declared.file.Func.{Func}
use Rattle.pyd_names.specs.Binding.{function}
use Rattle.pyd_names.specs.Resolution.{Resolution}
use Rattle.pyd_names.specs.Resolution as resolution
use Rattle.pyd_scope.specs.Rules.{is_functional}
use Rattle.pyd_meaning.specs.declared.limits.Limits.{Limits}
use Rattle.pyd_meaning.specs.Evaluation.{Evaluation, gives, ◌>>=◌}
use Rattle.pyd_meaning.specs.Setting.{place_of, raises, exceeds}
use Rattle.pyd_meaning.specs.Reference.{Callee, Defined, Given, Uncallable, callee_as, callee}
use Rattle.pyd_meaning.specs.Calls.{builtin_called, called}
use Rattle.pyd_meaning.specs.Expression.{meaning_of, each as each_meant}
use Rattle.pyd_meaning.specs.Module.{with_function, body_value, setting_of, call_within, call_at}
use Rattle.pyd_meaning.proofs.Sequencing.{gives-then, then-then}
use Rattle.pyd_meaning.proofs.Calls.{functions}
use Rattle.pyd_ir.specs.declared.arg.Arg.{Arg}
use Rattle.pyd_ir.specs.declared.code.OpCode.TheVariants as code
use Rattle.pyd_ir.specs.declared.work.Work.TheVariants.{Call, Print, Run, Enter}
use Rattle.pyd_ir.specs.Inputs.{values_of}
use Rattle.pyd_ir.specs.Ports.{only_port}
use Rattle.pyd_translate.specs.Making.{Making, emit_value, stop_by}
use Rattle.pyd_translate.specs.Expressions.{unfolded, each, builtin_work, is_unfolded, function_work, function_call, value_call, name_operand, call_as}
use Rattle.pyd_translate.specs.Walk.{if_there, count_composite}
use Rattle.pyd_translate.specs.Matching.{HasValue}
use Rattle.pyd_translate.specs.Laws.{Stands}
use Rattle.pyd_translate.proofs.Induction.{Each}
use Rattle.pyd_translate.proofs.Within.{member_expressions}
use Rattle.pyd_translate.proofs.Keeping.{HaveThese, length-values}
use Rattle.pyd_translate.proofs.Sequencing.{matches-then, matches-stop, matches-more}
use Rattle.pyd_translate.proofs.Emitting.{Puts, puts-composite, matches-emit, matches-leaf, matches-emit_value}
use Rattle.pyd_translate.proofs.OperandsMatch.{operates, name-does}
use Rattle.pyd_translate.proofs.MembersMatch.{each-does}
use Rattle.pyd_translate.proofs.Scopes.{Scope, State, behind, Does, IsRight, setting, place, table, made_in}

-- a call of a function that isn't there, at whatever depth
no-function : (file : File) (limits : Limits) (depths k line : ℕ) (args : List Value)
    → function file k ≡ None → call_within file limits depths k args line ≡ raises NameError (place_of line)
unfolding call_within
no-function file limits zero k line args none =
    ap (λ o. with_function o args line (λ f names. exceeds Depth (place_of line))) none
no-function file limits (suc depths) k line args none =
    ap (λ o. with_function o args line (body_value (setting_of file limits k (call_within file limits depths)))) none

-- numbers that aren't equal by the test
apart : (m n : ℕ) → nat_eq m n ≡ false → m ≢ n
apart m n is = λ same. grind (arith, nat_tests)

module _ (w : Scope) where
  -- a call of a builtin function
  builtin-does : (b : Builtin) (here : State w) (args : List Arg) (vs : List Value) → values_of here.given args ≡ Some vs
      → Does w 1 here (emit_value (made_in w here.env) (builtin_work b args)) (builtin_called b vs w.line) HasValue
  builtin-does builtin.Print here args vs values =
      matches-emit_value w.file w.limits 1 here.ids here.given (made_in w here.env) (Print args) only_port (builtin_called builtin.Print vs w.line) (λ v. refl)
      (matches-leaf w.file w.limits here.ids here.given (made_in w here.env) (Print args) (builtin_called builtin.Print vs w.line) refl
      (ap (option_map (λ ws. builtin_called builtin.Print ws w.line)) values))
  builtin-does builtin.Len here args vs values =
      operates w.file w.limits here.ids here.given (made_in w here.env) code.Len args vs (λ v. refl) values
  builtin-does builtin.Abs here args vs values =
      operates w.file w.limits here.ids here.given (made_in w here.env) code.Abs args vs (λ v. refl) values
  builtin-does builtin.Min here args vs values =
      operates w.file w.limits here.ids here.given (made_in w here.env) code.Min args vs (λ v. refl) values
  builtin-does builtin.Max here args vs values =
      operates w.file w.limits here.ids here.given (made_in w here.env) code.Max args vs (λ v. refl) values
  builtin-does builtin.Sum here args vs values =
      operates w.file w.limits here.ids here.given (made_in w here.env) code.Sum args vs (λ v. refl) values
  builtin-does builtin.Str here args vs values =
      operates w.file w.limits here.ids here.given (made_in w here.env) code.Str args vs (λ v. refl) values
  builtin-does builtin.Repr here args vs values =
      operates w.file w.limits here.ids here.given (made_in w here.env) code.Repr args vs (λ v. refl) values
  builtin-does builtin.Int here args vs values =
      operates w.file w.limits here.ids here.given (made_in w here.env) code.Int args vs (λ v. refl) values
  builtin-does builtin.Bool here args vs values =
      operates w.file w.limits here.ids here.given (made_in w here.env) code.Bool args vs (λ v. refl) values
  builtin-does builtin.Range here args vs values =
      operates w.file w.limits here.ids here.given (made_in w here.env) code.Range args vs (λ v. refl) values

  -- what a call of function k means
  abbrev call_meant : ℕ → List Value → Evaluation Value
  call_meant k vs = call_at w.file w.limits (suc w.depth) k vs w.line

  -- the node of a function of each kind
  work-does : (entered functional : Bool) (k : ℕ) (here : State w) (args : List Arg) (vs : List Value) → values_of here.given args ≡ Some vs
      → Does w 2 here (emit_value (made_in w here.env) (if entered then Enter k args else if functional then Call k args else Run k args)) (call_meant k vs) HasValue
  work-does true functional k here args vs values =
      matches-emit_value w.file w.limits 2 here.ids here.given (made_in w here.env) (Enter k args) only_port (call_meant k vs) (λ v. refl)
      (matches-emit w.file w.limits 2 here.ids here.given (made_in w here.env) (Enter k args) only_port (call_meant k vs)
      (subst (λ e. Puts 2 e (call_meant k vs) only_port)
      (sym (ap (λ o. if_there o w.line (λ ws. count_composite 0 (call_meant k ws >>= (λ u. gives (only_port u))))) values))
      (puts-composite 0 (call_meant k vs) only_port)))
  work-does false true k here args vs values =
      matches-more w.file w.limits 1 2 here.ids here.given HasValue _ _ (omega arith)
      (matches-emit_value w.file w.limits 1 here.ids here.given (made_in w here.env) (Call k args) only_port (call_meant k vs) (λ v. refl)
      (matches-leaf w.file w.limits here.ids here.given (made_in w here.env) (Call k args) (call_meant k vs) refl
      (ap (option_map (λ ws. call_meant k ws)) values)))
  work-does false false k here args vs values =
      matches-more w.file w.limits 1 2 here.ids here.given HasValue _ _ (omega arith)
      (matches-emit_value w.file w.limits 1 here.ids here.given (made_in w here.env) (Run k args) only_port (call_meant k vs) (λ v. refl)
      (matches-leaf w.file w.limits here.ids here.given (made_in w here.env) (Run k args) (call_meant k vs) refl
      (ap (option_map (λ ws. call_meant k ws)) values)))

  -- a call with the right count of arguments or another
  counted-does : (f : Func) (right : Bool) (k : ℕ) (here : State w) (args : List Arg) (vs : List Value)
      → function w.file k ≡ Some f → nat_eq (length args) (length f.params) ≡ right → HaveThese here.ids here.given args vs
      → Does w 2 here (if right then emit_value (made_in w here.env) (function_work f k args) else stop_by (made_in w here.env) TypeError) (call_meant k vs) HasValue
  counted-does f true k here args vs found is have = work-does (is_unfolded f) (is_functional f) k here args vs have.0
  counted-does f false k here args vs found is have =
      matches-more w.file w.limits 1 2 here.ids here.given HasValue _ _ (omega arith)
      (subst (λ m. Does w 1 here (stop_by (made_in w here.env) TypeError) m HasValue)
      (sym (functions.count w.file w.limits (suc w.depth) k w.line f vs found
      (λ same. apart (length args) (length f.params) is (length-values here.given args vs have.0 ∙ sym same))))
      (matches-stop w.file w.limits here.ids here.given HasValue (made_in w here.env) (Raised TypeError w.line)))

  -- a call of a function that is there or not
  function-does : (o : Option Func) (k : ℕ) (here : State w) (args : List Arg) (vs : List Value)
      → function w.file k ≡ o → HaveThese here.ids here.given args vs
      → Does w 2 here (function_call o k (made_in w here.env) args) (call_meant k vs) HasValue
  function-does None k here args vs none have =
      matches-more w.file w.limits 1 2 here.ids here.given HasValue _ _ (omega arith)
      (subst (λ m. Does w 1 here (stop_by (made_in w here.env) NameError) m HasValue)
      (sym (no-function w.file w.limits (suc w.limits.depth - suc w.depth) k w.line vs none))
      (matches-stop w.file w.limits here.ids here.given HasValue (made_in w here.env) (Raised NameError w.line)))
  function-does (Some f) k here args vs found have =
      counted-does f (nat_eq (length args) (length f.params)) k here args vs found refl have

  module _ (args : List Expr) (right : Each (IsRight w) args) (k : ℕ) (here : State w)
      (stands : Stands (table w) k (member_expressions args)) where
    -- the arguments, and then what the callee does with their values
    abbrev rest_meant : Callee → Evaluation Value
    rest_meant f = each_meant (map (meaning_of (setting w)) args) (place w) here.names >>= (λ vs. called (setting w) f vs (place w))

    -- the nodes of the arguments
    abbrev arguments_made : Making (List Arg)
    arguments_made = each (map (unfolded w.file) args) k (made_in w here.env)

    -- what a call of a value means: the value, the arguments, and then the exception
    value-meant : (m : Evaluation Value)
        → (m >>= (λ v. gives Uncallable)) >>= rest_meant ≡ m >>= (λ v. rest_meant Uncallable)
    value-meant m =
        then-then m (λ v. gives Uncallable) rest_meant
        ∙ (λ i. m >>= (λ v. gives-then Uncallable rest_meant i))

    -- a value is called
    value-does : (u : Making Arg) (m : Evaluation Value) → Does w 1 here u m HasValue
        → Does w 2 here (value_call (made_in w here.env) u arguments_made) ((m >>= (λ v. gives Uncallable)) >>= rest_meant) HasValue
    value-does u m first =
        subst (λ e. Does w 2 here (value_call (made_in w here.env) u arguments_made) e HasValue) (sym (value-meant m))
        (matches-then w.file w.limits 1 (0 + 1) here.ids here.given HasValue HasValue u _ m _ first
        (λ next mid a v reached.
        let there = behind w here HasValue next mid a v reached in
        matches-then w.file w.limits 0 1 next mid HaveThese HasValue _ _ _ _
        (each-does w args right k there stands)
        (λ last after xs vs rest.
        matches-stop w.file w.limits last after HasValue (made_in w here.env) (Raised TypeError w.line))))

    -- a call of a name that stands for this
    called-does : (r : Resolution) (u : Making Arg) (m : Evaluation Value) → Does w 1 here u m HasValue
        → Does w 2 here (call_as w.file r (made_in w here.env) u arguments_made) (callee_as r m >>= rest_meant) HasValue
    called-does (resolution.Function n) u m first =
        subst (λ e. Does w 2 here (call_as w.file (resolution.Function n) (made_in w here.env) u arguments_made) e HasValue)
        (sym (gives-then (Defined n) rest_meant))
        (matches-then w.file w.limits 0 2 here.ids here.given HaveThese HasValue _ _ _ _
        (each-does w args right k here stands)
        (λ next mid xs vs reached.
        function-does (function w.file n) n (behind w here HaveThese next mid xs vs reached) xs vs refl reached.related))
    called-does (resolution.Builtin b) u m first =
        subst (λ e. Does w 2 here (call_as w.file (resolution.Builtin b) (made_in w here.env) u arguments_made) e HasValue)
        (sym (gives-then (Given b) rest_meant))
        (matches-then w.file w.limits 0 2 here.ids here.given HaveThese HasValue _ _ _ _
        (each-does w args right k here stands)
        (λ next mid xs vs reached.
        matches-more w.file w.limits 1 2 next mid HasValue _ _ (omega arith)
        (builtin-does b (behind w here HaveThese next mid xs vs reached) xs vs reached.related.0)))
    called-does resolution.Local u m first = value-does u m first
    called-does (resolution.Constant v) u m first = value-does u m first
    called-does resolution.Imported u m first = value-does u m first
    called-does resolution.Variable u m first = value-does u m first
    called-does resolution.Unbound u m first = value-does u m first

    -- a call does what it means
    pub call-does : (name : List ℕ)
        → Does w 2 here (call_as w.file ((setting w).resolve name) (made_in w here.env) (name_operand w.file name (made_in w here.env)) arguments_made)
        (callee (setting w) name (place w) here.names >>= rest_meant) HasValue
    call-does name = called-does ((setting w).resolve name) _ _ (name-does w here name)
