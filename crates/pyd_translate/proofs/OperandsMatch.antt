-- The nodes of operators, of names and of calls that are wrong do what these mean.
use Rattle.std.proofs.Common.{◌≡◌, ℕ, List, [], ◌∷◌, refl, sym, ap, subst, Some, None}
use Rattle.std.specs.Prelude.{option_map}
use Rattle.pyd_value.specs.declared.value.Value.{Value}
use Rattle.pyd_value.specs.declared.fault.Fault.TheVariants.{Raised}
use Rattle.pyd_value.specs.declared.fault.Kind.TheVariants.{NameError}
use Rattle.pyd_tree.specs.declared.file.File.{File}
use Rattle.pyd_names.specs.Resolution.{Resolution}
use Rattle.pyd_names.specs.Resolution as resolution
use Rattle.pyd_meaning.specs.declared.limits.Limits.{Limits}
use Rattle.pyd_meaning.specs.Evaluation.{settled}
use Rattle.pyd_meaning.specs.Setting.{unbound_local, value_or}
use Rattle.pyd_meaning.specs.Reference.{read_as, read}
use Rattle.pyd_ir.specs.declared.arg.Arg.{Arg}
use Rattle.pyd_ir.specs.declared.arg.Arg.TheVariants.{Known, From, Slot, Unbound}
use Rattle.pyd_ir.specs.declared.code.OpCode.{OpCode}
use Rattle.pyd_ir.specs.declared.work.Work.TheVariants.{Op, Read}
use Rattle.pyd_ir.specs.Inputs.{Given, value_of, both, values_of}
use Rattle.pyd_ir.specs.Operation.{operation}
use Rattle.pyd_ir.specs.Ports.{ports_of}
use Rattle.pyd_translate.specs.Making.{Context, stop_by}
use Rattle.pyd_translate.specs.Slots.{arg_of, operand, operand_as}
use Rattle.pyd_translate.specs.Expressions.{operator, name_operand}
use Rattle.pyd_translate.specs.Matching.{IsGiven, HasValue, Matches}
use Rattle.pyd_translate.proofs.Keeping.{given-slot}
use Rattle.pyd_translate.proofs.Sequencing.{matches-pure, matches-stop}
use Rattle.pyd_translate.proofs.Emitting.{matches-leaf, matches-emit_value}
use Rattle.pyd_translate.proofs.Scopes.{Scope, State, Does, setting, place, slots, made_in}

module _ (file : File) (limits : Limits) where
  -- an operator's node on arguments that have values does what it means
  pub operates : (ids : ℕ) (given : Given) (at : Context) (op : OpCode) (args : List Arg) (vs : List Value)
      → ((v : Value) → ports_of (Op op args) v 0 ≡ Some v) → values_of given args ≡ Some vs
      → Matches file limits 1 ids given (operator op args at ids) (settled (operation op vs at.line)) HasValue
  operates ids given at op args vs first values =
      matches-emit_value file limits 1 ids given at (Op op args) (ports_of (Op op args)) (settled (operation op vs at.line)) first
      (matches-leaf file limits ids given at (Op op args) (settled (operation op vs at.line)) refl
      (ap (option_map (λ ws. settled (operation op ws at.line))) values))

-- the values of one argument
pub one-value : (given : Given) (a : Arg) (v : Value) → value_of given a ≡ Some v → values_of given (a ∷ []) ≡ Some (v ∷ [])
one-value given a v is = λ i. both (is i) (Some [])

-- the values of two
pub two-values : (given : Given) (a b : Arg) (v w : Value)
    → value_of given a ≡ Some v → value_of given b ≡ Some w → values_of given (a ∷ b ∷ []) ≡ Some (v ∷ w ∷ [])
two-values given a b v w first second = λ i. both (first i) (both (second i) (Some []))

module _ (w : Scope) where
  -- a local as an operand: what is in its slot, or the exception
  operand-does : (here : State w) (a : Arg) → IsGiven here.ids here.given a
      → Does w 1 here (operand (made_in w here.env) a) (value_or (value_of here.given a) (unbound_local w.routine) (place w)) HasValue
  operand-does here (Known v) is = matches-pure w.file w.limits 1 here.ids here.given HasValue (Known v) v (refl, tt)
  operand-does here (From r) is =
      subst (λ o. Does w 1 here (operand (made_in w here.env) (From r)) (value_or o (unbound_local w.routine) (place w)) HasValue) (sym is.2)
      (matches-pure w.file w.limits 1 here.ids here.given HasValue (From r) is.1 (is.2, is.0))
  operand-does here (Slot r) is =
      let at = made_in w here.env in
      let work = Read (Slot r) (unbound_local w.routine) in
      matches-emit_value w.file w.limits 1 here.ids here.given at work (ports_of work) _ (λ v. refl)
      (matches-leaf w.file w.limits here.ids here.given at work _ refl refl)
  operand-does here Unbound is =
      matches-stop w.file w.limits here.ids here.given HasValue (made_in w here.env) (Raised (unbound_local w.routine) w.line)

  -- a name that has no value raises NameError
  no-value : (here : State w) (routine : ℕ)
      → Does w 1 here (stop_by (made_in w here.env) NameError) (read_as resolution.Unbound routine None (place w)) HasValue
  no-value here routine = matches-stop w.file w.limits here.ids here.given HasValue (made_in w here.env) (Raised NameError w.line)

  -- a name of each kind as an operand
  operand_as-does : (here : State w) (r : Resolution) (a : Arg) → IsGiven here.ids here.given a
      → Does w 1 here (operand_as r (made_in w here.env) a) (read_as r w.routine (value_of here.given a) (place w)) HasValue
  operand_as-does here resolution.Local a is = operand-does here a is
  operand_as-does here (resolution.Constant v) a is =
      matches-pure w.file w.limits 1 here.ids here.given HasValue (Known v) v (refl, tt)
  operand_as-does here (resolution.Function k) a is = no-value here w.routine
  operand_as-does here (resolution.Builtin b) a is = no-value here w.routine
  operand_as-does here resolution.Imported a is = no-value here w.routine
  operand_as-does here resolution.Variable a is = no-value here w.routine
  operand_as-does here resolution.Unbound a is = no-value here w.routine

  -- a name does what reading it means
  pub name-does : (here : State w) (name : List ℕ)
      → Does w 1 here (name_operand w.file name (made_in w here.env)) (read (setting w) name (place w) here.names) HasValue
  name-does here name =
      subst (λ names. Does w 1 here (name_operand w.file name (made_in w here.env)) (read (setting w) name (place w) names) HasValue)
      here.are.bound
      (operand_as-does here ((setting w).resolve name) (arg_of (slots w) here.env name)
      (given-slot (slots w) here.ids here.given here.env name here.are.all_given))
