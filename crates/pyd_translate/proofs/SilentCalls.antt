-- A name is read and called without printing, where it stands for nothing that prints.
use Rattle.std.proofs.Common.{◌≡◌, ℕ, List, sym, subst, Option, Some, None, true, false}
use Rattle.pyd_value.specs.declared.value.Value.{Value}
use Rattle.pyd_value.specs.declared.fault.Kind.{Kind}
use Rattle.pyd_value.specs.declared.operator.Builtin.{Builtin}
use Rattle.pyd_value.specs.declared.operator.Builtin.TheVariants as builtin
use Rattle.pyd_names.specs.declared.name_use.NameUse.{NameUse}
use Rattle.pyd_names.specs.Resolution.{Resolution}
use Rattle.pyd_names.specs.Resolution as resolution
use Rattle.pyd_scope.specs.Rules.{is_call, is_print}
use Rattle.pyd_meaning.specs.Evaluation.{Evaluation, gives, ◌>>=◌}
use Rattle.pyd_meaning.specs.Names.{Names}
use Rattle.pyd_meaning.specs.Setting.{Place, Setting, value_or}
use Rattle.pyd_meaning.specs.Reference.{read_as, read, Callee, Defined, Given, Uncallable, callee_as}
use Rattle.pyd_meaning.specs.Calls.{builtin_called, called}
use Rattle.pyd_meaning.proofs.Sequencing.{gives-then, then-then}
use Rattle.pyd_translate.proofs.Silence.{IsSilent, silent-settled, silent-then}

silent_value_or : (o : Option Value) (kind : Kind) (at : Place) → IsSilent (value_or o kind at)
silent_value_or (Some v) kind at = silent-settled _
silent_value_or None kind at = silent-settled _

silent_read_as : (r : Resolution) (routine : ℕ) (o : Option Value) (at : Place)
    → IsSilent (read_as r routine o at)
silent_read_as resolution.Local routine o at = silent_value_or o _ at
silent_read_as (resolution.Constant v) routine o at = silent-settled _
silent_read_as (resolution.Function k) routine o at = silent-settled _
silent_read_as (resolution.Builtin b) routine o at = silent-settled _
silent_read_as resolution.Imported routine o at = silent-settled _
silent_read_as resolution.Variable routine o at = silent-settled _
silent_read_as resolution.Unbound routine o at = silent-settled _

-- a name that is read prints nothing
pub silent_read : (setting : Setting) (name : List ℕ) (at : Place) (names : Names)
    → IsSilent (read setting name at names)
silent_read setting name at names = silent_read_as (setting.resolve name) setting.routine (names name) at

silent_builtin : (b : Builtin) (vs : List Value) (line : ℕ) → is_print b ≡ false
    → IsSilent (builtin_called b vs line)
silent_builtin builtin.Print vs line e = absurd (cc e)
silent_builtin builtin.Len vs line e = silent-settled _
silent_builtin builtin.Abs vs line e = silent-settled _
silent_builtin builtin.Min vs line e = silent-settled _
silent_builtin builtin.Max vs line e = silent-settled _
silent_builtin builtin.Sum vs line e = silent-settled _
silent_builtin builtin.Str vs line e = silent-settled _
silent_builtin builtin.Repr vs line e = silent-settled _
silent_builtin builtin.Int vs line e = silent-settled _
silent_builtin builtin.Bool vs line e = silent-settled _
silent_builtin builtin.Range vs line e = silent-settled _

module _ (setting : Setting) where
  -- calls of a name that stands for this print nothing
  abbrev pub IsQuietName : Resolution → Type 0
  IsQuietName resolution.Local = Unit {0}
  IsQuietName (resolution.Constant v) = Unit {0}
  IsQuietName (resolution.Function k) = (vs : List Value) (line : ℕ) → IsSilent (setting.calls k vs line)
  IsQuietName resolution.Imported = Unit {0}
  IsQuietName (resolution.Builtin b) = is_print b ≡ false
  IsQuietName resolution.Variable = Unit {0}
  IsQuietName resolution.Unbound = Unit {0}

  -- a use that is no call of what may print
  abbrev pub IsQuiet : NameUse → Type 0
  IsQuiet u = is_call u.manner ≡ true → IsQuietName (setting.resolve u.name)

  -- what a call goes on with behind its callee
  abbrev on_callee : Evaluation (List Value) → Place → Callee → Evaluation Value
  on_callee args at f = args >>= (λ vs. called setting f vs at)

  silent_known : (f : Callee) (args : Evaluation (List Value)) (at : Place) → IsSilent args
      → ((vs : List Value) → IsSilent (called setting f vs at))
      → IsSilent (gives f >>= on_callee args at)
  silent_known f args at a c =
      subst (λ (m : Evaluation Value). IsSilent m) (sym (gives-then f (on_callee args at)))
      (silent-then args (λ vs. called setting f vs at) a c)

  silent_uncallable : (value : Evaluation Value) (args : Evaluation (List Value)) (at : Place)
      → IsSilent value → IsSilent args
      → IsSilent ((value >>= (λ v. gives Uncallable)) >>= on_callee args at)
  silent_uncallable value args at v a =
      subst (λ (m : Evaluation Value). IsSilent m)
      (sym (then-then value (λ v. gives Uncallable) (on_callee args at)))
      (silent-then value (λ v. gives Uncallable >>= on_callee args at) v
      (λ x. silent_known Uncallable args at a (λ vs. silent-settled _)))

  silent_call_as : (r : Resolution) (value : Evaluation Value) (args : Evaluation (List Value))
      (at : Place) → IsSilent value → IsSilent args → IsQuietName r
      → IsSilent (callee_as r value >>= (λ f. args >>= (λ vs. called setting f vs at)))
  silent_call_as resolution.Local value args at v a q = silent_uncallable value args at v a
  silent_call_as (resolution.Constant c) value args at v a q = silent_uncallable value args at v a
  silent_call_as (resolution.Function k) value args at v a q =
      silent_known (Defined k) args at a (λ vs. q vs at.line)
  silent_call_as resolution.Imported value args at v a q = silent_uncallable value args at v a
  silent_call_as (resolution.Builtin b) value args at v a q =
      silent_known (Given b) args at a (λ vs. silent_builtin b vs at.line q)
  silent_call_as resolution.Variable value args at v a q = silent_uncallable value args at v a
  silent_call_as resolution.Unbound value args at v a q = silent_uncallable value args at v a

  -- a call of a name that stands for nothing that prints
  pub silent_call : (name : List ℕ) (args : Evaluation (List Value)) (at : Place) (names : Names)
      → IsSilent args → IsQuietName (setting.resolve name)
      → IsSilent (callee_as (setting.resolve name) (read setting name at names)
      >>= (λ f. args >>= (λ vs. called setting f vs at)))
  silent_call name args at names a q =
      silent_call_as (setting.resolve name) (read setting name at names) args at
      (silent_read setting name at names) a q
