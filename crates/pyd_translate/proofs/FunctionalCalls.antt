-- Calls of `@functional` functions of a file that breaks no rule print nothing.
use Rattle.std.proofs.Common.{◌≡◌, ℕ, zero, suc, ◌-◌, List, [], ◌∷◌, refl, subst, Option, Some, None, Bool, true, false, not}
use Rattle.std.specs.Prelude.{option_map}
use Rattle.pyd_value.specs.declared.value.Value.{Value}
use Rattle.pyd_tree.specs.declared.file.File.{File}
use Rattle.pyd_tree.specs.declared.file.Func.{Func}
use Rattle.pyd_names.specs.declared.name_use.NameUse.{NameUse}
use Rattle.pyd_names.specs.Binding.{function}
use Rattle.pyd_names.specs.Resolution.{Resolution, resolved}
use Rattle.pyd_names.specs.Resolution as resolution
use Rattle.pyd_names.specs.Uses.{uses}
use Rattle.pyd_scope.specs.Checks.{refusal}
use Rattle.pyd_scope.specs.Rules.{is_functional_routine, may_print, standing_of}
use Rattle.pyd_meaning.specs.declared.limits.Limits.{Limits}
use Rattle.pyd_meaning.specs.Evaluation.{Evaluation}
use Rattle.pyd_meaning.specs.Names.{Names}
use Rattle.pyd_meaning.specs.Setting.{Calls}
use Rattle.pyd_meaning.specs.Statement.{block_action}
use Rattle.pyd_meaning.specs.Module.{setting_of, parameters, with_parameters, with_function, call_within, call_at}
use Rattle.pyd_ir.specs.declared.work.Work.{Work}
use Rattle.pyd_ir.specs.Inputs.{values_of, work_meaning}
use Rattle.pyd_translate.specs.Purity.{FunctionalCallLaw, FunctionalLeafLaw}
use Rattle.pyd_translate.proofs.Induction.{Each}
use Rattle.pyd_translate.proofs.Silence.{IsSilent, silent-settled, silent-then}
use Rattle.pyd_translate.proofs.SilentCalls.{IsQuietName, IsQuiet}
use Rattle.pyd_translate.proofs.SilentStatements.{silent_suite}
use Rattle.pyd_translate.proofs.Unbroken.{IsAllowed, all_uses_allowed}

silent_with_parameters : (o : Option Names) (line : ℕ) (next : Names → Evaluation Value)
    → ((names : Names) → IsSilent (next names)) → IsSilent (with_parameters o line next)
silent_with_parameters (Some names) line next s = s names
silent_with_parameters None line next s = silent-settled _

silent_with_function : (o : Option Func) (args : List Value) (line : ℕ)
    (next : Func → Names → Evaluation Value)
    → ((f : Func) → o ≡ Some f → (names : Names) → IsSilent (next f names))
    → IsSilent (with_function o args line next)
silent_with_function (Some f) args line next s =
    silent_with_parameters (parameters f args) line (next f) (s f refl)
silent_with_function None args line next s = silent-settled _

not_false : (b : Bool) → not b ≡ false → b ≡ true
not_false true e = refl
not_false false e = absurd (cc e)

module _ (file : File) (limits : Limits) (accepted : refusal file ≡ None) where
  -- calls that print nothing where the function is `@functional`
  abbrev AreSilent : Calls → Type 0
  AreSilent calls = (k : ℕ) (args : List Value) (line : ℕ)
      → is_functional_routine (function file k) ≡ true → IsSilent (calls k args line)

  -- what may not print is quiet
  quiet_name : (k : ℕ) (calls : Calls) (r : Resolution) → AreSilent calls
      → may_print (standing_of file r) ≡ false → IsQuietName (setting_of file limits k calls) r
  quiet_name k calls resolution.Local s e = tt
  quiet_name k calls (resolution.Constant v) s e = tt
  quiet_name k calls (resolution.Function j) s e =
      λ vs line. s j vs line (not_false (is_functional_routine (function file j)) e)
  quiet_name k calls resolution.Imported s e = tt
  quiet_name k calls (resolution.Builtin b) s e = e
  quiet_name k calls resolution.Variable s e = tt
  quiet_name k calls resolution.Unbound s e = tt

  quiet_uses : (k : ℕ) (calls : Calls) (us : List NameUse) → AreSilent calls
      → Each (IsAllowed file k) us → Each (IsQuiet (setting_of file limits k calls)) us
  quiet_uses k calls [] s p = tt
  quiet_uses k calls (u ∷ us) s p =
      (λ c. quiet_name k calls (resolved file k u.name) s (p.0 c), quiet_uses k calls us s p.1)

  -- with each number of depths left
  silent_within : (depths : ℕ) → AreSilent (call_within file limits depths)
  unfolding call_within
  silent_within zero k args line e =
      silent_with_function (function file k) args line _ (λ f at names. silent-settled _)
  silent_within (suc depths) k args line e =
      let calls : Calls = call_within file limits depths in
      silent_with_function (function file k) args line _ (λ f at names.
      silent-then (block_action (setting_of file limits k calls) f.body names) _
      (silent_suite (setting_of file limits k calls) f.body
      (quiet_uses k calls (uses f.body) (silent_within depths) (all_uses_allowed file k f accepted e at)) names)
      (λ r. silent-settled _))

-- at each depth
pub functional_call : FunctionalCallLaw
functional_call file limits depth k args line accepted e =
    silent_within file limits accepted (suc limits.depth - depth) k args line e

silent_option : {A : Type 0} (o : Option A) (f : A → Evaluation Value) (e : Evaluation Value)
    → ((x : A) → IsSilent (f x)) → option_map f o ≡ Some e → IsSilent e
silent_option (Some x) f e s is =
    let same : f x ≡ e = cc is in subst (λ (m : Evaluation Value). IsSilent m) same (s x)
silent_option None f e s is = absurd (cc is)

-- of a leaf
pub functional_leaf : FunctionalLeafLaw
functional_leaf file limits given node func args e accepted marked work is =
    silent_option (values_of given args) (λ vs. call_at file limits (suc node.depth) func vs node.line) e
    (λ vs. functional_call file limits (suc node.depth) func vs node.line accepted marked)
    (subst (λ (w : Work). work_meaning file limits given node.line node.depth w ≡ Some e) work is)
