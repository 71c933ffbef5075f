-- A function that is entered, by the parts that code has.
use Rattle.std.proofs.Common.{◌≡◌, ℕ, zero, suc, ◌-◌, ◌<◌, List, [], ◌++◌, length, replicate, nat_eq, true, Option, Some, None, option_map, refl, sym, ap, subst, ◌∙◌, arith}
use Rattle.std.specs.Prelude.{Result, Ok, Err, IfOk}
use Rattle.std.proofs.lemmas.Bool.Decides.{nat_tests}
use Rattle.pyd_value.specs.declared.memory.NoMemory.{NoMemory}
use Rattle.pyd_tree.specs.declared.file.File.{File}
use Rattle.pyd_tree.specs.declared.file.Func.{Func}
use Rattle.pyd_names.specs.Binding.{function, function_locals, locals, locals_in}
use Rattle.pyd_meaning.specs.declared.limits.Limits.{Limits}
use Rattle.pyd_scope.specs.declared.routine.Routine.{Routine}
use Rattle.pyd_scope.specs.Checks.{refusal}
use Rattle.pyd_scope.specs.Parts.{function_routine}
use Rattle.pyd_ir.specs.declared.arg.Arg.{Arg}
use Rattle.pyd_ir.specs.declared.arg.Arg.TheVariants.{Unbound}
use Rattle.pyd_translate.specs.declared.at.Start.TheVariants as start
use Rattle.pyd_translate.specs.declared.draft.Draft.{Draft}
use Rattle.pyd_translate.specs.declared.setting.Setting.{Setting}
use Rattle.pyd_translate.specs.Drafts.{onto, Makes}
use Rattle.pyd_translate.specs.Flows.{file_in, context_in}
use Rattle.pyd_translate.specs.Making.{Making}
use Rattle.pyd_translate.specs.Slots.{unbound_slots}
use Rattle.pyd_translate.specs.Statements.{Done, done}
use Rattle.pyd_translate.proofs.Onto.{onto_last}
use Rattle.pyd_refine.specs.Composites.{started, with_parameters, only_value, function_refined, body_refined}
use Rattle.pyd_refine.specs.Drafts.{Ends, entered}
use Rattle.pyd_refine.proofs.Ended.{ends_with}
use Rattle.pyd_refine.proofs.Entered.{entered_slots, parameters}

-- the body of a function, with these slots, of which the value alone is left
pub body_ends : (r : Result Arg NoMemory) (at : Setting) (before after : Draft) (func depth : ℕ) (env slots end : List Arg)
    → depth ≡ suc at.depth → env ≡ slots
    → IfOk r (λ v. Makes before (started (file_in at) func depth start.Body [] env) after (Some (done end v)))
    → IfOk r (λ v. Ends before (entered at func slots) [] after [] v)
body_ends (Ok v) at before after func depth env slots end d e h =
    let made : Makes before (started (file_in at) func (suc at.depth) start.Body [] slots) after (Some (done end v)) =
    (λ i. onto before.nodes (started (file_in at) func (sym d i) start.Body [] (sym e i) before.next)) ∙ h in
    ends_with before after [] (entered at func slots) [] v
    (onto_last before.nodes after.nodes (started (file_in at) func (suc at.depth) start.Body [] slots)
    (λ x. only_value x.value) before.next after.next (done end v) made)
body_ends (Err x) at before after func depth env slots end d e h = tt

-- slots that were filled up behind the arguments
pub filled_up : (filled env args : List Arg) (slots names : List (List ℕ))
    → filled ≡ env ++ replicate (length slots - length env) Unbound → env ≡ args → slots ≡ names
    → filled ≡ args ++ replicate (length names - length args) Unbound
filled_up filled env args slots names is e s =
    is ∙ (λ i. e i ++ replicate (length (s i) - length (e i)) Unbound)

equal : (m n : ℕ) → m ≡ n → nat_eq m n ≡ true
equal m n e = grind (arith, nat_tests)

-- a function's slots are its locals
its_locals : (file : File) (func : ℕ) (f : Func) → function file func ≡ Some f → locals file func ≡ function_locals f
its_locals file zero f found = absurd cc
its_locals file (suc k) f found = ap locals_in found

module _ (at : Setting) (limits : Limits) (line func : ℕ) (args : List Arg) where
  -- the nodes of an Enter of a function that may not be there
  abbrev nodes_of : Option Func → Making Done
  nodes_of o = function_refined (file_in at) limits o func args (context_in at line [])

  -- a function that is there, with as many arguments as parameters
  pub found : (o : Option Func) (r : Routine) → Some r ≡ option_map function_routine o → length args ≡ r.params
      → (f : Func) × (o ≡ Some f) × (length args ≡ length f.params)
  found None r e even = absurd cc
  found (Some f) r e even = let same : r.params ≡ length f.params = cc in (f, refl, even ∙ same)

  within : (f : Func) (left : ℕ) → length args ≡ length f.params → limits.depth - at.depth ≡ left
      → nodes_of (Some f) ≡ body_refined (file_in at) left func f args (context_in at line [])
  within f left even is = rw (equal (length args) (length f.params) even, is) refl

  -- the body of the function
  pub one_deeper : (f : Func) → refusal (file_in at) ≡ None → function (file_in at) func ≡ Some f
      → length args ≡ length f.params → at.depth < limits.depth
      → entered at func (args ++ replicate (length (locals (file_in at) func) - length args) Unbound)
      ≡ nodes_of (function (file_in at) func)
  one_deeper f accepted e even deep =
      let slots = its_locals (file_in at) func f e in
      let filled : with_parameters (locals (file_in at) func) (unbound_slots (locals (file_in at) func)) (parameters f) args
      ≡ args ++ replicate (length (locals (file_in at) func) - length args) Unbound =
      subst (λ l. with_parameters l (unbound_slots l) (parameters f) args ≡ args ++ replicate (length l - length args) Unbound)
      (sym slots) (entered_slots (file_in at) f func args accepted e even) in
      ap (entered at func) (sym filled)
      ∙ sym (ap nodes_of e ∙ within f (suc (limits.depth - suc at.depth)) even (omega arith))
