-- In a file that breaks no rule, no use in a `@functional` function is a call of what may print.
use Rattle.std.proofs.Common.{◌≡◌, ℕ, zero, suc, ◌+◌, List, [], ◌∷◌, ◌++◌, map, refl, subst, arith, Option, Some, None, Bool, true, false, ◌&&◌}
use Rattle.std.specs.Prelude.{option_map}
use Rattle.std.specs.List.{flat_map, slice_get}
use Rattle.pyd_tree.specs.declared.file.File.{File}
use Rattle.pyd_tree.specs.declared.file.Func.{Func}
use Rattle.pyd_names.specs.declared.name_use.NameUse.{NameUse}
use Rattle.pyd_names.specs.Binding.{function, functions}
use Rattle.pyd_names.specs.Resolution.{resolved}
use Rattle.pyd_names.specs.Uses.{uses, uses_in, routine_uses}
use Rattle.pyd_scope.specs.declared.refusal.Refusal.{Refusal}
use Rattle.pyd_scope.specs.declared.refusal.Refusal.TheVariants as broken
use Rattle.pyd_scope.specs.declared.sightings.Sighting.{Sighting}
use Rattle.pyd_scope.specs.Least.{lesser, least}
use Rattle.pyd_scope.specs.Checks.{refused, or_else, first, by_statements, refusal}
use Rattle.pyd_scope.specs.Rules.{line_if, seen_where, numbers_from, sightings_in, sightings, sighting, is_functional_routine, is_call, may_print, standing_of, twice_defined, rebind, function_value, call_of_variable, global_read, impure}
use Rattle.pyd_translate.proofs.Induction.{Each}
use Rattle.pyd_translate.proofs.Stays.{each_front, each_back}

front_none : (r o : Option Refusal) → or_else r o ≡ None → r ≡ None
front_none None o e = refl
front_none (Some r) o e = absurd (cc e)

back_none : (r o : Option Refusal) → or_else r o ≡ None → o ≡ None
back_none None o e = e
back_none (Some r) o e = absurd (cc e)

some_least : (by : ℕ → Refusal) (l : ℕ) (ls : List ℕ) (o : Option ℕ)
    → option_map by (lesser (Some l) o) ≡ None → l ∷ ls ≡ []
some_least by l ls None e = absurd (cc e)
some_least by l ls (Some m) e = absurd (cc e)

-- a rule that refuses nothing is broken by no line
unrefused : (by : ℕ → Refusal) (lines : List ℕ) → refused by lines ≡ None → lines ≡ []
unrefused by [] e = refl
unrefused by (l ∷ ls) e = some_least by l ls (least ls) e

-- a file that is not refused has no line that breaks the rule on calls that print
no_impure : (file : File) → refusal file ≡ None → impure file ≡ []
no_impure file e =
    let rest = first (by_statements file) in
    let impurely = or_else (refused broken.Impure (impure file)) rest in
    let globally = or_else (refused broken.GlobalRead (global_read file)) impurely in
    let on_variables = or_else (refused broken.CallOfVariable (call_of_variable file)) globally in
    let on_values = or_else (refused broken.FunctionValue (function_value file)) on_variables in
    let bound_again = or_else (refused broken.Rebind (rebind file)) on_values in
    unrefused broken.Impure (impure file)
    (front_none (refused broken.Impure (impure file)) rest
    (back_none (refused broken.GlobalRead (global_read file)) impurely
    (back_none (refused broken.CallOfVariable (call_of_variable file)) globally
    (back_none (refused broken.FunctionValue (function_value file)) on_variables
    (back_none (refused broken.Rebind (rebind file)) on_values
    (back_none (refused broken.TwiceDefined (twice_defined file)) bound_again e))))))

-- a sighting of a call that may print, in a function that must not
abbrev breaks : Sighting → Bool
breaks s = s.functional && (is_call s.manner && may_print s.standing)

unlined : (b : Bool) (l : ℕ) (rest : List ℕ) → line_if b l ++ rest ≡ [] → (b ≡ false) × (rest ≡ [])
unlined false l rest e = (refl, e)
unlined true l rest e = absurd (cc e)

unseen : (test : Sighting → Bool) (ss : List Sighting) → seen_where test ss ≡ []
    → Each (λ s. test s ≡ false) ss
unseen test [] e = tt
unseen test (s ∷ ss) e =
    let q = unlined (test s) s.line (seen_where test ss) e in (q.0, unseen test ss q.1)

-- what holds of all that is in each function holds of all that is in one
in_function : {A : Type 0} (P : A → Type 0) (g : ℕ → List A) (n : ℕ) (fs : List Func) (j m : ℕ) (f : Func)
    → m ≡ suc (n + j) → slice_get fs j ≡ Some f → Each P (flat_map g (numbers_from n fs)) → Each P (g m)
in_function P g n [] j m f is at p = absurd (cc at)
in_function P g n (h ∷ fs) zero m f is at p =
    let here : suc n ≡ m = omega (arith, is) in
    subst (λ k. Each P (g k)) here (each_front P (g (suc n)) (flat_map g (numbers_from (suc n) fs)) p)
in_function P g n (h ∷ fs) (suc j) m f is at p =
    in_function P g (suc n) fs j m f (omega (arith, is)) at
    (each_back P (g (suc n)) (flat_map g (numbers_from (suc n) fs)) p)

each_unmapped : {A B : Type 0} (P : B → Type 0) (f : A → B) (xs : List A) → Each P (map f xs)
    → Each (λ x. P (f x)) xs
each_unmapped P f [] p = tt
each_unmapped P f (x ∷ xs) p = (p.0, each_unmapped P f xs p.1)

-- a use that is a call is of what may not print
abbrev pub IsAllowed : File → ℕ → NameUse → Type 0
IsAllowed file k u = is_call u.manner ≡ true → may_print (standing_of file (resolved file k u.name)) ≡ false

allowed : (a b c : Bool) → a ≡ true → (a && (b && c)) ≡ false → b ≡ true → c ≡ false
allowed true true c e f g = f
allowed true false c e f g = absurd (cc g)
allowed false b c e f g = absurd (cc e)

all_allowed : (file : File) (k : ℕ) (us : List NameUse) → is_functional_routine (function file k) ≡ true
    → Each (λ u. breaks (sighting file k u) ≡ false) us → Each (IsAllowed file k) us
all_allowed file k [] e p = tt
all_allowed file k (u ∷ us) e p = (
  allowed (is_functional_routine (function file k)) (is_call u.manner) (may_print (standing_of file (resolved file k u.name))) e p.0,
  all_allowed file k us e p.1,
)

-- of a function that is there and `@functional`
in_body : (file : File) (j : ℕ) (f : Func) → refusal file ≡ None
    → is_functional_routine (function file (suc j)) ≡ true → slice_get (functions file) j ≡ Some f
    → Each (IsAllowed file (suc j)) (uses f.body)
in_body file j f r e at =
    let seen : Each (λ s. breaks s ≡ false) (sightings file) = unseen breaks (sightings file) (no_impure file r) in
    let inside : Each (λ s. breaks s ≡ false) (sightings_in file (suc j)) =
    in_function (λ s. breaks s ≡ false) (sightings_in file) zero (functions file) j (suc j) f (omega arith) at
    (each_back (λ s. breaks s ≡ false) (sightings_in file zero)
    (flat_map (sightings_in file) (numbers_from zero (functions file))) seen) in
    subst (λ o. Each (IsAllowed file (suc j)) (uses_in o)) at
    (all_allowed file (suc j) (routine_uses file (suc j)) e
    (each_unmapped (λ s. breaks s ≡ false) (sighting file (suc j)) (routine_uses file (suc j)) inside))

-- of each function that is `@functional`
pub all_uses_allowed : (file : File) (k : ℕ) (f : Func) → refusal file ≡ None
    → is_functional_routine (function file k) ≡ true → function file k ≡ Some f
    → Each (IsAllowed file k) (uses f.body)
all_uses_allowed file zero f r e at = absurd (cc at)
all_uses_allowed file (suc j) f r e at = in_body file j f r e at
