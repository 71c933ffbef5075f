-- What holds of the functions of a program.
use Rattle.std.proofs.Common.{◌≡◌, ℕ, zero, suc, ◌+◌, ◌-◌, ◌*◌, ◌<◌, ◌≢◌, suc-mul, List, [], ◌∷◌, ◌++◌, map, length, slice_get, filter_map, flat_map, Bool, true, false, ◌||◌, Option, Some, None, option_map, refl, sym, ap, ◌∙◌, subst, arith}
use Rattle.std.specs.Borrow.{Bor}
use Rattle.std.specs.List.{list_all}
use Rattle.std.proofs.lemmas.Option.{slice_get-map}
use Rattle.std.proofs.lemmas.List.Folds.{list_any-append}
use Rattle.pyd_value.specs.Size.{total}
use Rattle.pyd_tree.specs.declared.file.File.{File}
use Rattle.pyd_tree.specs.declared.file.Func.{Func}
use Rattle.pyd_tree.specs.declared.file.Item.{Item}
use Rattle.pyd_tree.specs.declared.file.Item.TheVariants as item
use Rattle.pyd_names.specs.Binding.{same_name, is_among, distinct, function, function_in, functions, function_locals, bindings, names_of, locals, locals_in}
use Rattle.pyd_names.specs.WellFormed.{block_parts, item_parts, parts}
use Rattle.pyd_names.proofs.Names.{is_same}
use Rattle.pyd_names.proofs.Turns.{is_among-distinct}
use Rattle.pyd_scope.specs.declared.refusal.Refusal.{Refusal}
use Rattle.pyd_scope.specs.declared.refusal.Refusal.TheVariants.{Decorator, TwiceParameter}
use Rattle.pyd_scope.specs.declared.routine.Routine.{Routine}
use Rattle.pyd_scope.specs.Checks.{refused, or_else, first, by_bindings, by_uses, by_places, refusal}
use Rattle.pyd_scope.specs.Least.{lesser, least}
use Rattle.pyd_scope.specs.Parts.{routines_in, routines}
use Rattle.pyd_scope.specs.Resolving.{slots_in}
use Rattle.pyd_scope.specs.Rules as rule
use Rattle.pyd_scope.specs.Rules.{line_if, is_repeating, twice_in, twice_parameter}
use Rattle.pyd_scope.proofs.Resolved.{slots}

-- of refusals of which none is first, the last is none
last_none : (rs : List (Option Refusal)) (r : Option Refusal) → first (rs ++ r ∷ []) ≡ None → r ≡ None
last_none [] None h = refl
last_none [] (Some r) h = cc
last_none (None ∷ rs) r h = last_none rs r h
last_none (Some q ∷ rs) r h = cc

lesser_some : (n : ℕ) (o : Option ℕ) → lesser (Some n) o ≡ None → ⊥
lesser_some n None h = cc
lesser_some n (Some m) h = cc

least_none : (lines : List ℕ) → least lines ≡ None → lines ≡ []
least_none [] h = refl
least_none (line ∷ lines) h = absurd (lesser_some line (least lines) h)

mapped_none : (by : ℕ → Refusal) (o : Option ℕ) → option_map by o ≡ None → o ≡ None
mapped_none by None h = refl
mapped_none by (Some n) h = cc

-- no function of an accepted file has a parameter twice
never_twice : (file : File) → refusal file ≡ None → twice_parameter file ≡ []
never_twice file accepted =
    let r : refused TwiceParameter (twice_parameter file) ≡ None =
    last_none (by_bindings file ++ (by_uses file ++ (by_places file ++ refused Decorator (rule.decorator file) ∷ []))) _ accepted in
    least_none (twice_parameter file) (mapped_none TwiceParameter (least (twice_parameter file)) r)

both_empty : (xs ys : List ℕ) → xs ++ ys ≡ [] → (xs ≡ []) × (ys ≡ [])
both_empty [] ys h = (refl, h)
both_empty (x ∷ xs) ys h = cc

not_repeating : (b : Bool) (line : ℕ) → line_if b line ≡ [] → b ≡ false
not_repeating true line h = cc
not_repeating false line h = refl

-- the parameters' names
abbrev pub parameter_names : Func → List (List ℕ)
parameter_names f = map (λ p. p.1) f.params

once_in : (items : List Item) (k : ℕ) (f : Func) → flat_map twice_in items ≡ [] → slice_get (filter_map function_in items) k ≡ Some f
    → is_repeating [] (parameter_names f) ≡ false
once_in [] k f none found = cc
once_in (item.Import line from names ∷ is) k f none found = once_in is k f none found
once_in (item.Stmt s ∷ is) k f none found = once_in is k f none found
once_in (item.Def g ∷ is) zero f none found =
    let e : g ≡ f = cc in
    let empty = both_empty (twice_in (item.Def g)) (flat_map twice_in is) none in
    subst (λ (h : Func). is_repeating [] (parameter_names h) ≡ false) e (not_repeating (is_repeating [] (parameter_names g)) g.line empty.0)
once_in (item.Def g ∷ is) (suc k) f none found = once_in is k f (both_empty (twice_in (item.Def g)) (flat_map twice_in is) none).1 found

parts_in : (items : List Item) (k : ℕ) (f : Func) → slice_get (filter_map function_in items) k ≡ Some f → block_parts f.body < total (map item_parts items)
parts_in [] k f found = cc
parts_in (item.Import line from names ∷ is) k f found = omega (arith, parts_in is k f found)
parts_in (item.Stmt s ∷ is) k f found = omega (arith, parts_in is k f found)
parts_in (item.Def g ∷ is) zero f found =
    let e : g ≡ f = cc in
    let h : block_parts g.body ≡ block_parts f.body = ap (λ (h : Func). block_parts h.body) e in
    omega arith
parts_in (item.Def g ∷ is) (suc k) f found = omega (arith, parts_in is k f found)

known_in : (items : List Item) (k : ℕ) (f : Func) → slice_get (filter_map function_in items) k ≡ Some f → k < length (flat_map routines_in items)
known_in [] k f found = cc
known_in (item.Import line from names ∷ is) k f found = known_in is k f found
known_in (item.Stmt s ∷ is) k f found = known_in is k f found
known_in (item.Def g ∷ is) zero f found = omega arith
known_in (item.Def g ∷ is) (suc k) f found = omega (arith, known_in is k f found)

module _ (file : File) (f : Func) where
  -- a function's parameters are apart
  pub once : (k : ℕ) → refusal file ≡ None → function file k ≡ Some f → is_repeating [] (parameter_names f) ≡ false
  once zero accepted found = cc
  once (suc k) accepted found = once_in file.items k f (never_twice file accepted) found

  -- a function's body has fewer parts than the file
  pub fewer_parts : (k : ℕ) → function file k ≡ Some f → block_parts f.body < parts file
  fewer_parts zero found = cc
  fewer_parts (suc k) found = parts_in file.items k f found

  -- a function is a routine
  pub is_known : (k : ℕ) (rs : List Routine) → rs ≡ routines file → function file k ≡ Some f → k < length rs
  is_known zero rs are found = cc
  is_known (suc k) rs are found =
      let n : length rs ≡ length (routines file) = ap (λ (l : List Routine). length l) are in
      omega (arith, known_in file.items k f found)

  -- its slots are its locals
  pub slots_of_function : (k : ℕ) (rs : List Routine) → rs ≡ routines file → function file k ≡ Some f → slots_in (slice_get rs k) ≡ function_locals f
  slots_of_function zero rs are found = cc
  slots_of_function (suc k) rs are found = slots file rs (suc k) are ∙ ap locals_in found

-- the module's slots are its variables
pub slots_of_module : (file : File) (rs : List Routine) → rs ≡ routines file → slots_in (slice_get rs 0) ≡ locals file 0
slots_of_module file rs are = slots file rs 0 are

either : (a : Bool) → (a || true) ≡ true
either true = refl
either false = refl

-- a test that holds of each name that is among some holds of all of them
all_in : (ns : List (List ℕ)) (test : List ℕ → Bool) → ((n : List ℕ) → is_among ns n ≡ true → test n ≡ true) → list_all test ns ≡ true
all_in [] test holds = refl
all_in (n ∷ ns) test holds =
    let here : test n ≡ true = holds n (ap (λ b. b || is_among ns n) (is_same n n refl)) in
    rw here (all_in ns test (λ m h. holds m (ap (λ b. same_name m n || b) h ∙ either (same_name m n))))

-- each of some names is among the distinct ones of these and others
pub all_among : (others ns : List (List ℕ)) → list_all (is_among (distinct (others ++ ns))) ns ≡ true
all_among others ns =
    all_in ns (is_among (distinct (others ++ ns)))
    (λ n h. is_among-distinct (others ++ ns) n ∙ list_any-append (same_name n) others ns ∙ ap (λ b. is_among others n || b) h ∙ either (is_among others n))

-- a call one deeper has less left to do
pub one-deeper : (d e r w : ℕ) → e < d → w < r → (d - (e + 1)) * (8 * r) + (8 * w + 1) < (d - e) * (8 * r) + (8 * 0 + 1)
one-deeper d e r w within fewer =
    let more : d - e ≡ suc (d - (e + 1)) = omega arith in
    let grown : suc (d - (e + 1)) * (8 * r) ≡ (d - (e + 1)) * (8 * r) + 8 * r = suc-mul (d - (e + 1)) (8 * r) in
    rw more (omega arith)

-- function k, counted from 1, where the functions are at hand
pub function-below : (file : File) (k : ℕ) (fs : List (Bor Func)) (found : Option (Bor Func)) → k ≢ 0 → map (λ f. f.now) fs ≡ functions file
    → found ≡ slice_get fs (k - 1) → option_map (λ f. f.now) found ≡ function file k
function-below file zero fs found other are is = absurd (other refl)
function-below file (suc k) fs found other are is =
    let one : suc k - 1 ≡ k = omega arith in
    ap (option_map (λ (f : Bor Func). f.now)) (is ∙ ap (slice_get fs) one)
    ∙ sym (slice_get-map (λ (f : Bor Func). f.now) fs k) ∙ ap (λ (l : List Func). slice_get l k) are
