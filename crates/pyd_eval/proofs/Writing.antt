-- A slot that is written binds its name.
use Rattle.std.proofs.Common.{◌≡◌, ◌&&◌, ℕ, zero, suc, ◌+◌, ◌<◌, ◌≤◌, drop, drop-cons, add-one, List, [], ◌∷◌, length, get_or, cond, Option, Some, None, option_and_then, refl, sym, ap, ◌∙◌, subst, Bool, true, false, if◌then◌else◌, arith}
use Rattle.std.specs.List.{position_from, slice_get, slice_set}
use Rattle.std.proofs.lemmas.List.{drop_all}
use Rattle.std.specs.Str.{bytes_eq}
use Rattle.std.proofs.lemmas.Slice.Eq.{bytes_eq-Decides}
use Rattle.pyd_value.specs.declared.value.Value.{Value}
use Rattle.pyd_names.specs.Binding.{same_name}
use Rattle.pyd_names.proofs.Names.{same_is}
use Rattle.pyd_names.specs.Binding.{is_among}
use Rattle.pyd_names.specs.Resolution as resolution
use Rattle.pyd_names.specs.Resolution.{resolved_outside}
use Rattle.pyd_scope.specs.declared.program.Program.{Program}
use Rattle.pyd_scope.specs.declared.uses.Use.{Use}
use Rattle.pyd_scope.specs.declared.uses.Use.TheVariants as use_of
use Rattle.pyd_scope.specs.Parts.{routines}
use Rattle.pyd_scope.specs.Places.{place}
use Rattle.pyd_scope.specs.Resolving.{resolution_of, slots_of, Resolves}
use Rattle.pyd_scope.proofs.Resolved.{slots as slots_are_locals}
use Rattle.pyd_meaning.specs.Names.{Names, bind, bind_all}
use Rattle.pyd_eval.specs.Frames.{flat, bound_by}

-- where a name was found from a number on
record Found (names : List (List ℕ)) (x : List ℕ) (k i : ℕ) : Type 0 where
  index : ℕ
  number : i ≡ k + index
  there : get_or names index [] ≡ x
  within : index < length names

found_later : (n : List ℕ) (names : List (List ℕ)) (x : List ℕ) (k i : ℕ) → Found names x (k + 1) i → Found (n ∷ names) x k i
found_later n names x k i f = let e = f.number in let w = f.within in record { index = suc f.index; number = omega (arith, e); there = f.there; within = omega (arith, w) }

-- a place is one of the name
found : (names : List (List ℕ)) (x : List ℕ) (k i : ℕ) → position_from (same_name x) k names ≡ Some i → Found names x k i
found [] x k i e = absurd cc
found (n ∷ names) x k i e =
    elim (same_name x n) as (λ b. same_name x n ≡ b → cond b (Some k) (position_from (same_name x) (k + 1) names) ≡ Some i → Found (n ∷ names) x k i) [
      | true ↦ λ t e'. let h : k ≡ i = cc in record { index = 0; number = omega (arith, h); there = sym (same_is x n t); within = omega arith }
      | false ↦ λ t e'. found_later n names x k i (found names x (k + 1) i e')
    ] refl e

-- a place lies among the names
pub place_within : (names : List (List ℕ)) (x : List ℕ) (i : ℕ) → place names x ≡ Some i → i < length names
place_within names x i e = let f = found names x 0 i e in let n = f.number in let w = f.within in omega (arith, n, w)

-- two names at one place are the same
one_place : (names : List (List ℕ)) (x y : List ℕ) (i : ℕ) → place names x ≡ Some i → place names y ≡ Some i → x ≡ y
one_place names x y i p q =
    let f = found names x 0 i p in
    let g = found names y 0 i q in
    let m = f.number in
    let n = g.number in
    let same : f.index ≡ g.index = omega (arith, m, n) in
    sym f.there ∙ ap (λ k. get_or names k []) same ∙ g.there

get_set : (slots : List (Option Value)) (i : ℕ) (v : Value) → i < length slots → flat (slice_get (slice_set slots i (Some v)) i) ≡ Some v
get_set [] i v lt = absurd (omega arith)
get_set (s ∷ slots) zero v lt = refl
get_set (s ∷ slots) (suc i) v lt = get_set slots i v (omega arith)

get_other : (slots : List (Option Value)) (i j : ℕ) (v : Value) → (j ≡ i → ⊥) → slice_get (slice_set slots i (Some v)) j ≡ slice_get slots j
get_other [] i j v ne = refl
get_other (s ∷ slots) zero zero v ne = absurd (ne refl)
get_other (s ∷ slots) zero (suc j) v ne = refl
get_other (s ∷ slots) (suc i) zero v ne = refl
get_other (s ∷ slots) (suc i) (suc j) v ne = get_other slots i j v (λ e. ne (ap suc e))

module _ (names : List (List ℕ)) (slots : List (Option Value)) (x : List ℕ) (i : ℕ) (v : Value) (at : place names x ≡ Some i) (lt : i < length slots) where
  other_at : (y : List ℕ) → bytes_eq y x ≡ false → (p : Option ℕ) → place names y ≡ p
      → option_and_then (λ k. flat (slice_get (slice_set slots i (Some v)) k)) p ≡ option_and_then (λ k. flat (slice_get slots k)) p
  other_at y apart None q = refl
  other_at y apart (Some j) q =
      ap flat (get_other slots i j v (λ e.
      let yes : bytes_eq y x ≡ true = (bytes_eq-Decides y x).1 (one_place names y x j q (at ∙ ap Some (sym e))) in
      absurd cc))

  bound_at : (y : List ℕ) → bound_by names (slice_set slots i (Some v)) y ≡ bind (bound_by names slots) x v y
  bound_at y =
      elim (bytes_eq y x) as (λ b. bytes_eq y x ≡ b → bound_by names (slice_set slots i (Some v)) y ≡ (if b then Some v else bound_by names slots y)) [
        | true ↦ λ t. ap (option_and_then (λ k. flat (slice_get (slice_set slots i (Some v)) k))) (ap (place names) ((bytes_eq-Decides y x).0 t) ∙ at) ∙ get_set slots i v lt
        | false ↦ λ t. other_at y t (place names y) refl
      ] refl

  -- writing the slot binds the name
  pub put_binds : bound_by names (slice_set slots i (Some v)) ≡ bind (bound_by names slots) x v
  put_binds = λ t y. bound_at y t

-- what stands for no slot stands for no local
no_local : (found : Use) → ((i : ℕ) → found ≡ use_of.Slot i → ⊥) → resolution_of found ≡ resolution.Local → ⊥
no_local (use_of.Slot i) none e = none i refl
no_local (use_of.Constant v) none e = cc
no_local (use_of.Routine k) none e = cc
no_local (use_of.Builtin b) none e = cc
no_local use_of.Imported none e = cc
no_local use_of.Variable none e = cc
no_local use_of.Unbound none e = cc

-- a name that has a slot stands for one
pub has_slot : (p : Program) (routine : ℕ) (name : List ℕ) (found : Use) → p.routines ≡ routines p.file → Resolves p routine name found
    → is_among (slots_of p routine) name ≡ true → ((i : ℕ) → found ≡ use_of.Slot i → ⊥) → ⊥
has_slot p routine name found its r among none =
    no_local found none (r.resolution ∙ ap (λ b. if b then resolution.Local else resolved_outside p.file name) (sym (ap (λ ns. is_among ns name) (slots_are_locals p.file p.routines routine its)) ∙ among))

-- one name that passes a test of all
pub one_test : (b : Bool) → b && true ≡ true → b ≡ true
one_test true h = refl
one_test false h = cc

-- one name more is bound
pub bind_step : (n : Names) (xs : List (List ℕ)) (vs : List Value) (i : ℕ) (x : List ℕ) (v : Value) → i < length xs → length xs ≡ length vs
    → x ≡ get_or xs i x → v ≡ get_or vs i v
    → bind_all n (drop i xs) (drop i vs) ≡ bind_all (bind n x v) (drop (i + 1) xs) (drop (i + 1) vs)
bind_step n xs vs i x v lt even at there =
    let lt' : i < length vs = omega (arith, lt, even) in
    rw (drop-cons xs i x lt, drop-cons vs i v lt', ← at, ← there, add-one) refl

-- all names are bound
pub bind_done : (n : Names) (xs : List (List ℕ)) (vs : List Value) (i : ℕ) → length xs ≤ i → length xs ≡ length vs
    → bind_all n (drop i xs) (drop i vs) ≡ Some n
bind_done n xs vs i le even =
    let le' : length vs ≤ i = omega (arith, le, even) in
    rw (drop_all i xs le, drop_all i vs le') refl
