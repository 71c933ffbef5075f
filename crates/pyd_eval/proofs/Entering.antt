-- Entering a function: its slots bind its parameters to the arguments.
use Rattle.std.proofs.Common.{◌≡◌, ℕ, zero, suc, ◌+◌, List, [], ◌∷◌, ◌++◌, append_assoc, map, length, replicate, slice_get, filter, Bool, true, false, not, ◌||◌, cond, Option, Some, None, option_map, option_and_then, refl, sym, ap, ◌∙◌, subst, arith}
use Rattle.std.specs.List.{position_from}
use Rattle.std.proofs.lemmas.List.{length-map}
use Rattle.std.proofs.lemmas.List.Folds.{list_any-append}
use Rattle.pyd_value.specs.declared.value.Value.{Value}
use Rattle.pyd_names.specs.Binding.{same_name, is_among, distinct}
use Rattle.pyd_names.proofs.Names.{same_is, is_same}
use Rattle.pyd_scope.specs.Places.{place}
use Rattle.pyd_scope.specs.Rules.{is_repeating}
use Rattle.pyd_meaning.specs.Names.{Names, no_names, bind, bind_all}
use Rattle.pyd_meaning.proofs.Calls.{bind_all-even}
use Rattle.pyd_eval.specs.Frames.{flat, bound_by}
use Rattle.pyd_eval.specs.Passed.{values_in}

neither : (a b : Bool) → (a || b) ≡ false → (a ≡ false) × (b ≡ false)
neither true b h = cc
neither false b h = (refl, h)

-- no name stands among those behind it
abbrev AllApart : List (List ℕ) → Type 0
AllApart [] = Unit {0}
AllApart (n ∷ ns) = (is_among ns n ≡ false) × AllApart ns

-- a name among those before is none of the others
not_again : (before ns : List (List ℕ)) (n : List ℕ) → is_repeating before ns ≡ false → is_among before n ≡ true → is_among ns n ≡ false
not_again before [] n once there = refl
not_again before (m ∷ ns) n once there =
    let parts = neither (is_among before m) (is_repeating (before ++ m ∷ []) ns) once in
    let more : is_among (before ++ m ∷ []) n ≡ true = list_any-append (same_name n) before (m ∷ []) ∙ ap (λ b. b || (same_name n m || false)) there in
    elim (same_name n m) as (λ b. same_name n m ≡ b → (b || is_among ns n) ≡ false) [
      | true ↦ λ same. let e : is_among before m ≡ true = subst (λ k. is_among before k ≡ true) (same_is n m same) there in absurd cc
      | false ↦ λ same. not_again (before ++ m ∷ []) ns n parts.1 more
    ] refl

-- the last of some names is among them
last_among : (before : List (List ℕ)) (n : List ℕ) → is_among (before ++ n ∷ []) n ≡ true
last_among [] n = ap (λ b. b || false) (is_same n n refl)
last_among (m ∷ before) n = rw (last_among before n) (either (same_name n m))
  where
    either : (b : Bool) → (b || true) ≡ true
    either true = refl
    either false = refl

all_apart : (before ns : List (List ℕ)) → is_repeating before ns ≡ false → AllApart ns
all_apart before [] once = tt
all_apart before (n ∷ ns) once =
    let parts = neither (is_among before n) (is_repeating (before ++ n ∷ []) ns) once in
    (not_again (before ++ n ∷ []) ns n parts.1 (last_among before n), all_apart (before ++ n ∷ []) ns parts.1)

-- nothing is left out that isn't there
none_left_out : (n : List ℕ) (ns : List (List ℕ)) → is_among ns n ≡ false → filter (λ m. not (same_name n m)) ns ≡ ns
none_left_out n [] apart = refl
none_left_out n (m ∷ ns) apart =
    let parts = neither (same_name n m) (is_among ns n) apart in
    rw parts.0 (ap (λ ms. m ∷ ms) (none_left_out n ns parts.1))

filter-append : (p : List ℕ → Bool) (xs ys : List (List ℕ)) → filter p (xs ++ ys) ≡ filter p xs ++ filter p ys
filter-append p [] ys = refl
filter-append p (x ∷ xs) ys =
    elim (p x) as (λ b. cond b (x ∷ filter p (xs ++ ys)) (filter p (xs ++ ys)) ≡ cond b (x ∷ filter p xs) (filter p xs) ++ filter p ys)
    [ true ↦ ap (λ zs. x ∷ zs) (filter-append p xs ys) | false ↦ filter-append p xs ys ]

-- names that are apart come first among the distinct ones
distinct-front : (ps bs : List (List ℕ)) → AllApart ps → (rest : List (List ℕ)) × (distinct (ps ++ bs) ≡ ps ++ rest)
distinct-front [] bs apart = (distinct bs, refl)
distinct-front (p ∷ ps) bs apart =
    let more = distinct-front ps bs apart.1 in
    let test : List ℕ → Bool = λ m. not (same_name p m) in (
      filter test more.0,
      ap (λ ms. p ∷ filter test ms) more.1 ∙ ap (λ ms. p ∷ ms) (filter-append test ps more.0)
          ∙ ap (λ ms. p ∷ (ms ++ filter test more.0)) (none_left_out p ps apart.0),
    )

-- places counted from one more are one greater
position-suc : (t : List ℕ → Bool) (i : ℕ) (xs : List (List ℕ)) → position_from t (suc i) xs ≡ option_map suc (position_from t i xs)
position-suc t i [] = refl
position-suc t i (x ∷ xs) =
    elim (t x) as (λ b. cond b (Some (suc i)) (position_from t (suc i + 1) xs) ≡ option_map suc (cond b (Some i) (position_from t (i + 1) xs)))
    [ true ↦ refl | false ↦ ap (λ n. position_from t n xs) (omega arith) ∙ position-suc t (i + 1) xs ]

behind : (s : Option Value) (ss : List (Option Value)) (p : Option ℕ)
    → option_and_then (λ i. flat (slice_get (s ∷ ss) i)) (option_map suc p) ≡ option_and_then (λ i. flat (slice_get ss i)) p
behind s ss None = refl
behind s ss (Some k) = refl

-- the first slot belongs to the first name
bound-first : (n : List ℕ) (ns : List (List ℕ)) (s : Option Value) (ss : List (Option Value)) (y : List ℕ)
    → bound_by (n ∷ ns) (s ∷ ss) y ≡ cond (same_name y n) s (bound_by ns ss y)
bound-first n ns s ss y =
    elim (same_name y n) as (λ b. option_and_then (λ i. flat (slice_get (s ∷ ss) i)) (cond b (Some 0) (position_from (same_name y) 1 ns)) ≡ cond b s (bound_by ns ss y)) [
      | true ↦ refl
      | false ↦ ap (option_and_then (λ i. flat (slice_get (s ∷ ss) i))) (position-suc (same_name y) 0 ns) ∙ behind s ss (place ns y)
    ]

empty_there : (k i : ℕ) → flat (slice_get (replicate k None) i) ≡ None
empty_there zero i = refl
empty_there (suc k) zero = refl
empty_there (suc k) (suc i) = empty_there k i

empty_at : (k : ℕ) (p : Option ℕ) → option_and_then (λ i. flat (slice_get (replicate k None) i)) p ≡ None
empty_at k None = refl
empty_at k (Some i) = empty_there k i

-- empty slots bind nothing
pub bound-empty : (ns : List (List ℕ)) (k : ℕ) → bound_by ns (replicate k None) ≡ no_names
bound-empty ns k = λ t. λ y. empty_at k (place ns y) t

-- the one, or else the other
abbrev or_other : Option Value → Option Value → Option Value
or_other (Some v) other = Some v
or_other None other = other

module _ (rest : List (List ℕ)) (k : ℕ) where
  -- a name that is no parameter isn't bound
  unpassed : (ps : List (List ℕ)) (vs : List Value) (y : List ℕ) → length ps ≡ length vs → is_among ps y ≡ false
      → bound_by (ps ++ rest) (map Some vs ++ replicate k None) y ≡ None
  unpassed [] [] y even apart = empty_at k (place rest y)
  unpassed [] (v ∷ vs) y even apart = absurd (omega arith)
  unpassed (p ∷ ps) [] y even apart = absurd (omega arith)
  unpassed (p ∷ ps) (v ∷ vs) y even apart =
      let parts = neither (same_name y p) (is_among ps y) apart in
      bound-first p (ps ++ rest) (Some v) (map Some vs ++ replicate k None) y
      ∙ ap (λ b. cond b (Some v) (bound_by (ps ++ rest) (map Some vs ++ replicate k None) y)) parts.0
      ∙ unpassed ps vs y (omega arith) parts.1

  -- a parameter is bound to its argument, and any other name as before
  bound_at : (ps : List (List ℕ)) (vs : List Value) (names bound : Names) (y : List ℕ) → AllApart ps → length ps ≡ length vs
      → bind_all names ps vs ≡ Some bound → bound y ≡ or_other (bound_by (ps ++ rest) (map Some vs ++ replicate k None) y) (names y)
  bound_at [] [] names bound y apart even is =
      let e : names ≡ bound = cc in
      ap (λ (m : Names). m y) (sym e) ∙ ap (λ o. or_other o (names y)) (sym (empty_at k (place rest y)))
  bound_at [] (v ∷ vs) names bound y apart even is = absurd (omega arith)
  bound_at (p ∷ ps) [] names bound y apart even is = absurd (omega arith)
  bound_at (p ∷ ps) (v ∷ vs) names bound y apart even is =
      let more : bound y ≡ or_other (bound_by (ps ++ rest) (map Some vs ++ replicate k None) y) (cond (same_name y p) (Some v) (names y)) =
      bound_at ps vs (bind names p v) bound y apart.1 (omega arith) is in
      more ∙ here ∙ ap (λ o. or_other o (names y)) (sym (bound-first p (ps ++ rest) (Some v) (map Some vs ++ replicate k None) y))
    where
      here : or_other (bound_by (ps ++ rest) (map Some vs ++ replicate k None) y) (cond (same_name y p) (Some v) (names y))
          ≡ or_other (cond (same_name y p) (Some v) (bound_by (ps ++ rest) (map Some vs ++ replicate k None) y)) (names y)
      here =
          elim (same_name y p) as (λ b. same_name y p ≡ b
          → or_other (bound_by (ps ++ rest) (map Some vs ++ replicate k None) y) (cond b (Some v) (names y))
          ≡ or_other (cond b (Some v) (bound_by (ps ++ rest) (map Some vs ++ replicate k None) y)) (names y)) [
            | true ↦ λ same. ap (λ o. or_other o (Some v)) (unpassed ps vs y (omega arith) (subst (λ n. is_among ps n ≡ false) (sym (same_is y p same)) apart.0))
            | false ↦ λ same. refl
          ] refl

or-none : (o : Option Value) → or_other o None ≡ o
or-none None = refl
or-none (Some v) = refl

-- as many values as slots that aren't empty
pub length-values : (xs : List (Option Value)) → xs ≡ map Some (values_in xs) → length (values_in xs) ≡ length xs
length-values xs full = sym (length-map (values_in xs) Some) ∙ ap length (sym full)

-- the arguments in the first slots of a function bind its parameters
pub entered : (ps bs : List (List ℕ)) (xs : List (Option Value)) (k : ℕ) → is_repeating [] ps ≡ false → xs ≡ map Some (values_in xs)
    → length ps ≡ length xs → bind_all no_names ps (values_in xs) ≡ Some (bound_by (distinct (ps ++ bs)) (xs ++ replicate k None))
entered ps bs xs k once full even =
    let count : length ps ≡ length (values_in xs) = even ∙ sym (length-values xs full) in
    let some = bind_all-even no_names ps (values_in xs) count in
    let apart = all_apart [] ps once in
    let front = distinct-front ps bs apart in
    let all : bound_by (ps ++ front.0) (map Some (values_in xs) ++ replicate k None) ≡ bound_by (distinct (ps ++ bs)) (xs ++ replicate k None) =
    ap (λ ns. bound_by ns (map Some (values_in xs) ++ replicate k None)) (sym front.1) ∙ ap (λ ss. bound_by (distinct (ps ++ bs)) (ss ++ replicate k None)) (sym full) in
    let at : (y : List ℕ) → some.0 y ≡ bound_by (ps ++ front.0) (map Some (values_in xs) ++ replicate k None) y =
    λ y. bound_at front.0 k ps (values_in xs) no_names some.0 y apart count some.1 ∙ or-none (bound_by (ps ++ front.0) (map Some (values_in xs) ++ replicate k None) y) in
    some.1 ∙ ap (λ (m : Names). Some m) ((λ t. λ y. at y t) ∙ all)

-- one more slot is one fewer to be filled
pub one-filled : (xs : List (Option Value)) (n m : ℕ) → m ≡ suc n → (xs ++ None ∷ []) ++ replicate n None ≡ xs ++ replicate m None
one-filled xs n m is = append_assoc xs (None ∷ []) (replicate n None) ∙ ap (λ k. xs ++ replicate k None) (sym is)
