-- The slots of a function that is entered: its parameters' arguments, and behind them no slot is bound.
use Rattle.std.proofs.Common.{◌≡◌, ℕ, zero, suc, ◌-◌, List, [], ◌∷◌, ◌++◌, append_assoc, map, length, replicate, slice_get, filter, filter_map, flat_map, Bool, true, false, not, ◌||◌, cond, Option, Some, None, option_map, refl, sym, ap, ◌∙◌, subst, arith}
use Rattle.std.proofs.lemmas.List.{length-map}
use Rattle.std.proofs.lemmas.List.Folds.{list_any-append}
use Rattle.pyd_tree.specs.declared.file.File.{File}
use Rattle.pyd_tree.specs.declared.file.Func.{Func}
use Rattle.pyd_tree.specs.declared.file.Item.{Item}
use Rattle.pyd_tree.specs.declared.file.Item.TheVariants as item
use Rattle.pyd_names.specs.Binding.{same_name, is_among, distinct, function, function_in, function_locals, bindings, names_of}
use Rattle.pyd_names.proofs.Names.{same_is, is_same, same-flip}
use Rattle.pyd_scope.specs.declared.refusal.Refusal.{Refusal}
use Rattle.pyd_scope.specs.declared.refusal.Refusal.TheVariants.{Decorator, TwiceParameter}
use Rattle.pyd_scope.specs.Checks.{refused, first, by_bindings, by_uses, by_places, refusal}
use Rattle.pyd_scope.specs.Least.{lesser, least}
use Rattle.pyd_scope.specs.Rules as rule
use Rattle.pyd_scope.specs.Rules.{line_if, is_repeating, twice_in, twice_parameter}
use Rattle.pyd_ir.specs.declared.arg.Arg.{Arg}
use Rattle.pyd_ir.specs.declared.arg.Arg.TheVariants.{Unbound}
use Rattle.pyd_translate.specs.Slots.{set_slot, unbound_slots}
use Rattle.pyd_refine.specs.Composites.{with_parameters}

-- one more slot is one fewer to be filled
pub one-filled : (xs : List Arg) (n m : ℕ) → m ≡ suc n
    → (xs ++ Unbound ∷ []) ++ replicate n Unbound ≡ xs ++ replicate m Unbound
one-filled xs n m is =
    append_assoc xs (Unbound ∷ []) (replicate n Unbound) ∙ ap (λ k. xs ++ replicate k Unbound) (sym is)

-- of refusals of which none is first, the last is none
last_none : (rs : List (Option Refusal)) (r : Option Refusal) → first (rs ++ r ∷ []) ≡ None → r ≡ None
last_none [] None h = refl
last_none [] (Some r) h = cc
last_none (None ∷ rs) r h = last_none rs r h
last_none (Some q ∷ rs) r h = cc

least_none : (lines : List ℕ) → least lines ≡ None → lines ≡ []
least_none [] h = refl
least_none (line ∷ lines) h = absurd (some (least lines) h)
  where
    some : (o : Option ℕ) → lesser (Some line) o ≡ None → ⊥
    some None e = cc
    some (Some m) e = cc

mapped_none : (by : ℕ → Refusal) (o : Option ℕ) → option_map by o ≡ None → o ≡ None
mapped_none by None h = refl
mapped_none by (Some n) h = cc

-- no function of an accepted file has a parameter twice
never_twice : (file : File) → refusal file ≡ None → twice_parameter file ≡ []
never_twice file accepted =
    let r : refused TwiceParameter (twice_parameter file) ≡ None =
    last_none (by_bindings file ++ (by_uses file ++ (by_places file ++ refused Decorator (rule.decorator file) ∷ []))) _ accepted in
    least_none (twice_parameter file) (mapped_none TwiceParameter (least (twice_parameter file)) r)

both_empty : (xs ys : List ℕ) → xs ++ ys ≡ [] → (xs ≡ []) × (ys ≡ [])
both_empty [] ys h = (refl, h)
both_empty (x ∷ xs) ys h = cc

not_repeating : (b : Bool) (line : ℕ) → line_if b line ≡ [] → b ≡ false
not_repeating true line h = cc
not_repeating false line h = refl

-- the parameters' names
abbrev pub parameters : Func → List (List ℕ)
parameters f = map (λ p. p.1) f.params

once_in : (items : List Item) (k : ℕ) (f : Func) → flat_map twice_in items ≡ []
    → slice_get (filter_map function_in items) k ≡ Some f → is_repeating [] (parameters f) ≡ false
once_in [] k f none found = cc
once_in (item.Import line from names ∷ is) k f none found = once_in is k f none found
once_in (item.Stmt s ∷ is) k f none found = once_in is k f none found
once_in (item.Def g ∷ is) zero f none found =
    let e : g ≡ f = cc in
    let empty = both_empty (twice_in (item.Def g)) (flat_map twice_in is) none in
    subst (λ (h : Func). is_repeating [] (parameters h) ≡ false) e
    (not_repeating (is_repeating [] (parameters g)) g.line empty.0)
once_in (item.Def g ∷ is) (suc k) f none found =
    once_in is k f (both_empty (twice_in (item.Def g)) (flat_map twice_in is) none).1 found

-- a function's parameters are apart
once : (file : File) (f : Func) (k : ℕ) → refusal file ≡ None → function file k ≡ Some f
    → is_repeating [] (parameters f) ≡ false
once file f zero accepted found = cc
once file f (suc k) accepted found = once_in file.items k f (never_twice file accepted) found

neither : (a b : Bool) → (a || b) ≡ false → (a ≡ false) × (b ≡ false)
neither true b h = cc
neither false b h = (refl, h)

-- no name stands among those behind it
abbrev AreApart : List (List ℕ) → Type 0
AreApart [] = Unit {0}
AreApart (n ∷ ns) = (is_among ns n ≡ false) × AreApart ns

-- a name among those before is none of the others
not_again : (before ns : List (List ℕ)) (n : List ℕ) → is_repeating before ns ≡ false
    → is_among before n ≡ true → is_among ns n ≡ false
not_again before [] n once there = refl
not_again before (m ∷ ns) n once there =
    let parts = neither (is_among before m) (is_repeating (before ++ m ∷ []) ns) once in
    let more : is_among (before ++ m ∷ []) n ≡ true =
    list_any-append (same_name n) before (m ∷ []) ∙ ap (λ b. b || (same_name n m || false)) there in
    elim (same_name n m) as (λ b. same_name n m ≡ b → (b || is_among ns n) ≡ false) [
      | true ↦ λ same. let e : is_among before m ≡ true =
          subst (λ k. is_among before k ≡ true) (same_is n m same) there in absurd cc
      | false ↦ λ same. not_again (before ++ m ∷ []) ns n parts.1 more
    ] refl

-- the last of some names is among them
last_among : (before : List (List ℕ)) (n : List ℕ) → is_among (before ++ n ∷ []) n ≡ true
last_among [] n = ap (λ b. b || false) (is_same n n refl)
last_among (m ∷ before) n = rw (last_among before n) (either (same_name n m))
  where
    either : (b : Bool) → (b || true) ≡ true
    either true = refl
    either false = refl

are_apart : (before ns : List (List ℕ)) → is_repeating before ns ≡ false → AreApart ns
are_apart before [] once = tt
are_apart before (n ∷ ns) once =
    let parts = neither (is_among before n) (is_repeating (before ++ n ∷ []) ns) once in
    (not_again (before ++ n ∷ []) ns n parts.1 (last_among before n), are_apart (before ++ n ∷ []) ns parts.1)

-- nothing is left out that isn't there
none_left_out : (n : List ℕ) (ns : List (List ℕ)) → is_among ns n ≡ false
    → filter (λ m. not (same_name n m)) ns ≡ ns
none_left_out n [] apart = refl
none_left_out n (m ∷ ns) apart =
    let parts = neither (same_name n m) (is_among ns n) apart in
    rw parts.0 (ap (λ ms. m ∷ ms) (none_left_out n ns parts.1))

filter-append : (p : List ℕ → Bool) (xs ys : List (List ℕ)) → filter p (xs ++ ys) ≡ filter p xs ++ filter p ys
filter-append p [] ys = refl
filter-append p (x ∷ xs) ys =
    elim (p x) as (λ b. cond b (x ∷ filter p (xs ++ ys)) (filter p (xs ++ ys))
    ≡ cond b (x ∷ filter p xs) (filter p xs) ++ filter p ys)
    [ true ↦ ap (λ zs. x ∷ zs) (filter-append p xs ys) | false ↦ filter-append p xs ys ]

-- names that are apart come first among the distinct ones
distinct-front : (ps bs : List (List ℕ)) → AreApart ps
    → (rest : List (List ℕ)) × (distinct (ps ++ bs) ≡ ps ++ rest)
distinct-front [] bs apart = (distinct bs, refl)
distinct-front (p ∷ ps) bs apart =
    let more = distinct-front ps bs apart.1 in
    let test : List ℕ → Bool = λ m. not (same_name p m) in (
      filter test more.0,
      ap (λ ms. p ∷ filter test ms) more.1 ∙ ap (λ ms. p ∷ ms) (filter-append test ps more.0)
          ∙ ap (λ ms. p ∷ (ms ++ filter test more.0)) (none_left_out p ps apart.0),
    )

-- the first slot is none of names among which it isn't
skipped : (slots : List (List ℕ)) (n : List ℕ) (env : List Arg) (a : Arg) (ps : List (List ℕ)) (args : List Arg)
    → is_among ps n ≡ false
    → with_parameters (n ∷ slots) (a ∷ env) ps args ≡ a ∷ with_parameters slots env ps args
skipped slots n env a [] args apart = refl
skipped slots n env a (p ∷ ps) [] apart = refl
skipped slots n env a (p ∷ ps) (b ∷ args) apart =
    let parts = neither (same_name n p) (is_among ps n) apart in
    let other : same_name p n ≡ false = same-flip p n ∙ parts.0 in
    rw other (skipped slots n (set_slot slots env p b) a ps args parts.1)

-- slots of which none is bound
unbound-are : (slots : List (List ℕ)) → unbound_slots slots ≡ replicate (length slots) Unbound
unbound-are [] = refl
unbound-are (slot ∷ slots) = ap (λ l. Unbound ∷ l) (unbound-are slots)

-- parameters that are apart and come first take their arguments
taken : (ps rest : List (List ℕ)) (args : List Arg) → AreApart ps → length args ≡ length ps
    → with_parameters (ps ++ rest) (unbound_slots (ps ++ rest)) ps args
    ≡ args ++ replicate (length (ps ++ rest) - length args) Unbound
taken [] rest [] apart even = unbound-are rest ∙ ap (λ n. replicate n Unbound) (omega arith)
taken [] rest (a ∷ args) apart even = absurd (omega arith)
taken (p ∷ ps) rest [] apart even = absurd (omega arith)
taken (p ∷ ps) rest (a ∷ args) apart even =
    rw (is_same p p refl)
    (skipped (ps ++ rest) p (unbound_slots (ps ++ rest)) a ps args apart.0
    ∙ ap (λ l. a ∷ l) (taken ps rest args apart.1 (omega arith))
    ∙ ap (λ n. a ∷ (args ++ replicate n Unbound)) (omega arith))

-- the slots of a function that is entered
pub entered_slots : (file : File) (f : Func) (k : ℕ) (args : List Arg) → refusal file ≡ None
    → function file k ≡ Some f → length args ≡ length f.params
    → with_parameters (function_locals f) (unbound_slots (function_locals f)) (parameters f) args
    ≡ args ++ replicate (length (function_locals f) - length args) Unbound
entered_slots file f k args accepted found even =
    let apart = are_apart [] (parameters f) (once file f k accepted found) in
    let front = distinct-front (parameters f) (names_of (bindings f.body)) apart in
    subst (λ l. with_parameters l (unbound_slots l) (parameters f) args ≡ args ++ replicate (length l - length args) Unbound)
    (sym front.1) (taken (parameters f) front.0 args apart (even ∙ sym (length-map f.params (λ p. p.1))))
