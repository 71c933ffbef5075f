-- The greatest and the least character, as candidates that take the place of the best so far.
use Rattle.std.proofs.Common.{◌≡◌, ℕ, max, min, nat_lt, List, [], ◌∷◌, map, Bool, true, false, cond, Option, Some, None, option_map, Result, Ok, refl, ap, ◌∙◌, arith}
use Rattle.std.specs.List.{reduce, fold}
use Rattle.std.specs.Ordering.{is_lt, is_gt, nat_cmp}
use Rattle.std.specs.declared.cmp.Ordering.{Ordering}
use Rattle.std.specs.Cmp.Lexicographic.{slice_cmp}
use Rattle.pyd_value.specs.declared.value.Value.{Value}
use Rattle.pyd_value.specs.declared.fault.Fault.{Fault}
use Rattle.pyd_value.specs.declared.fault.Kind.TheVariants.{ValueError}
use Rattle.pyd_value.specs.Comparison.{comparison_of}
use Rattle.pyd_value.specs.Order.{ordered}
use Rattle.pyd_value.proofs.Constructs.{shape_of-text, comparison_of-texts}
use Rattle.pyd_ops.specs.Answer.{raise}
use Rattle.pyd_ops.specs.Sequence.{character}
use Rattle.pyd_ops.specs.Comparing.{order_is}
use Rattle.pyd_ops.specs.Calls.{branch, choose_best, choose_item, replaces}

-- one of the values, if there is one
abbrev pub chosen : Option ℕ → ℕ → Result Value Fault
chosen (Some c) line = Ok (character c)
chosen None line = raise ValueError line

one_less : (c d : ℕ) → is_lt (slice_cmp nat_cmp (c ∷ []) (d ∷ [])) ≡ nat_lt c d
one_less c d = grind arith

one_greater : (c d : ℕ) → is_gt (slice_cmp nat_cmp (c ∷ []) (d ∷ [])) ≡ nat_lt d c
one_greater c d = grind arith

order_of-characters : (test : Ordering → Bool) (c d : ℕ)
    → order_is test (character c) (character d) ≡ Some (test (slice_cmp nat_cmp (c ∷ []) (d ∷ [])))
order_of-characters test c d =
    ap (λ x. ordered x (option_map test (comparison_of (character c) (character d)))) (shape_of-text (c ∷ []))
    ∙ ap (option_map test) (comparison_of-texts (c ∷ []) (d ∷ []))

-- the best of numbers, by which one takes the place of another
abbrev best_of : (ℕ → ℕ → Bool) → ℕ → List ℕ → ℕ
best_of test c [] = c
best_of test c (d ∷ s) = best_of test (cond (test d c) d c) s

by_test : (b : Bool) (x y : ℕ) (f : ℕ → Result Value Fault) (line : ℕ) → branch (Some b) (f x) (f y) line ≡ f (cond b x y)
by_test true x y f line = refl
by_test false x y f line = refl

choose_characters : (replaces : Value → Value → Option Bool) (test : ℕ → ℕ → Bool) (c : ℕ) (s : List ℕ) (line : ℕ)
    → ((d e : ℕ) → replaces (character d) (character e) ≡ Some (test d e))
    → choose_best replaces (character c) (map character s) line ≡ Ok (character (best_of test c s))
choose_characters replaces test c [] line h = refl
choose_characters replaces test c (d ∷ s) line h =
    let next = λ (x : ℕ). choose_best replaces (character x) (map character s) line in
    ap (λ o. branch o (next d) (next c) line) (h d c) ∙ by_test (test d c) d c next line
    ∙ choose_characters replaces test (cond (test d c) d c) s line h

best_is_max : (c : ℕ) (s : List ℕ) → best_of (λ d e. nat_lt e d) c s ≡ fold max c s
best_is_max c [] = refl
best_is_max c (d ∷ s) =
    let e : cond (nat_lt c d) d c ≡ max c d = grind arith in
    ap (λ x. best_of (λ d e. nat_lt e d) x s) e ∙ best_is_max (max c d) s

best_is_min : (c : ℕ) (s : List ℕ) → best_of nat_lt c s ≡ fold min c s
best_is_min c [] = refl
best_is_min c (d ∷ s) =
    let e : cond (nat_lt d c) d c ≡ min c d = grind arith in
    ap (λ x. best_of nat_lt x s) e ∙ best_is_min (min c d) s

pub choose_greatest : (s : List ℕ) (line : ℕ) → choose_item (order_is is_gt) (Some (map character s)) line ≡ chosen (reduce max s) line
choose_greatest [] line = refl
choose_greatest (c ∷ s) line =
    choose_characters (order_is is_gt) (λ d e. nat_lt e d) c s line
    (λ d e. order_of-characters is_gt d e ∙ ap Some (one_greater d e))
    ∙ ap (λ x. Ok (character x)) (best_is_max c s)

pub choose_least : (s : List ℕ) (line : ℕ) → choose_item (order_is is_lt) (Some (map character s)) line ≡ chosen (reduce min s) line
choose_least [] line = refl
choose_least (c ∷ s) line =
    choose_characters (order_is is_lt) nat_lt c s line
    (λ d e. order_of-characters is_lt d e ∙ ap Some (one_less d e))
    ∙ ap (λ x. Ok (character x)) (best_is_min c s)
