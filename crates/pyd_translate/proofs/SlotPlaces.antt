-- The argument of a name lies at the place of its slot, and is put there.
use Rattle.std.proofs.Common.{◌≡◌, ℕ, zero, suc, ◌+◌, ◌-◌, ◌≤◌, List, [], ◌∷◌, Bool, true, false, cond, if◌then◌else◌, refl, sym, ap, ◌∙◌, arith, Option, Some, None}
use Rattle.std.specs.List.{slice_get, slice_set, position_from}
use Rattle.pyd_names.specs.Binding.{same_name}
use Rattle.pyd_ir.specs.declared.arg.Arg.{Arg}
use Rattle.pyd_translate.specs.Slots.{arg_of, set_slot}
use Rattle.pyd_translate.specs.Drafts.{or_unbound}

-- a place that is counted from a number is not below it
least_here : (b : Bool) (n i : ℕ) (rest : Option ℕ) → (rest ≡ Some i → n + 1 ≤ i)
    → cond b (Some n) rest ≡ Some i → n ≤ i
least_here true n i rest later is = let same : n ≡ i = cc in omega arith
least_here false n i rest later is = let h : n + 1 ≤ i = later is in omega arith

least_place : (test : List ℕ → Bool) (n : ℕ) (names : List (List ℕ)) (i : ℕ)
    → position_from test n names ≡ Some i → n ≤ i
least_place test n [] i is = cc
least_place test n (m ∷ ms) i is =
    least_here (test m) n i (position_from test (n + 1) ms) (least_place test (n + 1) ms i) is

-- what a list has behind its first item
past_first : (a : Arg) (env : List Arg) (n i : ℕ) → n + 1 ≤ i
    → slice_get (a ∷ env) (i - n) ≡ slice_get env (i - (n + 1))
past_first a env n i le =
    let e : i - n ≡ suc (i - (n + 1)) = omega arith in
    ap (slice_get (a ∷ env)) e

-- no arguments
abbrev no_args : List Arg
no_args = []

nothing_there : (i : ℕ) → slice_get no_args i ≡ None
nothing_there zero = refl
nothing_there (suc i) = refl

arg_here : (b : Bool) (slots : List (List ℕ)) (name : List ℕ) (a : Arg) (env : List Arg) (n i : ℕ)
    → (position_from (same_name name) (n + 1) slots ≡ Some i → arg_of slots env name ≡ or_unbound (slice_get env (i - (n + 1))))
    → cond b (Some n) (position_from (same_name name) (n + 1) slots) ≡ Some i
    → (if b then a else arg_of slots env name) ≡ or_unbound (slice_get (a ∷ env) (i - n))
arg_here true slots name a env n i later is =
    let same : n ≡ i = cc in
    let e : i - n ≡ 0 = omega arith in
    ap (λ j. or_unbound (slice_get (a ∷ env) j)) (sym e)
arg_here false slots name a env n i later is =
    later is ∙ ap or_unbound (sym (past_first a env n i (least_place (same_name name) (n + 1) slots i is)))

arg_from : (slots : List (List ℕ)) (env : List Arg) (name : List ℕ) (n i : ℕ)
    → position_from (same_name name) n slots ≡ Some i
    → arg_of slots env name ≡ or_unbound (slice_get env (i - n))
arg_from [] env name n i is = cc
arg_from (slot ∷ slots) [] name n i is = ap or_unbound (sym (nothing_there (i - n)))
arg_from (slot ∷ slots) (a ∷ env) name n i is =
    arg_here (same_name name slot) slots name a env n i (arg_from slots env name (n + 1) i) is

-- the argument of a name
pub arg_at : (slots : List (List ℕ)) (env : List Arg) (name : List ℕ) (i : ℕ)
    → position_from (same_name name) 0 slots ≡ Some i
    → arg_of slots env name ≡ or_unbound (slice_get env i)
arg_at slots env name i is =
    let e : i - 0 ≡ i = omega arith in
    arg_from slots env name 0 i is ∙ ap (λ j. or_unbound (slice_get env j)) e

put_here : (t : Bool) (slots : List (List ℕ)) (name : List ℕ) (a b : Arg) (env : List Arg) (n i : ℕ)
    → (position_from (same_name name) (n + 1) slots ≡ Some i → slice_set env (i - (n + 1)) b ≡ set_slot slots env name b)
    → cond t (Some n) (position_from (same_name name) (n + 1) slots) ≡ Some i
    → slice_set (a ∷ env) (i - n) b ≡ (if t then b ∷ env else a ∷ set_slot slots env name b)
put_here true slots name a b env n i later is =
    let same : n ≡ i = cc in
    let e : i - n ≡ 0 = omega arith in
    ap (λ j. slice_set (a ∷ env) j b) e
put_here false slots name a b env n i later is =
    let le : n + 1 ≤ i = least_place (same_name name) (n + 1) slots i is in
    let e : i - n ≡ suc (i - (n + 1)) = omega arith in
    ap (λ j. slice_set (a ∷ env) j b) e ∙ ap (λ xs. a ∷ xs) (later is)

put_from : (slots : List (List ℕ)) (env : List Arg) (name : List ℕ) (b : Arg) (n i : ℕ)
    → position_from (same_name name) n slots ≡ Some i
    → slice_set env (i - n) b ≡ set_slot slots env name b
put_from [] env name b n i is = cc
put_from (slot ∷ slots) [] name b n i is = refl
put_from (slot ∷ slots) (a ∷ env) name b n i is =
    put_here (same_name name slot) slots name a b env n i (put_from slots env name b (n + 1) i) is

-- an argument is put in a name's slot
pub slot_put : (slots : List (List ℕ)) (env : List Arg) (name : List ℕ) (b : Arg) (i : ℕ)
    → position_from (same_name name) 0 slots ≡ Some i
    → slice_set env i b ≡ set_slot slots env name b
slot_put slots env name b i is =
    let e : i ≡ i - 0 = omega arith in
    ap (λ j. slice_set env j b) e ∙ put_from slots env name b 0 i is
