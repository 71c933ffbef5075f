-- Items, parts, candidates and sums of values within the limits are within them.
use Rattle.std.proofs.Common.{◌≡◌, ℕ, zero, suc, ◌+◌, ◌-◌, ◌<◌, ◌≤◌, nat_le, ℤ, pos, unsigned_abs, List, [], ◌∷◌, ◌++◌, map, length, take, drop, slice_get, encode_utf8, encode_utf8_all, Bool, true, false, Option, Some, None, Result, Ok, Err, refl, sym, ap, subst, ◌∙◌, arith, length-append}
use Rattle.std.specs.List.{list_all}
use Rattle.std.proofs.lemmas.Str.{encodes-append, length-encode, len_utf8_bounds}
use Rattle.std.proofs.lemmas.List.{take-append-drop}
use Rattle.pyd_value.specs.declared.value.Value.{Value, Int, Bool as Truth, Text, Tuple, out-Value}
use Rattle.pyd_value.specs.declared.value.Value.TheOpen.{Value-F}
use Rattle.pyd_value.specs.declared.value.Value.TheFolds.{map-Value, fold_out-Value}
use Rattle.pyd_value.specs.declared.fault.Fault.{Fault}
use Rattle.pyd_value.specs.declared.operator.BinOp.TheVariants.{Add}
use Rattle.pyd_value.specs.declared.operator.Builtin.{Builtin}
use Rattle.pyd_value.specs.declared.operator.Builtin.TheVariants as variant
use Rattle.pyd_value.specs.Shape.{Shape, number, text, tuple, nothing, shape_in, shape_of, number_of}
use Rattle.pyd_value.specs.Size.{size_of, nesting_of, total, greatest, size_step, nesting_step}
use Rattle.pyd_value.specs.Truth.{is_true}
use Rattle.pyd_value.proofs.Constructs.{size_of-tuple, nesting_of-tuple}
use Rattle.pyd_value.specs.Limits.{largest_size, deepest_nesting}
use Rattle.pyd_ops.specs.declared.extremes.Extreme.TheVariants.{Least, Greatest}
use Rattle.pyd_ops.specs.Operators.{binary}
use Rattle.pyd_ops.specs.Indexing.{place, at_place, item, item_or_error, index_in, bound_position, items_between, slice_items, slice_in}
use Rattle.pyd_ops.specs.Sequence.{character, items_in, items}
use Rattle.pyd_ops.specs.Calls.{len, absolute, branch, choose_best, replaces, choose_item, choose, and_then, sum_items, sum_in, builtin}
use Rattle.pyd_ops.specs.Integer.{is_within}
use Rattle.pyd_ops.specs.Limited.{integers_step, integers_within, Limited, EachLimited}
use Rattle.pyd_ops.proofs.Holding.{total_joined, greatest_joined}
use Rattle.pyd_ops.proofs.Keeping.{both, pair, at_most, map_members, integers-tuple, same_value, integer_limited, limited_int, limited_truth, limited_text, binary_limited}

when_at_most : (n m : ℕ) → nat_le n m ≡ true → n ≤ m
when_at_most n m h = grind arith

-- members within the limits, together
pub record Bounded (xs : List Value) : Type 0 where
  pub integers : list_all integers_within xs ≡ true
  pub size : total (map size_of xs) < largest_size
  pub depth : greatest (map nesting_of xs) < deepest_nesting

-- what a shape of a value within the limits holds
abbrev pub Inside : Shape Value → Type 0
Inside (number n) = is_within n ≡ true
Inside (text s) = length (encode_utf8_all s) < largest_size
Inside (tuple xs) = Bounded xs
Inside nothing = Unit

level_inside : (l : Value-F Value) → integers_step (map-Value Value Bool integers_within l) ≡ true
    → size_step (map-Value Value ℕ size_of l) ≤ largest_size → nesting_step (map-Value Value ℕ nesting_of l) ≤ deepest_nesting → Inside (shape_in l)
level_inside (Value-F.Int n) e h k = e
level_inside (Value-F.Bool true) e h k = refl
level_inside (Value-F.Bool false) e h k = refl
level_inside (Value-F.Text s) e h k = omega arith
level_inside (Value-F.Tuple xs) e h k = record { integers = sym (map_members xs) ∙ e; size = omega arith; depth = omega arith }
level_inside Value-F.None e h k = tt

pub inside : (a : Value) → Limited a → Inside (shape_of a)
inside a h =
    let t = both (nat_le (size_of a) largest_size) (nat_le (nesting_of a) deepest_nesting) h.size in
    level_inside (out-Value a) (sym (fold_out-Value Bool integers_step a) ∙ h.integers)
    (subst (λ n. n ≤ largest_size) (fold_out-Value ℕ size_step a) (when_at_most (size_of a) largest_size t.0))
    (subst (λ n. n ≤ deepest_nesting) (fold_out-Value ℕ nesting_step a) (when_at_most (nesting_of a) deepest_nesting t.1))

limited_tuple : (xs : List Value) → Bounded xs → Limited (Tuple xs)
limited_tuple xs b =
    record {
      integers = integers-tuple xs ∙ b.integers;
      size = pair (nat_le (size_of (Tuple xs)) largest_size) (nat_le (nesting_of (Tuple xs)) deepest_nesting)
          (at_most (size_of (Tuple xs)) largest_size (omega (arith, size_of-tuple xs, b.size)))
          (at_most (nesting_of (Tuple xs)) deepest_nesting (omega (arith, nesting_of-tuple xs, b.depth)));
    }

first_of : (x : Value) (xs : List Value) → Bounded (x ∷ xs) → Limited x
first_of x xs b =
    let h = both (integers_within x) (list_all integers_within xs) b.integers in
    record {
      integers = h.0;
      size = pair (nat_le (size_of x) largest_size) (nat_le (nesting_of x) deepest_nesting)
          (at_most (size_of x) largest_size (omega (arith, b.size))) (at_most (nesting_of x) deepest_nesting (omega (arith, b.depth)));
    }

rest_of : (x : Value) (xs : List Value) → Bounded (x ∷ xs) → Bounded xs
rest_of x xs b =
    let h = both (integers_within x) (list_all integers_within xs) b.integers in
    record { integers = h.1; size = omega (arith, b.size); depth = omega (arith, b.depth) }

each_of : (xs : List Value) → Bounded xs → EachLimited xs
each_of [] b = tt
each_of (x ∷ xs) b = (first_of x xs b, each_of xs (rest_of x xs b))

-- indexing

limited_character : (c : ℕ) → Limited (character c)
limited_character c =
    limited_text (c ∷ []) (omega (arith, length-append (encode_utf8 c) [], length-encode c, len_utf8_bounds c))

character_limited : (o : Option ℕ) (v : Value) (line : ℕ) → item_or_error character o line ≡ Ok v → Limited v
character_limited (Some c) v line e = same_value (character c) v e (limited_character c)
character_limited None v line e = cc

member_limited : (xs : List Value) (k : ℕ) (v : Value) (line : ℕ) → EachLimited xs → item_or_error (λ x. x) (slice_get xs k) line ≡ Ok v → Limited v
member_limited [] k v line h e = cc
member_limited (x ∷ xs) zero v line h e = same_value x v e h.0
member_limited (x ∷ xs) (suc k) v line h e = member_limited xs k v line h.1 e

item_limited : (xs : List Value) (o : Option ℕ) (v : Value) (line : ℕ) → EachLimited xs → item_or_error (λ x. x) (at_place xs o) line ≡ Ok v → Limited v
item_limited xs (Some k) v line h e = member_limited xs k v line h e
item_limited xs None v line h e = cc

pub index_limited : (x : Shape Value) (i : Option ℤ) (v : Value) (line : ℕ) → Inside x → index_in x i line ≡ Ok v → Limited v
index_limited (number n) i v line h e = cc
index_limited (text s) (Some i) v line h e = character_limited (item s i) v line e
index_limited (text s) None v line h e = cc
index_limited (tuple xs) (Some i) v line h e = item_limited xs (place i (length xs)) v line (each_of xs h) e
index_limited (tuple xs) None v line h e = cc
index_limited nothing i v line h e = cc

-- slicing

front_text : (n : ℕ) (s : List ℕ) → length (encode_utf8_all (take n s)) + length (encode_utf8_all (drop n s)) ≡ length (encode_utf8_all s)
front_text n s =
    sym (length-append (encode_utf8_all (take n s)) (encode_utf8_all (drop n s)))
    ∙ ap length (sym (encodes-append (take n s) (drop n s))) ∙ ap (λ t. length (encode_utf8_all t)) (take-append-drop n s)

between_text : (s : List ℕ) (low high : ℕ) → length (encode_utf8_all s) < largest_size → length (encode_utf8_all (items_between s low high)) < largest_size
between_text s low high h = omega (arith, front_text low s, front_text (high - low) (drop low s))

split_integers : (xs ys : List Value) → list_all integers_within (xs ++ ys) ≡ true → (list_all integers_within xs ≡ true) × (list_all integers_within ys ≡ true)
split_integers [] ys e = (refl, e)
split_integers (x ∷ xs) ys e =
    let h = both (integers_within x) (list_all integers_within (xs ++ ys)) e in
    let k = split_integers xs ys h.1 in
    (pair (integers_within x) (list_all integers_within xs) h.0 k.0, k.1)

split : (xs ys : List Value) → Bounded (xs ++ ys) → Bounded xs × Bounded ys
split xs ys b =
    let k = split_integers xs ys b.integers in (
      record { integers = k.0; size = omega (arith, b.size, total_joined xs ys); depth = omega (arith, b.depth, greatest_joined xs ys) },
      record { integers = k.1; size = omega (arith, b.size, total_joined xs ys); depth = omega (arith, b.depth, greatest_joined xs ys) },
    )

split_at : (n : ℕ) (xs : List Value) → Bounded xs → Bounded (take n xs) × Bounded (drop n xs)
split_at n xs b = split (take n xs) (drop n xs) (subst Bounded (sym (take-append-drop n xs)) b)

between_members : (xs : List Value) (low high : ℕ) → Bounded xs → Bounded (items_between xs low high)
between_members xs low high b = (split_at (high - low) (drop low xs) (split_at low xs b).1).0

pub slice_limited : (x : Shape Value) (low high : Option (Option ℤ)) (v : Value) (line : ℕ) → Inside x → slice_in x low high line ≡ Ok v → Limited v
slice_limited (number n) low high v line h e = cc
slice_limited (text s) (Some low) (Some high) v line h e =
    same_value (Text (slice_items s low high)) v e (limited_text (slice_items s low high) (between_text s (bound_position low 0 (length s)) (bound_position high (length s) (length s)) h))
slice_limited (text s) (Some low) None v line h e = cc
slice_limited (text s) None high v line h e = cc
slice_limited (tuple xs) (Some low) (Some high) v line h e =
    same_value (Tuple (slice_items xs low high)) v e (limited_tuple (slice_items xs low high) (between_members xs (bound_position low 0 (length xs)) (bound_position high (length xs) (length xs)) h))
slice_limited (tuple xs) (Some low) None v line h e = cc
slice_limited (tuple xs) None high v line h e = cc
slice_limited nothing low high v line h e = cc

-- calls

abbrev Items : Option (List Value) → Type 0
Items None = Unit
Items (Some xs) = EachLimited xs

characters_limited : (s : List ℕ) → EachLimited (map character s)
characters_limited [] = tt
characters_limited (c ∷ s) = (limited_character c, characters_limited s)

shape_items : (x : Shape Value) → Inside x → Items (items_in x)
shape_items (number n) h = tt
shape_items (text s) h = characters_limited s
shape_items (tuple xs) h = each_of xs h
shape_items nothing h = tt

items_limited : (a : Value) → Limited a → Items (items a)
items_limited a h = shape_items (shape_of a) (inside a h)

length_limited : (o : Option (List Value)) (v : Value) (line : ℕ) → len o line ≡ Ok v → Limited v
length_limited (Some xs) v line e = integer_limited (pos (length xs)) v line e
length_limited None v line e = cc

absolute_limited : (n : Option ℤ) (v : Value) (line : ℕ) → absolute n line ≡ Ok v → Limited v
absolute_limited (Some n) v line e = integer_limited (pos (unsigned_abs n)) v line e
absolute_limited None v line e = cc

abbrev Gives : Result Value Fault → Value → Type 0
Gives r v = ◌≡◌ {A = Result Value Fault} r (Ok v)

branch_limited : (o : Option Bool) (p q : Result Value Fault) (v : Value) (line : ℕ) → (Gives p v → Limited v) → (Gives q v → Limited v)
    → branch o p q line ≡ Ok v → Limited v
branch_limited (Some true) p q v line f g e = f e
branch_limited (Some false) p q v line f g e = g e
branch_limited None p q v line f g e = cc

choose_best_limited : (test : Value → Value → Option Bool) (x : Value) (ys : List Value) (v : Value) (line : ℕ) → Limited x → EachLimited ys → choose_best test x ys line ≡ Ok v → Limited v
choose_best_limited test x [] v line h k e = same_value x v e h
choose_best_limited test x (y ∷ ys) v line h k e =
    branch_limited (test y x) (choose_best test y ys line) (choose_best test x ys line) v line
    (choose_best_limited test y ys v line k.0 k.1) (choose_best_limited test x ys v line h k.1) e

choose_item_limited : (test : Value → Value → Option Bool) (o : Option (List Value)) (v : Value) (line : ℕ) → Items o → choose_item test o line ≡ Ok v → Limited v
choose_item_limited test (Some (x ∷ xs)) v line h e = choose_best_limited test x xs v line h.0 h.1 e
choose_item_limited test (Some []) v line h e = cc
choose_item_limited test None v line h e = cc

choose_limited : (test : Value → Value → Option Bool) (args : List Value) (v : Value) (line : ℕ) → EachLimited args → choose test args line ≡ Ok v → Limited v
choose_limited test [] v line h e = cc
choose_limited test (a ∷ []) v line h e = choose_item_limited test (items a) v line (items_limited a h.0) e
choose_limited test (a ∷ b ∷ args) v line h e = choose_best_limited test a (b ∷ args) v line h.0 h.1 e

step_limited : (r : Result Value Fault) (next : Value → Result Value Fault) (v : Value) → ((u : Value) → Gives r u → Limited u)
    → ((u : Value) → Limited u → Gives (next u) v → Limited v) → and_then r next ≡ Ok v → Limited v
step_limited (Ok u) next v f g e = g u (f u refl) e
step_limited (Err k) next v f g e = cc

sum_items_limited : (start : Value) (xs : List Value) (v : Value) (line : ℕ) → Limited start → EachLimited xs → sum_items start xs line ≡ Ok v → Limited v
sum_items_limited start [] v line h k e = same_value start v e h
sum_items_limited start (x ∷ xs) v line h k e =
    step_limited (binary Add start x line) (λ u. sum_items u xs line) v
    (λ u f. binary_limited Add start x u line h k.0 f) (λ u g f. sum_items_limited u xs v line g k.1 f) e

sum_limited : (x : Shape Value) (start : Value) (o : Option (List Value)) (v : Value) (line : ℕ) → Limited start → Items o → sum_in x start o line ≡ Ok v → Limited v
sum_limited (text s) start o v line h k e = cc
sum_limited (number n) start (Some xs) v line h k e = sum_items_limited start xs v line h k e
sum_limited (number n) start None v line h k e = cc
sum_limited (tuple ys) start (Some xs) v line h k e = sum_items_limited start xs v line h k e
sum_limited (tuple ys) start None v line h k e = cc
sum_limited nothing start (Some xs) v line h k e = sum_items_limited start xs v line h k e
sum_limited nothing start None v line h k e = cc

pub builtin_limited : (which : Builtin) (args : List Value) (v : Value) (line : ℕ) → EachLimited args → builtin which args line ≡ Ok v → Limited v
builtin_limited variant.Len [] v line h e = cc
builtin_limited variant.Len (a ∷ []) v line h e = length_limited (items a) v line e
builtin_limited variant.Len (a ∷ b ∷ args) v line h e = cc
builtin_limited variant.Abs [] v line h e = cc
builtin_limited variant.Abs (a ∷ []) v line h e = absolute_limited (number_of a) v line e
builtin_limited variant.Abs (a ∷ b ∷ args) v line h e = cc
builtin_limited variant.Min args v line h e = choose_limited (replaces Least) args v line h e
builtin_limited variant.Max args v line h e = choose_limited (replaces Greatest) args v line h e
builtin_limited variant.Sum [] v line h e = cc
builtin_limited variant.Sum (a ∷ []) v line h e =
    sum_limited (shape_of (Int (pos 0))) (Int (pos 0)) (items a) v line (limited_int (pos 0) refl) (items_limited a h.0) e
builtin_limited variant.Sum (a ∷ start ∷ []) v line h e = sum_limited (shape_of start) start (items a) v line h.1.0 (items_limited a h.0) e
builtin_limited variant.Sum (a ∷ start ∷ b ∷ args) v line h e = cc
builtin_limited variant.Bool [] v line h e = same_value (Truth false) v e (limited_truth false)
builtin_limited variant.Bool (a ∷ []) v line h e = same_value (Truth (is_true a)) v e (limited_truth (is_true a))
builtin_limited variant.Bool (a ∷ b ∷ args) v line h e = cc
builtin_limited variant.Print args v line h e = cc
builtin_limited variant.Str args v line h e = cc
builtin_limited variant.Repr args v line h e = cc
builtin_limited variant.Int args v line h e = cc
builtin_limited variant.Range args v line h e = cc
