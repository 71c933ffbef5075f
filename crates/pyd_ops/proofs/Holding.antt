-- Which texts and tuples are within the limits on values.
use Rattle.std.proofs.Common.{◌≡◌, ℕ, zero, suc, ◌+◌, ◌-◌, ◌*◌, ◌<◌, ◌≤◌, max, nat_le, nat_lt, List, [], ◌∷◌, ◌++◌, map, length, encode_utf8_all, Bool, true, false, ◌&&◌, cond, Result, Ok, refl, sym, ap, ◌∙◌, arith, length-append, ◌⊎◌, inl, inr, ◌↔◌, IsTrue, rules}
use Rattle.std.specs.Str.{chars, IsUtf8}
use Rattle.std.proofs.lemmas.Str.{encodes-append, chars-append, chars-nil}
use Rattle.pyd_value.specs.declared.value.Value.{Value, Text, Tuple}
use Rattle.pyd_value.specs.declared.fault.Limit.TheVariants as limit
use Rattle.pyd_value.specs.Size.{size_of, nesting_of, total, greatest}
use Rattle.pyd_value.proofs.Constructs.{shape_of-tuple, size_of-text, size_of-tuple, nesting_of-text, nesting_of-tuple}
use Rattle.pyd_value.specs.declared.fault.Fault.{Fault}
use Rattle.pyd_value.specs.Shape.{tuple, shape_of}
use Rattle.pyd_value.specs.Limits.{largest_size, deepest_nesting}
use Rattle.pyd_ops.specs.Answer.{exceed, outcome_of}
use Rattle.pyd_ops.specs.Operators.{add, repeat_value}
use Rattle.pyd_ops.specs.Joining.{fits, text_if_fits, tuple_if_fits, text_value}
use Rattle.std.specs.List.{repeat}
use Rattle.pyd_ops.proofs.Repeats.{encodes_repeat, repeat_nothing}

at_most : (n m : ℕ) → n ≤ m → nat_le n m ≡ true
at_most n m h = grind arith

not_at_most : (n m : ℕ) → m < n → nat_le n m ≡ false
not_at_most n m h = grind arith

-- texts

text_fits : (s : List ℕ) → fits (Text s) ≡ nat_le (1 + length (encode_utf8_all s)) largest_size
text_fits s =
    ap (λ n. nat_le n largest_size && nat_le (nesting_of (Text s)) deepest_nesting) (size_of-text s)
    ∙ ap (λ n. nat_le (1 + length (encode_utf8_all s)) largest_size && nat_le n deepest_nesting) (nesting_of-text s)
    ∙ and_true (nat_le (1 + length (encode_utf8_all s)) largest_size)
  where
    and_true : (b : Bool) → b && true ≡ b
    and_true true = refl
    and_true false = refl

pub text_within : (s : List ℕ) (line : ℕ) → length (encode_utf8_all s) < largest_size → text_if_fits s line ≡ Ok (Text s)
text_within s line h =
    ap (λ b. cond b (Ok (Text s)) (exceed limit.Size line)) (text_fits s ∙ at_most (1 + length (encode_utf8_all s)) largest_size (omega arith))

pub text_past : (s : List ℕ) (line : ℕ) → largest_size ≤ length (encode_utf8_all s) → text_if_fits s line ≡ exceed limit.Size line
text_past s line h =
    ap (λ b. cond b (Ok (Text s)) (exceed limit.Size line)) (text_fits s ∙ not_at_most (1 + length (encode_utf8_all s)) largest_size (omega arith))

pub length_joined : (s t bs cs : List ℕ) → bs ≡ encode_utf8_all s → cs ≡ encode_utf8_all t → length (encode_utf8_all (s ++ t)) ≡ length bs + length cs
length_joined s t bs cs e f =
    ap length (encodes-append s t) ∙ length-append (encode_utf8_all s) (encode_utf8_all t)
    ∙ ap (λ x. length x + length (encode_utf8_all t)) (sym e) ∙ ap (λ x. length bs + length x) (sym f)

pub chars_joined : (s t bs cs : List ℕ) → IsUtf8 bs → chars bs ≡ s → chars cs ≡ t → chars (bs ++ cs) ≡ s ++ t
chars_joined s t bs cs u e f = chars-append bs cs u ∙ ap (λ x. x ++ chars cs) e ∙ ap (λ x. s ++ x) f

length_repeat : {A : Type 0} (n : ℕ) (xs : List A) → length (repeat n xs) ≡ n * length xs
length_repeat zero xs = omega arith
length_repeat (suc n) xs = omega (arith, length-append xs (repeat n xs), length_repeat n xs)

pub length_repeated : (n : ℕ) (s bs : List ℕ) → bs ≡ encode_utf8_all s → length (encode_utf8_all (repeat n s)) ≡ n * length bs
length_repeated n s bs e = ap length (encodes_repeat n s) ∙ ap (λ x. length (repeat n x)) (sym e) ∙ length_repeat n bs

pub chars_repeated : (n : ℕ) (s bs : List ℕ) → IsUtf8 bs → chars bs ≡ s → chars (repeat n bs) ≡ repeat n s
chars_repeated zero s bs u e = chars-nil
chars_repeated (suc n) s bs u e = chars_joined s (repeat n s) bs (repeat n bs) u e (chars_repeated n s bs u e)

pub empty_repeated : (n line : ℕ) (s bs : List ℕ) → bs ≡ [] → chars bs ≡ s → text_value (chars bs) ≡ text_if_fits (repeat n s) line
empty_repeated n line s bs e f =
    let g : s ≡ [] = sym f ∙ ap chars e ∙ chars-nil in
    ap text_value (f ∙ g)
    ∙ sym (text_within [] line (omega arith))
    ∙ ap (λ t. text_if_fits t line) (sym (repeat_nothing n) ∙ ap (repeat n) (sym g))

-- tuples

pub size_by_kind : (a : Value) (xs : List Value) → a ≡ Tuple xs → size_of a ≡ 1 + total (map size_of xs)
size_by_kind a xs e = ap size_of e ∙ size_of-tuple xs

pub nesting_by_kind : (a : Value) (xs : List Value) → a ≡ Tuple xs → nesting_of a ≡ 1 + greatest (map nesting_of xs)
nesting_by_kind a xs e = ap nesting_of e ∙ nesting_of-tuple xs

pub total_joined : (xs ys : List Value) → total (map size_of (xs ++ ys)) ≡ total (map size_of xs) + total (map size_of ys)
total_joined [] ys = omega arith
total_joined (x ∷ xs) ys = omega (arith, total_joined xs ys)

pub greatest_joined : (xs ys : List Value) → greatest (map nesting_of (xs ++ ys)) ≡ max (greatest (map nesting_of xs)) (greatest (map nesting_of ys))
greatest_joined [] ys = omega arith
greatest_joined (x ∷ xs) ys = omega (arith, greatest_joined xs ys)

total_repeated : (n : ℕ) (xs : List Value) → total (map size_of (repeat n xs)) ≡ n * total (map size_of xs)
total_repeated zero xs = omega arith
total_repeated (suc n) xs = omega (arith, total_joined xs (repeat n xs), total_repeated n xs)

greatest_repeated : (n : ℕ) (xs : List Value) → greatest (map nesting_of (repeat (suc n) xs)) ≡ greatest (map nesting_of xs)
greatest_repeated zero xs = omega (arith, greatest_joined xs [])
greatest_repeated (suc n) xs = omega (arith, greatest_joined xs (repeat (suc n) xs), greatest_repeated n xs)

same_tests : (a b c d e f g h : ℕ) → (a ≤ b → e ≤ f) × (e ≤ f → a ≤ b) → c ≡ g → d ≡ h → nat_le a b && nat_le c d ≡ nat_le e f && nat_le g h
same_tests a b c d e f g h p q r = grind arith

pub tuples_joined : (a b : Value) (xs ys : List Value) → a ≡ Tuple xs → b ≡ Tuple ys
    → fits (Tuple (xs ++ ys)) ≡ nat_le (size_of a + size_of b) (1 + largest_size) && nat_le (max (nesting_of a) (nesting_of b)) deepest_nesting
tuples_joined a b xs ys e f =
    same_tests (size_of (Tuple (xs ++ ys))) largest_size (nesting_of (Tuple (xs ++ ys))) deepest_nesting (size_of a + size_of b) (1 + largest_size) (max (nesting_of a) (nesting_of b)) deepest_nesting
    (let s : size_of (Tuple (xs ++ ys)) + 1 ≡ size_of a + size_of b = omega (arith, size_of-tuple (xs ++ ys), total_joined xs ys, size_by_kind a xs e, size_by_kind b ys f) in
    (λ h. omega arith, λ h. omega arith))
    (omega (arith, nesting_of-tuple (xs ++ ys), greatest_joined xs ys, nesting_by_kind a xs e, nesting_by_kind b ys f))
    refl

pub tuple_repeated : (a : Value) (xs : List Value) (n : ℕ) → a ≡ Tuple xs → 1 ≤ n
    → fits (Tuple (repeat n xs)) ≡ nat_lt (n * (size_of a - 1)) largest_size && nat_le (nesting_of a) deepest_nesting
tuple_repeated a xs zero e h = absurd (none h)
  where
    none : 1 ≤ 0 → ⊥
    none h = omega arith
tuple_repeated a xs (suc n) e h =
    let s : size_of (Tuple (repeat (suc n) xs)) ≡ 1 + suc n * (size_of a - 1) = omega_size (size_of a) (total (map size_of xs)) n (size_by_kind a xs e) (size_of-tuple (repeat (suc n) xs) ∙ ap (λ k. 1 + k) (total_repeated (suc n) xs)) in
    let d : nesting_of (Tuple (repeat (suc n) xs)) ≡ nesting_of a = nesting_of-tuple (repeat (suc n) xs) ∙ ap (λ k. 1 + k) (greatest_repeated n xs) ∙ sym (nesting_by_kind a xs e) in
    ap (λ k. nat_le k largest_size && nat_le (nesting_of (Tuple (repeat (suc n) xs))) deepest_nesting) s
    ∙ ap (λ k. nat_le (1 + suc n * (size_of a - 1)) largest_size && nat_le k deepest_nesting) d
    ∙ ap (λ b. b && nat_le (nesting_of a) deepest_nesting) (below_next (suc n * (size_of a - 1)) largest_size)
  where
    omega_size : (k t n : ℕ) {s : ℕ} → k ≡ 1 + t → s ≡ 1 + suc n * t → s ≡ 1 + suc n * (k - 1)
    omega_size k t n e f = let g : k - 1 ≡ t = omega arith in f ∙ ap (λ x. 1 + suc n * x) (sym g)

    below_next : (k m : ℕ) → nat_le (1 + k) m ≡ nat_lt k m
    below_next k m = grind arith

pub tuple_tested : (xs : List Value) (line : ℕ) (b : Bool) → fits (Tuple xs) ≡ b → tuple_if_fits xs line ≡ cond b (Ok (Tuple xs)) (exceed limit.Size line)
tuple_tested xs line b e = ap (λ t. cond t (Ok (Tuple xs)) (exceed limit.Size line)) e

pub nothing_fits : (line : ℕ) → tuple_if_fits [] line ≡ Ok (Tuple [])
nothing_fits line =
    tuple_tested [] line true
    (ap (λ n. nat_le n largest_size && nat_le (nesting_of (Tuple [])) deepest_nesting) (size_of-tuple []) ∙ ap (λ n. nat_le n deepest_nesting) (nesting_of-tuple []))

pub nothing_repeated : (xs : List Value) (n line : ℕ) → (n ≡ 0) ⊎ (xs ≡ []) → tuple_if_fits (repeat n xs) line ≡ Ok (Tuple [])
nothing_repeated xs n line (inl e) = ap (λ k. tuple_if_fits (repeat k xs) line) e ∙ nothing_fits line
nothing_repeated xs n line (inr e) = ap (λ ys. tuple_if_fits (repeat n ys) line) e ∙ ap (λ ys. tuple_if_fits ys line) (repeat_nothing n) ∙ nothing_fits line

-- what the calls answer

pub by_tuple : (a : Value) (xs : List Value) (n line : ℕ) (v : Result Value Fault) → a ≡ Tuple xs
    → tuple_if_fits (repeat n xs) line ≡ v → outcome_of v ≡ outcome_of (repeat_value (shape_of a) n line)
by_tuple a xs n line v e h = ap outcome_of (sym h) ∙ ap (λ x. outcome_of (repeat_value x n line)) (sym (ap shape_of e ∙ shape_of-tuple xs))

pub by_tuples : (a b : Value) (xs ys : List Value) (line : ℕ) (v : Result Value Fault) → a ≡ Tuple xs → b ≡ Tuple ys
    → tuple_if_fits (xs ++ ys) line ≡ v → outcome_of v ≡ outcome_of (add (shape_of a) (shape_of b) line)
by_tuples a b xs ys line v e f h =
    ap outcome_of (sym h) ∙ ap (λ x. outcome_of (add x (tuple ys) line)) (sym (ap shape_of e ∙ shape_of-tuple xs))
    ∙ ap (λ x. outcome_of (add (shape_of a) x line)) (sym (ap shape_of f ∙ shape_of-tuple ys))

-- where neither is nothing, the count is at least 1
pub something : (n : ℕ) (xs : List Value) (b : Bool) → IsTrue b ↔ ((n ≡ 0) ⊎ (xs ≡ [])) → b ≡ false → 1 ≤ n
something zero xs b h e = absurd (never b (h.1 (inl refl)) e)
  where
    never : (b : Bool) → IsTrue b → b ≡ false → ⊥
    never true t e = cc
    never false t e = search (rules, t)
something (suc n) xs b h e = omega arith
