-- From operands within the limits every operation gives values within them.
use Rattle.std.proofs.Common.{◌≡◌, ℕ, zero, suc, ◌+◌, ◌<◌, ◌≤◌, nat_le, ℤ, pos, negsuc, neg_ℤ, ◌+ℤ◌, ◌-ℤ◌, ◌*ℤ◌, ◌^◌, List, [], ◌∷◌, ◌++◌, map, length, encode_utf8_all, Bool, true, false, cond, ◌&&◌, ◌||◌, not, Option, Some, None, option_map, Result, Ok, refl, sym, ap, subst, ◌∙◌, arith, rules}
use Rattle.std.specs.List.{list_all}
use Rattle.std.specs.Ordering.{is_lt, is_le, is_gt, is_ge}
use Rattle.std.proofs.Math.Bool.{beq}
use Rattle.pyd_value.specs.declared.value.Value.{Value, Int, Bool as Truth, Text, Tuple, out-Value, the_lemmas}
use Rattle.pyd_value.specs.declared.value.Value.TheOpen.{Value-F}
use Rattle.pyd_value.specs.declared.value.Value.TheFolds.{map-Value, fold_out-Value}
use Rattle.pyd_value.specs.declared.fault.Fault.{Fault}
use Rattle.pyd_value.specs.declared.fault.Limit.TheVariants as limit
use Rattle.pyd_value.specs.declared.operator.BinOp.{BinOp}
use Rattle.pyd_value.specs.declared.operator.BinOp.TheVariants.{Add, Sub, Mul, Div, Mod, Pow, Shl, Shr, And, Or, Xor}
use Rattle.pyd_value.specs.declared.operator.UnOp.{UnOp}
use Rattle.pyd_value.specs.declared.operator.UnOp.TheVariants.{Neg, Pos, Not}
use Rattle.pyd_value.specs.Shape.{Shape, number, text, tuple, nothing, shape_in, shape_of, number_of}
use Rattle.pyd_value.specs.Size.{size_of, nesting_of}
use Rattle.pyd_value.proofs.Constructs.{size_of-int, size_of-truth, size_of-text, nesting_of-int, nesting_of-truth, nesting_of-text}
use Rattle.pyd_value.specs.Limits.{largest_size, deepest_nesting}
use Rattle.pyd_ops.specs.Answer.{exceed}
use Rattle.pyd_ops.specs.Integer.{is_within, checked, integer, positive_part}
use Rattle.pyd_ops.specs.Arithmetic.{floor_div, floor_rem, arithmetic, divide, remainder, power, shift_left, shift_right}
use Rattle.std.specs.Int.{int_pow}
use Rattle.pyd_ops.specs.Bits.{bits_and, bits_or, bits_xor}
use Rattle.pyd_ops.specs.Joining.{fits, text_if_fits, tuple_if_fits}
use Rattle.std.specs.List.{repeat}
use Rattle.pyd_ops.specs.Operators.{signed, unary, on_numbers, add, repeat_value, multiply, modulo, bitwise, binary}
use Rattle.pyd_value.specs.declared.operator.CmpOp.{CmpOp}
use Rattle.pyd_value.specs.declared.operator.CmpOp.TheVariants.{Eq, Ne, Lt, Le, Gt, Ge, In, NotIn}
use Rattle.pyd_value.specs.Truth.{is_true}
use Rattle.pyd_value.specs.Equality.{is_equal}
use Rattle.pyd_ops.specs.Comparing.{truth_value, order_is, membership, contains, compare}
use Rattle.pyd_ops.specs.Limited.{integers_step, integers_within, Limited}

pub at_most : (n m : ℕ) → n ≤ m → nat_le n m ≡ true
at_most n m h = grind arith

pub both : (p q : Bool) → p && q ≡ true → (p ≡ true) × (q ≡ true)
both true true e = (refl, refl)
both true false e = cc
both false q e = cc

pub pair : (p q : Bool) → p ≡ true → q ≡ true → p && q ≡ true
pair true true e f = refl
pair true false e f = cc
pair false q e f = cc

-- integers of each kind

integers-int : (n : ℤ) → integers_within (Int n) ≡ is_within n
integers-int n = search (rules, the_lemmas)

integers-truth : (b : Bool) → integers_within (Truth b) ≡ true
integers-truth b = search (rules, the_lemmas)

integers-text : (s : List ℕ) → integers_within (Text s) ≡ true
integers-text s = search (rules, the_lemmas)

pub map_members : (xs : List Value) → list_all (λ b. b) (map integers_within xs) ≡ list_all integers_within xs
map_members [] = refl
map_members (x ∷ xs) = ap (λ b. integers_within x && b) (map_members xs)

pub integers-tuple : (xs : List Value) → integers_within (Tuple xs) ≡ list_all integers_within xs
integers-tuple xs = search (rules, the_lemmas) ∙ map_members xs

-- what holds of the members of a shape
abbrev Members : Shape Value → Type 0
Members (number n) = Unit
Members (text s) = Unit
Members (tuple xs) = list_all integers_within xs ≡ true
Members nothing = Unit

level_members : (l : Value-F Value) → integers_step (map-Value Value Bool integers_within l) ≡ true → Members (shape_in l)
level_members (Value-F.Int n) e = tt
level_members (Value-F.Bool true) e = tt
level_members (Value-F.Bool false) e = tt
level_members (Value-F.Text s) e = tt
level_members (Value-F.Tuple xs) e = sym (map_members xs) ∙ e
level_members Value-F.None e = tt

pub members : (a : Value) → Limited a → Members (shape_of a)
members a h = level_members (out-Value a) (sym (fold_out-Value Bool integers_step a) ∙ h.integers)

-- values of each kind

small : (v : Value) (s n : ℕ) → size_of v ≡ s → nesting_of v ≡ n → s ≤ largest_size → n ≤ deepest_nesting → fits v ≡ true
small v s n e f h k =
    pair (nat_le (size_of v) largest_size) (nat_le (nesting_of v) deepest_nesting) (at_most (size_of v) largest_size (omega arith)) (at_most (nesting_of v) deepest_nesting (omega arith))

pub limited_int : (n : ℤ) → is_within n ≡ true → Limited (Int n)
limited_int n e =
    record { integers = integers-int n ∙ e; size = small (Int n) 1 0 (size_of-int n) (nesting_of-int n) (omega arith) (omega arith) }

pub limited_truth : (b : Bool) → Limited (Truth b)
limited_truth b =
    record { integers = integers-truth b; size = small (Truth b) 1 0 (size_of-truth b) (nesting_of-truth b) (omega arith) (omega arith) }

pub limited_text : (s : List ℕ) → length (encode_utf8_all s) < largest_size → Limited (Text s)
limited_text s h =
    record { integers = integers-text s; size = small (Text s) (1 + length (encode_utf8_all s)) 0 (size_of-text s) (nesting_of-text s) (omega arith) (omega arith) }

-- what the answers hold

pub same_value : (u v : Value) → ◌≡◌ {A = Result Value Fault} (Ok u) (Ok v) → Limited u → Limited v
same_value u v e h = let f : u ≡ v = cc in subst Limited f h

whole_within : (z : ℤ) (v : Value) (line : ℕ) (b : Bool) → is_within z ≡ b → checked (cond b (Some z) None) line ≡ Ok v → Limited v
whole_within z v line true f e = same_value (Int z) v e (limited_int z f)
whole_within z v line false f e = cc

pub integer_limited : (z : ℤ) (v : Value) (line : ℕ) → integer z line ≡ Ok v → Limited v
integer_limited z v line e = whole_within z v line (is_within z) refl e

fits_limited : (u v : Value) (line : ℕ) (b : Bool) → fits u ≡ b → integers_within u ≡ true → cond b (Ok u) (exceed limit.Size line) ≡ Ok v → Limited v
fits_limited u v line true f i e = same_value u v e (record { integers = i; size = f })
fits_limited u v line false f i e = cc

pub text_limited : (s : List ℕ) (v : Value) (line : ℕ) → text_if_fits s line ≡ Ok v → Limited v
text_limited s v line e = fits_limited (Text s) v line (fits (Text s)) refl (integers-text s) e

pub tuple_limited : (xs : List Value) (v : Value) (line : ℕ) → list_all integers_within xs ≡ true → tuple_if_fits xs line ≡ Ok v → Limited v
tuple_limited xs v line h e = fits_limited (Tuple xs) v line (fits (Tuple xs)) refl (integers-tuple xs ∙ h) e

-- arithmetic

divide_limited : (m n : ℤ) (v : Value) (line : ℕ) → divide m n line ≡ Ok v → Limited v
divide_limited m (pos zero) v line e = cc
divide_limited m (pos (suc n)) v line e = integer_limited (floor_div m (pos (suc n))) v line e
divide_limited m (negsuc n) v line e = integer_limited (floor_div m (negsuc n)) v line e

remainder_limited : (m n : ℤ) (v : Value) (line : ℕ) → remainder m n line ≡ Ok v → Limited v
remainder_limited m (pos zero) v line e = cc
remainder_limited m (pos (suc n)) v line e = integer_limited (floor_rem m (pos (suc n))) v line e
remainder_limited m (negsuc n) v line e = integer_limited (floor_rem m (negsuc n)) v line e

power_limited : (m n : ℤ) (v : Value) (line : ℕ) → power m n line ≡ Ok v → Limited v
power_limited m (pos n) v line e = integer_limited (int_pow m n) v line e
power_limited (pos zero) (negsuc n) v line e = cc
power_limited (pos (suc m)) (negsuc n) v line e = cc
power_limited (negsuc m) (negsuc n) v line e = cc

left_limited : (m n : ℤ) (v : Value) (line : ℕ) → shift_left m n line ≡ Ok v → Limited v
left_limited m (pos n) v line e = integer_limited (m *ℤ pos (2 ^ n)) v line e
left_limited m (negsuc n) v line e = cc

right_limited : (m n : ℤ) (v : Value) (line : ℕ) → shift_right m n line ≡ Ok v → Limited v
right_limited m (pos n) v line e = integer_limited (floor_div m (pos (2 ^ n))) v line e
right_limited m (negsuc n) v line e = cc

arithmetic_limited : (op : BinOp) (m n : ℤ) (v : Value) (line : ℕ) → arithmetic op m n line ≡ Ok v → Limited v
arithmetic_limited Add m n v line e = integer_limited (m +ℤ n) v line e
arithmetic_limited Sub m n v line e = integer_limited (m -ℤ n) v line e
arithmetic_limited Mul m n v line e = integer_limited (m *ℤ n) v line e
arithmetic_limited Div m n v line e = divide_limited m n v line e
arithmetic_limited Mod m n v line e = remainder_limited m n v line e
arithmetic_limited Pow m n v line e = power_limited m n v line e
arithmetic_limited Shl m n v line e = left_limited m n v line e
arithmetic_limited Shr m n v line e = right_limited m n v line e
arithmetic_limited And m n v line e = integer_limited (bits_and m n) v line e
arithmetic_limited Or m n v line e = integer_limited (bits_or m n) v line e
arithmetic_limited Xor m n v line e = integer_limited (bits_xor m n) v line e

numbers_limited : (op : BinOp) (x w : Shape Value) (v : Value) (line : ℕ) → on_numbers op x w line ≡ Ok v → Limited v
numbers_limited op (number m) (number n) v line e = arithmetic_limited op m n v line e
numbers_limited op (number m) (text t) v line e = cc
numbers_limited op (number m) (tuple ys) v line e = cc
numbers_limited op (number m) nothing v line e = cc
numbers_limited op (text s) w v line e = cc
numbers_limited op (tuple xs) w v line e = cc
numbers_limited op nothing w v line e = cc

-- joined and repeated

all_joined : (xs ys : List Value) → list_all integers_within xs ≡ true → list_all integers_within ys ≡ true → list_all integers_within (xs ++ ys) ≡ true
all_joined [] ys e f = f
all_joined (x ∷ xs) ys e f =
    let h = both (integers_within x) (list_all integers_within xs) e in
    pair (integers_within x) (list_all integers_within (xs ++ ys)) h.0 (all_joined xs ys h.1 f)

all_repeated : (n : ℕ) (xs : List Value) → list_all integers_within xs ≡ true → list_all integers_within (repeat n xs) ≡ true
all_repeated zero xs e = refl
all_repeated (suc n) xs e = all_joined xs (repeat n xs) e (all_repeated n xs e)

add_limited : (x w : Shape Value) (v : Value) (line : ℕ) → Members x → Members w → add x w line ≡ Ok v → Limited v
add_limited (number m) w v line h k e = numbers_limited Add (number m) w v line e
add_limited (text s) (number n) v line h k e = cc
add_limited (text s) (text t) v line h k e = text_limited (s ++ t) v line e
add_limited (text s) (tuple ys) v line h k e = cc
add_limited (text s) nothing v line h k e = cc
add_limited (tuple xs) (number n) v line h k e = cc
add_limited (tuple xs) (text t) v line h k e = cc
add_limited (tuple xs) (tuple ys) v line h k e = tuple_limited (xs ++ ys) v line (all_joined xs ys h k) e
add_limited (tuple xs) nothing v line h k e = cc
add_limited nothing w v line h k e = numbers_limited Add nothing w v line e

repeat_value_limited : (x : Shape Value) (n : ℕ) (v : Value) (line : ℕ) → Members x → repeat_value x n line ≡ Ok v → Limited v
repeat_value_limited (number m) n v line h e = cc
repeat_value_limited (text s) n v line h e = text_limited (repeat n s) v line e
repeat_value_limited (tuple xs) n v line h e = tuple_limited (repeat n xs) v line (all_repeated n xs h) e
repeat_value_limited nothing n v line h e = cc

multiply_limited : (x w : Shape Value) (v : Value) (line : ℕ) → Members x → Members w → multiply x w line ≡ Ok v → Limited v
multiply_limited (number m) (number n) v line h k e = arithmetic_limited Mul m n v line e
multiply_limited (number m) (text t) v line h k e = repeat_value_limited (text t) (positive_part m) v line k e
multiply_limited (number m) (tuple ys) v line h k e = repeat_value_limited (tuple ys) (positive_part m) v line k e
multiply_limited (number m) nothing v line h k e = cc
multiply_limited (text s) (number n) v line h k e = repeat_value_limited (text s) (positive_part n) v line h e
multiply_limited (text s) (text t) v line h k e = cc
multiply_limited (text s) (tuple ys) v line h k e = cc
multiply_limited (text s) nothing v line h k e = cc
multiply_limited (tuple xs) (number n) v line h k e = repeat_value_limited (tuple xs) (positive_part n) v line h e
multiply_limited (tuple xs) (text t) v line h k e = cc
multiply_limited (tuple xs) (tuple ys) v line h k e = cc
multiply_limited (tuple xs) nothing v line h k e = cc
multiply_limited nothing (number n) v line h k e = cc
multiply_limited nothing (text t) v line h k e = cc
multiply_limited nothing (tuple ys) v line h k e = cc
multiply_limited nothing nothing v line h k e = cc

modulo_limited : (x w : Shape Value) (v : Value) (line : ℕ) → modulo x w line ≡ Ok v → Limited v
modulo_limited (number m) w v line e = numbers_limited Mod (number m) w v line e
modulo_limited (text s) w v line e = cc
modulo_limited (tuple xs) w v line e = cc
modulo_limited nothing w v line e = cc

-- the bits of two levels, of which two truth values are a kind of their own
and_limited : (k l : Value-F Value) (v : Value) (line : ℕ) → bitwise And k l line ≡ Ok v → Limited v
and_limited (Value-F.Bool p) (Value-F.Bool q) v line e = same_value (Truth (p && q)) v e (limited_truth (p && q))
and_limited (Value-F.Bool p) (Value-F.Int n) v line e = numbers_limited And (shape_in (Value-F.Bool p)) (shape_in (Value-F.Int n)) v line e
and_limited (Value-F.Bool p) (Value-F.Text t) v line e = numbers_limited And (shape_in (Value-F.Bool p)) (shape_in (Value-F.Text t)) v line e
and_limited (Value-F.Bool p) (Value-F.Tuple ys) v line e = numbers_limited And (shape_in (Value-F.Bool p)) (shape_in (Value-F.Tuple ys)) v line e
and_limited (Value-F.Bool p) Value-F.None v line e = numbers_limited And (shape_in (Value-F.Bool p)) (shape_in Value-F.None) v line e
and_limited (Value-F.Int m) l v line e = numbers_limited And (shape_in (Value-F.Int m)) (shape_in l) v line e
and_limited (Value-F.Text s) l v line e = numbers_limited And (shape_in (Value-F.Text s)) (shape_in l) v line e
and_limited (Value-F.Tuple xs) l v line e = numbers_limited And (shape_in (Value-F.Tuple xs)) (shape_in l) v line e
and_limited Value-F.None l v line e = numbers_limited And (shape_in Value-F.None) (shape_in l) v line e

or_limited : (k l : Value-F Value) (v : Value) (line : ℕ) → bitwise Or k l line ≡ Ok v → Limited v
or_limited (Value-F.Bool p) (Value-F.Bool q) v line e = same_value (Truth (p || q)) v e (limited_truth (p || q))
or_limited (Value-F.Bool p) (Value-F.Int n) v line e = numbers_limited Or (shape_in (Value-F.Bool p)) (shape_in (Value-F.Int n)) v line e
or_limited (Value-F.Bool p) (Value-F.Text t) v line e = numbers_limited Or (shape_in (Value-F.Bool p)) (shape_in (Value-F.Text t)) v line e
or_limited (Value-F.Bool p) (Value-F.Tuple ys) v line e = numbers_limited Or (shape_in (Value-F.Bool p)) (shape_in (Value-F.Tuple ys)) v line e
or_limited (Value-F.Bool p) Value-F.None v line e = numbers_limited Or (shape_in (Value-F.Bool p)) (shape_in Value-F.None) v line e
or_limited (Value-F.Int m) l v line e = numbers_limited Or (shape_in (Value-F.Int m)) (shape_in l) v line e
or_limited (Value-F.Text s) l v line e = numbers_limited Or (shape_in (Value-F.Text s)) (shape_in l) v line e
or_limited (Value-F.Tuple xs) l v line e = numbers_limited Or (shape_in (Value-F.Tuple xs)) (shape_in l) v line e
or_limited Value-F.None l v line e = numbers_limited Or (shape_in Value-F.None) (shape_in l) v line e

xor_limited : (k l : Value-F Value) (v : Value) (line : ℕ) → bitwise Xor k l line ≡ Ok v → Limited v
xor_limited (Value-F.Bool p) (Value-F.Bool q) v line e = same_value (Truth (not (beq p q))) v e (limited_truth (not (beq p q)))
xor_limited (Value-F.Bool p) (Value-F.Int n) v line e = numbers_limited Xor (shape_in (Value-F.Bool p)) (shape_in (Value-F.Int n)) v line e
xor_limited (Value-F.Bool p) (Value-F.Text t) v line e = numbers_limited Xor (shape_in (Value-F.Bool p)) (shape_in (Value-F.Text t)) v line e
xor_limited (Value-F.Bool p) (Value-F.Tuple ys) v line e = numbers_limited Xor (shape_in (Value-F.Bool p)) (shape_in (Value-F.Tuple ys)) v line e
xor_limited (Value-F.Bool p) Value-F.None v line e = numbers_limited Xor (shape_in (Value-F.Bool p)) (shape_in Value-F.None) v line e
xor_limited (Value-F.Int m) l v line e = numbers_limited Xor (shape_in (Value-F.Int m)) (shape_in l) v line e
xor_limited (Value-F.Text s) l v line e = numbers_limited Xor (shape_in (Value-F.Text s)) (shape_in l) v line e
xor_limited (Value-F.Tuple xs) l v line e = numbers_limited Xor (shape_in (Value-F.Tuple xs)) (shape_in l) v line e
xor_limited Value-F.None l v line e = numbers_limited Xor (shape_in Value-F.None) (shape_in l) v line e

pub binary_limited : (op : BinOp) (a b v : Value) (line : ℕ) → Limited a → Limited b → binary op a b line ≡ Ok v → Limited v
binary_limited Add a b v line h k e = add_limited (shape_of a) (shape_of b) v line (members a h) (members b k) e
binary_limited Sub a b v line h k e = numbers_limited Sub (shape_of a) (shape_of b) v line e
binary_limited Mul a b v line h k e = multiply_limited (shape_of a) (shape_of b) v line (members a h) (members b k) e
binary_limited Div a b v line h k e = numbers_limited Div (shape_of a) (shape_of b) v line e
binary_limited Mod a b v line h k e = modulo_limited (shape_of a) (shape_of b) v line e
binary_limited Pow a b v line h k e = numbers_limited Pow (shape_of a) (shape_of b) v line e
binary_limited Shl a b v line h k e = numbers_limited Shl (shape_of a) (shape_of b) v line e
binary_limited Shr a b v line h k e = numbers_limited Shr (shape_of a) (shape_of b) v line e
binary_limited And a b v line h k e = and_limited (out-Value a) (out-Value b) v line e
binary_limited Or a b v line h k e = or_limited (out-Value a) (out-Value b) v line e
binary_limited Xor a b v line h k e = xor_limited (out-Value a) (out-Value b) v line e

signed_limited : (op : UnOp) (n : Option ℤ) (v : Value) (line : ℕ) → signed op n line ≡ Ok v → Limited v
signed_limited Neg (Some n) v line e = integer_limited (neg_ℤ n) v line e
signed_limited Neg None v line e = cc
signed_limited Pos (Some n) v line e = integer_limited n v line e
signed_limited Pos None v line e = cc
signed_limited Not (Some n) v line e = cc
signed_limited Not None v line e = cc

pub unary_limited : (op : UnOp) (a v : Value) (line : ℕ) → unary op a line ≡ Ok v → Limited v
unary_limited Neg a v line e = signed_limited Neg (number_of a) v line e
unary_limited Pos a v line e = signed_limited Pos (number_of a) v line e
unary_limited Not a v line e = same_value (Truth (not (is_true a))) v e (limited_truth (not (is_true a)))

pub truth_value_limited : (o : Option Bool) (v : Value) (line : ℕ) → truth_value o line ≡ Ok v → Limited v
truth_value_limited (Some b) v line e = same_value (Truth b) v e (limited_truth b)
truth_value_limited None v line e = cc

pub contains_limited : (a b v : Value) (line : ℕ) → contains a b line ≡ Ok v → Limited v
contains_limited a b v line e = truth_value_limited (membership a (shape_of a) (shape_of b)) v line e

pub compare_limited : (op : CmpOp) (a b v : Value) (line : ℕ) → compare op a b line ≡ Ok v → Limited v
compare_limited Eq a b v line e = same_value (Truth (is_equal a b)) v e (limited_truth (is_equal a b))
compare_limited Ne a b v line e = same_value (Truth (not (is_equal a b))) v e (limited_truth (not (is_equal a b)))
compare_limited Lt a b v line e = truth_value_limited (order_is is_lt a b) v line e
compare_limited Le a b v line e = truth_value_limited (order_is is_le a b) v line e
compare_limited Gt a b v line e = truth_value_limited (order_is is_gt a b) v line e
compare_limited Ge a b v line e = truth_value_limited (order_is is_ge a b) v line e
compare_limited In a b v line e = contains_limited a b v line e
compare_limited NotIn a b v line e = truth_value_limited (option_map not (membership a (shape_of a) (shape_of b))) v line e
