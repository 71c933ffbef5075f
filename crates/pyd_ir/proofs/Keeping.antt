-- From operands within the limits operators give values within them.
use Rattle.std.proofs.Common.{◌≡◌, ◌≢◌, ℕ, nat_le, nat_eq, pos, List, [], ◌∷◌, map, length, slice_get, Bool, true, false, cond, Option, Some, None, option_map, Result, Ok, Err, refl, sym, ap, ◌∙◌, arith, rules}
use Rattle.std.specs.List.{list_all}
use Rattle.std.proofs.lemmas.Option.{none-some, same_Some, slice_get_within, slice_get-map}
use Rattle.pyd_value.specs.declared.value.Value.{Value, Int, Tuple, the_lemmas}
use Rattle.pyd_value.specs.declared.value.Value.TheVariants as value
use Rattle.pyd_value.specs.declared.fault.Fault.{Fault}
use Rattle.pyd_value.specs.declared.fault.Kind.TheVariants.{ValueError}
use Rattle.pyd_value.specs.declared.operator.Builtin.TheVariants as named
use Rattle.pyd_value.specs.Shape.{Shape, number, text, tuple, nothing, shape_of}
use Rattle.pyd_value.specs.Size.{size_of, nesting_of}
use Rattle.pyd_value.specs.Limits.{largest_size, deepest_nesting}
use Rattle.pyd_value.specs.Truth.{is_true}
use Rattle.pyd_value.proofs.Constructs.{shape_of-tuple, size_of-int, size_of-none, size_of-tuple, nesting_of-int, nesting_of-none, nesting_of-tuple}
use Rattle.pyd_ops.specs.declared.ranges.Span.{Span}
use Rattle.pyd_ops.specs.Answer.{raise}
use Rattle.pyd_ops.specs.Indexing.{place, at_place, index_in, item_or_error}
use Rattle.pyd_ops.specs.Limited.{integers_within, Limited, EachLimited, LimitedSpan}
use Rattle.pyd_ops.specs.Sequence.{character, items, items_in, item_in}
use Rattle.pyd_ops.specs.Ranges.{range_of}
use Rattle.pyd_ops.proofs.Limits.{below}
use Rattle.pyd_ops.proofs.Keeping.{at_most, pair, integers-tuple, same_value, limited_int, tuple_limited}
use Rattle.pyd_ops.proofs.Keeps.{operations_keep_limits}
use Rattle.pyd_ops.proofs.Parts.{inside, index_limited}
use Rattle.pyd_text.proofs.Keeps.{texts_keep_limits}
use Rattle.pyd_meaning.specs.Calls.{range_value}
use Rattle.pyd_ir.specs.declared.code.OpCode.{OpCode}
use Rattle.pyd_ir.specs.declared.code.OpCode.TheVariants.{Unary, Binary, Compare, Index, Slice, Unpack, Len, Abs, Min, Max, Sum, Str, Repr, Int as ToInt, Bool as ToBool, Range, Assert}
use Rattle.pyd_ir.specs.declared.code.OpCode.TheVariants as code
use Rattle.pyd_ir.specs.Operation.{of_one, of_two, of_three, slice_of, slice_between, unpack, assert, operation}
use Rattle.pyd_ir.specs.Laws.{OperatorsKeepLimits}

-- an answer is a value
abbrev Gives : Result Value Fault → Value → Type 0
Gives r v = ◌≡◌ {A = Result Value Fault} r (Ok v)

-- operators of one, two and three values
of_one-keeps : (f : Value → Result Value Fault) (vs : List Value) (v : Value) (line : ℕ)
    → ((a : Value) → Limited a → Gives (f a) v → Limited v)
    → EachLimited vs → Gives (of_one f vs line) v → Limited v
of_one-keeps f [] v line keeps h e = cc
of_one-keeps f (a ∷ []) v line keeps h e = keeps a h.0 e
of_one-keeps f (a ∷ b ∷ vs) v line keeps h e = cc

of_two-keeps : (f : Value → Value → Result Value Fault) (vs : List Value) (v : Value) (line : ℕ)
    → ((a b : Value) → Limited a → Limited b → Gives (f a b) v → Limited v)
    → EachLimited vs → Gives (of_two f vs line) v → Limited v
of_two-keeps f [] v line keeps h e = cc
of_two-keeps f (a ∷ vs) v line keeps h e = of_one-keeps (f a) vs v line (λ b. keeps a b h.0) h.1 e

of_three-keeps : (f : Value → Value → Value → Result Value Fault) (vs : List Value) (v : Value) (line : ℕ)
    → ((a b d : Value) → Limited a → Gives (f a b d) v → Limited v)
    → EachLimited vs → Gives (of_three f vs line) v → Limited v
of_three-keeps f [] v line keeps h e = cc
of_three-keeps f (a ∷ vs) v line keeps h e =
    of_two-keeps (f a) vs v line (λ b d lb ld. keeps a b d h.0) h.1 e

-- slices
part : (low high : Option Value) (a v : Value) (line : ℕ)
    → Limited a → Gives (slice_between low high a line) v → Limited v
part low high a v line h e = operations_keep_limits.slice a v (record { low = low; high = high }) line h e

slice_of-keeps : (low high : Bool) (vs : List Value) (v : Value) (line : ℕ)
    → EachLimited vs → Gives (slice_of low high vs line) v → Limited v
slice_of-keeps true true vs v line h e =
    of_three-keeps (λ a l u. slice_between (Some l) (Some u) a line) vs v line (λ a l u la e. part (Some l) (Some u) a v line la e) h e
slice_of-keeps true false vs v line h e =
    of_two-keeps (λ a l. slice_between (Some l) None a line) vs v line (λ a l la ll e. part (Some l) None a v line la e) h e
slice_of-keeps false true vs v line h e =
    of_two-keeps (λ a u. slice_between None (Some u) a line) vs v line (λ a u la lu e. part None (Some u) a v line la e) h e
slice_of-keeps false false vs v line h e =
    of_one-keeps (λ a. slice_between None None a line) vs v line (λ a la e. part None None a v line la e) h e

-- tuples
each_integers : (vs : List Value) → EachLimited vs → list_all integers_within vs ≡ true
each_integers [] h = refl
each_integers (x ∷ xs) h = pair (integers_within x) (list_all integers_within xs) h.0.integers (each_integers xs h.1)

-- the tuple of a range
limited_range : (span : Span) → LimitedSpan span
    → Limited (Tuple (Int span.from ∷ Int span.step ∷ Int span.count ∷ []))
limited_range span h =
    let xs : List Value = Int span.from ∷ Int span.step ∷ Int span.count ∷ [] in
    record {
      integers = integers-tuple xs
          ∙ each_integers xs (limited_int span.from h.from, (limited_int span.step h.step, (limited_int span.count h.count, tt)));
      size = pair (nat_le (size_of (Tuple xs)) largest_size) (nat_le (nesting_of (Tuple xs)) deepest_nesting)
          (at_most (size_of (Tuple xs)) largest_size (omega (arith, size_of-tuple xs, size_of-int span.from, size_of-int span.step, size_of-int span.count)))
          (at_most (nesting_of (Tuple xs)) deepest_nesting (omega (arith, nesting_of-tuple xs, nesting_of-int span.from, nesting_of-int span.step, nesting_of-int span.count)));
    }

range-keeps : (r : Result Span Fault) (v : Value)
    → ((span : Span) → r ≡ Ok span → LimitedSpan span) → Gives (range_value r) v → Limited v
range-keeps (Ok span) v h e =
    same_value (Tuple (Int span.from ∷ Int span.step ∷ Int span.count ∷ [])) v e (limited_range span (h span refl))
range-keeps (Err f) v h e = cc

-- assertions
limited_none : Limited value.None
limited_none =
    record {
      integers = search (rules, the_lemmas);
      size = pair (nat_le (size_of value.None) largest_size) (nat_le (nesting_of value.None) deepest_nesting)
          (at_most (size_of value.None) largest_size (omega (arith, size_of-none)))
          (at_most (nesting_of value.None) deepest_nesting (omega (arith, nesting_of-none)));
    }

assert-keeps : (b : Bool) (v : Value) (line : ℕ) → Gives (assert b line) v → Limited v
assert-keeps true v line e = same_value value.None v e limited_none
assert-keeps false v line e = cc

-- every operator but an unpacking
values : (op : OpCode) (vs : List Value) (v : Value) (line : ℕ)
    → ((count : ℕ) → op ≢ Unpack count) → EachLimited vs → Gives (operation op vs line) v → Limited v
values (Unary op) vs v line other h e =
    of_one-keeps _ vs v line (λ a la e. operations_keep_limits.unary op a v line la e) h e
values (Binary op) vs v line other h e =
    of_two-keeps _ vs v line (λ a b la lb e. operations_keep_limits.binary op a b v line la lb e) h e
values (Compare op) vs v line other h e =
    of_two-keeps _ vs v line (λ a b la lb e. operations_keep_limits.compare op a b v line e) h e
values Index vs v line other h e =
    of_two-keeps _ vs v line (λ a i la li e. operations_keep_limits.index a i v line la e) h e
values (Slice low high) vs v line other h e = slice_of-keeps low high vs v line h e
values code.Tuple vs v line other h e = tuple_limited vs v line (each_integers vs h) e
values (Unpack count) vs v line other h e = absurd (other count refl)
values Len vs v line other h e = operations_keep_limits.builtin named.Len vs v line h e
values Abs vs v line other h e = operations_keep_limits.builtin named.Abs vs v line h e
values Min vs v line other h e = operations_keep_limits.builtin named.Min vs v line h e
values Max vs v line other h e = operations_keep_limits.builtin named.Max vs v line h e
values Sum vs v line other h e = operations_keep_limits.builtin named.Sum vs v line h e
values Str vs v line other h e = texts_keep_limits.text_builtin named.Str vs v line h e
values Repr vs v line other h e = texts_keep_limits.text_builtin named.Repr vs v line h e
values ToInt vs v line other h e = texts_keep_limits.text_builtin named.Int vs v line h e
values ToBool vs v line other h e = operations_keep_limits.builtin named.Bool vs v line h e
values Range vs v line other h e =
    range-keeps (range_of vs line) v (λ span is. operations_keep_limits.range_of vs span line h is) e
values Assert vs v line other h e =
    of_one-keeps _ vs v line (λ a la e. assert-keeps (is_true a) v line e) h e

-- the members of an unpacking are the items, by their places
at_place-found : {A : Type 0} (xs : List A) (k : ℕ) (x : A)
    → slice_get xs k ≡ Some x → at_place xs (place (pos k) (length xs)) ≡ Some x
at_place-found xs k x e =
    ap (λ b. at_place xs (cond b (Some k) None)) (below k (length xs) (slice_get_within xs k x e)) ∙ e

character_at : (o : Option ℕ) (v : Value) → option_map character o ≡ Some v
    → (c : ℕ) × (o ≡ Some c) × (character c ≡ v)
character_at None v e = absurd (none-some v e)
character_at (Some c) v e = (c, refl, same_Some (character c) v e)

item-index : (x : Shape Value) (xs : List Value) (k : ℕ) (v : Value) (line : ℕ)
    → items_in x ≡ Some xs → slice_get xs k ≡ Some v → Gives (index_in x (Some (pos k)) line) v
item-index (number n) xs k v line e at = absurd (none-some xs e)
item-index nothing xs k v line e at = absurd (none-some xs e)
item-index (tuple ys) xs k v line e at =
    ap (λ o. item_or_error (λ y. y) o line)
    (at_place-found ys k v (ap (λ zs. slice_get zs k) (same_Some ys xs e) ∙ at))
item-index (text s) xs k v line e at =
    let there = character_at (slice_get s k) v
    (sym (slice_get-map character s k) ∙ ap (λ zs. slice_get zs k) (same_Some (map character s) xs e) ∙ at) in
    ap (λ o. item_or_error character o line) (at_place-found s k there.0 there.1) ∙ ap Ok there.2

-- what is unpacked
unpacked : (count : ℕ) (o : Option (List Value)) (r : Value) (line : ℕ)
    → Gives (unpack count o line) r → (xs : List Value) × (o ≡ Some xs) × (Tuple xs ≡ r)
unpacked count None r line e = absurd (let k : ⊥ = cc in k)
unpacked count (Some xs) r line e = so_many (nat_eq (length xs) count) e
  where
    same_ok : Gives (Ok (Tuple xs)) r → Tuple xs ≡ r
    same_ok e = cc

    so_many : (b : Bool) → Gives (cond b (Ok (Tuple xs)) (raise ValueError line)) r
        → (ys : List Value) × (Some xs ≡ Some ys) × (Tuple ys ≡ r)
    so_many true e = (xs, refl, same_ok e)
    so_many false e = absurd (let k : ⊥ = cc in k)

members : (count port : ℕ) (a r v : Value) (line : ℕ)
    → Limited a → Gives (operation (Unpack count) (a ∷ []) line) r
    → item_in (items r) port ≡ Some v → Limited v
members count port a r v line h e at =
    let u = unpacked count (items a) r line e in
    let k : slice_get u.0 port ≡ Some v =
    ap (λ shape. item_in (items_in shape) port) (sym (shape_of-tuple u.0)) ∙ ap (λ w. item_in (items w) port) u.2 ∙ at in
    index_limited (shape_of a) (Some (pos port)) v line (inside a h) (item-index (shape_of a) u.0 port v line u.1 k)

-- all operators
pub keeps_limits : OperatorsKeepLimits
keeps_limits = record {
  value = values;
  member = λ count port a r v args line h e at. members count port a r v line h e at;
}
