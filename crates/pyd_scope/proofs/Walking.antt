-- Cells that are put one behind the other are those of the whole.
use Rattle.std.proofs.Common.{◌≡◌, ◌<◌, ◌≤◌, ℕ, zero, suc, ◌+◌, List, [], ◌∷◌, ◌++◌, length, drop, Option, Some, None, Result, Ok, Err, get_or, refl, sym, ap, ◌∙◌, append_assoc, append-nil, arith}
use Rattle.std.specs.Prelude.{slice_get, slice_set, OnOk}
use Rattle.std.proofs.lemmas.List.{length-append}
use Rattle.pyd_tree.specs.declared.expression.Expr.{Expr, out-Expr}
use Rattle.pyd_tree.specs.declared.expression.Expr.TheOpen.{Suffix-F}
use Rattle.pyd_tree.specs.declared.expression.Suffix.{Suffix, out-Suffix}
use Rattle.pyd_scope.specs.declared.cells.Origin.{Origin}
use Rattle.pyd_scope.specs.declared.cells.Origin.TheVariants.{Part}
use Rattle.pyd_scope.specs.declared.cells.ExpressionCell.{ExpressionCell}
use Rattle.pyd_scope.specs.Numbering.{expressions}
use Rattle.pyd_scope.specs.Parting.{direct_of, suffixes_of, low_in, high_in, low, high}
use Rattle.pyd_scope.specs.Cells.{placed_from, bounds_from, suffix_parts, expression_parts, expression_cells, part_cells}
use Rattle.pyd_scope.specs.Closing.{IsClosed}
use Rattle.pyd_scope.proofs.Expressions.{bracketed_expressions, suffix_expressions, member_expressions, all_bracketed, expressions_out}
use Rattle.pyd_scope.proofs.CellLevels.{cells_out}
use Rattle.pyd_scope.proofs.CellParts.{level_all}
use Rattle.pyd_scope.proofs.Leasts.{drop_at}

-- what is left begins with the item at the place
drop_some : {A : Type 0} (xs : List A) (k : ℕ) (x : A) → slice_get xs k ≡ Some x
    → drop k xs ≡ x ∷ drop (suc k) xs
drop_some [] k x is = absurd (cc is)
drop_some (y ∷ xs) zero x is =
    let same : y ≡ x = cc is in
    ap (λ z. z ∷ xs) same
drop_some (y ∷ xs) (suc k) x is = drop_some xs k x is

-- the number behind another
pub next_is : (k : ℕ) → k + 1 ≡ suc k
next_is k = omega arith

-- nothing is left where there is no item
pub drop_none : {A : Type 0} (xs : List A) (k : ℕ) → slice_get xs k ≡ None → drop k xs ≡ []
drop_none [] zero is = refl
drop_none [] (suc k) is = refl
drop_none (y ∷ xs) zero is = absurd (cc is)
drop_none (y ∷ xs) (suc k) is = drop_none xs k is

-- the item behind some that is another then
set_behind : {A : Type 0} (front : List A) (c x : A) (back : List A)
    → slice_set (front ++ c ∷ back) (length front) x ≡ front ++ x ∷ back
set_behind [] c x back = refl
set_behind (y ∷ front) c x back = ap (λ z. y ∷ z) (set_behind front c x back)

-- the item at a place that is another then
pub set_there : {A : Type 0} (front : List A) (c x : A) (back xs : List A) (place : ℕ)
    → xs ≡ front ++ c ∷ back → place ≡ length front → slice_set xs place x ≡ front ++ x ∷ back
set_there front c x back xs place is at =
    (λ i. slice_set (is i) (at i) x) ∙ set_behind front c x back

-- what an Ok says of it, by what follows from that
pub when_ok : {T E : Type 0} (r : Result T E) (P Q : Type 0) → (P → Q) → OnOk r P → OnOk r Q
when_ok (Ok v) P Q f p = f p
when_ok (Err e) P Q f p = tt

-- nothing is left past the last item
pub drop_past : {A : Type 0} (xs : List A) (k : ℕ) → length xs ≤ k → drop k xs ≡ []
drop_past [] zero past = refl
drop_past [] (suc k) past = refl
drop_past (x ∷ xs) zero past = absurd (omega (arith, past))
drop_past (x ∷ xs) (suc k) past =
    let less : length xs ≤ k = omega (arith, past) in
    drop_past xs k less

-- some cells, and then what is made from their number on
pub put_then : {C : Type 0} (old new xs : List C) (f : ℕ → List C) → new ≡ old ++ xs
    → new ++ f (length new) ≡ old ++ (xs ++ f (length old + length xs))
put_then old new xs f is =
    ap (λ z. z ++ f (length z)) is
    ∙ ap (λ n. (old ++ xs) ++ f n) (length-append old xs)
    ∙ append_assoc old xs (f (length old + length xs))

-- the cells of some parts and then of others
pub parts-append : (ps qs : List (Origin × Expr)) (n : ℕ)
    → part_cells (ps ++ qs) n
    ≡ part_cells ps n ++ part_cells qs (n + length (part_cells ps n))
parts-append [] qs n =
    let same : n ≡ n + 0 = omega arith in
    ap (part_cells qs) same
parts-append (p ∷ ps) qs n =
    let first = expression_cells p.1 p.0 n in
    let rest = part_cells ps (n + length first) in
    let length_of = length-append first rest in
    let same : n + length first + length rest ≡ n + length (first ++ rest) =
    omega (arith, length_of) in
    ap (λ z. first ++ z) (parts-append ps qs (n + length first))
    ∙ sym (append_assoc first rest (part_cells qs (n + length first + length rest)))
    ∙ ap (λ m. (first ++ rest) ++ part_cells qs m) same

-- one more part outside brackets
pub part_more : (of at : ℕ) (xs : List Expr) (x : Expr) (old new whole : List ExpressionCell)
    → slice_get xs at ≡ Some x
    → old ++ part_cells (placed_from (Part of) at (drop at xs)) (length old) ≡ whole
    → new ≡ old ++ expression_cells x (Part of at) (length old)
    → new ++ part_cells (placed_from (Part of) (at + 1) (drop (at + 1) xs)) (length new) ≡ whole
part_more of at xs x old new whole is so_far put =
    ap (λ n. new ++ part_cells (placed_from (Part of) n (drop n xs)) (length new)) (next_is at)
    ∙ put_then old new (expression_cells x (Part of at) (length old))
    (part_cells (placed_from (Part of) (suc at) (drop (suc at) xs))) put
    ∙ sym (ap (λ z. old ++ part_cells (placed_from (Part of) at z) (length old))
    (drop_some xs at x is))
    ∙ so_far

-- no more parts
pub parts_done : (of at : ℕ) (xs : List Expr) (old whole : List ExpressionCell)
    → slice_get xs at ≡ None
    → old ++ part_cells (placed_from (Part of) at (drop at xs)) (length old) ≡ whole
    → old ≡ whole
parts_done of at xs old whole is so_far =
    sym (append-nil old)
    ∙ sym (ap (λ z. old ++ part_cells (placed_from (Part of) at z) (length old))
    (drop_none xs at is))
    ∙ so_far

-- one more suffix
pub suffix_more : (of at : ℕ) (ss : List Suffix) (s : Suffix) (old new whole : List ExpressionCell)
    → s ≡ get_or ss at s → at < length ss
    → old ++ part_cells (bounds_from suffix_parts of at (drop at ss)) (length old) ≡ whole
    → new ≡ old ++ part_cells (suffix_parts of at s) (length old)
    → new ++ part_cells (bounds_from suffix_parts of (at + 1) (drop (at + 1) ss)) (length new)
    ≡ whole
suffix_more of at ss s old new whole is within so_far put =
    ap (λ n. new ++ part_cells (bounds_from suffix_parts of n (drop (at + 1) ss)) (length new))
    (next_is at)
    ∙ put_then old new (part_cells (suffix_parts of at s) (length old))
    (part_cells (bounds_from suffix_parts of (suc at) (drop (at + 1) ss))) put
    ∙ ap (λ z. old ++ z) (sym (parts-append (suffix_parts of at s)
    (bounds_from suffix_parts of (suc at) (drop (at + 1) ss)) (length old)))
    ∙ sym (ap (λ z. old ++ part_cells (bounds_from suffix_parts of at z) (length old))
    (drop_at ss at s is within))
    ∙ so_far

-- no more suffixes
pub suffixes_done : (of at : ℕ) (ss : List Suffix) (old whole : List ExpressionCell)
    → length ss ≤ at
    → old ++ part_cells (bounds_from suffix_parts of at (drop at ss)) (length old) ≡ whole
    → old ≡ whole
suffixes_done of at ss old whole past so_far =
    sym (append-nil old)
    ∙ sym (ap (λ z. old ++ part_cells (bounds_from suffix_parts of at z) (length old))
    (drop_past ss at past))
    ∙ so_far

-- the cells of an expression whose own is closed behind those of its parts
pub expression_closed : (e : Expr) (origin : Origin) (old one two three new : List ExpressionCell)
    (of place : ℕ) → place ≡ length old → of ≡ place
    → one ≡ old ++ record { origin = origin; behind = 0 } ∷ []
    → two ≡ one ++ part_cells (placed_from (Part of) 0 (direct_of e)) (length one)
    → three ≡ two ++ part_cells (bounds_from suffix_parts of 0 (suffixes_of e)) (length two)
    → IsClosed place origin three new
    → new ≡ old ++ expression_cells e origin (length old)
expression_closed e origin old one two three new of place at number pushed outside inside closed =
    let n = length old in
    let same : of ≡ length old = number ∙ at in
    let cell : ExpressionCell = record { origin = origin; behind = 0 } in
    let outer = placed_from (Part of) 0 (direct_of e) in
    let inner = bounds_from suffix_parts of 0 (suffixes_of e) in
    let both : three ≡ one ++ part_cells (outer ++ inner) (length one) =
    inside ∙ put_then one two (part_cells outer (length one)) (part_cells inner) outside
    ∙ ap (λ z. one ++ z) (sym (parts-append outer inner (length one))) in
    let all : three ≡ old ++ (cell ∷ part_cells (outer ++ inner) (length old + 1)) =
    both
    ∙ put_then old one (cell ∷ []) (part_cells (outer ++ inner)) pushed in
    let next : length old + 1 ≡ suc (length old) = omega arith in
    let parts : part_cells (outer ++ inner) (length old + 1)
    ≡ part_cells (expression_parts (length old) e) (suc (length old)) =
    ap (part_cells (outer ++ inner)) next
    ∙ ap (λ m. part_cells (expression_parts m e) (suc (length old))) same in
    let stands : three
    ≡ old ++ cell ∷ part_cells (expression_parts (length old) e) (suc (length old)) =
    all ∙ ap (λ z. old ++ cell ∷ z) parts in
    let count =
    ap length stands
    ∙ length-append old (cell ∷ part_cells (expression_parts (length old) e) (suc (length old))) in
    let ends : length three
    ≡ suc (length old) + length (part_cells (expression_parts (length old) e) (suc (length old))) =
    omega (arith, count) in
    closed old cell (part_cells (expression_parts (length old) e) (suc (length old))) stands at
    ∙ ap (λ l. old ++ record { origin = origin; behind = l }
    ∷ part_cells (expression_parts (length old) e) (suc (length old))) ends
    ∙ ap (λ z. old ++ z) (sym (cells_out e origin (length old)))

-- an expression has itself and those in its parts
pub expression_size : (e : Expr)
    → length (expressions e)
    ≡ suc (length (member_expressions (direct_of e)) + length (all_bracketed (suffixes_of e)))
expression_size e =
    ap length (expressions_out e)
    ∙ ap suc (ap length (sym (level_all (out-Expr e)))
    ∙ length-append (member_expressions (direct_of e)) (all_bracketed (suffixes_of e)))

-- a member has no more expressions than all
pub member_size : (xs : List Expr) (k : ℕ) (x : Expr) → slice_get xs k ≡ Some x
    → length (expressions x) ≤ length (member_expressions xs)
member_size [] k x is = absurd (cc is)
member_size (y ∷ xs) zero x is =
    let same : y ≡ x = cc is in
    let count = length-append (expressions y) (member_expressions xs) in
    let size = ap (λ z. length (expressions z)) same in
    omega (arith, count, size)
member_size (y ∷ xs) (suc k) x is =
    let less = member_size xs k x is in
    let count = length-append (expressions y) (member_expressions xs) in
    omega (arith, count, less)

-- a suffix has no more than all
pub suffix_size : (ss : List Suffix) (k : ℕ) (s : Suffix) → k < length ss → s ≡ get_or ss k s
    → length (suffix_expressions s) ≤ length (all_bracketed ss)
suffix_size [] k s within is = absurd (omega (arith, within))
suffix_size (t ∷ ss) zero s within is =
    let count = length-append (suffix_expressions t) (all_bracketed ss) in
    let size = ap (λ z. length (suffix_expressions z)) is in
    omega (arith, count, size)
suffix_size (t ∷ ss) (suc k) s within is =
    let less_than : k < length ss = omega (arith, within) in
    let less = suffix_size ss k s less_than is in
    let count = length-append (suffix_expressions t) (all_bracketed ss) in
    omega (arith, less, count)

-- the expressions in a part that may be missing
abbrev pub maybe_size : Option Expr → ℕ
maybe_size None = 0
maybe_size (Some e) = length (expressions e)

-- an index or a lower bound has no more than the brackets
low_size_in : (y : Suffix-F Expr Suffix) → maybe_size (low_in y) ≤ length (bracketed_expressions y)
low_size_in (Suffix-F.Index index) = omega arith
low_size_in (Suffix-F.Slice None high) = omega arith
low_size_in (Suffix-F.Slice (Some low) None) =
    let count = ap length (append-nil (expressions low)) in
    omega (arith, count)
low_size_in (Suffix-F.Slice (Some low) (Some high)) =
    let count = length-append (expressions low) (expressions high) in
    omega (arith, count)

-- nor has an upper bound
high_size_in : (y : Suffix-F Expr Suffix) → maybe_size (high_in y) ≤ length (bracketed_expressions y)
high_size_in (Suffix-F.Index index) = omega arith
high_size_in (Suffix-F.Slice None None) = omega arith
high_size_in (Suffix-F.Slice None (Some high)) = omega arith
high_size_in (Suffix-F.Slice (Some low) None) = omega arith
high_size_in (Suffix-F.Slice (Some low) (Some high)) =
    let count = length-append (expressions low) (expressions high) in
    omega (arith, count)

-- of a suffix
pub low_size : (s : Suffix) → maybe_size (low s) ≤ length (suffix_expressions s)
low_size s = low_size_in (out-Suffix s)

-- of a suffix
pub high_size : (s : Suffix) → maybe_size (high s) ≤ length (suffix_expressions s)
high_size s = high_size_in (out-Suffix s)
