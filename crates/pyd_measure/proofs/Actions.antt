-- What each action makes of pieces, and what the measures of those make.
use Rattle.std.proofs.Common.{◌≡◌, ℕ, ◌+◌, max, List, ◌∷◌, map, Some, None, refl, ap, ap₂, ◌∙◌, arith}
use Rattle.std.specs.Prelude.{option_map}
use Rattle.pyd_value.specs.Size.{greatest}
use Rattle.pyd_value.specs.declared.operator.UnOp.{UnOp}
use Rattle.pyd_tree.specs.declared.expression.Expr.{Expr}
use Rattle.pyd_tree.specs.declared.expression.Expr.TheVariants as expr
use Rattle.pyd_tree.specs.Nesting.{nesting, suffix_nesting, or_zero}
use Rattle.pyd_tree.proofs.Levels as level
use Rattle.pyd_derivation.specs.declared.piece.Piece.{Piece}
use Rattle.pyd_derivation.specs.declared.piece.Piece.TheVariants as piece
use Rattle.pyd_derivation.specs.Pieces.{expr_of, exprs_of, optional_expr, links_of, compares_of, suffix_of, suffixes_of}
use Rattle.pyd_derivation.specs.Actions as action
use Rattle.pyd_measure.specs.declared.measures.Shape.{Shape}
use Rattle.pyd_measure.specs.declared.measures.Shape.TheVariants as shape
use Rattle.pyd_measure.specs.declared.measures.Measure.TheVariants as measure
use Rattle.pyd_measure.specs.Measures.{cut, shape_of, members_of, measure_of}
use Rattle.pyd_measure.specs.Parts.{above, joined}
use Rattle.pyd_measure.specs.Combining.{alone, over, tests, comma, test, condition, junction, member, unary, compare, compared, chain, link, power, suffixed, suffix as suffix_measure, sub, upper, bound, name, literal, group, arguments, assign, augment}
use Rattle.pyd_measure.proofs.Shapes.{shape-lit, shape-name, shape-unary, shape-chain, shape-power, shape-and, shape-or, shape-compare, shape-if, shape-call, shape-suffixed, members_more, nesting_part, shape_part, greatest_part, members_part, tuple_nesting_part, shape_tuple_part, links_part, compares_part, suffix_part, suffixes_part, optional_part}

cut_both : (a b x y : ℕ) → cut a ≡ x → cut b ≡ y → cut (max a b) ≡ max x y
cut_both a b x y f g = omega arith

over_one : (e : Expr) (a x : ℕ) → nesting e ≡ 1 + a → shape_of e ≡ shape.Other → cut a ≡ x → measure_of (piece.Expr e) ≡ over x
over_one e a x n s f = let h : cut (nesting e) ≡ above x = omega arith in ap₂ measure.Expr h s

over_two : (e : Expr) (a b x y : ℕ) → nesting e ≡ 1 + max a b → shape_of e ≡ shape.Other → cut a ≡ x → cut b ≡ y → measure_of (piece.Expr e) ≡ over (max x y)
over_two e a b x y n s f g = let h : cut (nesting e) ≡ above (max x y) = omega arith in ap₂ measure.Expr h s

over_three : (e : Expr) (a b c x : ℕ) → nesting e ≡ 1 + max b (max a c) → shape_of e ≡ shape.Other → cut a ≡ x → measure_of (piece.Expr e) ≡ over (max x (cut (max b c)))
over_three e a b c x n s f = let h : cut (nesting e) ≡ above (max x (cut (max b c))) = omega arith in ap₂ measure.Expr h s

alone_part : (p : Piece) → measure_of (piece.Expr (expr_of p)) ≡ alone (measure_of p)
alone_part p = ap₂ measure.Expr (nesting_part p) (shape_part p)

pub tests_law : (p q : Piece) → measure_of (action.as_tests p q) ≡ tests (measure_of p) (measure_of q)
tests_law p (piece.Many es) =
    ap₂ measure.Many
    (cut_both (nesting (expr_of p)) (greatest (map nesting es)) _ _ (nesting_part p) refl)
    (members_more (expr_of p) es ∙ ap (λ (s : Shape). joined s (members_of es)) (shape_part p))
tests_law p q = alone_part p

pub comma_law : (p q : Piece) → measure_of (action.as_comma p q) ≡ comma (measure_of q)
comma_law p q = ap₂ measure.Many (greatest_part q) (members_part q)

pub test_law : (p q : Piece) → measure_of (action.as_test p q) ≡ test (measure_of p) (measure_of q)
test_law p (piece.Condition c n) = over_three (expr.If c (expr_of p) n) (nesting (expr_of p)) (nesting c) (nesting n) _ (level.choice c (expr_of p) n) (shape-if c (expr_of p) n) (nesting_part p)
test_law p q = alone_part p

pub condition_law : (o p q r : Piece) → measure_of (action.as_condition o p q r) ≡ condition (measure_of p) (measure_of r)
condition_law o p q r = ap measure.Condition (cut_both (nesting (expr_of p)) (nesting (expr_of r)) _ _ (nesting_part p) (nesting_part r))

pub or_law : (p q : Piece) → measure_of (action.as_or p q) ≡ junction (measure_of p) (measure_of q)
or_law p (piece.Many es) = over_two (expr.Or (expr_of p ∷ es)) (nesting (expr_of p)) (greatest (map nesting es)) _ _ (level.or (expr_of p ∷ es)) (shape-or (expr_of p ∷ es)) (nesting_part p) refl
or_law p q = alone_part p

pub and_law : (p q : Piece) → measure_of (action.as_and p q) ≡ junction (measure_of p) (measure_of q)
and_law p (piece.Many es) = over_two (expr.And (expr_of p ∷ es)) (nesting (expr_of p)) (greatest (map nesting es)) _ _ (level.and (expr_of p ∷ es)) (shape-and (expr_of p ∷ es)) (nesting_part p) refl
and_law p q = alone_part p

pub member_law : (o p q : Piece) → measure_of (action.as_member o p q) ≡ member (measure_of p) (measure_of q)
member_law o p q =
    ap₂ measure.Many
    (cut_both (nesting (expr_of p)) (greatest (map nesting (exprs_of q))) _ _ (nesting_part p) (greatest_part q))
    (members_more (expr_of p) (exprs_of q) ∙ ap₂ joined (shape_part p) (members_part q))

pub unary_law : (op : UnOp) (p : Piece) → measure_of (piece.Expr (expr.Unary op (expr_of p))) ≡ unary (measure_of p)
unary_law op p = over_one (expr.Unary op (expr_of p)) (nesting (expr_of p)) _ (level.unary op (expr_of p)) (shape-unary op (expr_of p)) (nesting_part p)

pub compare_law : (p q : Piece) → measure_of (action.as_compare p q) ≡ compare (measure_of p) (measure_of q)
compare_law p (piece.Compares ls) =
    over_two (expr.Compare (expr_of p) ls) (nesting (expr_of p)) (greatest (map (λ l. nesting l.1) ls)) _ _ (level.compare (expr_of p) ls) (shape-compare (expr_of p) ls) (nesting_part p) refl
compare_law p q = alone_part p

pub compared_law : (o p q : Piece) → measure_of (action.as_compared o p q) ≡ compared (measure_of p) (measure_of q)
compared_law o p q = ap measure.Compares (cut_both (nesting (expr_of p)) (greatest (map (λ l. nesting l.1) (compares_of q))) _ _ (nesting_part p) (compares_part q))

pub not_in_law : (n o p q : Piece) → measure_of (action.as_not_in n o p q) ≡ compared (measure_of p) (measure_of q)
not_in_law n o p q = ap measure.Compares (cut_both (nesting (expr_of p)) (greatest (map (λ l. nesting l.1) (compares_of q))) _ _ (nesting_part p) (compares_part q))

pub chain_law : (p q : Piece) → measure_of (action.as_chain p q) ≡ chain (measure_of p) (measure_of q)
chain_law p (piece.Links ls) =
    over_two (expr.Chain (expr_of p) ls) (nesting (expr_of p)) (greatest (map (λ l. nesting l.1) ls)) _ _ (level.chain (expr_of p) ls) (shape-chain (expr_of p) ls) (nesting_part p) refl
chain_law p q = alone_part p

pub link_law : (o p q : Piece) → measure_of (action.as_link o p q) ≡ link (measure_of p) (measure_of q)
link_law o p q = ap measure.Links (cut_both (nesting (expr_of p)) (greatest (map (λ l. nesting l.1) (links_of q))) _ _ (nesting_part p) (links_part q))

pub power_law : (p q : Piece) → measure_of (action.as_power p q) ≡ power (measure_of p) (measure_of q)
power_law p (piece.Expr e) = over_two (expr.Power (expr_of p) e) (nesting (expr_of p)) (nesting e) _ _ (level.power (expr_of p) e) (shape-power (expr_of p) e) (nesting_part p) refl
power_law p q = alone_part p

pub suffixed_law : (p q : Piece) → measure_of (action.as_suffixed p q) ≡ suffixed (measure_of p) (measure_of q)
suffixed_law p (piece.Suffixes ss) =
    over_two (expr.Suffixed (expr_of p) ss) (nesting (expr_of p)) (greatest (map suffix_nesting ss)) _ _ (level.suffixed (expr_of p) ss) (shape-suffixed (expr_of p) ss) (nesting_part p) refl
suffixed_law p q = alone_part p

pub suffix_law : (o p q r : Piece) → measure_of (action.as_suffix o p q r) ≡ suffix_measure (measure_of p) (measure_of r)
suffix_law o p q r = ap measure.Suffixes (cut_both (suffix_nesting (suffix_of p)) (greatest (map suffix_nesting (suffixes_of r))) _ _ (suffix_part p) (suffixes_part r))

pub sub_law : (p q : Piece) → measure_of (action.as_sub p q) ≡ sub (measure_of p) (measure_of q)
sub_law p (piece.Bound u) =
    ap measure.Suffix (ap cut (level.slice (Some (expr_of p)) u) ∙ cut_both (nesting (expr_of p)) (or_zero (option_map nesting u)) _ _ (nesting_part p) refl)
sub_law p q = ap measure.Suffix (ap cut (level.index (expr_of p)) ∙ nesting_part p)

below : (a x : ℕ) → cut a ≡ x → cut (max 0 a) ≡ x
below a x h = omega arith

pub upper_law : (o p : Piece) → measure_of (action.as_upper o p) ≡ upper (measure_of p)
upper_law o p = ap measure.Suffix (ap cut (level.slice None (optional_expr p)) ∙ below (or_zero (option_map nesting (optional_expr p))) _ (optional_part p))

pub bound_law : (o p : Piece) → measure_of (action.as_bound o p) ≡ bound (measure_of p)
bound_law o p = ap measure.Bound (optional_part p)

pub name_law : (bytes : List ℕ) (line : ℕ) (p q : Piece) → measure_of (action.as_name bytes line p q) ≡ name (measure_of q)
name_law bytes line p (piece.Args es) = over_one (expr.Call _ es) (greatest (map nesting es)) _ (level.call _ es) (shape-call _ es) refl
name_law bytes line p q = ap₂ measure.Expr (ap cut (level.name _)) (shape-name _)

pub literal_law : (v : _) → measure_of (piece.Expr (expr.Lit v)) ≡ literal
literal_law v = ap₂ measure.Expr (ap cut (level.literal v)) (shape-lit v)

pub group_law : (o p q : Piece) → measure_of (action.as_group o p q) ≡ group (measure_of p)
group_law o p q = ap₂ measure.Expr (tuple_nesting_part p) (shape_tuple_part p)

pub arguments_law : (o p q : Piece) → measure_of (action.as_arguments o p q) ≡ arguments (measure_of p)
arguments_law o p q = ap measure.Args (greatest_part p)

pub assign_law : (o p : Piece) → measure_of (action.as_assign o p) ≡ assign (measure_of p)
assign_law o p = ap measure.Assign (tuple_nesting_part p)

pub augment_law : (o p : Piece) → measure_of (action.as_augment o p) ≡ augment (measure_of p)
augment_law o p = ap measure.Augment (tuple_nesting_part p)
