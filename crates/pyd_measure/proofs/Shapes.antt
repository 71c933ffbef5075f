-- What is taken from a piece, and what is taken from its measure.
use Rattle.std.proofs.Common.{◌≡◌, ℕ, ◌+◌, max, List, [], ◌∷◌, map, true, false, Option, Some, None, refl, sym, ap, ◌∙◌, arith, rules}
use Rattle.std.specs.Prelude.{option_map, option_and_then}
use Rattle.std.specs.Option.{is_some}
use Rattle.pyd_value.specs.Size.{greatest}
use Rattle.pyd_value.specs.declared.value.Value.{Value}
use Rattle.pyd_value.specs.declared.value.Value.TheVariants as value
use Rattle.pyd_value.specs.declared.operator.BinOp.{BinOp}
use Rattle.pyd_value.specs.declared.operator.CmpOp.{CmpOp}
use Rattle.pyd_value.specs.declared.operator.UnOp.{UnOp}
use Rattle.pyd_tree.specs.declared.expression.Expr.{Expr, out-Expr, the_lemmas}
use Rattle.pyd_tree.specs.declared.expression.Expr.TheVariants as expr
use Rattle.pyd_tree.specs.declared.expression.Expr.TheOpen.{Expr-F}
use Rattle.pyd_tree.specs.declared.expression.Suffix.{Suffix}
use Rattle.pyd_tree.specs.declared.expression.Suffix.TheVariants as suffix
use Rattle.pyd_tree.specs.declared.statement.Targets.{Targets}
use Rattle.pyd_tree.specs.Nesting.{nesting, suffix_nesting, or_zero}
use Rattle.pyd_tree.proofs.Levels as level
use Rattle.pyd_derivation.specs.declared.piece.Piece.{Piece}
use Rattle.pyd_derivation.specs.declared.piece.Piece.TheVariants as piece
use Rattle.pyd_derivation.specs.Pieces.{no_expr, expr_of, exprs_of, tuple_of, optional_expr, links_of, compares_of, suffix_of, suffixes_of}
use Rattle.pyd_derivation.specs.Actions.{name_at, name_of, all_names, tuple_names, targets_at, targets_of}
use Rattle.pyd_measure.specs.declared.measures.Shape.TheVariants as shape
use Rattle.pyd_measure.specs.Marks.{part_nesting, fits}
use Rattle.pyd_measure.specs.Measures.{cut, cut_all, shape_by, shape_of, members_by, members_of, measure_of}
use Rattle.pyd_measure.specs.Parts.{above, nesting_in, shape_in, greatest_in, joined, members_in, tuple_shape, tuple_nesting, shape_of_tuple, links_in, compares_in, suffix_in, suffixes_in, counted, is_target, is_name, fits_in}

pub shape-lit : (v : Value) → shape_of (expr.Lit v) ≡ shape.Other
shape-lit v = search (rules, the_lemmas)

pub shape-name : (n : List ℕ) → shape_of (expr.Name n) ≡ shape.Name
shape-name n = search (rules, the_lemmas)

pub shape-unary : (op : UnOp) (e : Expr) → shape_of (expr.Unary op e) ≡ shape.Other
shape-unary op e = search (rules, the_lemmas)

pub shape-chain : (e : Expr) (ls : List (BinOp × Expr)) → shape_of (expr.Chain e ls) ≡ shape.Other
shape-chain e ls = search (rules, the_lemmas)

pub shape-power : (b e : Expr) → shape_of (expr.Power b e) ≡ shape.Other
shape-power b e = search (rules, the_lemmas)

pub shape-and : (es : List Expr) → shape_of (expr.And es) ≡ shape.Other
shape-and es = search (rules, the_lemmas)

pub shape-or : (es : List Expr) → shape_of (expr.Or es) ≡ shape.Other
shape-or es = search (rules, the_lemmas)

pub shape-compare : (e : Expr) (ls : List (CmpOp × Expr)) → shape_of (expr.Compare e ls) ≡ shape.Other
shape-compare e ls = search (rules, the_lemmas)

pub shape-if : (c y n : Expr) → shape_of (expr.If c y n) ≡ shape.Other
shape-if c y n = search (rules, the_lemmas)

pub shape-call : (n : List ℕ) (es : List Expr) → shape_of (expr.Call n es) ≡ shape.Other
shape-call n es = search (rules, the_lemmas)

pub shape-suffixed : (e : Expr) (ss : List Suffix) → shape_of (expr.Suffixed e ss) ≡ shape.Other
shape-suffixed e ss = search (rules, the_lemmas)

-- the shape of a tuple by the names of its members
by_names : (q : Option (List (List ℕ))) →
    shape_by None (option_map (λ ns. let t : Targets = record { names = ns; tuple = true } in t) q) ≡ tuple_shape (members_by q)
by_names (Some ns) = refl
by_names None = refl

opened : (es : List Expr) → shape_of (expr.Tuple es) ≡ shape_by None (option_map (λ ns. let t : Targets = record { names = ns; tuple = true } in t) (tuple_names es))
opened es = search (rules, the_lemmas)

pub shape-tuple : (es : List Expr) → shape_of (expr.Tuple es) ≡ tuple_shape (members_of es)
shape-tuple [] = opened []
shape-tuple (e ∷ es) = opened (e ∷ es) ∙ by_names (tuple_names (e ∷ es))

-- a name before members
named : (n : List ℕ) (q : Option (List (List ℕ))) → members_by (option_map (λ ns. n ∷ ns) q) ≡ joined shape.Name (members_by q)
named n (Some ns) = refl
named n None = refl

more : (o : Option (List ℕ)) (t : Option Targets) (es : List Expr) →
    members_by (option_and_then (λ n. option_map (λ ns. n ∷ ns) (all_names es)) o) ≡ joined (shape_by o t) (members_of es)
more (Some n) t [] = refl
more (Some n) t (e ∷ es) = named n (all_names (e ∷ es))
more None (Some t) es = refl
more None None es = refl

pub members_more : (e : Expr) (es : List Expr) → members_of (e ∷ es) ≡ joined (shape_of e) (members_of es)
members_more e es = more (name_of e) (targets_of e) es

-- no expression nests
nest_none : cut (nesting no_expr) ≡ 0
nest_none = ap cut (level.literal value.None)

shape_none : shape_of no_expr ≡ shape.Other
shape_none = shape-lit value.None

pub nesting_part : (p : Piece) → cut (nesting (expr_of p)) ≡ nesting_in (measure_of p)
nesting_part (piece.Expr e) = refl
nesting_part p = nest_none

pub shape_part : (p : Piece) → shape_of (expr_of p) ≡ shape_in (measure_of p)
shape_part (piece.Expr e) = refl
shape_part p = shape_none

one_more : (n : ℕ) → cut (max n 0) ≡ cut n
one_more n = omega arith

pub greatest_part : (p : Piece) → cut_all (map nesting (exprs_of p)) ≡ greatest_in (measure_of p)
greatest_part (piece.Expr e) = one_more (nesting e)
greatest_part (piece.Many es) = refl
greatest_part p = refl

pub members_part : (p : Piece) → members_of (exprs_of p) ≡ members_in (measure_of p)
members_part (piece.Expr e) = members_more e []
members_part (piece.Many es) = refl
members_part p = refl

cut_tuple : (n g : ℕ) → n ≡ 1 + g → cut n ≡ above (cut g)
cut_tuple n g h = omega arith

pub tuple_nesting_part : (p : Piece) → cut (nesting (tuple_of p)) ≡ tuple_nesting (measure_of p)
tuple_nesting_part (piece.Expr e) = refl
tuple_nesting_part (piece.Many es) = cut_tuple (nesting (expr.Tuple es)) (greatest (map nesting es)) (level.tuple es)
tuple_nesting_part piece.Nothing = ap cut (level.tuple [])
tuple_nesting_part p = nest_none

pub shape_tuple_part : (p : Piece) → shape_of (tuple_of p) ≡ shape_of_tuple (measure_of p)
shape_tuple_part (piece.Expr e) = refl
shape_tuple_part (piece.Many es) = shape-tuple es
shape_tuple_part piece.Nothing = shape-tuple []
shape_tuple_part p = shape_none

pub links_part : (p : Piece) → cut_all (map (λ l. nesting l.1) (links_of p)) ≡ links_in (measure_of p)
links_part (piece.Links ls) = refl
links_part p = refl

pub compares_part : (p : Piece) → cut_all (map (λ l. nesting l.1) (compares_of p)) ≡ compares_in (measure_of p)
compares_part (piece.Compares ls) = refl
compares_part p = refl

index_none : cut (suffix_nesting (suffix.Index no_expr)) ≡ 0
index_none = ap cut (level.index no_expr) ∙ nest_none

pub suffix_part : (p : Piece) → cut (suffix_nesting (suffix_of p)) ≡ suffix_in (measure_of p)
suffix_part (piece.Suffix s) = refl
suffix_part p = index_none

pub suffixes_part : (p : Piece) → cut_all (map suffix_nesting (suffixes_of p)) ≡ suffixes_in (measure_of p)
suffixes_part (piece.Suffixes ss) = refl
suffixes_part p = refl

pub optional_part : (p : Piece) → cut (or_zero (option_map nesting (optional_expr p))) ≡ nesting_in (measure_of p)
optional_part (piece.Expr e) = refl
optional_part p = refl

pub counted_part : (p : Piece) → cut (part_nesting p) ≡ counted (measure_of p)
counted_part (piece.Expr e) = refl
counted_part (piece.Many es) = cut_tuple (nesting (expr.Tuple es)) (greatest (map nesting es)) (level.tuple es)
counted_part (piece.Assign e) = refl
counted_part (piece.Augment op e) = refl
counted_part p = refl

target_tuple : (q : Option Targets) → is_target (shape_by None q) ≡ is_some q
target_tuple (Some t) = refl
target_tuple None = refl

name_tuple : (q : Option Targets) → is_name (shape_by None q) ≡ false
name_tuple (Some t) = refl
name_tuple None = refl

target_level : (x : Expr-F Expr Suffix) → is_target (shape_by (name_at x) (targets_at x)) ≡ is_some (targets_at x)
target_level (Expr-F.Name n) = refl
target_level (Expr-F.Tuple es) = target_tuple (targets_at (Expr-F.Tuple es))
target_level x = refl

name_level : (x : Expr-F Expr Suffix) → is_name (shape_by (name_at x) (targets_at x)) ≡ is_some (name_at x)
name_level (Expr-F.Name n) = refl
name_level (Expr-F.Tuple es) = name_tuple (targets_at (Expr-F.Tuple es))
name_level x = refl

-- whether a target fits is seen from the measures
pub fits_part : (p q : Piece) → fits (tuple_of p) q ≡ fits_in (measure_of p) (measure_of q)
fits_part p (piece.Assign e) = sym (target_level (out-Expr (tuple_of p))) ∙ ap is_target (shape_tuple_part p)
fits_part p (piece.Augment op e) = sym (name_level (out-Expr (tuple_of p))) ∙ ap is_name (shape_tuple_part p)
fits_part p q = refl
