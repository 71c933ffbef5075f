-- The cell of each expression says what the expression is a part of, and where it ends.
use Rattle.std.proofs.Common.{◌≡◌, ◌<◌, ◌≤◌, ℕ, zero, suc, ◌+◌, List, [], ◌∷◌, length, drop, Option, Some, None, refl, sym, ap, subst, ◌∙◌, arith}
use Rattle.std.specs.Prelude.{slice_get, option_map, option_and_then}
use Rattle.pyd_tree.specs.declared.expression.Expr.{Expr, out-Expr}
use Rattle.pyd_tree.specs.declared.expression.Suffix.{Suffix}
use Rattle.pyd_scope.specs.declared.cells.Origin.{Origin}
use Rattle.pyd_scope.specs.declared.cells.Origin.TheVariants.{Header, Part, Low, High}
use Rattle.pyd_scope.specs.declared.cells.ExpressionCell.{ExpressionCell}
use Rattle.pyd_scope.specs.Numbering.{Entry, expressions, Stands}
use Rattle.pyd_scope.specs.Parting.{direct_of, suffixes_of, part_at, low, high}
use Rattle.pyd_scope.specs.Locating.{suffix_at, located}
use Rattle.pyd_scope.specs.Cells.{placed_from, placed, bounds_from, expression_cells, suffix_parts, expression_parts, part_cells}
use Rattle.pyd_scope.proofs.Induction.{Each, by_parts}
use Rattle.pyd_scope.proofs.Expressions.{part_expressions, expressions_out}
use Rattle.pyd_scope.proofs.Froms.{AllFrom, from-append}
use Rattle.pyd_scope.proofs.Stands.{stands_first, stands_second, stands_behind, stands_at, dropped_first}
use Rattle.pyd_scope.proofs.CellLevels.{cells_out}
use Rattle.pyd_scope.proofs.CellParts.{all_of, parts_all, each-append, OfPart, parts_each, counted}

-- what is left behind one more item
pub drop_more : {A : Type 0} (xs : List A) (k : ℕ) (y : A) (ys : List A)
    → drop k xs ≡ y ∷ ys → drop (suc k) xs ≡ ys
drop_more [] zero y ys e = absurd (cc e)
drop_more [] (suc k) y ys e = absurd (cc e)
drop_more (x ∷ xs) zero y ys e = cc e
drop_more (x ∷ xs) (suc k) y ys e = drop_more xs k y ys e

-- what an expression is a part of has a lower number
abbrev pub IsEarlier : ℕ → Origin → Type 0
IsEarlier n (Header stmt at) = Unit {0}
IsEarlier n (Part of at) = of < n
IsEarlier n (Low of at) = of < n
IsEarlier n (High of at) = of < n

-- than each later number too
later : (n k : ℕ) (origin : Origin) → n ≤ k → IsEarlier n origin → IsEarlier k origin
later n k (Header stmt at) le q = tt
later n k (Part of at) le q = omega (arith, le, q)
later n k (Low of at) le q = omega (arith, le, q)
later n k (High of at) le q = omega (arith, le, q)

module _ (entries : List Entry) (all : List Expr) where
  -- the expression that is such a part
  abbrev found : Origin → Option Expr
  found o = located entries all o

  -- what is right in the cell of expression n
  pub record IsCell (n : ℕ) (c : ExpressionCell) : Type 0 where
    pub origin : found c.origin ≡ slice_get all n
    pub earlier : IsEarlier n c.origin
    pub behind : option_map (λ e. n + length (expressions e)) (slice_get all n) ≡ Some c.behind

  -- in cells from number n on
  abbrev pub AreCells : ℕ → List ExpressionCell → Type 0
  AreCells n cs = AllFrom IsCell n cs

  -- a part is where it is said to be, in an expression below n
  abbrev IsPart : ℕ → Origin × Expr → Type 0
  IsPart n p = (found p.0 ≡ Some p.1) × IsEarlier n p.0

  -- parts outside brackets
  placed_parts : (n at : ℕ) (e : Expr) (xs : List Expr) → slice_get all n ≡ Some e
      → drop at (direct_of e) ≡ xs → Each (IsPart (suc n)) (placed_from (Part n) at xs)
  placed_parts n at e [] is d = tt
  placed_parts n at e (x ∷ xs) is d = (
    (ap (option_and_then (λ z. part_at z at)) is ∙ dropped_first (direct_of e) at x xs d, omega arith),
    placed_parts n (suc at) e xs is (drop_more (direct_of e) at x xs d),
  )

  -- a part that may be missing
  maybe_part : (n : ℕ) (origin : Origin) (o : Option Expr) → found origin ≡ o
      → IsEarlier n origin → Each (IsPart n) (placed origin o)
  maybe_part n origin None is q = tt
  maybe_part n origin (Some x) is q = ((is, q), tt)

  -- parts in brackets
  bounds_parts : (n at : ℕ) (e : Expr) (ss : List Suffix) → slice_get all n ≡ Some e
      → drop at (suffixes_of e) ≡ ss → Each (IsPart (suc n)) (bounds_from suffix_parts n at ss)
  bounds_parts n at e [] is d = tt
  bounds_parts n at e (s ∷ ss) is d =
      let here : suffix_at all n at ≡ Some s =
      ap (option_and_then (λ z. slice_get (suffixes_of z) at)) is
      ∙ dropped_first (suffixes_of e) at s ss d in
      let before : n < suc n = omega arith in
      each-append (IsPart (suc n)) (suffix_parts n at s) (bounds_from suffix_parts n (suc at) ss)
      (each-append (IsPart (suc n)) (placed (Low n at) (low s)) (placed (High n at) (high s))
      (maybe_part (suc n) (Low n at) (low s) (ap (option_and_then low) here) before)
      (maybe_part (suc n) (High n at) (high s) (ap (option_and_then high) here) before))
      (bounds_parts n (suc at) e ss is (drop_more (suffixes_of e) at s ss d))

  -- the parts of expression n
  parts_stand : (n : ℕ) (e : Expr) → slice_get all n ≡ Some e
      → Each (IsPart (suc n)) (expression_parts n e)
  parts_stand n e is =
      each-append (IsPart (suc n)) (placed_from (Part n) 0 (direct_of e))
      (bounds_from suffix_parts n 0 (suffixes_of e))
      (placed_parts n 0 e (direct_of e) is refl)
      (bounds_parts n 0 e (suffixes_of e) is refl)

  -- the cells of an expression are right where it stands
  abbrev HasCells : Expr → Type 0
  HasCells e = (origin : Origin) (n : ℕ) → Stands all n (expressions e)
      → found origin ≡ Some e → IsEarlier n origin → AreCells n (expression_cells e origin n)

  -- so are those of parts
  parts_right : (n k : ℕ) (ps : List (Origin × Expr)) → n ≤ k → Each (OfPart HasCells) ps
      → Each (IsPart n) ps → Stands all k (all_of ps) → AreCells k (part_cells ps k)
  parts_right n k [] le h q st = tt
  parts_right n k (p ∷ ps) le h q st =
      let size = counted p.1 p.0 k in
      let more : n ≤ k + length (expression_cells p.1 p.0 k) = omega (arith, le) in
      from-append IsCell k (expression_cells p.1 p.0 k)
      (part_cells ps (k + length (expression_cells p.1 p.0 k)))
      (h.0 p.0 k (stands_first all k (expressions p.1) (all_of ps) st) q.0.0
      (later n k p.0 le q.0.1))
      (parts_right n (k + length (expression_cells p.1 p.0 k)) ps more h.1 q.1
      (subst (λ l. Stands all (k + l) (all_of ps)) (sym size)
      (stands_second all k (expressions p.1) (all_of ps) st)))

  -- those of one, by its first level
  headed_right : (e : Expr) (origin : Origin) (n : ℕ) → Each (OfPart HasCells) (expression_parts n e)
      → Stands all n (e ∷ part_expressions (out-Expr e)) → found origin ≡ Some e
      → IsEarlier n origin
      → length (expression_cells e origin n) ≡ length (expressions e)
      → AreCells n (expression_cells e origin n)
  headed_right e origin n h st is q size =
      let at_n : slice_get all n ≡ Some e = stands_at all n e (part_expressions (out-Expr e)) st in
      let count = sym size ∙ ap length (cells_out e origin n) in
      let ends : n + length (expressions e)
      ≡ suc n + length (part_cells (expression_parts n e) (suc n)) =
      omega (arith, count) in
      let low_enough : suc n ≤ suc n = omega arith in
      subst (AreCells n) (sym (cells_out e origin n)) (
        record {
          origin = is ∙ sym at_n;
          earlier = q;
          behind = ap (option_map (λ x. n + length (expressions x))) at_n ∙ ap Some ends;
        },
        parts_right (suc n) (suc n) (expression_parts n e) low_enough h (parts_stand n e at_n)
            (subst (Stands all (suc n)) (sym (parts_all n e))
            (stands_behind all n e (part_expressions (out-Expr e)) st)),
      )

  -- those of each
  pub has_cells : (e : Expr) (origin : Origin) (n : ℕ) → Stands all n (expressions e)
      → found origin ≡ Some e → IsEarlier n origin → AreCells n (expression_cells e origin n)
  has_cells =
      by_parts HasCells (λ e q origin n st is early.
      headed_right e origin n (parts_each HasCells n e q)
      (subst (Stands all n) (expressions_out e) st) is early (counted e origin n))
