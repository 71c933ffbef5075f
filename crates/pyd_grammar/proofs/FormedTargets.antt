-- The targets that the left side of an assignment is.
use Rattle.std.proofs.Common.{◌≡◌, ℕ, suc, ◌+◌, ◌≤◌, List, [], ◌∷◌, length, map, Option, Some, None, true, refl, ap, sym, ◌∙◌, subst, arith}
use Rattle.std.specs.Prelude.{option_map, option_and_then, unwrap_or}
use Rattle.pyd_value.specs.Size.{total}
use Rattle.pyd_tree.specs.declared.expression.Expr.{Expr, out-Expr}
use Rattle.pyd_tree.specs.declared.expression.Expr.TheFolds.{fold_out-Expr}
use Rattle.pyd_tree.specs.declared.expression.Expr.TheOpen.{Expr-F}
use Rattle.pyd_tree.specs.declared.expression.Suffix.{Suffix}
use Rattle.pyd_derivation.specs.Actions.{name_of, all_names, targets_at, targets_of, no_targets}
use Rattle.pyd_names.specs.WellFormed.{expression_parts, count_expression, count_suffix}
use Rattle.pyd_grammar.proofs.FormedStatements.{FormedTargets}

-- an expression has itself among its parts
one_at : (x : Expr-F ℕ ℕ) → 1 ≤ count_expression x
one_at (Expr-F.Lit v) = omega arith
one_at (Expr-F.Name n) = omega arith
one_at (Expr-F.Tuple es) = omega arith
one_at (Expr-F.Unary op e) = omega arith
one_at (Expr-F.Chain e ls) = omega arith
one_at (Expr-F.Power b e) = omega arith
one_at (Expr-F.And es) = omega arith
one_at (Expr-F.Or es) = omega arith
one_at (Expr-F.Compare e ls) = omega arith
one_at (Expr-F.If t y n) = omega arith
one_at (Expr-F.Call n es) = omega arith
one_at (Expr-F.Suffixed e ss) = omega arith

one : (e : Expr) → 1 ≤ expression_parts e
one e = let P : ℕ → Type 0 = λ z. 1 ≤ z in subst P (sym (fold_out-Expr ℕ ℕ count_expression count_suffix e)) (one_at _)

parts_of_tuple : (e : Expr) (es : List Expr) → out-Expr e ≡ Expr-F.Tuple es → expression_parts e ≡ 1 + total (map expression_parts es)
parts_of_tuple e es opened = fold_out-Expr ℕ ℕ count_expression count_suffix e ∙ rw opened refl

one_each : (es : List Expr) → length es ≤ total (map expression_parts es)
one_each [] = omega arith
one_each (e ∷ es) = let h = one_each es in let k = one e in omega arith

-- as many names as expressions
as_many : (es : List Expr) (ns : List (List ℕ)) → all_names es ≡ Some ns → length ns ≡ length es
as_many [] ns h = let e : [] ≡ ns = cc in ap length (sym e)
as_many (e ∷ es) ns h = at (name_of e) (all_names es) (as_many es) h where
  at : (x : Option (List ℕ)) (y : Option (List (List ℕ))) → ((ms : List (List ℕ)) → y ≡ Some ms → length ms ≡ length es) →
      option_and_then (λ n. option_map (λ ms. n ∷ ms) y) x ≡ Some ns → length ns ≡ length (e ∷ es)
  at (Some n) (Some ms) k g = let f : n ∷ ms ≡ ns = cc in ap length (sym f) ∙ ap suc (k ms refl)
  at (Some n) None k g = absurd cc
  at None y k g = absurd cc

none_fits : (w : ℕ) → 1 ≤ w → FormedTargets no_targets w
none_fits w l = record { formed = refl; few = omega arith }

tuple_fits : (e : Expr) (d : Expr) (es : List Expr) (x : Option (List (List ℕ))) → out-Expr e ≡ Expr-F.Tuple (d ∷ es) → all_names (d ∷ es) ≡ x →
    FormedTargets (unwrap_or (option_map (λ ns. record { names = ns; tuple = true }) x) no_targets) (expression_parts e)
tuple_fits e d es (Some (n ∷ ns)) opened h = record {
  formed = refl;
  few = let p = parts_of_tuple e (d ∷ es) opened in let q = one_each (d ∷ es) in let r = as_many (d ∷ es) (n ∷ ns) h in omega arith;
}
tuple_fits e d es (Some []) opened h = absurd (let r = as_many (d ∷ es) [] h in omega arith)
tuple_fits e d es None opened h = none_fits (expression_parts e) (one e)

targets_at_fit : (e : Expr) (x : Expr-F Expr Suffix) → out-Expr e ≡ x → FormedTargets (unwrap_or (targets_at x) no_targets) (expression_parts e)
targets_at_fit e (Expr-F.Name n) opened = record { formed = refl; few = one e }
targets_at_fit e (Expr-F.Tuple []) opened = none_fits (expression_parts e) (one e)
targets_at_fit e (Expr-F.Tuple (d ∷ es)) opened = tuple_fits e d es (all_names (d ∷ es)) opened refl
targets_at_fit e x opened = none_fits (expression_parts e) (one e)

-- what an expression is assigned to as has its names, no more than the expression has parts
pub targets_fit : (e : Expr) → FormedTargets (unwrap_or (targets_of e) no_targets) (expression_parts e)
targets_fit e = targets_at_fit e (out-Expr e) refl
