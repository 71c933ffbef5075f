-- Expressions one after another, and operators on the value so far, do what they mean.
use Rattle.std.proofs.Common.{ℕ, ◌+◌, List, [], ◌∷◌, map, refl, arith}
use Rattle.pyd_value.specs.declared.value.Value.{Value}
use Rattle.pyd_value.specs.declared.operator.BinOp.{BinOp}
use Rattle.pyd_tree.specs.declared.expression.Expr.{Expr}
use Rattle.pyd_ops.specs.Operators.{binary}
use Rattle.pyd_meaning.specs.Evaluation.{Evaluation, settled, ◌>>=◌}
use Rattle.pyd_meaning.specs.Expression.{meaning_of, each as each_meant, chained as chained_meant}
use Rattle.pyd_scope.specs.Numbering.{expressions}
use Rattle.pyd_ir.specs.declared.arg.Arg.{Arg}
use Rattle.pyd_ir.specs.declared.code.OpCode.TheVariants.{Binary}
use Rattle.pyd_ir.specs.Inputs.{both}
use Rattle.pyd_translate.specs.Making.{Making, ◌>>>◌}
use Rattle.pyd_translate.specs.Expressions.{unfolded, each, chained, operator}
use Rattle.pyd_translate.specs.Matching.{HasValue}
use Rattle.pyd_translate.specs.Laws.{Stands}
use Rattle.pyd_translate.proofs.Induction.{Each}
use Rattle.pyd_translate.proofs.Standing.{stands_first}
use Rattle.pyd_translate.proofs.Within.{member_expressions, operand_expressions}
use Rattle.pyd_translate.proofs.Numbered.{placed_behind}
use Rattle.pyd_translate.proofs.Keeping.{HaveThese, has-kept}
use Rattle.pyd_translate.proofs.Sequencing.{matches-then, matches-pure, matches-more, spares-matches, spares-then}
use Rattle.pyd_translate.proofs.OperandsMatch.{operates, two-values}
use Rattle.pyd_translate.proofs.Scopes.{Scope, State, behind, Does, IsRight, setting, place, table, made_in}

module _ (w : Scope) where
  -- each in turn
  pub each-does : (es : List Expr) → Each (IsRight w) es → (k : ℕ) (here : State w)
      → Stands (table w) k (member_expressions es)
      → Does w 0 here (each (map (unfolded w.file) es) k (made_in w here.env))
      (each_meant (map (meaning_of (setting w)) es) (place w) here.names) HaveThese
  unfolding each each_meant
  each-does [] right k here stands = matches-pure w.file w.limits 0 here.ids here.given HaveThese [] [] (refl, tt)
  each-does (e ∷ es) right k here stands =
      matches-then w.file w.limits 0 0 here.ids here.given HasValue HaveThese _ _ _ _
      (spares-matches w.file w.limits here.ids here.given HasValue _ _
      (right.0 k here (stands_first (table w) k (expressions e) (member_expressions es) stands)))
      (λ next mid a v reached.
      let there = behind w here HasValue next mid a v reached in
      matches-then w.file w.limits 0 0 next mid HaveThese HaveThese _ _ _ _
      (each-does es right.1 (k + (unfolded w.file e).count) there
      (placed_behind w.file (table w) k e (member_expressions es) stands))
      (λ last after args vs rest.
      let has = has-kept next last mid after a v rest.grown rest.kept reached.related in
      let have = rest.related in
      matches-pure w.file w.limits 0 last after HaveThese (a ∷ args) (v ∷ vs)
      ((λ i. both (has.0 i) (have.0 i)), (has.1, have.1))))

  -- the node of a link on two arguments
  abbrev operated : Arg → BinOp × Expr → Arg → State w → Making Arg
  operated a l b here = operator (Binary l.0) (a ∷ b ∷ []) (made_in w here.env)

  -- the nodes of the links behind one
  abbrev links_made : BinOp × Expr → List (BinOp × Expr) → ℕ → State w → Arg → Making Arg
  links_made l links k here c =
      chained (map (λ l. (l.0, unfolded w.file l.1)) links) (k + (unfolded w.file l.1).count) (made_in w here.env) c

  -- what links mean on a value
  abbrev links_mean : List (BinOp × Expr) → State w → Value → Evaluation Value
  links_mean links here x = chained_meant x (map (λ l. (l.0, meaning_of (setting w) l.1)) links) (place w) here.names

  -- operators of one level, from a value on
  pub chained-does : (links : List (BinOp × Expr)) → Each (λ l. IsRight w l.1) links
      → (k : ℕ) (here : State w) (a : Arg) (v : Value)
      → Stands (table w) k (operand_expressions links) → HasValue here.ids here.given a v
      → Does w 0 here (chained (map (λ l. (l.0, unfolded w.file l.1)) links) k (made_in w here.env) a)
      (chained_meant v (map (λ l. (l.0, meaning_of (setting w) l.1)) links) (place w) here.names) HasValue
  unfolding chained chained_meant
  chained-does [] right k here a v stands has = matches-pure w.file w.limits 0 here.ids here.given HasValue a v has
  chained-does (l ∷ links) right k here a v stands has =
      spares-then w.file w.limits 0 here.ids here.given HasValue HasValue
      ((unfolded w.file l.1).build k (made_in w here.env)) (λ b. operated a l b here >>> links_made l links k here)
      (meaning_of (setting w) l.1 (place w) here.names) (λ u. settled (binary l.0 v u w.line) >>= links_mean links here)
      (right.0 k here (stands_first (table w) k (expressions l.1) (operand_expressions links) stands))
      (λ next mid b u reached.
      let there = behind w here HasValue next mid b u reached in
      let kept = has-kept here.ids next here.given mid a v reached.grown reached.kept has in
      matches-more w.file w.limits (1 + 0) (2 + 0) next mid HasValue _ _ (omega arith)
      (matches-then w.file w.limits 1 0 next mid HasValue HasValue
      (operated a l b here) (links_made l links k here) (settled (binary l.0 v u w.line)) (links_mean links here)
      (operates w.file w.limits next mid (made_in w here.env) (Binary l.0) (a ∷ b ∷ []) (v ∷ u ∷ [])
      (λ x. refl) (two-values mid a b v u kept.0 reached.related.0))
      (λ last after c x rest.
      chained-does links right.1 (k + (unfolded w.file l.1).count) (behind w there HasValue last after c x rest) c x
      (placed_behind w.file (table w) k l.1 (operand_expressions links) stands) rest.related)))
