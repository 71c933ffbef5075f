-- The nodes of an expression that stands at its number do what it means.
use Rattle.std.proofs.Common.{◌≡◌, ℕ, suc, ◌+◌, ◌≤◌, [], ◌∷◌, map, drop, refl, sym, ap, subst, ◌∙◌, arith, Some}
use Rattle.std.specs.List.{slice_get}
use Rattle.pyd_value.specs.declared.value.Value.{Value}
use Rattle.pyd_value.specs.declared.value.Value.TheVariants as value
use Rattle.pyd_value.specs.declared.operator.BinOp.TheVariants.{Pow}
use Rattle.pyd_tree.specs.declared.expression.Expr.{Expr, out-Expr}
use Rattle.pyd_tree.specs.declared.expression.Expr.TheOpen.{Expr-F}
use Rattle.pyd_tree.specs.declared.expression.Expr.TheFolds.{map-Expr, fold_out-Expr}
use Rattle.pyd_tree.specs.declared.expression.Suffix.{Suffix}
use Rattle.pyd_meaning.specs.Evaluation.{Evaluation, step}
use Rattle.pyd_meaning.specs.Names.{Names}
use Rattle.pyd_meaning.specs.Expression.{Meaning, SuffixMeaning, meaning_of, suffix_of, expression_step, suffix_step as suffix_meant, compared as compared_meant}
use Rattle.pyd_scope.specs.Numbering.{expressions}
use Rattle.pyd_ir.specs.declared.arg.Arg.{Arg}
use Rattle.pyd_ir.specs.declared.arg.Arg.TheVariants.{Known}
use Rattle.pyd_ir.specs.declared.code.OpCode.TheVariants as code
use Rattle.pyd_ir.specs.declared.work.Side.TheVariants as side
use Rattle.pyd_ir.specs.Inputs.{Given, value_of}
use Rattle.pyd_translate.specs.Making.{Piece}
use Rattle.pyd_translate.specs.Expressions.{unfolded, unfold_step}
use Rattle.pyd_translate.specs.Walk.{if_there, left_of, numbered_left}
use Rattle.pyd_translate.specs.Matching.{HasValue, Matches}
use Rattle.pyd_translate.specs.Laws.{Stands, ExpressionLaw}
use Rattle.pyd_translate.proofs.Induction.{InParts, by_parts}
use Rattle.pyd_translate.proofs.Standing.{stands_first}
use Rattle.pyd_translate.proofs.Within.{operand_expressions, all_bracketed, part_expressions}
use Rattle.pyd_translate.proofs.Numbered.{unfolded_level, unfolded_out, placed_at, placed_parts, placed_behind}
use Rattle.pyd_translate.proofs.Keeping.{HaveThese, has-kept}
use Rattle.pyd_translate.proofs.Sequencing.{matches-then, matches-pure, matches-more, Spares, spares-matches}
use Rattle.pyd_translate.proofs.OperandsMatch.{operates, one-value, two-values, name-does}
use Rattle.pyd_translate.proofs.MembersMatch.{each-does, chained-does}
use Rattle.pyd_translate.proofs.ChoicesMatch.{of_side, conditional-does, conjunction-does, disjunction-does, compared-does}
use Rattle.pyd_translate.proofs.CallsMatch.{call-does}
use Rattle.pyd_translate.proofs.BracketsMatch.{suffixed-does}
use Rattle.pyd_translate.proofs.Scopes.{Scope, State, behind, IsRight, setting, place, table, made_in}

module _ (w : Scope) where
  -- one level of an expression as it is meant
  abbrev meant_level : Expr-F Expr Suffix → Expr-F Meaning SuffixMeaning
  meant_level y = map-Expr Expr Suffix Meaning SuffixMeaning (meaning_of (setting w)) (suffix_of (setting w)) y

  -- an expression by its first level
  meaning_of-out : (e : Expr) → meaning_of (setting w) e ≡ expression_step (setting w) (meant_level (out-Expr e))
  unfolding meaning_of suffix_of
  meaning_of-out e = fold_out-Expr Meaning SuffixMeaning (expression_step (setting w)) suffix_meant e

  -- what leaves two steps over where an evaluation begins with a step
  abbrev Leaves : State w → Piece Arg → Evaluation Value → Type 0
  Leaves here p m = Spares w.file w.limits here.ids here.given p m HasValue

  -- a step, and then what counts at most so many steps more
  stepped : (more : ℕ) (here : State w) (p : Piece Arg) (m : Evaluation Value) → more ≤ 2
      → Matches w.file w.limits more here.ids here.given p m HasValue → Leaves here p (step m)
  stepped more here p m le does = record {
    inner = m;
    begins = refl;
    matches = matches-more w.file w.limits more 2 here.ids here.given HasValue p m le does;
  }

  -- what is left of the expression of a number, by its first level
  pub left_side : (given : Given) (k m : ℕ) (a : Arg) (e : Expr) (y : Expr-F Expr Suffix) (names : Names)
      → slice_get (table w) k ≡ Some e → out-Expr e ≡ y
      → of_side w given (side.Tail k m a) names ≡ left_of (setting w) y m (value_of given a) (place w) names
  left_side given k m a e y names found opened =
      ap (λ o. numbered_left (setting w) o m (value_of given a) (place w) names) found
      ∙ ap (λ x. left_of (setting w) x m (value_of given a) (place w) names) opened

  -- one level of an expression whose parts are right
  level-does : (e : Expr) (y : Expr-F Expr Suffix) → out-Expr e ≡ y → InParts (IsRight w) y
      → (k : ℕ) (here : State w) → slice_get (table w) k ≡ Some e → Stands (table w) (suc k) (part_expressions y)
      → Leaves here ((unfold_step w.file (unfolded_level w.file y)).build k (made_in w here.env) here.ids)
      (expression_step (setting w) (meant_level y) (place w) here.names)
  level-does e (Expr-F.Lit v) opened right k here found stands =
      stepped 0 here _ _ (omega arith) (matches-pure w.file w.limits 0 here.ids here.given HasValue (Known v) v (refl, tt))
  level-does e (Expr-F.Name name) opened right k here found stands =
      stepped 1 here _ _ (omega arith) (name-does w here name)
  level-does e (Expr-F.Tuple es) opened right k here found stands =
      stepped 1 here _ _ (omega arith)
      (matches-then w.file w.limits 0 1 here.ids here.given HaveThese HasValue _ _ _ _
      (each-does w es right (suc k) here stands)
      (λ next mid args vs reached.
      operates w.file w.limits next mid (made_in w here.env) code.Tuple args vs (λ x. refl) reached.related.0))
  level-does e (Expr-F.Unary op operand) opened right k here found stands =
      stepped 1 here _ _ (omega arith)
      (matches-then w.file w.limits 0 1 here.ids here.given HasValue HasValue _ _ _ _
      (spares-matches w.file w.limits here.ids here.given HasValue _ _ (right (suc k) here stands))
      (λ next mid a v reached.
      operates w.file w.limits next mid (made_in w here.env) (code.Unary op) (a ∷ []) (v ∷ []) (λ x. refl)
      (one-value mid a v reached.related.0)))
  level-does e (Expr-F.Chain first links) opened right k here found stands =
      stepped 0 here _ _ (omega arith)
      (matches-then w.file w.limits 0 0 here.ids here.given HasValue HasValue _ _ _ _
      (spares-matches w.file w.limits here.ids here.given HasValue _ _
      (right.0 (suc k) here (stands_first (table w) (suc k) (expressions first) (operand_expressions links) stands)))
      (λ next mid a v reached.
      chained-does w links right.1 (suc k + (unfolded w.file first).count) (behind w here HasValue next mid a v reached) a v
      (placed_behind w.file (table w) (suc k) first (operand_expressions links) stands) reached.related))
  level-does e (Expr-F.Power base exponent) opened right k here found stands =
      stepped 1 here _ _ (omega arith)
      (matches-then w.file w.limits 0 (0 + 1) here.ids here.given HasValue HasValue _ _ _ _
      (spares-matches w.file w.limits here.ids here.given HasValue _ _
      (right.0 (suc k) here (stands_first (table w) (suc k) (expressions base) (expressions exponent) stands)))
      (λ next mid a v reached.
      let there = behind w here HasValue next mid a v reached in
      matches-then w.file w.limits 0 1 next mid HasValue HasValue _ _ _ _
      (spares-matches w.file w.limits next mid HasValue _ _
      (right.1 (suc k + (unfolded w.file base).count) there
      (placed_behind w.file (table w) (suc k) base (expressions exponent) stands)))
      (λ last after b u rest.
      let kept = has-kept next last mid after a v rest.grown rest.kept reached.related in
      operates w.file w.limits last after (made_in w here.env) (code.Binary Pow) (a ∷ b ∷ []) (v ∷ u ∷ []) (λ x. refl)
      (two-values after a b v u kept.0 rest.related.0))))
  level-does e (Expr-F.And es) opened right k here found stands =
      stepped 0 here _ _ (omega arith)
      (conjunction-does w k 0 es right (suc k) here stands
      (λ given. left_side given k 1 (Known value.None) e (Expr-F.And es) here.names found opened))
  level-does e (Expr-F.Or es) opened right k here found stands =
      stepped 0 here _ _ (omega arith)
      (disjunction-does w k 0 es right (suc k) here stands
      (λ given. left_side given k 1 (Known value.None) e (Expr-F.Or es) here.names found opened))
  level-does e (Expr-F.Compare first links) opened right k here found stands =
      stepped 1 here _ _ (omega arith)
      (matches-then w.file w.limits 0 1 here.ids here.given HasValue HasValue _ _ _ _
      (spares-matches w.file w.limits here.ids here.given HasValue _ _
      (right.0 (suc k) here (stands_first (table w) (suc k) (expressions first) (operand_expressions links) stands)))
      (λ next mid a v reached.
      compared-does w k 0 links right.1 (suc k + (unfolded w.file first).count) (behind w here HasValue next mid a v reached) a v
      (placed_behind w.file (table w) (suc k) first (operand_expressions links) stands) reached.related
      (λ given b u has. left_side given k 1 b e (Expr-F.Compare first links) here.names found opened
      ∙ ap (λ o. if_there o w.line (λ x. compared_meant x (drop 1 (map (λ l. (l.0, meaning_of (setting w) l.1)) links)) (place w) here.names)) has)))
  level-does e (Expr-F.If test first second) opened right k here found stands =
      stepped 0 here _ _ (omega arith) (conditional-does w test first second right.0 (suc k) here stands)
  level-does e (Expr-F.Call name args) opened right k here found stands =
      stepped 2 here _ _ (omega arith) (call-does w args right (suc k) here stands name)
  level-does e (Expr-F.Suffixed base suffixes) opened right k here found stands =
      stepped 0 here _ _ (omega arith)
      (matches-then w.file w.limits 0 0 here.ids here.given HasValue HasValue _ _ _ _
      (spares-matches w.file w.limits here.ids here.given HasValue _ _
      (right.0 (suc k) here (stands_first (table w) (suc k) (expressions base) (all_bracketed suffixes) stands)))
      (λ next mid a v reached.
      suffixed-does w suffixes right.1 (suc k + (unfolded w.file base).count) (behind w here HasValue next mid a v reached) a v
      (placed_behind w.file (table w) (suc k) base (all_bracketed suffixes) stands) reached.related))

  -- each expression is right
  pub expression-does : (e : Expr) → IsRight w e
  expression-does =
      by_parts (IsRight w) (λ e right k here stands.
      subst (λ u. Leaves here (u.build k (made_in w here.env) here.ids) (meaning_of (setting w) e (place w) here.names)) (sym (unfolded_out w.file e))
      (subst (λ (m : Meaning). Leaves here ((unfold_step w.file (unfolded_level w.file (out-Expr e))).build k (made_in w here.env) here.ids) (m (place w) here.names)) (sym (meaning_of-out e))
      (level-does e (out-Expr e) refl right k here (placed_at (table w) k e stands) (placed_parts (table w) k e stands))))

-- the nodes of an expression that stands in its routine at its number do what it means
pub expressions_match : ExpressionLaw
expressions_match file limits routine depth line e k ids given env names stands are =
    let w : Scope = record { file = file; limits = limits; routine = routine; depth = depth; line = line } in
    let here : State w = record { ids = ids; given = given; env = env; names = names; are = are } in
    spares-matches file limits ids given HasValue _ _ (expression-does w e k here stands)
