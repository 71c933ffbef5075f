-- Choices, members up to the first that decides, and the links of comparisons do what they mean.
use Rattle.std.proofs.Common.{◌≡◌, ℕ, suc, ◌+◌, List, [], ◌∷◌, ◌++◌, map, drop, refl, sym, ap, subst, ◌∙◌, arith, Bool, true, false, Some}
use Rattle.pyd_value.specs.declared.value.Value.{Value, Bool as Truth}
use Rattle.pyd_value.specs.declared.fault.Kind.TheVariants.{NameError}
use Rattle.pyd_value.specs.declared.operator.CmpOp.{CmpOp}
use Rattle.pyd_value.specs.Truth.{is_true}
use Rattle.pyd_tree.specs.declared.expression.Expr.{Expr}
use Rattle.pyd_ops.specs.Comparing.{compare}
use Rattle.pyd_meaning.specs.Evaluation.{Evaluation, settled, gives, ◌>>=◌}
use Rattle.pyd_meaning.specs.Names.{Names}
use Rattle.pyd_meaning.specs.Setting.{value_or}
use Rattle.pyd_meaning.specs.Expression.{meaning_of, branch, conjunction as conjunction_meant, disjunction as disjunction_meant, compared as compared_meant}
use Rattle.pyd_scope.specs.Numbering.{expressions}
use Rattle.pyd_ir.specs.declared.arg.Arg.{Arg}
use Rattle.pyd_ir.specs.declared.arg.Arg.TheVariants.{Known}
use Rattle.pyd_ir.specs.declared.code.OpCode.TheVariants.{Compare}
use Rattle.pyd_ir.specs.declared.work.Side.{Side}
use Rattle.pyd_ir.specs.declared.work.Side.TheVariants as side
use Rattle.pyd_ir.specs.declared.work.Work.TheVariants.{Pick}
use Rattle.pyd_ir.specs.Inputs.{Given, value_of}
use Rattle.pyd_ir.specs.Ports.{only_port}
use Rattle.pyd_translate.specs.Making.{node_of, ◌>>>◌}
use Rattle.pyd_translate.specs.Expressions.{unfolded, choose, members_from, conjunction, disjunction, compared}
use Rattle.pyd_translate.specs.Walk.{if_there, count_composite, numbered_meaning, side_meaning, work_ports}
use Rattle.pyd_translate.specs.Matching.{HasValue}
use Rattle.pyd_translate.specs.Laws.{Stands}
use Rattle.pyd_translate.proofs.Induction.{Each}
use Rattle.pyd_translate.proofs.Standing.{stands_first}
use Rattle.pyd_translate.proofs.Within.{member_expressions, operand_expressions}
use Rattle.pyd_translate.proofs.Numbered.{placed_at, placed_behind}
use Rattle.pyd_translate.proofs.Keeping.{has-kept}
use Rattle.pyd_translate.proofs.Sequencing.{matches-then, matches-pure, matches-more, spares-matches, spares-then}
use Rattle.pyd_translate.proofs.Emitting.{Puts, puts-composite, matches-emit, matches-emit_value}
use Rattle.pyd_translate.proofs.OperandsMatch.{operates, two-values}
use Rattle.pyd_translate.proofs.Scopes.{Scope, State, behind, Does, IsRight, setting, place, table, made_in}

-- equal sides make equal choices
branch-same : {A : Type 0} (t : Bool) (f g first second : Names → Evaluation A) (names : Names)
    → f names ≡ first names → g names ≡ second names → branch t f g names ≡ branch t first second names
branch-same true f g first second names p q = p
branch-same false f g first second names p q = q

module _ (w : Scope) where
  -- what a side means
  abbrev pub of_side : Given → Side → Names → Evaluation Value
  of_side given s names = side_meaning w.file w.limits w.routine w.depth given s (place w) names

  -- a side that is a value
  pub side-value : (given : Given) (a : Arg) (v : Value) (names : Names)
      → value_of given a ≡ Some v → of_side given (side.Arg a) names ≡ gives v
  side-value given a v names is = ap (λ o. value_or o NameError (place w)) is

  -- a side that is an expression
  pub side-expression : (given : Given) (k : ℕ) (e : Expr) (names : Names)
      → Stands (table w) k (expressions e) → of_side given (side.Expr k) names ≡ meaning_of (setting w) e (place w) names
  side-expression given k e names stands =
      ap (λ o. numbered_meaning (setting w) o (place w) names) (placed_at (table w) k e stands)

  -- a choice does what one of its sides means
  pub chooses : (here : State w) (test : Arg) (v : Value) (first second : Side) (f g : Names → Evaluation Value)
      → HasValue here.ids here.given test v
      → of_side here.given first here.names ≡ f here.names → of_side here.given second here.names ≡ g here.names
      → Does w 2 here (choose (made_in w here.env) test first second) (branch (is_true v) f g here.names) HasValue
  chooses here test v first second f g has p q =
      matches-emit_value w.file w.limits 2 here.ids here.given (made_in w here.env) (Pick test first second here.env) only_port (branch (is_true v) f g here.names) (λ u. refl)
      (matches-emit w.file w.limits 2 here.ids here.given (made_in w here.env) (Pick test first second here.env) only_port (branch (is_true v) f g here.names)
      (subst (λ e. Puts 2 e (branch (is_true v) f g here.names) only_port) (sym opened)
      (puts-composite 0 (branch (is_true v) f g here.names) only_port)))
    where
      opened :
          work_ports w.file w.limits (Pick test first second here.env) (node_of (made_in w here.env) here.ids (Pick test first second here.env)) here.given
          ≡ count_composite 0 (branch (is_true v) f g here.names >>= (λ u. gives (only_port u)))
      opened =
          (λ i. if_there (has.0 i) w.line (λ x. count_composite 0 (branch (is_true x) (of_side here.given first) (of_side here.given second) (here.are.bound i) >>= (λ u. gives (only_port u)))))
          ∙ ap (λ e. count_composite 0 (e >>= (λ u. gives (only_port u)))) (branch-same (is_true v) (of_side here.given first) (of_side here.given second) f g here.names p q)

  -- a conditional expression from its test on
  pub conditional-does : (test first second : Expr) → IsRight w test → (k : ℕ) (here : State w)
      → Stands (table w) k (expressions first ++ (expressions test ++ expressions second))
      → Does w 0 here ((unfolded w.file test).build (k + (unfolded w.file first).count) (made_in w here.env)
      >>> (λ t. choose (made_in w here.env) t (side.Expr k) (side.Expr (k + (unfolded w.file first).count + (unfolded w.file test).count))))
      (meaning_of (setting w) test (place w) here.names
      >>= (λ v. branch (is_true v) (meaning_of (setting w) first (place w)) (meaning_of (setting w) second (place w)) here.names)) HasValue
  conditional-does test first second right k here stands =
      let others = placed_behind w.file (table w) k first (expressions test ++ expressions second) stands in
      spares-then w.file w.limits 0 here.ids here.given HasValue HasValue _ _ _ _
      (right (k + (unfolded w.file first).count) here (stands_first (table w) (k + (unfolded w.file first).count) (expressions test) (expressions second) others))
      (λ next mid a v reached.
      chooses (behind w here HasValue next mid a v reached) a v _ _ (meaning_of (setting w) first (place w)) (meaning_of (setting w) second (place w)) reached.related
      (side-expression mid k first here.names (stands_first (table w) k (expressions first) (expressions test ++ expressions second) stands))
      (side-expression mid _ second here.names (placed_behind w.file (table w) (k + (unfolded w.file first).count) test (expressions second) others)))

  -- an `and` from its member m on
  pub conjunction-does : (whole m : ℕ) (es : List Expr) → Each (IsRight w) es → (k : ℕ) (here : State w)
      → Stands (table w) k (member_expressions es)
      → ((given : Given) → of_side given (members_from whole (suc m)) here.names
      ≡ conjunction_meant (drop 1 (map (meaning_of (setting w)) es)) (place w) here.names)
      → Does w 0 here (conjunction whole m (map (unfolded w.file) es) k (made_in w here.env))
      (conjunction_meant (map (meaning_of (setting w)) es) (place w) here.names) HasValue
  unfolding conjunction conjunction_meant
  conjunction-does whole m [] right k here stands left =
      matches-pure w.file w.limits 0 here.ids here.given HasValue (Known (Truth true)) (Truth true) (refl, tt)
  conjunction-does whole m (e ∷ []) right k here stands left =
      spares-matches w.file w.limits here.ids here.given HasValue _ _
      (right.0 k here (stands_first (table w) k (expressions e) [] stands))
  conjunction-does whole m (e ∷ f ∷ es) right k here stands left =
      spares-then w.file w.limits 0 here.ids here.given HasValue HasValue _ _ _ _
      (right.0 k here (stands_first (table w) k (expressions e) (member_expressions (f ∷ es)) stands))
      (λ next mid a v reached.
      chooses (behind w here HasValue next mid a v reached) a v (members_from whole (suc m)) (side.Arg a)
      (conjunction_meant (map (meaning_of (setting w)) (f ∷ es)) (place w)) (λ now. gives v) reached.related
      (left mid) (side-value mid a v here.names reached.related.0))

  -- an `or` from its member m on
  pub disjunction-does : (whole m : ℕ) (es : List Expr) → Each (IsRight w) es → (k : ℕ) (here : State w)
      → Stands (table w) k (member_expressions es)
      → ((given : Given) → of_side given (members_from whole (suc m)) here.names
      ≡ disjunction_meant (drop 1 (map (meaning_of (setting w)) es)) (place w) here.names)
      → Does w 0 here (disjunction whole m (map (unfolded w.file) es) k (made_in w here.env))
      (disjunction_meant (map (meaning_of (setting w)) es) (place w) here.names) HasValue
  unfolding disjunction disjunction_meant
  disjunction-does whole m [] right k here stands left =
      matches-pure w.file w.limits 0 here.ids here.given HasValue (Known (Truth false)) (Truth false) (refl, tt)
  disjunction-does whole m (e ∷ []) right k here stands left =
      spares-matches w.file w.limits here.ids here.given HasValue _ _
      (right.0 k here (stands_first (table w) k (expressions e) [] stands))
  disjunction-does whole m (e ∷ f ∷ es) right k here stands left =
      spares-then w.file w.limits 0 here.ids here.given HasValue HasValue _ _ _ _
      (right.0 k here (stands_first (table w) k (expressions e) (member_expressions (f ∷ es)) stands))
      (λ next mid a v reached.
      chooses (behind w here HasValue next mid a v reached) a v (side.Arg a) (members_from whole (suc m))
      (λ now. gives v) (disjunction_meant (map (meaning_of (setting w)) (f ∷ es)) (place w)) reached.related
      (side-value mid a v here.names reached.related.0) (left mid))

  -- a comparison from its link m on, with its left operand
  pub compared-does : (whole m : ℕ) (links : List (CmpOp × Expr)) → Each (λ l. IsRight w l.1) links
      → (k : ℕ) (here : State w) (a : Arg) (v : Value)
      → Stands (table w) k (operand_expressions links) → HasValue here.ids here.given a v
      → ((given : Given) (b : Arg) (u : Value) → value_of given b ≡ Some u
      → of_side given (side.Tail whole (suc m) b) here.names
      ≡ compared_meant u (drop 1 (map (λ l. (l.0, meaning_of (setting w) l.1)) links)) (place w) here.names)
      → Does w 1 here (compared whole m (map (λ l. (l.0, unfolded w.file l.1)) links) k (made_in w here.env) a)
      (compared_meant v (map (λ l. (l.0, meaning_of (setting w) l.1)) links) (place w) here.names) HasValue
  unfolding compared compared_meant
  compared-does whole m [] right k here a v stands has left =
      matches-pure w.file w.limits 1 here.ids here.given HasValue (Known (Truth true)) (Truth true) (refl, tt)
  compared-does whole m (l ∷ []) right k here a v stands has left =
      spares-then w.file w.limits 1 here.ids here.given HasValue HasValue _ _ _ _
      (right.0 k here (stands_first (table w) k (expressions l.1) [] stands))
      (λ next mid b u reached.
      let kept = has-kept here.ids next here.given mid a v reached.grown reached.kept has in
      matches-more w.file w.limits 1 (2 + 1) next mid HasValue _ _ (omega arith)
      (operates w.file w.limits next mid (made_in w here.env) (Compare l.0) (a ∷ b ∷ []) (v ∷ u ∷ [])
      (λ x. refl) (two-values mid a b v u kept.0 reached.related.0)))
  compared-does whole m (l ∷ other ∷ links) right k here a v stands has left =
      spares-then w.file w.limits 1 here.ids here.given HasValue HasValue _ _ _ _
      (right.0 k here (stands_first (table w) k (expressions l.1) (operand_expressions (other ∷ links)) stands))
      (λ next mid b u reached.
      let there = behind w here HasValue next mid b u reached in
      let kept = has-kept here.ids next here.given mid a v reached.grown reached.kept has in
      let others : Value → Names → Evaluation Value = λ x. compared_meant x (map (λ l. (l.0, meaning_of (setting w) l.1)) (other ∷ links)) (place w) in
      matches-then w.file w.limits 1 2 next mid HasValue HasValue _ _ (settled (compare l.0 v u w.line))
      (λ x. branch (is_true x) (others u) (λ now. gives x) here.names)
      (operates w.file w.limits next mid (made_in w here.env) (Compare l.0) (a ∷ b ∷ []) (v ∷ u ∷ [])
      (λ x. refl) (two-values mid a b v u kept.0 reached.related.0))
      (λ last after c x rest.
      let still = has-kept next last mid after b u rest.grown rest.kept reached.related in
      chooses (behind w there HasValue last after c x rest) c x (side.Tail whole (suc m) b) (side.Arg c)
      (others u) (λ now. gives x) rest.related
      (left after b u still.0) (side-value after c x here.names rest.related.0)))
