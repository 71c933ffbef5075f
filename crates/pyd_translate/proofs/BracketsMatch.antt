-- The nodes of what stands in brackets do what it means.
use Rattle.std.proofs.Common.{◌≡◌, ℕ, ◌+◌, ◌≤◌, List, [], ◌∷◌, ◌++◌, map, refl, sym, subst, arith, Bool, true, false, Option, Some, None}
use Rattle.std.specs.Prelude.{option_map, is_some}
use Rattle.pyd_value.specs.declared.value.Value.{Value}
use Rattle.pyd_tree.specs.declared.expression.Expr.{Expr}
use Rattle.pyd_tree.specs.declared.expression.Expr.TheOpen.{Suffix-F}
use Rattle.pyd_tree.specs.declared.expression.Expr.TheFolds.{map-Suffix, fold_out-Suffix}
use Rattle.pyd_tree.specs.declared.expression.Suffix.{Suffix, out-Suffix}
use Rattle.pyd_ops.specs.Indexing.{slice}
use Rattle.pyd_meaning.specs.Evaluation.{settled, ◌>>=◌}
use Rattle.pyd_meaning.specs.Expression.{Meaning, SuffixMeaning, meaning_of, suffix_of, optional, suffixed as suffixed_meant, expression_step, suffix_step as suffix_meant}
use Rattle.pyd_ir.specs.declared.arg.Arg.{Arg}
use Rattle.pyd_ir.specs.declared.code.OpCode.TheVariants as code
use Rattle.pyd_ir.specs.Inputs.{Given, value_of, both}
use Rattle.pyd_translate.specs.Making.{◌>>>◌}
use Rattle.pyd_translate.specs.Expressions.{unfolded, unfolded_suffix, operator, bound, maybe_count, suffixed, suffix_step}
use Rattle.pyd_translate.specs.Matching.{IsKept, HasValue}
use Rattle.pyd_translate.specs.Laws.{Stands}
use Rattle.pyd_translate.proofs.Induction.{Each, Maybe, InBrackets}
use Rattle.pyd_translate.proofs.Standing.{stands_first}
use Rattle.pyd_translate.proofs.Within.{maybe_expressions, bracketed_expressions, suffix_expressions, all_bracketed}
use Rattle.pyd_translate.proofs.Numbered.{unfolded_brackets, unfolded_suffix_out, placed_behind_maybe, placed_behind_suffix}
use Rattle.pyd_translate.proofs.Keeping.{has-kept}
use Rattle.pyd_translate.proofs.Sequencing.{matches-then, matches-pure, matches-more, matches-step, spares-matches}
use Rattle.pyd_translate.proofs.OperandsMatch.{operates, one-value, two-values}
use Rattle.pyd_translate.proofs.Scopes.{Scope, State, behind, Does, IsRight, setting, place, table, made_in}

-- what came of a bound that is there, or of one that isn't
abbrev pub IsBound : Bool → ℕ → Given → List Arg → Option Value → Type 0
IsBound false next given args o = (args ≡ []) × (o ≡ None)
IsBound true next given args o = (a : Arg) × (v : Value) × (args ≡ a ∷ []) × (o ≡ Some v) × HasValue next given a v

-- what came of a bound stays so
bound-kept : (there : Bool) (low high : ℕ) (before after : Given) (args : List Arg) (o : Option Value)
    → low ≤ high → IsKept low before after → IsBound there low before args o → IsBound there high after args o
bound-kept false low high before after args o le kept is = is
bound-kept true low high before after args o le kept is =
    (is.0, is.1, is.2, is.3, has-kept low high before after is.0 is.1 le kept is.4)

module _ (w : Scope) where
  -- the node of a slice between these bounds does what that means
  abbrev Slices : State w → Arg → Value → Bool → Bool → List Arg → Option Value → List Arg → Option Value → Type 0
  Slices here a v low high l lo h hi =
      Does w 1 here (operator (code.Slice low high) (a ∷ l ++ h) (made_in w here.env))
      (settled (slice v (record { low = lo; high = hi }) w.line)) HasValue

  -- by which bounds are there
  slice-does : (here : State w) (a : Arg) (v : Value) (low high : Bool) (l h : List Arg) (lo hi : Option Value)
      → value_of here.given a ≡ Some v
      → IsBound low here.ids here.given l lo → IsBound high here.ids here.given h hi
      → Slices here a v low high l lo h hi
  slice-does here a v false false l h lo hi has p q =
      subst (λ x. Slices here a v false false x lo h hi) (sym p.0) (subst (λ x. Slices here a v false false [] x h hi) (sym p.1)
      (subst (λ x. Slices here a v false false [] None x hi) (sym q.0) (subst (λ x. Slices here a v false false [] None [] x) (sym q.1)
      (operates w.file w.limits here.ids here.given (made_in w here.env) (code.Slice false false) (a ∷ []) (v ∷ []) (λ x. refl)
      (one-value here.given a v has)))))
  slice-does here a v false true l h lo hi has p q =
      subst (λ x. Slices here a v false true x lo h hi) (sym p.0) (subst (λ x. Slices here a v false true [] x h hi) (sym p.1)
      (subst (λ x. Slices here a v false true [] None x hi) (sym q.2) (subst (λ x. Slices here a v false true [] None (q.0 ∷ []) x) (sym q.3)
      (operates w.file w.limits here.ids here.given (made_in w here.env) (code.Slice false true) (a ∷ q.0 ∷ []) (v ∷ q.1 ∷ []) (λ x. refl)
      (two-values here.given a q.0 v q.1 has q.4.0)))))
  slice-does here a v true false l h lo hi has p q =
      subst (λ x. Slices here a v true false x lo h hi) (sym p.2) (subst (λ x. Slices here a v true false (p.0 ∷ []) x h hi) (sym p.3)
      (subst (λ x. Slices here a v true false (p.0 ∷ []) (Some p.1) x hi) (sym q.0) (subst (λ x. Slices here a v true false (p.0 ∷ []) (Some p.1) [] x) (sym q.1)
      (operates w.file w.limits here.ids here.given (made_in w here.env) (code.Slice true false) (a ∷ p.0 ∷ []) (v ∷ p.1 ∷ []) (λ x. refl)
      (two-values here.given a p.0 v p.1 has p.4.0)))))
  slice-does here a v true true l h lo hi has p q =
      subst (λ x. Slices here a v true true x lo h hi) (sym p.2) (subst (λ x. Slices here a v true true (p.0 ∷ []) x h hi) (sym p.3)
      (subst (λ x. Slices here a v true true (p.0 ∷ []) (Some p.1) x hi) (sym q.2) (subst (λ x. Slices here a v true true (p.0 ∷ []) (Some p.1) (q.0 ∷ []) x) (sym q.3)
      (operates w.file w.limits here.ids here.given (made_in w here.env) (code.Slice true true) (a ∷ p.0 ∷ q.0 ∷ []) (v ∷ p.1 ∷ q.1 ∷ []) (λ x. refl)
      (λ i. both (has i) (both (p.4.0 i) (both (q.4.0 i) (Some []))))))))

  -- a bound that may be missing
  bound-does : (o : Option Expr) → Maybe (IsRight w) o → (k : ℕ) (here : State w)
      → Stands (table w) k (maybe_expressions o)
      → Does w 0 here (bound (option_map (unfolded w.file) o) k (made_in w here.env))
      (optional (option_map (meaning_of (setting w)) o) (place w) here.names) (IsBound (is_some o))
  bound-does None right k here stands = matches-pure w.file w.limits 0 here.ids here.given (IsBound false) [] None (refl, refl)
  bound-does (Some e) right k here stands =
      matches-then w.file w.limits 0 0 here.ids here.given HasValue (IsBound true) _ _ _ _
      (spares-matches w.file w.limits here.ids here.given HasValue _ _ (right k here stands))
      (λ next mid a v reached.
      matches-pure w.file w.limits 0 next mid (IsBound true) (a ∷ []) (Some v) (a, v, refl, refl, reached.related))

  -- a slice between bounds that may be missing
  between-does : (low high : Option Expr) → Maybe (IsRight w) low → Maybe (IsRight w) high
      → (k : ℕ) (here : State w) (a : Arg) (v : Value)
      → Stands (table w) k (maybe_expressions low ++ maybe_expressions high) → HasValue here.ids here.given a v
      → Does w 1 here (bound (option_map (unfolded w.file) low) k (made_in w here.env)
      >>> (λ l. bound (option_map (unfolded w.file) high) (k + maybe_count (option_map (unfolded w.file) low)) (made_in w here.env)
      >>> (λ h. operator (code.Slice (is_some low) (is_some high)) (a ∷ l ++ h) (made_in w here.env))))
      (optional (option_map (meaning_of (setting w)) low) (place w) here.names
      >>= (λ l. optional (option_map (meaning_of (setting w)) high) (place w) here.names
      >>= (λ h. settled (slice v (record { low = l; high = h }) w.line)))) HasValue
  between-does low high first second k here a v stands has =
      matches-then w.file w.limits 0 (0 + 1) here.ids here.given (IsBound (is_some low)) HasValue _ _ _ _
      (bound-does low first k here (stands_first (table w) k (maybe_expressions low) (maybe_expressions high) stands))
      (λ next mid l lo reached.
      let there = behind w here (IsBound (is_some low)) next mid l lo reached in
      matches-then w.file w.limits 0 1 next mid (IsBound (is_some high)) HasValue _ _ _ _
      (bound-does high second (k + maybe_count (option_map (unfolded w.file) low)) there
      (placed_behind_maybe w.file (table w) k low (maybe_expressions high) stands))
      (λ last after h hi rest.
      let early = has-kept here.ids next here.given mid a v reached.grown reached.kept has in
      let late = has-kept next last mid after a v rest.grown rest.kept early in
      slice-does (behind w there (IsBound (is_some high)) last after h hi rest) a v (is_some low) (is_some high) l h lo hi late.0
      (bound-kept (is_some low) next last mid after l lo rest.grown rest.kept reached.related) rest.related))

  -- one level of brackets as they are meant
  abbrev meant_brackets : Suffix-F Expr Suffix → Suffix-F Meaning SuffixMeaning
  meant_brackets y = map-Suffix Expr Suffix Meaning SuffixMeaning (meaning_of (setting w)) (suffix_of (setting w)) y

  -- one level of brackets behind a value does what it means
  brackets-do : (y : Suffix-F Expr Suffix) → InBrackets (IsRight w) y → (k : ℕ) (here : State w) (a : Arg) (v : Value)
      → Stands (table w) k (bracketed_expressions y) → HasValue here.ids here.given a v
      → Does w 0 here ((suffix_step (unfolded_brackets w.file y)).build k (made_in w here.env) a)
      (suffix_meant (meant_brackets y) v (place w) here.names) HasValue
  brackets-do (Suffix-F.Index e) right k here a v stands has =
      matches-step w.file w.limits 0 here.ids here.given HasValue _ _
      (matches-more w.file w.limits (0 + 1) (4 + 0) here.ids here.given HasValue _ _ (omega arith)
      (matches-then w.file w.limits 0 1 here.ids here.given HasValue HasValue _ _ _ _
      (spares-matches w.file w.limits here.ids here.given HasValue _ _ (right k here stands))
      (λ next mid b u reached.
      let kept = has-kept here.ids next here.given mid a v reached.grown reached.kept has in
      operates w.file w.limits next mid (made_in w here.env) code.Index (a ∷ b ∷ []) (v ∷ u ∷ []) (λ x. refl)
      (two-values mid a b v u kept.0 reached.related.0))))
  brackets-do (Suffix-F.Slice None None) right k here a v stands has =
      matches-step w.file w.limits 0 here.ids here.given HasValue _ _
      (matches-more w.file w.limits 1 (4 + 0) here.ids here.given HasValue _ _ (omega arith)
      (between-does None None right.0 right.1 k here a v stands has))
  brackets-do (Suffix-F.Slice None (Some high)) right k here a v stands has =
      matches-step w.file w.limits 0 here.ids here.given HasValue _ _
      (matches-more w.file w.limits 1 (4 + 0) here.ids here.given HasValue _ _ (omega arith)
      (between-does None (Some high) right.0 right.1 k here a v stands has))
  brackets-do (Suffix-F.Slice (Some low) None) right k here a v stands has =
      matches-step w.file w.limits 0 here.ids here.given HasValue _ _
      (matches-more w.file w.limits 1 (4 + 0) here.ids here.given HasValue _ _ (omega arith)
      (between-does (Some low) None right.0 right.1 k here a v stands has))
  brackets-do (Suffix-F.Slice (Some low) (Some high)) right k here a v stands has =
      matches-step w.file w.limits 0 here.ids here.given HasValue _ _
      (matches-more w.file w.limits 1 (4 + 0) here.ids here.given HasValue _ _ (omega arith)
      (between-does (Some low) (Some high) right.0 right.1 k here a v stands has))

  -- brackets by their first level
  suffix_of-out : (s : Suffix) → suffix_of (setting w) s ≡ suffix_meant (meant_brackets (out-Suffix s))
  unfolding meaning_of suffix_of
  suffix_of-out s = fold_out-Suffix Meaning SuffixMeaning (expression_step (setting w)) suffix_meant s

  -- brackets behind a value do what they mean
  suffix-does : (s : Suffix) → InBrackets (IsRight w) (out-Suffix s) → (k : ℕ) (here : State w) (a : Arg) (v : Value)
      → Stands (table w) k (suffix_expressions s) → HasValue here.ids here.given a v
      → Does w 0 here ((unfolded_suffix w.file s).build k (made_in w here.env) a)
      (suffix_of (setting w) s v (place w) here.names) HasValue
  suffix-does s right k here a v stands has =
      subst (λ u. Does w 0 here (u.build k (made_in w here.env) a) (suffix_of (setting w) s v (place w) here.names) HasValue)
      (sym (unfolded_suffix_out w.file s))
      (subst (λ (m : SuffixMeaning). Does w 0 here ((suffix_step (unfolded_brackets w.file (out-Suffix s))).build k (made_in w here.env) a) (m v (place w) here.names) HasValue)
      (sym (suffix_of-out s)) (brackets-do (out-Suffix s) right k here a v stands has))

  -- all brackets behind a value, from the left
  pub suffixed-does : (ss : List Suffix) → Each (λ s. InBrackets (IsRight w) (out-Suffix s)) ss
      → (k : ℕ) (here : State w) (a : Arg) (v : Value)
      → Stands (table w) k (all_bracketed ss) → HasValue here.ids here.given a v
      → Does w 0 here (suffixed (map (unfolded_suffix w.file) ss) k (made_in w here.env) a)
      (suffixed_meant v (map (suffix_of (setting w)) ss) (place w) here.names) HasValue
  unfolding suffixed suffixed_meant
  suffixed-does [] right k here a v stands has = matches-pure w.file w.limits 0 here.ids here.given HasValue a v has
  suffixed-does (s ∷ ss) right k here a v stands has =
      matches-then w.file w.limits 0 0 here.ids here.given HasValue HasValue _ _ _ _
      (suffix-does s right.0 k here a v (stands_first (table w) k (suffix_expressions s) (all_bracketed ss) stands) has)
      (λ next mid b u reached.
      suffixed-does ss right.1 (k + (unfolded_suffix w.file s).count) (behind w here HasValue next mid b u reached) b u
      (placed_behind_suffix w.file (table w) k s (all_bracketed ss) stands) reached.related)
