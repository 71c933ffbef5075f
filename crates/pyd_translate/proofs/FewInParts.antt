-- The parts of an expression one behind the other have 3 nodes for each expression and suffix in them at most.
use Rattle.std.proofs.Common.{ℕ, suc, ◌+◌, ◌*◌, List, [], ◌∷◌, ◌++◌, map, true, false, Option, Some, None, sym, subst, arith}
use Rattle.std.specs.Prelude.{is_some}
use Rattle.pyd_value.specs.declared.value.Value.{Bool as Truth}
use Rattle.pyd_value.specs.Size.{total}
use Rattle.pyd_value.specs.declared.operator.BinOp.{BinOp}
use Rattle.pyd_value.specs.declared.operator.CmpOp.{CmpOp}
use Rattle.pyd_tree.specs.declared.expression.Expr.{Expr}
use Rattle.pyd_tree.specs.declared.expression.Expr.TheOpen.{Expr-F, Suffix-F}
use Rattle.pyd_tree.specs.declared.expression.Expr.TheFolds.{map-Expr, map-Suffix, fold_out-Suffix}
use Rattle.pyd_tree.specs.declared.expression.Suffix.{Suffix, out-Suffix}
use Rattle.pyd_tree.specs.declared.file.File.{File}
use Rattle.pyd_names.specs.WellFormed.{count_expression, count_suffix, expression_parts, suffix_parts}
use Rattle.pyd_ir.specs.declared.arg.Arg.{Arg}
use Rattle.pyd_ir.specs.declared.arg.Arg.TheVariants.{Known}
use Rattle.pyd_ir.specs.declared.code.OpCode.TheVariants as code
use Rattle.pyd_ir.specs.declared.work.Side.TheVariants as side
use Rattle.pyd_translate.specs.Making.{Context, pure, ◌>>>◌}
use Rattle.pyd_translate.specs.Expressions.{Unfolded, UnfoldedSuffix, operator, each, bound, chained, suffixed, choose, members_from, conjunction, disjunction, compared, maybe_count, suffix_step, unfolded, unfolded_suffix}
use Rattle.pyd_translate.proofs.Induction.{Each, InBrackets}
use Rattle.pyd_translate.proofs.Numbered.{unfolded_brackets, unfolded_suffix_out}
use Rattle.pyd_translate.proofs.FewNodes.{Few, then_few, few_more, pure_few}
use Rattle.pyd_translate.proofs.FewInNames.{operator_few, choose_few}

-- the parts of several expressions
abbrev pub member_parts : List Expr → ℕ
member_parts es = total (map expression_parts es)

-- the parts of right operands
abbrev pub operand_parts : {A : Type 0} → List (A × Expr) → ℕ
operand_parts {A} links =
    total (map (λ (l : A × ℕ). l.1) (map (λ (l : A × Expr). (l.0, expression_parts l.1)) links))

-- the parts of all brackets
abbrev pub all_suffix_parts : List Suffix → ℕ
all_suffix_parts ss = total (map suffix_parts ss)

-- one level of an expression, by the parts of its own
abbrev pub parts_level : Expr-F Expr Suffix → Expr-F ℕ ℕ
parts_level y = map-Expr Expr Suffix ℕ ℕ expression_parts suffix_parts y

-- one level of brackets
abbrev pub brackets_level : Suffix-F Expr Suffix → Suffix-F ℕ ℕ
brackets_level y = map-Suffix Expr Suffix ℕ ℕ expression_parts suffix_parts y

module _ (file : File) where
  -- an expression has 3 nodes for each of its parts at most, and leaves one to spare
  abbrev pub IsFew : Expr → Type 0
  IsFew e = (k : ℕ) (at : Context) → Few (3 * expression_parts e) 1 ((unfolded file e).build k at)

  -- brackets leave none
  abbrev IsSuffixFew : Suffix → Type 0
  IsSuffixFew s =
      (k : ℕ) (at : Context) (a : Arg)
      → Few (3 * suffix_parts s) 0 ((unfolded_suffix file s).build k at a)

  -- each in turn
  pub each_few : (es : List Expr) → Each IsFew es → (k : ℕ) (at : Context)
      → Few (3 * member_parts es) 0 (each (map (unfolded file) es) k at)
  unfolding each
  each_few [] p k at = pure_few 0 0 [] (omega arith)
  each_few (e ∷ es) p k at =
      then_few (3 * expression_parts e) 1 (3 * member_parts es) 0
      (3 * (expression_parts e + member_parts es)) 0
      ((unfolded file e).build k at)
      (λ a. each (map (unfolded file) es) (k + (unfolded file e).count) at
      >>> (λ args. pure (a ∷ args)))
      (p.0 k at)
      (λ a. then_few (3 * member_parts es) 0 0 0 (3 * member_parts es) 0
      (each (map (unfolded file) es) (k + (unfolded file e).count) at) (λ args. pure (a ∷ args))
      (each_few es p.1 (k + (unfolded file e).count) at)
      (λ args. pure_few 0 0 (a ∷ args) (omega arith)) (omega arith) (omega arith))
      (omega arith) (omega arith)

  -- operators of one level
  pub chained_few : (links : List (BinOp × Expr)) → Each (λ l. IsFew l.1) links → (k : ℕ)
      (at : Context) (a : Arg)
      → Few (3 * operand_parts links) 0 (chained (map (λ l. (l.0, unfolded file l.1)) links) k at a)
  unfolding chained
  chained_few [] p k at a = pure_few 0 0 a (omega arith)
  chained_few (l ∷ links) p k at a =
      then_few (3 * expression_parts l.1) 1 (1 + 3 * operand_parts links) 0
      (3 * (expression_parts l.1 + operand_parts links)) 0
      ((unfolded file l.1).build k at)
      (λ b. operator (code.Binary l.0) (a ∷ b ∷ []) at
      >>> (λ c. chained (map (λ l. (l.0, unfolded file l.1)) links)
      (k + (unfolded file l.1).count) at c))
      (p.0 k at)
      (λ b. then_few 1 0 (3 * operand_parts links) 0 (1 + 3 * operand_parts links) 0
      (operator (code.Binary l.0) (a ∷ b ∷ []) at)
      (λ c. chained (map (λ l. (l.0, unfolded file l.1)) links)
      (k + (unfolded file l.1).count) at c)
      (operator_few (code.Binary l.0) (a ∷ b ∷ []) at)
      (λ c. chained_few links p.1 (k + (unfolded file l.1).count) at c) (omega arith) (omega arith))
      (omega arith) (omega arith)

  -- what stands in brackets behind a value
  pub suffixed_few : (ss : List Suffix) → Each IsSuffixFew ss → (k : ℕ) (at : Context) (a : Arg)
      → Few (3 * all_suffix_parts ss) 0 (suffixed (map (unfolded_suffix file) ss) k at a)
  unfolding suffixed
  suffixed_few [] p k at a = pure_few 0 0 a (omega arith)
  suffixed_few (s ∷ ss) p k at a =
      then_few (3 * suffix_parts s) 0 (3 * all_suffix_parts ss) 0
      (3 * (suffix_parts s + all_suffix_parts ss)) 0
      ((unfolded_suffix file s).build k at a)
      (λ v. suffixed (map (unfolded_suffix file) ss) (k + (unfolded_suffix file s).count) at v)
      (p.0 k at a)
      (λ v. suffixed_few ss p.1 (k + (unfolded_suffix file s).count) at v)
      (omega arith) (omega arith)

  -- an `and` from a member on
  pub conjunction_few : (whole m : ℕ) (es : List Expr) → Each IsFew es → (k : ℕ) (at : Context)
      → Few (3 * member_parts es) 0 (conjunction whole m (map (unfolded file) es) k at)
  unfolding conjunction
  conjunction_few whole m [] p k at = pure_few 0 0 (Known (Truth true)) (omega arith)
  conjunction_few whole m (e ∷ []) p k at =
      few_more (3 * expression_parts e) 1 (3 * (expression_parts e + 0)) 0
      ((unfolded file e).build k at) (p.0 k at) (omega arith)
  conjunction_few whole m (e ∷ f ∷ es) p k at =
      then_few (3 * expression_parts e) 1 1 0
      (3 * (expression_parts e + member_parts (f ∷ es))) 0
      ((unfolded file e).build k at)
      (λ v. choose at v (members_from whole (suc m)) (side.Arg v)) (p.0 k at)
      (λ v. choose_few at v (members_from whole (suc m)) (side.Arg v))
      (omega arith) (omega arith)

  -- an `or` from a member on
  pub disjunction_few : (whole m : ℕ) (es : List Expr) → Each IsFew es → (k : ℕ) (at : Context)
      → Few (3 * member_parts es) 0 (disjunction whole m (map (unfolded file) es) k at)
  unfolding disjunction
  disjunction_few whole m [] p k at = pure_few 0 0 (Known (Truth false)) (omega arith)
  disjunction_few whole m (e ∷ []) p k at =
      few_more (3 * expression_parts e) 1 (3 * (expression_parts e + 0)) 0
      ((unfolded file e).build k at) (p.0 k at) (omega arith)
  disjunction_few whole m (e ∷ f ∷ es) p k at =
      then_few (3 * expression_parts e) 1 1 0
      (3 * (expression_parts e + member_parts (f ∷ es))) 0
      ((unfolded file e).build k at)
      (λ v. choose at v (side.Arg v) (members_from whole (suc m))) (p.0 k at)
      (λ v. choose_few at v (side.Arg v) (members_from whole (suc m)))
      (omega arith) (omega arith)

  -- a comparison from a link on
  pub compared_few : (whole m : ℕ) (links : List (CmpOp × Expr)) → Each (λ l. IsFew l.1) links
      → (k : ℕ) (at : Context) (a : Arg)
      → Few (1 + 3 * operand_parts links) 0
      (compared whole m (map (λ l. (l.0, unfolded file l.1)) links) k at a)
  unfolding compared
  compared_few whole m [] p k at a = pure_few 1 0 (Known (Truth true)) (omega arith)
  compared_few whole m (l ∷ []) p k at a =
      then_few (3 * expression_parts l.1) 1 1 0 (1 + 3 * (expression_parts l.1 + 0)) 0
      ((unfolded file l.1).build k at) (λ b. operator (code.Compare l.0) (a ∷ b ∷ []) at)
      (p.0 k at) (λ b. operator_few (code.Compare l.0) (a ∷ b ∷ []) at)
      (omega arith) (omega arith)
  compared_few whole m (l ∷ other ∷ links) p k at a =
      then_few (3 * expression_parts l.1) 1 2 0
      (1 + 3 * (expression_parts l.1 + operand_parts (other ∷ links))) 0
      ((unfolded file l.1).build k at)
      (λ b. operator (code.Compare l.0) (a ∷ b ∷ []) at
      >>> (λ v. choose at v (side.Tail whole (suc m) b) (side.Arg v)))
      (p.0 k at)
      (λ b. then_few 1 0 1 0 2 0 (operator (code.Compare l.0) (a ∷ b ∷ []) at)
      (λ v. choose at v (side.Tail whole (suc m) b) (side.Arg v))
      (operator_few (code.Compare l.0) (a ∷ b ∷ []) at)
      (λ v. choose_few at v (side.Tail whole (suc m) b) (side.Arg v)) (omega arith) (omega arith))
      (omega arith) (omega arith)

  -- the bounds of a slice
  slice_few : (low high : Option Unfolded) (a b : ℕ)
      → ((k : ℕ) (at : Context) → Few (3 * a) 0 (bound low k at))
      → ((k : ℕ) (at : Context) → Few (3 * b) 0 (bound high k at))
      → (k : ℕ) (at : Context) (x : Arg)
      → Few (3 * (1 + (a + b))) 0 ((suffix_step (Suffix-F.Slice low high)).build k at x)
  slice_few low high a b p q k at x =
      then_few (3 * a) 0 (3 * b + 1) 0 (3 * (1 + (a + b))) 0 (bound low k at)
      (λ l. bound high (k + maybe_count low) at
      >>> (λ h. operator (code.Slice (is_some low) (is_some high)) (x ∷ l ++ h) at))
      (p k at)
      (λ l. then_few (3 * b) 0 1 0 (3 * b + 1) 0 (bound high (k + maybe_count low) at)
      (λ h. operator (code.Slice (is_some low) (is_some high)) (x ∷ l ++ h) at)
      (q (k + maybe_count low) at)
      (λ h. operator_few (code.Slice (is_some low) (is_some high)) (x ∷ l ++ h) at)
      (omega arith) (omega arith))
      (omega arith) (omega arith)

  -- a bound that is missing
  no_bound : (k : ℕ) (at : Context) → Few (3 * 0) 0 (bound None k at)
  no_bound k at = pure_few 0 0 [] (omega arith)

  -- a bound that is there
  one_bound : (e : Expr) → IsFew e → (k : ℕ) (at : Context)
      → Few (3 * expression_parts e) 0 (bound (Some (unfolded file e)) k at)
  one_bound e p k at =
      then_few (3 * expression_parts e) 1 0 0 (3 * expression_parts e) 0
      ((unfolded file e).build k at) (λ a. pure (a ∷ [])) (p k at)
      (λ a. pure_few 0 0 (a ∷ []) (omega arith)) (omega arith) (omega arith)

  -- one level of brackets
  brackets_few : (y : Suffix-F Expr Suffix) → InBrackets IsFew y → (k : ℕ) (at : Context) (a : Arg)
      → Few (3 * count_suffix (brackets_level y)) 0
      ((suffix_step (unfolded_brackets file y)).build k at a)
  brackets_few (Suffix-F.Index index) p k at a =
      then_few (3 * expression_parts index) 1 1 0 (3 * (1 + expression_parts index)) 0
      ((unfolded file index).build k at) (λ i. operator code.Index (a ∷ i ∷ []) at) (p k at)
      (λ i. operator_few code.Index (a ∷ i ∷ []) at) (omega arith) (omega arith)
  brackets_few (Suffix-F.Slice None None) p k at a =
      slice_few None None 0 0 no_bound no_bound k at a
  brackets_few (Suffix-F.Slice None (Some high)) p k at a =
      slice_few None (Some (unfolded file high)) 0 (expression_parts high) no_bound
      (one_bound high p.1) k at a
  brackets_few (Suffix-F.Slice (Some low) None) p k at a =
      slice_few (Some (unfolded file low)) None (expression_parts low) 0 (one_bound low p.0)
      no_bound k at a
  brackets_few (Suffix-F.Slice (Some low) (Some high)) p k at a =
      slice_few (Some (unfolded file low)) (Some (unfolded file high)) (expression_parts low)
      (expression_parts high) (one_bound low p.0) (one_bound high p.1) k at a

  -- brackets
  suffix_few : (s : Suffix) → InBrackets IsFew (out-Suffix s) → IsSuffixFew s
  suffix_few s p k at a =
      subst (λ n. Few (3 * n) 0 ((unfolded_suffix file s).build k at a))
      (sym (fold_out-Suffix ℕ ℕ count_expression count_suffix s))
      (subst (λ (u : UnfoldedSuffix). Few (3 * count_suffix (brackets_level (out-Suffix s))) 0
      (u.build k at a)) (sym (unfolded_suffix_out file s))
      (brackets_few (out-Suffix s) p k at a))

  -- all brackets
  pub suffixes_few : (ss : List Suffix) → Each (λ s. InBrackets IsFew (out-Suffix s)) ss
      → Each IsSuffixFew ss
  suffixes_few [] p = tt
  suffixes_few (s ∷ ss) p = (suffix_few s p.0, suffixes_few ss p.1)
