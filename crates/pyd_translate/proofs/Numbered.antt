-- The parts of an expression that stands in a table stand at their numbers.
use Rattle.std.proofs.Common.{◌≡◌, ℕ, zero, suc, ◌+◌, List, [], ◌∷◌, ◌++◌, map, length, take, drop, Option, Some, None, refl, sym, ap, subst, ◌∙◌, arith}
use Rattle.std.specs.Prelude.{option_map}
use Rattle.std.specs.List.{slice_get}
use Rattle.std.proofs.lemmas.List.{length-append}
use Rattle.pyd_value.specs.Size.{total}
use Rattle.pyd_tree.specs.declared.expression.Expr.{Expr, out-Expr}
use Rattle.pyd_tree.specs.declared.expression.Expr.TheOpen.{Expr-F, Suffix-F}
use Rattle.pyd_tree.specs.declared.expression.Expr.TheFolds.{map-Expr, map-Suffix, fold_out-Expr, fold_out-Suffix}
use Rattle.pyd_tree.specs.declared.expression.Suffix.{Suffix, out-Suffix}
use Rattle.pyd_tree.specs.declared.file.File.{File}
use Rattle.pyd_scope.specs.Numbering.{expressions}
use Rattle.pyd_translate.specs.Expressions.{Unfolded, UnfoldedSuffix, counts, operand_counts, maybe_count, part_counts, suffix_step, unfold_step, unfolded, unfolded_suffix}
use Rattle.pyd_translate.specs.Laws.{Stands}
use Rattle.pyd_translate.proofs.Induction.{Each, Maybe, InBrackets, InParts, by_parts}
use Rattle.pyd_translate.proofs.Standing.{stands_nothing, stands_second, stands_behind, stands_at}
use Rattle.pyd_translate.proofs.Within.{maybe_expressions, bracketed_expressions, suffix_expressions, member_expressions, operand_expressions, all_bracketed, part_expressions, expressions_out}

-- an expression that stands in a table is looked up by its number
pub placed_at : (table : List Expr) (k : ℕ) (e : Expr)
    → Stands table k (expressions e) → slice_get table k ≡ Some e
placed_at table k e s =
    stands_at table k e (part_expressions (out-Expr e)) (subst (Stands table k) (expressions_out e) s)

-- its parts stand behind it
pub placed_parts : (table : List Expr) (k : ℕ) (e : Expr)
    → Stands table k (expressions e) → Stands table (suc k) (part_expressions (out-Expr e))
placed_parts table k e s =
    stands_behind table k e (part_expressions (out-Expr e))
    (subst (Stands table k) (expressions_out e) s)

module _ (file : File) where
  -- one level of an expression as it is unfolded
  abbrev pub unfolded_level : Expr-F Expr Suffix → Expr-F Unfolded UnfoldedSuffix
  unfolded_level y =
      map-Expr Expr Suffix Unfolded UnfoldedSuffix (unfolded file) (unfolded_suffix file) y

  -- one level of brackets
  abbrev pub unfolded_brackets : Suffix-F Expr Suffix → Suffix-F Unfolded UnfoldedSuffix
  unfolded_brackets y =
      map-Suffix Expr Suffix Unfolded UnfoldedSuffix (unfolded file) (unfolded_suffix file) y

  -- an expression is unfolded by its first level
  pub unfolded_out : (e : Expr) → unfolded file e ≡ unfold_step file (unfolded_level (out-Expr e))
  unfolding unfolded unfolded_suffix
  unfolded_out e = fold_out-Expr Unfolded UnfoldedSuffix (unfold_step file) suffix_step e

  -- so are brackets
  pub unfolded_suffix_out : (s : Suffix)
      → unfolded_suffix file s ≡ suffix_step (unfolded_brackets (out-Suffix s))
  unfolding unfolded unfolded_suffix
  unfolded_suffix_out s = fold_out-Suffix Unfolded UnfoldedSuffix (unfold_step file) suffix_step s

  -- as many expressions stand in one as it counts when it is unfolded
  abbrev IsCounted : Expr → Type 0
  IsCounted e = length (expressions e) ≡ (unfolded file e).count

  -- the count of several
  counted_members : (es : List Expr) → Each IsCounted es
      → length (member_expressions es) ≡ counts (map (unfolded file) es)
  counted_members [] p = refl
  counted_members (e ∷ es) p =
      length-append (expressions e) (member_expressions es)
      ∙ (λ i. p.0 i + counted_members es p.1 i)

  -- the count of right operands
  counted_operands : {A : Type 0} (links : List (A × Expr)) → Each (λ l. IsCounted l.1) links
      → length (operand_expressions links)
      ≡ operand_counts (map (λ l. (l.0, unfolded file l.1)) links)
  counted_operands [] p = refl
  counted_operands (l ∷ links) p =
      length-append (expressions l.1) (operand_expressions links)
      ∙ (λ i. p.0 i + counted_operands links p.1 i)

  -- the count of what may be missing
  counted_maybe : (e : Option Expr) → Maybe IsCounted e
      → length (maybe_expressions e) ≡ maybe_count (option_map (unfolded file) e)
  counted_maybe None p = refl
  counted_maybe (Some e) p = p

  -- the count of one level of brackets
  counted_brackets : (y : Suffix-F Expr Suffix) → InBrackets IsCounted y
      → length (bracketed_expressions y) ≡ (suffix_step (unfolded_brackets y)).count
  counted_brackets (Suffix-F.Index index) p = p
  counted_brackets (Suffix-F.Slice None None) p = refl
  counted_brackets (Suffix-F.Slice None (Some high)) p =
      let same : (unfolded file high).count ≡ 0 + (unfolded file high).count = omega arith in
      p.1 ∙ same
  counted_brackets (Suffix-F.Slice (Some low) None) p =
      length-append (expressions low) [] ∙ (λ i. p.0 i + 0)
  counted_brackets (Suffix-F.Slice (Some low) (Some high)) p =
      length-append (expressions low) (expressions high) ∙ (λ i. p.0 i + p.1 i)

  -- the count of brackets
  counted_suffix : (s : Suffix) → InBrackets IsCounted (out-Suffix s)
      → length (suffix_expressions s) ≡ (unfolded_suffix file s).count
  counted_suffix s p =
      counted_brackets (out-Suffix s) p ∙ sym (ap (λ u. u.count) (unfolded_suffix_out s))

  -- the count of all brackets
  counted_suffixes : (ss : List Suffix) → Each (λ s. InBrackets IsCounted (out-Suffix s)) ss
      → length (all_bracketed ss) ≡ total (map (λ u. u.count) (map (unfolded_suffix file) ss))
  counted_suffixes [] p = refl
  counted_suffixes (s ∷ ss) p =
      length-append (suffix_expressions s) (all_bracketed ss)
      ∙ (λ i. counted_suffix s p.0 i + counted_suffixes ss p.1 i)

  -- the count of the parts of one
  counted_parts : (y : Expr-F Expr Suffix) → InParts IsCounted y
      → length (part_expressions y) ≡ part_counts (unfolded_level y)
  counted_parts (Expr-F.Lit v) p = refl
  counted_parts (Expr-F.Name name) p = refl
  counted_parts (Expr-F.Tuple members) p = counted_members members p
  counted_parts (Expr-F.Unary op operand) p = p
  counted_parts (Expr-F.Chain first links) p =
      length-append (expressions first) (operand_expressions links)
      ∙ (λ i. p.0 i + counted_operands links p.1 i)
  counted_parts (Expr-F.Power base exponent) p =
      length-append (expressions base) (expressions exponent) ∙ (λ i. p.0 i + p.1 i)
  counted_parts (Expr-F.And members) p = counted_members members p
  counted_parts (Expr-F.Or members) p = counted_members members p
  counted_parts (Expr-F.Compare first links) p =
      length-append (expressions first) (operand_expressions links)
      ∙ (λ i. p.0 i + counted_operands links p.1 i)
  counted_parts (Expr-F.If test first second) p =
      length-append (expressions first) (expressions test ++ expressions second)
      ∙ (λ i. p.1.0 i + (length-append (expressions test) (expressions second)
      ∙ (λ j. p.0 j + p.1.1 j)) i)
  counted_parts (Expr-F.Call name args) p = counted_members args p
  counted_parts (Expr-F.Suffixed base suffixes) p =
      length-append (expressions base) (all_bracketed suffixes)
      ∙ (λ i. p.0 i + counted_suffixes suffixes p.1 i)

  -- as many expressions stand in each as it counts when it is unfolded
  pub expression_count : (e : Expr) → length (expressions e) ≡ (unfolded file e).count
  expression_count =
      by_parts IsCounted (λ e p. ap (λ xs. length xs) (expressions_out e)
      ∙ ap suc (counted_parts (out-Expr e) p)
      ∙ sym (ap (λ u. u.count) (unfolded_out e)))

  -- so in what may be missing
  pub maybe_expression_count : (e : Option Expr)
      → length (maybe_expressions e) ≡ maybe_count (option_map (unfolded file) e)
  maybe_expression_count None = refl
  maybe_expression_count (Some e) = expression_count e

  -- so in brackets
  pub suffix_count : (s : Suffix)
      → length (suffix_expressions s) ≡ (unfolded_suffix file s).count
  suffix_count s = counted_suffix s (in_brackets (out-Suffix s))
    where
      in_brackets : (y : Suffix-F Expr Suffix) → InBrackets IsCounted y
      in_brackets (Suffix-F.Index index) = expression_count index
      in_brackets (Suffix-F.Slice None None) = (tt, tt)
      in_brackets (Suffix-F.Slice None (Some high)) = (tt, expression_count high)
      in_brackets (Suffix-F.Slice (Some low) None) = (expression_count low, tt)
      in_brackets (Suffix-F.Slice (Some low) (Some high)) =
          (expression_count low, expression_count high)

  -- what stands behind an expression
  pub placed_behind : (table : List Expr) (k : ℕ) (e : Expr) (xs : List Expr)
      → Stands table k (expressions e ++ xs) → Stands table (k + (unfolded file e).count) xs
  placed_behind table k e xs s =
      subst (λ n. Stands table (k + n) xs) (expression_count e)
      (stands_second table k (expressions e) xs s)

  -- what stands behind one that may be missing
  pub placed_behind_maybe : (table : List Expr) (k : ℕ) (e : Option Expr) (xs : List Expr)
      → Stands table k (maybe_expressions e ++ xs)
      → Stands table (k + maybe_count (option_map (unfolded file) e)) xs
  placed_behind_maybe table k e xs s =
      subst (λ n. Stands table (k + n) xs) (maybe_expression_count e)
      (stands_second table k (maybe_expressions e) xs s)

  -- what stands behind brackets
  pub placed_behind_suffix : (table : List Expr) (k : ℕ) (b : Suffix) (xs : List Expr)
      → Stands table k (suffix_expressions b ++ xs)
      → Stands table (k + (unfolded_suffix file b).count) xs
  placed_behind_suffix table k b xs s =
      subst (λ n. Stands table (k + n) xs) (suffix_count b)
      (stands_second table k (suffix_expressions b) xs s)

  -- from a member on
  pub placed_members : (table : List Expr) (m k : ℕ) (es : List Expr)
      → Stands table k (member_expressions es)
      → Stands table (k + counts (take m (map (unfolded file) es))) (member_expressions (drop m es))
  placed_members table zero k es s =
      subst (λ n. Stands table n (member_expressions es)) (omega arith) s
  placed_members table (suc m) k [] s = stands_nothing table (k + 0)
  placed_members table (suc m) k (e ∷ es) s =
      subst (λ n. Stands table n (member_expressions (drop m es))) (omega arith)
      (placed_members table m (k + (unfolded file e).count) es
      (placed_behind table k e (member_expressions es) s))

  -- from a link on
  pub placed_operands : {A : Type 0} (table : List Expr) (m k : ℕ) (links : List (A × Expr))
      → Stands table k (operand_expressions links)
      → Stands table (k + operand_counts (take m (map (λ l. (l.0, unfolded file l.1)) links)))
      (operand_expressions (drop m links))
  placed_operands table zero k links s =
      subst (λ n. Stands table n (operand_expressions links)) (omega arith) s
  placed_operands table (suc m) k [] s = stands_nothing table (k + 0)
  placed_operands table (suc m) k (l ∷ links) s =
      subst (λ n. Stands table n (operand_expressions (drop m links))) (omega arith)
      (placed_operands table m (k + (unfolded file l.1).count) links
      (placed_behind table k l.1 (operand_expressions links) s))
