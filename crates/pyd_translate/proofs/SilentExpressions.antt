-- An expression in which nothing is called that prints prints nothing.
use Rattle.std.proofs.Common.{◌≡◌, ℕ, List, [], ◌∷◌, ◌++◌, map, refl, sym, subst, Some, None, Bool, true, false}
use Rattle.std.specs.List.{flat_map}
use Rattle.pyd_value.specs.declared.value.Value.{Value}
use Rattle.pyd_value.specs.Truth.{is_true}
use Rattle.pyd_tree.specs.declared.expression.Expr.{Expr, out-Expr}
use Rattle.pyd_tree.specs.declared.expression.Expr.TheOpen.{Expr-F, Suffix-F}
use Rattle.pyd_tree.specs.declared.expression.Expr.TheFolds.{map-Expr, map-Suffix, fold_out-Expr, fold_out-Suffix}
use Rattle.pyd_tree.specs.declared.expression.Suffix.{Suffix, out-Suffix}
use Rattle.pyd_names.specs.declared.name_use.NameUse.{NameUse}
use Rattle.pyd_names.specs.declared.name_use.Manner.{Manner}
use Rattle.pyd_names.specs.declared.name_use.Manner.TheVariants.{Called}
use Rattle.pyd_names.specs.Uses.{Part, within, operands, expression_uses, suffix_uses}
use Rattle.pyd_names.specs.Uses as uses
use Rattle.pyd_scope.specs.Rules.{is_call}
use Rattle.pyd_meaning.specs.Evaluation.{Evaluation, gives, settled}
use Rattle.pyd_meaning.specs.Names.{Names}
use Rattle.pyd_meaning.specs.Setting.{Place, Setting}
use Rattle.pyd_meaning.specs.Expression.{Meaning, SuffixMeaning, branch, each, optional, chained, conjunction, disjunction, compared, suffixed, expression_step, suffix_step, meaning_of, suffix_of}
use Rattle.pyd_translate.proofs.Induction.{Each, InBrackets, InParts, by_parts}
use Rattle.pyd_translate.proofs.Stays.{each_front, each_back}
use Rattle.pyd_translate.proofs.Silence.{IsSilent, silent-settled, silent-step, silent-then}
use Rattle.pyd_translate.proofs.SilentCalls.{IsQuiet, silent_read, silent_call}

-- either of two that print nothing
pub silent_branch : {A : Type 0} (b : Bool) (first second : Names → Evaluation A) (names : Names)
    → IsSilent (first names) → IsSilent (second names) → IsSilent (branch b first second names)
silent_branch true first second names p q = p
silent_branch false first second names p q = q

module _ (setting : Setting) where
  -- what prints nothing anywhere
  abbrev Silently : Meaning → Type 0
  Silently m = (at : Place) (names : Names) → IsSilent (m at names)

  -- an expression prints nothing if no use in it is a call of what may print
  abbrev pub Quietly : Expr → Type 0
  Quietly e = (line : ℕ) (m : Manner) → is_call m ≡ true
      → Each (IsQuiet setting) (expression_uses e line m) → Silently (meaning_of setting e)

  -- all meanings print nothing
  members_silent : (line : ℕ) (es : List Expr) → Each Quietly es
      → Each (IsQuiet setting) (within line (map expression_uses es))
      → Each Silently (map (meaning_of setting) es)
  members_silent line [] p q = tt
  members_silent line (e ∷ es) p q = (
    p.0 line Called refl
        (each_front (IsQuiet setting) (expression_uses e line Called) (within line (map expression_uses es)) q),
    members_silent line es p.1
        (each_back (IsQuiet setting) (expression_uses e line Called) (within line (map expression_uses es)) q),
  )

  -- the right operands as parts
  abbrev operand_parts : {A : Type 0} → List (A × Expr) → List (A × Part)
  operand_parts {A} links = map (λ (l : A × Expr). (l.0, expression_uses l.1)) links

  -- the right operands as meanings
  abbrev operand_meanings : {A : Type 0} → List (A × Expr) → List (A × Meaning)
  operand_meanings {A} links = map (λ (l : A × Expr). (l.0, meaning_of setting l.1)) links

  operands_silent : {A : Type 0} (line : ℕ) (links : List (A × Expr))
      → Each (λ (l : A × Expr). Quietly l.1) links
      → Each (IsQuiet setting) (operands line (operand_parts links))
      → Each (λ (l : A × Meaning). Silently l.1) (operand_meanings links)
  operands_silent line [] p q = tt
  operands_silent line (l ∷ links) p q = (
    p.0 line Called refl
        (each_front (IsQuiet setting) (expression_uses l.1 line Called) (operands line (operand_parts links)) q),
    operands_silent line links p.1
        (each_back (IsQuiet setting) (expression_uses l.1 line Called) (operands line (operand_parts links)) q),
  )

  silent_each : (ms : List Meaning) → Each Silently ms → (at : Place) (names : Names)
      → IsSilent (each ms at names)
  unfolding each
  silent_each [] p at names = silent-settled _
  silent_each (m ∷ ms) p at names =
      silent-then (m at names) _ (p.0 at names) (λ v.
      silent-then (each ms at names) _ (silent_each ms p.1 at names) (λ vs. silent-settled _))

  silent_conjunction : (ms : List Meaning) → Each Silently ms → Silently (conjunction ms)
  unfolding conjunction
  silent_conjunction [] p at names = silent-settled _
  silent_conjunction (m ∷ []) p at names = p.0 at names
  silent_conjunction (m ∷ n ∷ ms) p at names =
      silent-then (m at names) _ (p.0 at names) (λ v.
      silent_branch (is_true v) _ _ names (silent_conjunction (n ∷ ms) p.1 at names) (silent-settled _))

  silent_disjunction : (ms : List Meaning) → Each Silently ms → Silently (disjunction ms)
  unfolding disjunction
  silent_disjunction [] p at names = silent-settled _
  silent_disjunction (m ∷ []) p at names = p.0 at names
  silent_disjunction (m ∷ n ∷ ms) p at names =
      silent-then (m at names) _ (p.0 at names) (λ v.
      silent_branch (is_true v) _ _ names (silent-settled _) (silent_disjunction (n ∷ ms) p.1 at names))

  silent_chained : (a : Value) (links : List (_ × Meaning)) → Each (λ l. Silently l.1) links
      → Silently (chained a links)
  unfolding chained
  silent_chained a [] p at names = silent-settled _
  silent_chained a (l ∷ links) p at names =
      silent-then (l.1 at names) _ (p.0 at names) (λ b.
      silent-then (settled _) _ (silent-settled _) (λ c. silent_chained c links p.1 at names))

  silent_compared : (a : Value) (links : List (_ × Meaning)) → Each (λ l. Silently l.1) links
      → Silently (compared a links)
  unfolding compared
  silent_compared a [] p at names = silent-settled _
  silent_compared a (l ∷ []) p at names =
      silent-then (l.1 at names) _ (p.0 at names) (λ b. silent-settled _)
  silent_compared a (l ∷ k ∷ links) p at names =
      silent-then (l.1 at names) _ (p.0 at names) (λ b.
      silent-then (settled _) _ (silent-settled _) (λ c.
      silent_branch (is_true c) _ _ names (silent_compared b (k ∷ links) p.1 at names) (silent-settled _)))

  -- what stands in brackets prints nothing
  abbrev SilentlyBehind : SuffixMeaning → Type 0
  SilentlyBehind m = (a : Value) → Silently (m a)

  silent_suffixed : (a : Value) (ms : List SuffixMeaning) → Each SilentlyBehind ms
      → Silently (suffixed a ms)
  unfolding suffixed
  silent_suffixed a [] p at names = silent-settled _
  silent_suffixed a (m ∷ ms) p at names =
      silent-then (m a at names) _ (p.0 a at names) (λ v. silent_suffixed v ms p.1 at names)

  -- one level of brackets as uses
  abbrev bracket_parts : Suffix-F Expr Suffix → Suffix-F Part (ℕ → List NameUse)
  bracket_parts y = map-Suffix Expr Suffix Part (ℕ → List NameUse) expression_uses suffix_uses y

  -- one level of brackets as meanings
  abbrev bracket_meanings : Suffix-F Expr Suffix → Suffix-F Meaning SuffixMeaning
  bracket_meanings y =
      map-Suffix Expr Suffix Meaning SuffixMeaning (meaning_of setting) (suffix_of setting) y

  brackets_silent : (y : Suffix-F Expr Suffix) → InBrackets Quietly y → (line : ℕ)
      → Each (IsQuiet setting) (uses.suffix_step (bracket_parts y) line)
      → SilentlyBehind (suffix_step (bracket_meanings y))
  brackets_silent (Suffix-F.Index e) p line q a at names =
      silent-step _ (silent-then (meaning_of setting e at names) _ (p line Called refl q at names)
      (λ i. silent-settled _))
  brackets_silent (Suffix-F.Slice None None) p line q a at names =
      silent-step _ (silent-then (gives None) _ (silent-settled _)
      (λ l. silent-then (gives None) _ (silent-settled _) (λ h. silent-settled _)))
  brackets_silent (Suffix-F.Slice None (Some high)) p line q a at names =
      silent-step _ (silent-then (gives None) _ (silent-settled _)
      (λ l. silent-then (optional (Some (meaning_of setting high)) at names) _
      (silent-then (meaning_of setting high at names) _ (p.1 line Called refl q at names) (λ v. silent-settled _))
      (λ h. silent-settled _)))
  brackets_silent (Suffix-F.Slice (Some low) None) p line q a at names =
      silent-step _ (silent-then (optional (Some (meaning_of setting low)) at names) _
      (silent-then (meaning_of setting low at names) _
      (p.0 line Called refl (each_front (IsQuiet setting) (expression_uses low line Called) [] q) at names)
      (λ v. silent-settled _))
      (λ l. silent-then (gives None) _ (silent-settled _) (λ h. silent-settled _)))
  brackets_silent (Suffix-F.Slice (Some low) (Some high)) p line q a at names =
      let front = each_front (IsQuiet setting) (expression_uses low line Called) (expression_uses high line Called) q in
      let back = each_back (IsQuiet setting) (expression_uses low line Called) (expression_uses high line Called) q in
      silent-step _ (silent-then (optional (Some (meaning_of setting low)) at names) _
      (silent-then (meaning_of setting low at names) _ (p.0 line Called refl front at names) (λ v. silent-settled _))
      (λ l. silent-then (optional (Some (meaning_of setting high)) at names) _
      (silent-then (meaning_of setting high at names) _ (p.1 line Called refl back at names) (λ v. silent-settled _))
      (λ h. silent-settled _)))

  bracket_silent : (s : Suffix) → InBrackets Quietly (out-Suffix s) → (line : ℕ)
      → Each (IsQuiet setting) (suffix_uses s line) → SilentlyBehind (suffix_of setting s)
  unfolding meaning_of suffix_of
  bracket_silent s p line q =
      subst SilentlyBehind
      (sym (fold_out-Suffix Meaning SuffixMeaning (expression_step setting) suffix_step s))
      (brackets_silent (out-Suffix s) p line
      (subst (λ (f : ℕ → List NameUse). Each (IsQuiet setting) (f line))
      (fold_out-Suffix Part (ℕ → List NameUse) uses.expression_step uses.suffix_step s) q))

  all_brackets_silent : (line : ℕ) (ss : List Suffix)
      → Each (λ s. InBrackets Quietly (out-Suffix s)) ss
      → Each (IsQuiet setting) (flat_map (λ (s : ℕ → List NameUse). s line) (map suffix_uses ss))
      → Each SilentlyBehind (map (suffix_of setting) ss)
  all_brackets_silent line [] p q = tt
  all_brackets_silent line (s ∷ ss) p q =
      let rest = flat_map (λ (s : ℕ → List NameUse). s line) (map suffix_uses ss) in (
        bracket_silent s p.0 line (each_front (IsQuiet setting) (suffix_uses s line) rest q),
        all_brackets_silent line ss p.1 (each_back (IsQuiet setting) (suffix_uses s line) rest q),
      )

  -- one level of an expression as uses
  abbrev level_parts : Expr-F Expr Suffix → Expr-F Part (ℕ → List NameUse)
  level_parts y = map-Expr Expr Suffix Part (ℕ → List NameUse) expression_uses suffix_uses y

  -- one level of an expression as meanings
  abbrev level_meanings : Expr-F Expr Suffix → Expr-F Meaning SuffixMeaning
  level_meanings y =
      map-Expr Expr Suffix Meaning SuffixMeaning (meaning_of setting) (suffix_of setting) y

  level_silent : (y : Expr-F Expr Suffix) → InParts Quietly y → (line : ℕ) (m : Manner)
      → is_call m ≡ true → Each (IsQuiet setting) (uses.expression_step (level_parts y) line m)
      → Silently (expression_step setting (level_meanings y))
  level_silent (Expr-F.Lit v) p line m c q at names = silent-step _ (silent-settled _)
  level_silent (Expr-F.Name name) p line m c q at names =
      silent-step _ (silent_read setting name at names)
  level_silent (Expr-F.Tuple es) p line m c q at names =
      silent-step _ (silent-then (each (map (meaning_of setting) es) at names) _
      (silent_each _ (members_silent line es p q) at names) (λ vs. silent-settled _))
  level_silent (Expr-F.Unary op e) p line m c q at names =
      silent-step _ (silent-then (meaning_of setting e at names) _ (p line Called refl q at names)
      (λ v. silent-settled _))
  level_silent (Expr-F.Chain first links) p line m c q at names =
      let rest = operands line (operand_parts links) in
      let front = each_front (IsQuiet setting) (expression_uses first line Called) rest q in
      let back = each_back (IsQuiet setting) (expression_uses first line Called) rest q in
      silent-step _ (silent-then (meaning_of setting first at names) _ (p.0 line Called refl front at names)
      (λ a. silent_chained a (operand_meanings links) (operands_silent line links p.1 back) at names))
  level_silent (Expr-F.Power base exponent) p line m c q at names =
      let front = each_front (IsQuiet setting) (expression_uses base line Called) (expression_uses exponent line Called) q in
      let back = each_back (IsQuiet setting) (expression_uses base line Called) (expression_uses exponent line Called) q in
      silent-step _ (silent-then (meaning_of setting base at names) _ (p.0 line Called refl front at names)
      (λ a. silent-then (meaning_of setting exponent at names) _ (p.1 line Called refl back at names)
      (λ b. silent-settled _)))
  level_silent (Expr-F.And es) p line m c q at names =
      silent-step _ (silent_conjunction _ (members_silent line es p q) at names)
  level_silent (Expr-F.Or es) p line m c q at names =
      silent-step _ (silent_disjunction _ (members_silent line es p q) at names)
  level_silent (Expr-F.Compare first links) p line m c q at names =
      let rest = operands line (operand_parts links) in
      let front = each_front (IsQuiet setting) (expression_uses first line Called) rest q in
      let back = each_back (IsQuiet setting) (expression_uses first line Called) rest q in
      silent-step _ (silent-then (meaning_of setting first at names) _ (p.0 line Called refl front at names)
      (λ a. silent_compared a (operand_meanings links) (operands_silent line links p.1 back) at names))
  level_silent (Expr-F.If test first second) p line m c q at names =
      let behind = expression_uses test line Called ++ expression_uses second line Called in
      let rest = each_back (IsQuiet setting) (expression_uses first line Called) behind q in
      silent-step _ (silent-then (meaning_of setting test at names) _
      (p.0 line Called refl
      (each_front (IsQuiet setting) (expression_uses test line Called) (expression_uses second line Called) rest) at names)
      (λ v. silent_branch (is_true v) (meaning_of setting first at) (meaning_of setting second at) names
      (p.1.0 line Called refl (each_front (IsQuiet setting) (expression_uses first line Called) behind q) at names)
      (p.1.1 line Called refl
      (each_back (IsQuiet setting) (expression_uses test line Called) (expression_uses second line Called) rest) at names)))
  level_silent (Expr-F.Call name args) p line m c q at names =
      silent-step _ (silent_call setting name (each (map (meaning_of setting) args) at names) at names
      (silent_each _ (members_silent line args p q.1) at names) (q.0 c))
  level_silent (Expr-F.Suffixed base ss) p line m c q at names =
      let rest = flat_map (λ (s : ℕ → List NameUse). s line) (map suffix_uses ss) in
      let front = each_front (IsQuiet setting) (expression_uses base line Called) rest q in
      let back = each_back (IsQuiet setting) (expression_uses base line Called) rest q in
      silent-step _ (silent-then (meaning_of setting base at names) _ (p.0 line Called refl front at names)
      (λ a. silent_suffixed a (map (suffix_of setting) ss) (all_brackets_silent line ss p.1 back) at names))

  -- each expression
  pub silent_expression : (e : Expr) → Quietly e
  unfolding meaning_of suffix_of
  silent_expression = by_parts Quietly (λ e p line m c q.
      subst Silently (sym (fold_out-Expr Meaning SuffixMeaning (expression_step setting) suffix_step e))
      (level_silent (out-Expr e) p line m c
      (subst (λ (f : Part). Each (IsQuiet setting) (f line m))
      (fold_out-Expr Part (ℕ → List NameUse) uses.expression_step uses.suffix_step e) q)))
