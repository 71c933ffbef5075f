-- How many expressions there are in each form of one.
use Rattle.std.proofs.lemmas.List.{drop_all}
use Rattle.std.proofs.Common.{◌≡◌, ℕ, suc, ◌+◌, ◌≤◌, ◌⊎◌, inl, inr, List, map, drop, length, arith, sym, ap, ◌∙◌}
use Rattle.std.specs.Prelude.{Result, Ok, Err, IfOk}
use Rattle.pyd_value.specs.Size.{total}
use Rattle.pyd_value.specs.declared.memory.NoMemory.{NoMemory}
use Rattle.pyd_value.specs.declared.value.Value.{Value}
use Rattle.pyd_value.specs.declared.operator.UnOp.{UnOp}
use Rattle.pyd_value.specs.declared.operator.BinOp.{BinOp}
use Rattle.pyd_value.specs.declared.operator.CmpOp.{CmpOp}
use Rattle.pyd_tree.specs.declared.expression.Expr.{Expr}
use Rattle.pyd_tree.specs.declared.expression.Expr.TheVariants as expression
use Rattle.pyd_tree.specs.declared.expression.Suffix.{Suffix}
use Rattle.pyd_tree.specs.declared.file.File.{File}
use Rattle.pyd_translate.specs.Expressions.{Unfolded, UnfoldedSuffix, unfolded, unfolded_suffix, counts, operand_counts}
use Rattle.pyd_translate.specs.Drafts.{unfolded_operands, unfolded_links}
use Rattle.pyd_translate.proofs.Constructs as law

-- a literal or a name
abbrev pub IsSingle : Expr → Type 0
IsSingle e = ((v : Value) × (e ≡ expression.Lit v)) ⊎ ((x : List ℕ) × (e ≡ expression.Name x))

pub single_counted : (e : Expr) → IsSingle e → (file : File) → 1 ≡ (unfolded file e).count
single_counted e (inl (v, is)) file =
    sym (ap (λ x. (unfolded file x).count) is ∙ ap (λ (u : Unfolded). u.count) (law.literal file v))
single_counted e (inr (x, is)) file =
    sym (ap (λ y. (unfolded file y).count) is ∙ ap (λ (u : Unfolded). u.count) (law.name file x))

-- members or arguments
abbrev pub HasMembers : Expr → List Expr → Type 0
HasMembers e es =
    (e ≡ expression.Tuple es) ⊎ ((e ≡ expression.And es) ⊎ ((e ≡ expression.Or es)
    ⊎ ((x : List ℕ) × (e ≡ expression.Call x es))))

members_counted : (e : Expr) (es : List Expr) → HasMembers e es → (file : File)
    → (unfolded file e).count ≡ suc (counts (map (unfolded file) es))
members_counted e es (inl is) file =
    ap (λ x. (unfolded file x).count) is ∙ ap (λ (u : Unfolded). u.count) (law.tuple file es)
members_counted e es (inr (inl is)) file =
    ap (λ x. (unfolded file x).count) is ∙ ap (λ (u : Unfolded). u.count) (law.conjunction file es)
members_counted e es (inr (inr (inl is))) file =
    ap (λ x. (unfolded file x).count) is ∙ ap (λ (u : Unfolded). u.count) (law.disjunction file es)
members_counted e es (inr (inr (inr (x, is)))) file =
    ap (λ y. (unfolded file y).count) is ∙ ap (λ (u : Unfolded). u.count) (law.call file x es)

module _ (r : Result ℕ NoMemory) (e : Expr) (m : ℕ) where
  -- one more than the parts
  counted_so : (parts : File → ℕ) → ((file : File) → (unfolded file e).count ≡ suc (parts file))
      → ((file : File) → m ≡ parts file) → IfOk r (λ n. n ≡ suc m)
      → IfOk r (λ n. (file : File) → n ≡ (unfolded file e).count)
  counted_so parts whole is h = go r h
    where
      go : (x : Result ℕ NoMemory) → IfOk x (λ n. n ≡ suc m) → IfOk x (λ n. (file : File) → n ≡ (unfolded file e).count)
      go (Ok n) p = λ file. p ∙ ap suc (is file) ∙ sym (whole file)
      go (Err x) p = tt

  pub several_counted : (es : List Expr) → HasMembers e es
      → ((file : File) → m ≡ counts (map (unfolded file) es)) → IfOk r (λ n. n ≡ suc m)
      → IfOk r (λ n. (file : File) → n ≡ (unfolded file e).count)
  several_counted es has = counted_so (λ file. counts (map (unfolded file) es)) (members_counted e es has)

  pub unary_counted : (op : UnOp) (a : Expr) → e ≡ expression.Unary op a
      → ((file : File) → m ≡ (unfolded file a).count) → IfOk r (λ n. n ≡ suc m)
      → IfOk r (λ n. (file : File) → n ≡ (unfolded file e).count)
  unary_counted op a is =
      counted_so (λ file. (unfolded file a).count)
      (λ file. ap (λ x. (unfolded file x).count) is ∙ ap (λ (u : Unfolded). u.count) (law.unary file op a))

  module _ (p q : ℕ) (sum : m ≡ p + q) where
    -- two parts
    pub chain_counted : (a : Expr) (links : List (BinOp × Expr)) → e ≡ expression.Chain a links
        → ((file : File) → p ≡ (unfolded file a).count)
        → ((file : File) → q ≡ operand_counts (unfolded_operands file links)) → IfOk r (λ n. n ≡ suc m)
        → IfOk r (λ n. (file : File) → n ≡ (unfolded file e).count)
    chain_counted a links is first second =
        counted_so (λ file. (unfolded file a).count + operand_counts (unfolded_operands file links))
        (λ file. ap (λ x. (unfolded file x).count) is ∙ ap (λ (u : Unfolded). u.count) (law.chain file a links))
        (λ file. sum ∙ (λ i. first file i + second file i))

    pub compare_counted : (a : Expr) (links : List (CmpOp × Expr)) → e ≡ expression.Compare a links
        → ((file : File) → p ≡ (unfolded file a).count)
        → ((file : File) → q ≡ operand_counts (unfolded_links file links)) → IfOk r (λ n. n ≡ suc m)
        → IfOk r (λ n. (file : File) → n ≡ (unfolded file e).count)
    compare_counted a links is first second =
        counted_so (λ file. (unfolded file a).count + operand_counts (unfolded_links file links))
        (λ file. ap (λ x. (unfolded file x).count) is ∙ ap (λ (u : Unfolded). u.count) (law.comparison file a links))
        (λ file. sum ∙ (λ i. first file i + second file i))

    pub power_counted : (a b : Expr) → e ≡ expression.Power a b
        → ((file : File) → p ≡ (unfolded file a).count)
        → ((file : File) → q ≡ (unfolded file b).count) → IfOk r (λ n. n ≡ suc m)
        → IfOk r (λ n. (file : File) → n ≡ (unfolded file e).count)
    power_counted a b is first second =
        counted_so (λ file. (unfolded file a).count + (unfolded file b).count)
        (λ file. ap (λ x. (unfolded file x).count) is ∙ ap (λ (u : Unfolded). u.count) (law.power file a b))
        (λ file. sum ∙ (λ i. first file i + second file i))

    pub suffixed_counted : (a : Expr) (ss : List Suffix) → e ≡ expression.Suffixed a ss
        → ((file : File) → p ≡ (unfolded file a).count)
        → ((file : File) → q ≡ total (map (λ (s : UnfoldedSuffix). s.count) (map (unfolded_suffix file) ss)))
        → IfOk r (λ n. n ≡ suc m)
        → IfOk r (λ n. (file : File) → n ≡ (unfolded file e).count)
    suffixed_counted a ss is first second =
        counted_so (λ file. (unfolded file a).count + total (map (λ (s : UnfoldedSuffix). s.count) (map (unfolded_suffix file) ss)))
        (λ file. ap (λ x. (unfolded file x).count) is ∙ ap (λ (u : Unfolded). u.count) (law.suffixed file a ss))
        (λ file. sum ∙ (λ i. first file i + second file i))

    -- three parts, of which the test and the second side make the other sum
    pub conditional_counted : (x y : ℕ) → q ≡ x + y → (test first second : Expr) → e ≡ expression.If test first second
        → ((file : File) → p ≡ (unfolded file first).count)
        → ((file : File) → x ≡ (unfolded file test).count)
        → ((file : File) → y ≡ (unfolded file second).count) → IfOk r (λ n. n ≡ suc m)
        → IfOk r (λ n. (file : File) → n ≡ (unfolded file e).count)
    conditional_counted x y sides test first second is a b d =
        counted_so (λ file. (unfolded file first).count + ((unfolded file test).count + (unfolded file second).count))
        (λ file. ap (λ z. (unfolded file z).count) is ∙ ap (λ (u : Unfolded). u.count) (law.conditional file test first second))
        (λ file. sum ∙ (λ i. a file i + (sides ∙ (λ j. b file j + d file j)) i))

-- all right operands were counted
pub operands_all : {A : Type 0} (file : File) (links : List (A × Expr)) (i sofar all : ℕ)
    → length links ≤ i
    → sofar + operand_counts (map (λ (l : A × Expr). (l.0, unfolded file l.1)) (drop i links)) ≡ all
    → sofar ≡ all
operands_all {A = A} file links i sofar all le e =
    let none : operand_counts (map (λ (l : A × Expr). (l.0, unfolded file l.1)) (drop i links)) ≡ 0 =
    ap (λ (ls : List (A × Expr)). operand_counts (map (λ (l : A × Expr). (l.0, unfolded file l.1)) ls)) (drop_all i links le) in
    omega (arith, none, e)
