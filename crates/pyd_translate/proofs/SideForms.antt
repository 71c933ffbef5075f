-- The forms of sides, and of what is left of an expression.
use Rattle.std.proofs.Common.{◌≡◌, ℕ, suc, ◌+◌, ◌⊎◌, inl, inr, List, map, take, drop, sym, ap, ◌∙◌, Option, Some}
use Rattle.std.proofs.lemmas.List.{take-map, drop-map}
use Rattle.pyd_value.specs.declared.value.Value.{Value}
use Rattle.pyd_value.specs.declared.fault.Kind.TheVariants.{NameError}
use Rattle.pyd_value.specs.declared.operator.BinOp.{BinOp}
use Rattle.pyd_value.specs.declared.operator.CmpOp.{CmpOp}
use Rattle.pyd_value.specs.declared.operator.UnOp.{UnOp}
use Rattle.pyd_tree.specs.declared.expression.Expr.{Expr, out-Expr}
use Rattle.pyd_tree.specs.declared.expression.Expr.TheOpen.{Expr-F}
use Rattle.pyd_tree.specs.declared.expression.Expr.TheVariants as expression
use Rattle.pyd_tree.specs.declared.expression.Expr.TheViews.{out-roll-Expr}
use Rattle.pyd_tree.specs.declared.expression.Suffix.{Suffix}
use Rattle.pyd_tree.specs.declared.file.File.{File}
use Rattle.pyd_ir.specs.declared.arg.Arg.{Arg}
use Rattle.pyd_ir.specs.declared.arg.Arg.TheVariants.{Known}
use Rattle.pyd_value.specs.declared.value.Value.TheVariants as value
use Rattle.pyd_ir.specs.declared.node.Node.{Node}
use Rattle.pyd_ir.specs.declared.work.Side.{Side}
use Rattle.pyd_ir.specs.declared.work.Side.TheVariants as side
use Rattle.pyd_translate.specs.declared.choices.Junction.{Junction}
use Rattle.pyd_translate.specs.declared.choices.Junction.TheVariants.{And, Or}
use Rattle.pyd_translate.specs.declared.context.Context.{Context as CodeContext}
use Rattle.pyd_translate.specs.Making.{Context, stop_by}
use Rattle.pyd_translate.specs.Sides.{side_unfolds, unfold_numbered, left_numbered, left_at, numbered}
use Rattle.pyd_translate.specs.Expressions.{unfolded, counts, operand_counts, compared}
use Rattle.pyd_translate.specs.Drafts.{onto, context_of, file_of, members, unfolded_links, members_left, links_left}
use Rattle.pyd_translate.proofs.Onto.{onto_pure}

module _ (file : File) (at : Context) where
  -- a value
  pub side_value : (s : Side) (a copy : Arg) (before : List Node) (next : ℕ)
      → s ≡ side.Arg a → copy ≡ a
      → onto before (side_unfolds file s at next) ≡ (before, Some copy, next)
  unfolding side_unfolds
  side_value s a copy before next is same =
      ap (λ x. onto before (side_unfolds file x at next)) is
      ∙ onto_pure before a next ∙ ap (λ x. (before, Some x, next)) (sym same)

  -- an expression
  pub side_expression : (s : Side) (k : ℕ) (o : Option Expr)
      → s ≡ side.Expr k → o ≡ numbered file at k
      → unfold_numbered file o k at ≡ side_unfolds file s at
  unfolding side_unfolds
  side_expression s k o is found =
      ap (λ x. unfold_numbered file x k at) found ∙ sym (ap (λ x. side_unfolds file x at) is)

  -- what is left of one
  pub side_tail : (s : Side) (k m : ℕ) (a : Arg) (o : Option Expr)
      → s ≡ side.Tail k m a → o ≡ numbered file at k
      → left_numbered file o k m a at ≡ side_unfolds file s at
  unfolding side_unfolds
  side_tail s k m a o is found =
      ap (λ x. left_numbered file x k m a at) found ∙ sym (ap (λ x. side_unfolds file x at) is)

-- an expression of which nothing is left
abbrev pub HasNoRest : Expr → Type 0
HasNoRest e =
    ((v : Value) × (e ≡ expression.Lit v)) ⊎ (((x : List ℕ) × (e ≡ expression.Name x))
    ⊎ (((es : List Expr) × (e ≡ expression.Tuple es)) ⊎ (((op : UnOp) × (a : Expr) × (e ≡ expression.Unary op a))
    ⊎ (((a : Expr) × (links : List (BinOp × Expr)) × (e ≡ expression.Chain a links)) ⊎ (((a : Expr) × (b : Expr) × (e ≡ expression.Power a b))
    ⊎ (((a : Expr) × (b : Expr) × (c : Expr) × (e ≡ expression.If a b c)) ⊎ (((x : List ℕ) × (es : List Expr) × (e ≡ expression.Call x es))
    ⊎ ((a : Expr) × (ss : List Suffix) × (e ≡ expression.Suffixed a ss)))))))))

module _ (at : CodeContext) (whole m : ℕ) (a : Arg) where
  -- what is left by the first level
  left_so : (e : Expr) (y : Expr-F Expr Suffix) → out-Expr e ≡ y
      → left_at (file_of at) y whole m a (context_of at) ≡ left_at (file_of at) (out-Expr e) whole m a (context_of at)
  left_so e y o = ap (λ z. left_at (file_of at) z whole m a (context_of at)) (sym o)

  -- of an `and`
  pub left_and : (e : Expr) (es : List Expr) → e ≡ expression.And es
      → members_left at And whole m es ≡ left_at (file_of at) (out-Expr e) whole m a (context_of at)
  left_and e es is =
      left_so e (Expr-F.And es) (ap out-Expr (is ∙ sym (expression.rolls-And es)) ∙ out-roll-Expr (Expr-F.And es))

  -- of an `or`
  pub left_or : (e : Expr) (es : List Expr) → e ≡ expression.Or es
      → members_left at Or whole m es ≡ left_at (file_of at) (out-Expr e) whole m a (context_of at)
  left_or e es is =
      left_so e (Expr-F.Or es) (ap out-Expr (is ∙ sym (expression.rolls-Or es)) ∙ out-roll-Expr (Expr-F.Or es))

  -- of a comparison
  pub left_compare : (e first : Expr) (links : List (CmpOp × Expr)) → e ≡ expression.Compare first links
      → links_left at whole m a first links ≡ left_at (file_of at) (out-Expr e) whole m a (context_of at)
  left_compare e first links is =
      left_so e (Expr-F.Compare first links)
      (ap out-Expr (is ∙ sym (expression.rolls-Compare first links)) ∙ out-roll-Expr (Expr-F.Compare first links))

  -- nothing is left of any other
  pub no_rest : (e : Expr) → HasNoRest e
      → stop_by (context_of at) NameError ≡ left_at (file_of at) (out-Expr e) whole m a (context_of at)
  no_rest e (inl (v, is)) =
      left_so e (Expr-F.Lit v) (ap out-Expr (is ∙ sym (expression.rolls-Lit v)) ∙ out-roll-Expr (Expr-F.Lit v))
  no_rest e (inr (inl (x, is))) =
      left_so e (Expr-F.Name x) (ap out-Expr (is ∙ sym (expression.rolls-Name x)) ∙ out-roll-Expr (Expr-F.Name x))
  no_rest e (inr (inr (inl (es, is)))) =
      left_so e (Expr-F.Tuple es) (ap out-Expr (is ∙ sym (expression.rolls-Tuple es)) ∙ out-roll-Expr (Expr-F.Tuple es))
  no_rest e (inr (inr (inr (inl (op, b, is))))) =
      left_so e (Expr-F.Unary op b) (ap out-Expr (is ∙ sym (expression.rolls-Unary op b)) ∙ out-roll-Expr (Expr-F.Unary op b))
  no_rest e (inr (inr (inr (inr (inl (b, links, is)))))) =
      left_so e (Expr-F.Chain b links) (ap out-Expr (is ∙ sym (expression.rolls-Chain b links)) ∙ out-roll-Expr (Expr-F.Chain b links))
  no_rest e (inr (inr (inr (inr (inr (inl (b, c, is))))))) =
      left_so e (Expr-F.Power b c) (ap out-Expr (is ∙ sym (expression.rolls-Power b c)) ∙ out-roll-Expr (Expr-F.Power b c))
  no_rest e (inr (inr (inr (inr (inr (inr (inl (b, c, d, is)))))))) =
      left_so e (Expr-F.If b c d) (ap out-Expr (is ∙ sym (expression.rolls-If b c d)) ∙ out-roll-Expr (Expr-F.If b c d))
  no_rest e (inr (inr (inr (inr (inr (inr (inr (inl (x, es, is))))))))) =
      left_so e (Expr-F.Call x es) (ap out-Expr (is ∙ sym (expression.rolls-Call x es)) ∙ out-roll-Expr (Expr-F.Call x es))
  no_rest e (inr (inr (inr (inr (inr (inr (inr (inr (b, ss, is))))))))) =
      left_so e (Expr-F.Suffixed b ss) (ap out-Expr (is ∙ sym (expression.rolls-Suffixed b ss)) ∙ out-roll-Expr (Expr-F.Suffixed b ss))

  -- an `and` or `or` from a member on, by the number of that member
  pub members_left_at : (junction : Junction) (es : List Expr) (k : ℕ)
      → k ≡ suc whole + counts (map (unfolded (file_of at)) (take m es))
      → members junction whole m (map (unfolded (file_of at)) (drop m es)) k (context_of at)
      ≡ members_left at junction whole m es
  members_left_at junction es k is =
      (λ i. members junction whole m (sym (drop-map (unfolded (file_of at)) m es) i) (is i) (context_of at))
      ∙ ap (λ xs. members junction whole m (drop m (map (unfolded (file_of at)) es)) (suc whole + counts xs) (context_of at))
      (sym (take-map (unfolded (file_of at)) m es))

  -- a comparison from a link on, by the number of that link
  pub links_left_at : (first : Expr) (links : List (CmpOp × Expr)) (begin k : ℕ)
      → begin ≡ suc whole + (unfolded (file_of at) first).count
      → k ≡ begin + operand_counts (unfolded_links (file_of at) (take m links))
      → compared whole m (unfolded_links (file_of at) (drop m links)) k (context_of at) a
      ≡ links_left at whole m a first links
  links_left_at first links begin k from is =
      (λ i. compared whole m (sym (drop-map (λ (l : CmpOp × Expr). (l.0, unfolded (file_of at) l.1)) m links) i) (is i) (context_of at) a)
      ∙ (λ i. compared whole m (drop m (unfolded_links (file_of at) links))
      (from i + operand_counts (sym (take-map (λ (l : CmpOp × Expr). (l.0, unfolded (file_of at) l.1)) m links) i)) (context_of at) a)

module _ (at : CodeContext) (whole m : ℕ) where
  -- the same by what was made of the numbers on the way
  pub members_left_so : (junction : Junction) (es left past : List Expr) (first n k : ℕ)
      → left ≡ drop m es → past ≡ take m es → first ≡ suc whole
      → ((file : File) → n ≡ counts (map (unfolded file) past)) → k ≡ first + n
      → members junction whole m (map (unfolded (file_of at)) left) k (context_of at)
      ≡ members_left at junction whole m es
  members_left_so junction es left past first n k l p f c q =
      ap (λ xs. members junction whole m (map (unfolded (file_of at)) xs) k (context_of at)) l
      ∙ members_left_at at whole m (Known value.None) junction es k
      (q ∙ (λ i. f i + (c (file_of at) ∙ ap (λ xs. counts (map (unfolded (file_of at)) xs)) p) i))

  pub links_left_so : (a : Arg) (first : Expr) (links left past : List (CmpOp × Expr)) (next begin n k : ℕ)
      → left ≡ drop m links → past ≡ take m links → next ≡ suc whole
      → ((file : File) → begin ≡ next + (unfolded file first).count)
      → ((file : File) → n ≡ operand_counts (unfolded_links file past)) → k ≡ begin + n
      → compared whole m (unfolded_links (file_of at) left) k (context_of at) a
      ≡ links_left at whole m a first links
  links_left_so a first links left past next begin n k l p f b c q =
      ap (λ xs. compared whole m (unfolded_links (file_of at) xs) k (context_of at) a) l
      ∙ links_left_at at whole m a first links begin k
      (b (file_of at) ∙ ap (λ x. x + (unfolded (file_of at) first).count) f)
      (q ∙ ap (λ x. begin + x) (c (file_of at) ∙ ap (λ xs. operand_counts (unfolded_links (file_of at) xs)) p))
