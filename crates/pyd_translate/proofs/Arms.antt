-- What the forms of expressions make, by what their parts made.
use Rattle.std.proofs.Common.{◌≡◌, ℕ, suc, ◌+◌, List, [], ◌∷◌, map, refl, sym, ap, subst, ◌∙◌, Option, Some, None}
use Rattle.std.specs.Prelude.{Result, IfOk}
use Rattle.pyd_value.specs.declared.memory.NoMemory.{NoMemory}
use Rattle.pyd_value.specs.declared.value.Value.{Value}
use Rattle.pyd_value.specs.declared.operator.CmpOp.{CmpOp}
use Rattle.pyd_tree.specs.declared.expression.Expr.{Expr}
use Rattle.pyd_tree.specs.declared.expression.Expr.TheOpen.{Expr-F}
use Rattle.pyd_tree.specs.declared.expression.Expr.TheVariants as expression
use Rattle.pyd_tree.specs.declared.file.File.{File}
use Rattle.pyd_ir.specs.declared.node.Node.{Node}
use Rattle.pyd_ir.specs.declared.arg.Arg.{Arg}
use Rattle.pyd_ir.specs.declared.arg.Arg.TheVariants.{Known}
use Rattle.pyd_ir.specs.declared.code.OpCode.{OpCode}
use Rattle.pyd_ir.specs.declared.work.Side.TheVariants as side
use Rattle.pyd_translate.specs.declared.choices.Junction.{Junction}
use Rattle.pyd_translate.specs.declared.choices.Junction.TheVariants.{And, Or}
use Rattle.pyd_translate.specs.declared.context.Context.{Context as CodeContext}
use Rattle.pyd_translate.specs.Making.{Making, Context, pure, ◌>>>◌}
use Rattle.pyd_translate.specs.Expressions.{Unfolded, UnfoldedSuffix, unfolded, unfold_step, expression_unfolds, operator, choose, compared, conjunction, disjunction}
use Rattle.pyd_translate.specs.Drafts.{onto, level, context_of, file_of, members, member_chosen, of_none, unfolded_links, link_compared, link_chosen}
use Rattle.pyd_translate.proofs.Constructs as law
use Rattle.pyd_translate.proofs.Onto.{onto_pure, onto_then, onto_none}

-- a list with an item isn't empty
some_items : {A : Type 0} (x : A) (xs : List A) → ¬ (x ∷ xs ≡ [])
some_items x xs e = cc

-- one level of an expression is the expression
pub level_made : (at : CodeContext) (e e' : Expr) (y : Expr-F Unfolded UnfoldedSuffix) (k part : ℕ)
    → e ≡ e' → unfolded (file_of at) e' ≡ unfold_step (file_of at) y → part ≡ suc k
    → level at y k part ≡ expression_unfolds (file_of at) e k (context_of at)
level_made at e e' y k part same is p =
    (λ i. level at y k (p i))
    ∙ sym (ap (λ (u : Unfolded). u.build k (context_of at)) (ap (unfolded (file_of at)) same ∙ is))

-- a literal is its value
pub literal_made : (at : CodeContext) (e : Expr) (v copy : Value) (k next : ℕ) (before : List Node)
    → e ≡ expression.Lit v → copy ≡ v
    → onto before (expression_unfolds (file_of at) e k (context_of at) next) ≡ (before, Some (Known copy), next)
literal_made at e v copy k next before same is =
    ap (λ (w : Making Arg). onto before (w next))
    (sym (level_made at e (expression.Lit v) (Expr-F.Lit v) k (suc k) same (law.literal (file_of at) v) refl))
    ∙ onto_pure before (Known v) next
    ∙ ap (λ x. (before, Some (Known x), next)) (sym is)

module _ {A : Type 0} (r : Result (Option A) NoMemory) (before nodes : List Node) (ids last : ℕ) where
  -- the same making in another form
  pub made_so : (u v : Making A) → u ≡ v
      → IfOk r (λ got. onto before (u ids) ≡ (nodes, got, last))
      → IfOk r (λ got. onto before (v ids) ≡ (nodes, got, last))
  made_so u v e h = subst (λ (w : Making A). IfOk r (λ got. onto before (w ids) ≡ (nodes, got, last))) e h

  -- what follows something that came
  pub made_then : {B : Type 0} (mid : List Node) (u : Making B) (f : B → Making A) (next : ℕ) (b : B)
      → onto before (u ids) ≡ (mid, Some b, next)
      → IfOk r (λ got. onto mid (f b next) ≡ (nodes, got, last))
      → IfOk r (λ got. onto before ((u >>> f) ids) ≡ (nodes, got, last))
  made_then mid u f next b e h =
      subst (λ x. IfOk r (λ got. x ≡ (nodes, got, last))) (sym (onto_then before mid u f ids next b e)) h

module _ (file : File) (at : Context) where
  -- an `and` or `or` of no members
  pub members_none : (junction : Junction) (whole m k : ℕ) (es : List Expr) → es ≡ []
      → members junction whole m (map (unfolded file) es) k at ≡ pure (of_none junction)
  unfolding conjunction disjunction
  members_none And whole m k es is = ap (λ (xs : List Expr). members And whole m (map (unfolded file) xs) k at) is
  members_none Or whole m k es is = ap (λ (xs : List Expr). members Or whole m (map (unfolded file) xs) k at) is

  -- of one
  pub members_last : (junction : Junction) (whole m k : ℕ) (es others : List Expr) (e : Expr)
      → es ≡ e ∷ others → others ≡ []
      → members junction whole m (map (unfolded file) es) k at ≡ expression_unfolds file e k at
  unfolding conjunction disjunction
  members_last And whole m k es others e is none =
      ap (λ (xs : List Expr). members And whole m (map (unfolded file) xs) k at) (is ∙ ap (λ xs. e ∷ xs) none)
  members_last Or whole m k es others e is none =
      ap (λ (xs : List Expr). members Or whole m (map (unfolded file) xs) k at) (is ∙ ap (λ xs. e ∷ xs) none)

  -- of several
  members_two : (junction : Junction) (whole m k : ℕ) (e f : Expr) (es : List Expr)
      → members junction whole m (map (unfolded file) (e ∷ f ∷ es)) k at
      ≡ (expression_unfolds file e k at >>> (λ v. member_chosen junction whole (suc m) v at))
  unfolding conjunction disjunction
  members_two And whole m k e f es = refl
  members_two Or whole m k e f es = refl

  pub members_more : (junction : Junction) (whole m k : ℕ) (es others : List Expr) (e : Expr)
      → es ≡ e ∷ others → ¬ (others ≡ [])
      → members junction whole m (map (unfolded file) es) k at
      ≡ (expression_unfolds file e k at >>> (λ v. member_chosen junction whole (suc m) v at))
  members_more junction whole m k es [] e is some = absurd (some refl)
  members_more junction whole m k es (f ∷ others) e is some =
      ap (λ (xs : List Expr). members junction whole m (map (unfolded file) xs) k at) is
      ∙ members_two junction whole m k e f others

  -- a comparison of no links
  pub links_none : (whole m k : ℕ) (links : List (CmpOp × Expr)) (a : Arg) → links ≡ []
      → compared whole m (unfolded_links file links) k at a ≡ pure (of_none And)
  unfolding compared
  links_none whole m k links a is =
      ap (λ (xs : List (CmpOp × Expr)). compared whole m (unfolded_links file xs) k at a) is

  -- of one
  pub links_last : (whole m k : ℕ) (links others : List (CmpOp × Expr)) (l : CmpOp × Expr) (a : Arg)
      → links ≡ l ∷ others → others ≡ []
      → compared whole m (unfolded_links file links) k at a
      ≡ (expression_unfolds file l.1 k at >>> (λ b. link_compared l.0 a b at))
  unfolding compared
  links_last whole m k links others l a is none =
      ap (λ (xs : List (CmpOp × Expr)). compared whole m (unfolded_links file xs) k at a) (is ∙ ap (λ xs. l ∷ xs) none)

  -- of several
  links_two : (whole m k : ℕ) (l n : CmpOp × Expr) (ls : List (CmpOp × Expr)) (a : Arg)
      → compared whole m (unfolded_links file (l ∷ n ∷ ls)) k at a
      ≡ (expression_unfolds file l.1 k at >>> (λ b. link_chosen l.0 a b whole (suc m) at))
  unfolding compared
  links_two whole m k l n ls a = refl

  pub links_more : (whole m k : ℕ) (links others : List (CmpOp × Expr)) (l : CmpOp × Expr) (a : Arg)
      → links ≡ l ∷ others → ¬ (others ≡ [])
      → compared whole m (unfolded_links file links) k at a
      ≡ (expression_unfolds file l.1 k at >>> (λ b. link_chosen l.0 a b whole (suc m) at))
  links_more whole m k links [] l a is some = absurd (some refl)
  links_more whole m k links (n ∷ others) l a is some =
      ap (λ (xs : List (CmpOp × Expr)). compared whole m (unfolded_links file xs) k at a) is
      ∙ links_two whole m k l n others a

-- an operator's node by its arguments
pub args_so : (before : List Node) (op : OpCode) (args args' : List Arg) (at : Context) (ids : ℕ) (x : List Node × Option Arg × ℕ)
    → args' ≡ args → onto before (operator op args' at ids) ≡ x → onto before (operator op args at ids) ≡ x
args_so before op args args' at ids x e h = subst (λ l. onto before (operator op l at ids) ≡ x) e h

module _ (file : File) (at : Context) (before mid : List Node) (ids next : ℕ) where
  -- one argument behind its expression
  pub unary_made : (e : Expr) (k : ℕ) (op : OpCode) (v : Arg) (args : List Arg) (x : List Node × Option Arg × ℕ)
      → onto before (expression_unfolds file e k at ids) ≡ (mid, Some v, next) → args ≡ v ∷ []
      → onto mid (operator op args at next) ≡ x
      → onto before ((expression_unfolds file e k at >>> (λ a. operator op (a ∷ []) at)) ids) ≡ x
  unary_made e k op v args x h p q =
      onto_then before mid (expression_unfolds file e k at) (λ a. operator op (a ∷ []) at) ids next v h
      ∙ args_so mid op (v ∷ []) args at next x p q

  -- a value and one behind it
  pub pair_made : (e : Expr) (k : ℕ) (op : OpCode) (a v : Arg) (args : List Arg) (x : List Node × Option Arg × ℕ)
      → onto before (expression_unfolds file e k at ids) ≡ (mid, Some v, next) → args ≡ a ∷ v ∷ []
      → onto mid (operator op args at next) ≡ x
      → onto before ((expression_unfolds file e k at >>> (λ b. operator op (a ∷ b ∷ []) at)) ids) ≡ x
  pair_made e k op a v args x h p q =
      onto_then before mid (expression_unfolds file e k at) (λ b. operator op (a ∷ b ∷ []) at) ids next v h
      ∙ args_so mid op (a ∷ v ∷ []) args at next x p q

  -- the choice of a conditional expression behind its test
  pub conditional_made : (test first : Expr) (k second third : ℕ) (v : Arg) (x : List Node × Option Arg × ℕ)
      → second ≡ k + (unfolded file first).count → third ≡ second + (unfolded file test).count
      → onto before (expression_unfolds file test second at ids) ≡ (mid, Some v, next)
      → onto mid (choose at v (side.Expr k) (side.Expr third) next) ≡ x
      → onto before (((unfolded file test).build (k + (unfolded file first).count) at
      >>> (λ t. choose at t (side.Expr k) (side.Expr (k + (unfolded file first).count + (unfolded file test).count)))) ids) ≡ x
  conditional_made test first k second third v x p q h r =
      let last : k + (unfolded file first).count + (unfolded file test).count ≡ third =
      ap (λ n. n + (unfolded file test).count) (sym p) ∙ sym q in
      onto_then before mid ((unfolded file test).build (k + (unfolded file first).count) at)
      (λ t. choose at t (side.Expr k) (side.Expr (k + (unfolded file first).count + (unfolded file test).count))) ids next v
      (subst (λ n. onto before (expression_unfolds file test n at ids) ≡ (mid, Some v, next)) p h)
      ∙ ap (λ n. onto mid (choose at v (side.Expr k) (side.Expr n) next)) last ∙ r

  -- its test ended in a Stop
  pub conditional_stopped : (test first : Expr) (k second : ℕ) (f : Arg → Making Arg)
      → second ≡ k + (unfolded file first).count
      → onto before (expression_unfolds file test second at ids) ≡ (mid, None, next)
      → onto before (((unfolded file test).build (k + (unfolded file first).count) at >>> f) ids) ≡ (mid, None, next)
  conditional_stopped test first k second f p h =
      onto_none before mid ((unfolded file test).build (k + (unfolded file first).count) at) f ids next
      (subst (λ n. onto before (expression_unfolds file test n at ids) ≡ (mid, None, next)) p h)

  module _ (r : Result (Option Arg) NoMemory) (nodes : List Node) (last : ℕ) (first : Expr) (k behind : ℕ) (v : Arg)
      (p : behind ≡ k + (unfolded file first).count)
      (h : onto before (expression_unfolds file first k at ids) ≡ (mid, Some v, next)) where
    -- what goes on behind an expression by the number behind it
    pub goes_on : (f : ℕ → Arg → Making Arg)
        → IfOk r (λ got. onto mid (f behind v next) ≡ (nodes, got, last))
        → IfOk r (λ got. onto before ((expression_unfolds file first k at >>> (λ a. f (k + (unfolded file first).count) a)) ids) ≡ (nodes, got, last))
    goes_on f q =
        made_then r before nodes ids last mid (expression_unfolds file first k at)
        (λ a. f (k + (unfolded file first).count) a) next v h
        (subst (λ n. IfOk r (λ got. onto mid (f n v next) ≡ (nodes, got, last))) p q)

module _ (file : File) (at : Context) (before mid : List Node) (ids next : ℕ) where
  -- the first member ended in a Stop
  pub members_stopped : (junction : Junction) (whole m k : ℕ) (es others : List Expr) (e : Expr) → es ≡ e ∷ others
      → onto before (expression_unfolds file e k at ids) ≡ (mid, None, next)
      → onto before (members junction whole m (map (unfolded file) es) k at ids) ≡ (mid, None, next)
  members_stopped junction whole m k es [] e is h =
      ap (λ (w : Making Arg). onto before (w ids)) (members_last file at junction whole m k es [] e is refl) ∙ h
  members_stopped junction whole m k es (f ∷ others) e is h =
      ap (λ (w : Making Arg). onto before (w ids)) (members_more file at junction whole m k es (f ∷ others) e is (some_items f others))
      ∙ onto_none before mid (expression_unfolds file e k at) (λ v. member_chosen junction whole (suc m) v at) ids next h

  -- the first right operand did
  pub links_stopped : (whole m k : ℕ) (links others : List (CmpOp × Expr)) (l : CmpOp × Expr) (a : Arg) → links ≡ l ∷ others
      → onto before (expression_unfolds file l.1 k at ids) ≡ (mid, None, next)
      → onto before (compared whole m (unfolded_links file links) k at a ids) ≡ (mid, None, next)
  links_stopped whole m k links [] l a is h =
      ap (λ (w : Making Arg). onto before (w ids)) (links_last file at whole m k links [] l a is refl)
      ∙ onto_none before mid (expression_unfolds file l.1 k at) (λ b. link_compared l.0 a b at) ids next h
  links_stopped whole m k links (n ∷ others) l a is h =
      ap (λ (w : Making Arg). onto before (w ids)) (links_more file at whole m k links (n ∷ others) l a is (some_items n others))
      ∙ onto_none before mid (expression_unfolds file l.1 k at) (λ b. link_chosen l.0 a b whole (suc m) at) ids next h
