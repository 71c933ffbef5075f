-- The forms of what stands in brackets.
use Rattle.std.proofs.Common.{◌≡◌, ℕ, ◌+◌, List, [], ◌∷◌, ◌++◌, refl, sym, ap, subst, ◌∙◌, is_some, Bool, Option, Some, None}
use Rattle.std.specs.Prelude.{Result, Ok, Err, IfOk, option_map}
use Rattle.pyd_value.specs.declared.memory.NoMemory.{NoMemory}
use Rattle.pyd_tree.specs.declared.expression.Expr.{Expr}
use Rattle.pyd_tree.specs.declared.expression.Expr.TheOpen.{Suffix-F}
use Rattle.pyd_tree.specs.declared.expression.Suffix.{Suffix}
use Rattle.pyd_tree.specs.declared.expression.Suffix.TheVariants as suffix
use Rattle.pyd_tree.specs.declared.file.File.{File}
use Rattle.pyd_ir.specs.declared.arg.Arg.{Arg}
use Rattle.pyd_ir.specs.declared.code.OpCode.TheVariants as code
use Rattle.pyd_ir.specs.declared.node.Node.{Node}
use Rattle.pyd_translate.specs.declared.context.Context.{Context as CodeContext}
use Rattle.pyd_translate.specs.Making.{Context, pure}
use Rattle.pyd_translate.specs.Expressions.{UnfoldedSuffix, unfolded, unfolded_suffix, suffix_step, expression_unfolds, bound, maybe_count, operator}
use Rattle.pyd_translate.specs.Drafts.{onto, context_of, file_of, indexed, sliced}
use Rattle.pyd_translate.proofs.Constructs as law
use Rattle.pyd_translate.proofs.Onto.{onto_pure, onto_last, onto_then, onto_none}
use Rattle.pyd_translate.proofs.Arms.{args_so}

-- a slice, whichever bounds are there
pub slice_any : (file : File) (low high : Option Expr)
    → unfolded_suffix file (suffix.Slice low high)
    ≡ suffix_step (Suffix-F.Slice (option_map (unfolded file) low) (option_map (unfolded file) high))
slice_any file None None = law.slice_whole file
slice_any file None (Some b) = law.slice_to file b
slice_any file (Some a) None = law.slice_from file a
slice_any file (Some a) (Some b) = law.slice_between file a b

-- an index
pub index_made : (at : CodeContext) (s : Suffix) (e : Expr) (k : ℕ) (a : Arg) → s ≡ suffix.Index e
    → indexed at a e k ≡ (unfolded_suffix (file_of at) s).build k (context_of at) a
index_made at s e k a is =
    sym (ap (λ (u : UnfoldedSuffix). u.build k (context_of at) a)
    (ap (unfolded_suffix (file_of at)) is ∙ law.index (file_of at) e))

-- a slice
pub slice_made : (at : CodeContext) (s : Suffix) (low high : Option Expr) (k : ℕ) (a : Arg) → s ≡ suffix.Slice low high
    → sliced at a low high k ≡ (unfolded_suffix (file_of at) s).build k (context_of at) a
slice_made at s low high k a is =
    sym (ap (λ (u : UnfoldedSuffix). u.build k (context_of at) a)
    (ap (unfolded_suffix (file_of at)) is ∙ slice_any (file_of at) low high))

-- how many there are in an index
pub index_count : (r : Result ℕ NoMemory) (s : Suffix) (e : Expr) → s ≡ suffix.Index e
    → IfOk r (λ n. (file : File) → n ≡ (unfolded file e).count)
    → IfOk r (λ n. (file : File) → n ≡ (unfolded_suffix file s).count)
index_count (Ok n) s e is h =
    λ file. h file ∙ sym (ap (λ x. (unfolded_suffix file x).count) is ∙ ap (λ (u : UnfoldedSuffix). u.count) (law.index file e))
index_count (Err x) s e is h = tt

-- in a slice
pub slice_count : (r : Result ℕ NoMemory) (s : Suffix) (low high : Option Expr) (p q : ℕ) → s ≡ suffix.Slice low high
    → ((file : File) → p ≡ maybe_count (option_map (unfolded file) low))
    → ((file : File) → q ≡ maybe_count (option_map (unfolded file) high))
    → IfOk r (λ n. n ≡ p + q)
    → IfOk r (λ n. (file : File) → n ≡ (unfolded_suffix file s).count)
slice_count (Ok n) s low high p q is a b h =
    λ file. h ∙ (λ i. a file i + b file i)
    ∙ sym (ap (λ x. (unfolded_suffix file x).count) is ∙ ap (λ (u : UnfoldedSuffix). u.count) (slice_any file low high))
slice_count (Err x) s low high p q is a b h = tt

-- the bounds of a slice, and then its operator
module _ (at : CodeContext) (a : Arg) (low high : Option Expr) (k behind : ℕ) (before mid : List Node) (ids next : ℕ)
    (p : behind ≡ k + maybe_count (option_map (unfolded (file_of at)) low)) where
  pub sliced_made : (after : List Node) (last : ℕ) (l h args : List Arg) (x : List Node × Option Arg × ℕ)
      → onto before (bound (option_map (unfolded (file_of at)) low) k (context_of at) ids) ≡ (mid, Some l, next)
      → onto mid (bound (option_map (unfolded (file_of at)) high) behind (context_of at) next) ≡ (after, Some h, last)
      → args ≡ a ∷ l ++ h
      → onto after (operator (code.Slice (is_some (option_map (unfolded (file_of at)) low)) (is_some (option_map (unfolded (file_of at)) high))) args (context_of at) last) ≡ x
      → onto before (sliced at a low high k ids) ≡ x
  sliced_made after last l h args x first second same q =
      onto_then before mid (bound (option_map (unfolded (file_of at)) low) k (context_of at)) _ ids next l first
      ∙ onto_then mid after (bound (option_map (unfolded (file_of at)) high) (k + maybe_count (option_map (unfolded (file_of at)) low)) (context_of at)) _ next last h
      (subst (λ n. onto mid (bound (option_map (unfolded (file_of at)) high) n (context_of at) next) ≡ (after, Some h, last)) p second)
      ∙ args_so after _ (a ∷ l ++ h) args (context_of at) last x same q

  pub sliced_high_stopped : (after : List Node) (last : ℕ) (l : List Arg)
      → onto before (bound (option_map (unfolded (file_of at)) low) k (context_of at) ids) ≡ (mid, Some l, next)
      → onto mid (bound (option_map (unfolded (file_of at)) high) behind (context_of at) next) ≡ (after, None, last)
      → onto before (sliced at a low high k ids) ≡ (after, None, last)
  sliced_high_stopped after last l first second =
      onto_then before mid (bound (option_map (unfolded (file_of at)) low) k (context_of at)) _ ids next l first
      ∙ onto_none mid after (bound (option_map (unfolded (file_of at)) high) (k + maybe_count (option_map (unfolded (file_of at)) low)) (context_of at)) _ next last
      (subst (λ n. onto mid (bound (option_map (unfolded (file_of at)) high) n (context_of at) next) ≡ (after, None, last)) p second)

-- a bound that is missing
pub bound_none : (file : File) (at : Context) (b : Option Expr) (k : ℕ) (before : List Node) (ids : ℕ) (args : List Arg)
    → b ≡ None → args ≡ []
    → onto before (bound (option_map (unfolded file) b) k at ids) ≡ (before, Some args, ids)
bound_none file at b k before ids args is none =
    ap (λ o. onto before (bound (option_map (unfolded file) o) k at ids)) is
    ∙ onto_pure before [] ids ∙ ap (λ l. (before, Some l, ids)) (sym none)

-- one that is there
pub bound_some : (file : File) (at : Context) (b : Option Expr) (e : Expr) (k : ℕ) (before mid : List Node) (ids next : ℕ) (v : Arg) (args : List Arg)
    → b ≡ Some e → onto before (expression_unfolds file e k at ids) ≡ (mid, Some v, next) → args ≡ v ∷ []
    → onto before (bound (option_map (unfolded file) b) k at ids) ≡ (mid, Some args, next)
bound_some file at b e k before mid ids next v args is h same =
    ap (λ o. onto before (bound (option_map (unfolded file) o) k at ids)) is
    ∙ onto_last before mid (expression_unfolds file e k at) (λ a. a ∷ []) ids next v h
    ∙ ap (λ l. (mid, Some l, next)) (sym same)

-- one that ends in a Stop
pub bound_stopped : (file : File) (at : Context) (b : Option Expr) (e : Expr) (k : ℕ) (before mid : List Node) (ids next : ℕ)
    → b ≡ Some e → onto before (expression_unfolds file e k at ids) ≡ (mid, None, next)
    → onto before (bound (option_map (unfolded file) b) k at ids) ≡ (mid, None, next)
bound_stopped file at b e k before mid ids next is h =
    ap (λ o. onto before (bound (option_map (unfolded file) o) k at ids)) is
    ∙ onto_none before mid (expression_unfolds file e k at) (λ a. pure (a ∷ [])) ids next h

is_some_mapped : {A B : Type 0} (f : A → B) (o : Option A) → is_some o ≡ is_some (option_map f o)
is_some_mapped f None = refl
is_some_mapped f (Some x) = refl

-- a slice's operator, by the bounds that are there
pub slice_operator : (file : File) (low high : Option Expr) (p q : Bool) (before : List Node) (args : List Arg) (at : Context) (ids : ℕ)
    (x : List Node × Option Arg × ℕ)
    → p ≡ is_some low → q ≡ is_some high
    → onto before (operator (code.Slice p q) args at ids) ≡ x
    → onto before (operator (code.Slice (is_some (option_map (unfolded file) low)) (is_some (option_map (unfolded file) high))) args at ids) ≡ x
slice_operator file low high p q before args at ids x l h e =
    (λ i. onto before (operator (code.Slice (sym (l ∙ is_some_mapped (unfolded file) low) i) (sym (h ∙ is_some_mapped (unfolded file) high) i)) args at ids)) ∙ e
