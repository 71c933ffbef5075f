-- The nodes of each expression, and of each side of a choice, have what they need.
use Rattle.std.proofs.Common.{ℕ, suc, ◌+◌, List, [], ◌∷◌, ◌++◌, map, take, drop, Option, Some, None, refl, sym, subst}
use Rattle.std.specs.Prelude.{is_some}
use Rattle.pyd_value.specs.declared.fault.Fault.TheVariants.{Raised}
use Rattle.pyd_value.specs.declared.fault.Kind.TheVariants.{NameError}
use Rattle.pyd_value.specs.declared.operator.BinOp.TheVariants.{Pow}
use Rattle.pyd_value.specs.declared.operator.CmpOp.{CmpOp}
use Rattle.pyd_tree.specs.declared.expression.Expr.{Expr, out-Expr}
use Rattle.pyd_tree.specs.declared.expression.Expr.TheOpen.{Expr-F, Suffix-F}
use Rattle.pyd_tree.specs.declared.expression.Suffix.{Suffix, out-Suffix}
use Rattle.pyd_tree.specs.declared.file.File.{File}
use Rattle.pyd_names.specs.Binding.{function, locals}
use Rattle.pyd_names.specs.Resolution.{Resolution}
use Rattle.pyd_names.specs.Resolution as resolution
use Rattle.pyd_meaning.specs.declared.limits.Limits.{Limits}
use Rattle.pyd_ir.specs.declared.arg.Arg.{Arg}
use Rattle.pyd_ir.specs.declared.arg.Arg.TheVariants.{Known}
use Rattle.pyd_ir.specs.declared.code.OpCode.TheVariants as code
use Rattle.pyd_ir.specs.declared.work.Side.{Side}
use Rattle.pyd_ir.specs.declared.work.Side.TheVariants as side
use Rattle.pyd_ir.specs.Arguments.{side_arguments}
use Rattle.pyd_ir.specs.Inputs.{Given}
use Rattle.pyd_translate.specs.Making.{Making, Context, emit_value, ◌>>>◌}
use Rattle.pyd_translate.specs.Slots.{arg_of}
use Rattle.pyd_translate.specs.Expressions.{Unfolded, counts, operand_counts, operator, each, bound, chained, suffixed, choose, compared, builtin_work, function_call, maybe_count, suffix_step, resolution_at, name_operand, call_as, build_parts, unfolded, unfolded_suffix}
use Rattle.pyd_translate.specs.Sides.{unfolded_links, left_at, left_numbered, unfold_numbered, numbered, side_unfolds}
use Rattle.pyd_translate.specs.Matching.{HaveValues}
use Rattle.pyd_translate.proofs.Induction.{Each, Maybe, InBrackets, InParts, by_parts}
use Rattle.pyd_translate.proofs.Numbered.{unfolded_level, unfolded_brackets, unfolded_out, unfolded_suffix_out}
use Rattle.pyd_translate.proofs.UnfoldedOrder.{each_map, each_operand_map, each_drop}
use Rattle.pyd_translate.proofs.Keeping.{given-slot}
use Rattle.pyd_translate.proofs.Supplying.{IsLater, later-same, HasSome, some-later, have-later, have-both, then-supplied, pure-supplied, stop-supplied}
use Rattle.pyd_translate.proofs.SuppliedExpressions.{IsStaged, staged-later, Gives, GivesAll, IsSupplied, IsSuffixSupplied, operator-supplied, each-supplied, bound-supplied, chained-supplied, suffixed-supplied, choose-supplied, conjunction-supplied, disjunction-supplied, compared-supplied, builtin-supplied, function-supplied, value_call-supplied, operand_as-supplied}

module _ (file : File) (limits : Limits) where
  -- a name
  pub name-supplied : (name : List ℕ) (at : Context) (ids : ℕ) (given : Given) → IsStaged file limits at ids given
      → Gives file limits ids given (name_operand file name at)
  name-supplied name at ids given has =
      operand_as-supplied file limits (resolution_at file at name) at (arg_of (locals file at.routine) at.env name)
      ids given (given-slot (locals file at.routine) ids given at.env name has.1)

  -- a call of a name of each kind
  call-supplied : (r : Resolution) (at : Context) (callee : Making Arg) (args : Making (List Arg))
      (ids : ℕ) (given : Given) → Gives file limits ids given callee
      → ((next : ℕ) (mid : Given) → IsLater ids given next mid → GivesAll file limits next mid args)
      → Gives file limits ids given (call_as file r at callee args)
  call-supplied resolution.Local at callee args ids given p q =
      value_call-supplied file limits at callee args ids given p q
  call-supplied (resolution.Constant v) at callee args ids given p q =
      value_call-supplied file limits at callee args ids given p q
  call-supplied (resolution.Function k) at callee args ids given p q =
      then-supplied file limits HaveValues HasSome ids given args (function_call (function file k) k at)
      (q ids given (later-same ids given))
      (λ next mid vs later have. function-supplied file limits (function file k) k at vs next mid have)
  call-supplied (resolution.Builtin b) at callee args ids given p q =
      then-supplied file limits HaveValues HasSome ids given args (λ vs. emit_value at (builtin_work b vs))
      (q ids given (later-same ids given))
      (λ next mid vs later have. builtin-supplied file limits b next mid vs at have)
  call-supplied resolution.Imported at callee args ids given p q =
      value_call-supplied file limits at callee args ids given p q
  call-supplied resolution.Variable at callee args ids given p q =
      value_call-supplied file limits at callee args ids given p q
  call-supplied resolution.Unbound at callee args ids given p q =
      value_call-supplied file limits at callee args ids given p q

  -- an expression
  abbrev OfExpression : Expr → Type 0
  OfExpression e = IsSupplied file limits (unfolded file e)

  -- the bounds of a slice
  slice-supplied : (low high : Option Unfolded) → Maybe (IsSupplied file limits) low → Maybe (IsSupplied file limits) high
      → IsSuffixSupplied file limits (suffix_step (Suffix-F.Slice low high))
  slice-supplied low high p q k at a ids given has v =
      then-supplied file limits HaveValues HasSome ids given (bound low k at)
      (λ l. bound high (k + maybe_count low) at
      >>> (λ h. operator (code.Slice (is_some low) (is_some high)) (a ∷ l ++ h) at))
      (bound-supplied file limits low p k at ids given has)
      (λ next mid l later ls. then-supplied file limits HaveValues HasSome next mid (bound high (k + maybe_count low) at)
      (λ h. operator (code.Slice (is_some low) (is_some high)) (a ∷ l ++ h) at)
      (bound-supplied file limits high q (k + maybe_count low) at next mid (staged-later file limits at ids next given mid later has))
      (λ last after h more hs. operator-supplied file limits last after (code.Slice (is_some low) (is_some high))
      (a ∷ l ++ h) at (λ x. refl) (
        some-later next last mid after a more (some-later ids next given mid a later v),
        have-both last after l h (have-later next last mid after l more ls) hs,
      )))

  -- one level of brackets
  brackets-supplied : (y : Suffix-F Expr Suffix) → InBrackets OfExpression y
      → IsSuffixSupplied file limits (suffix_step (unfolded_brackets file y))
  brackets-supplied (Suffix-F.Index index) p k at a ids given has v =
      then-supplied file limits HasSome HasSome ids given ((unfolded file index).build k at)
      (λ i. operator code.Index (a ∷ i ∷ []) at)
      (p k at ids given has)
      (λ next mid i later u. operator-supplied file limits next mid code.Index (a ∷ i ∷ []) at (λ x. refl)
      (some-later ids next given mid a later v, (u, tt)))
  brackets-supplied (Suffix-F.Slice None None) p k at a ids given has v =
      slice-supplied None None tt tt k at a ids given has v
  brackets-supplied (Suffix-F.Slice None (Some high)) p k at a ids given has v =
      slice-supplied None (Some (unfolded file high)) tt p.1 k at a ids given has v
  brackets-supplied (Suffix-F.Slice (Some low) None) p k at a ids given has v =
      slice-supplied (Some (unfolded file low)) None p.0 tt k at a ids given has v
  brackets-supplied (Suffix-F.Slice (Some low) (Some high)) p k at a ids given has v =
      slice-supplied (Some (unfolded file low)) (Some (unfolded file high)) p.0 p.1 k at a ids given has v

  -- brackets
  suffix-supplied : (s : Suffix) → InBrackets OfExpression (out-Suffix s)
      → IsSuffixSupplied file limits (unfolded_suffix file s)
  suffix-supplied s p =
      subst (IsSuffixSupplied file limits) (sym (unfolded_suffix_out file s)) (brackets-supplied (out-Suffix s) p)

  -- all brackets
  suffixes-supplied : (ss : List Suffix) → Each (λ s. InBrackets OfExpression (out-Suffix s)) ss
      → Each (IsSuffixSupplied file limits) (map (unfolded_suffix file) ss)
  suffixes-supplied [] p = tt
  suffixes-supplied (s ∷ ss) p = (suffix-supplied s p.0, suffixes-supplied ss p.1)

  -- one level of an expression
  level-supplied : (y : Expr-F Expr Suffix) → InParts OfExpression y → (whole k : ℕ) (at : Context)
      (ids : ℕ) (given : Given) → IsStaged file limits at ids given
      → Gives file limits ids given (build_parts file (unfolded_level file y) whole k at)
  level-supplied (Expr-F.Lit v) p whole k at ids given has =
      pure-supplied file limits HasSome ids given (Known v) (v, (refl, tt))
  level-supplied (Expr-F.Name name) p whole k at ids given has = name-supplied name at ids given has
  level-supplied (Expr-F.Tuple members) p whole k at ids given has =
      then-supplied file limits HaveValues HasSome ids given (each (map (unfolded file) members) k at)
      (λ args. operator code.Tuple args at)
      (each-supplied file limits (map (unfolded file) members)
      (each_map (IsSupplied file limits) (unfolded file) members p) k at ids given has)
      (λ next mid args later have. operator-supplied file limits next mid code.Tuple args at (λ x. refl) have)
  level-supplied (Expr-F.Unary op e) p whole k at ids given has =
      then-supplied file limits HasSome HasSome ids given ((unfolded file e).build k at)
      (λ a. operator (code.Unary op) (a ∷ []) at)
      (p k at ids given has)
      (λ next mid a later v. operator-supplied file limits next mid (code.Unary op) (a ∷ []) at (λ x. refl) (v, tt))
  level-supplied (Expr-F.Chain first links) p whole k at ids given has =
      then-supplied file limits HasSome HasSome ids given ((unfolded file first).build k at)
      (λ a. chained (map (λ l. (l.0, unfolded file l.1)) links) (k + (unfolded file first).count) at a)
      (p.0 k at ids given has)
      (λ next mid a later v. chained-supplied file limits (map (λ l. (l.0, unfolded file l.1)) links)
      (each_operand_map (IsSupplied file limits) (unfolded file) links p.1) (k + (unfolded file first).count) at a
      next mid (staged-later file limits at ids next given mid later has) v)
  level-supplied (Expr-F.Power base exponent) p whole k at ids given has =
      then-supplied file limits HasSome HasSome ids given ((unfolded file base).build k at)
      (λ a. (unfolded file exponent).build (k + (unfolded file base).count) at
      >>> (λ b. operator (code.Binary Pow) (a ∷ b ∷ []) at))
      (p.0 k at ids given has)
      (λ next mid a later v. then-supplied file limits HasSome HasSome next mid
      ((unfolded file exponent).build (k + (unfolded file base).count) at)
      (λ b. operator (code.Binary Pow) (a ∷ b ∷ []) at)
      (p.1 (k + (unfolded file base).count) at next mid (staged-later file limits at ids next given mid later has))
      (λ last after b more u. operator-supplied file limits last after (code.Binary Pow) (a ∷ b ∷ []) at (λ x. refl)
      (some-later next last mid after a more v, (u, tt))))
  level-supplied (Expr-F.And members) p whole k at ids given has =
      conjunction-supplied file limits whole 0 (map (unfolded file) members)
      (each_map (IsSupplied file limits) (unfolded file) members p) k at ids given has
  level-supplied (Expr-F.Or members) p whole k at ids given has =
      disjunction-supplied file limits whole 0 (map (unfolded file) members)
      (each_map (IsSupplied file limits) (unfolded file) members p) k at ids given has
  level-supplied (Expr-F.Compare first links) p whole k at ids given has =
      then-supplied file limits HasSome HasSome ids given ((unfolded file first).build k at)
      (λ a. compared whole 0 (map (λ l. (l.0, unfolded file l.1)) links) (k + (unfolded file first).count) at a)
      (p.0 k at ids given has)
      (λ next mid a later v. compared-supplied file limits whole 0 (map (λ l. (l.0, unfolded file l.1)) links)
      (each_operand_map (IsSupplied file limits) (unfolded file) links p.1) (k + (unfolded file first).count) at a
      next mid (staged-later file limits at ids next given mid later has) v)
  level-supplied (Expr-F.If test first second) p whole k at ids given has =
      then-supplied file limits HasSome HasSome ids given
      ((unfolded file test).build (k + (unfolded file first).count) at)
      (λ t. choose at t (side.Expr k) (side.Expr (k + (unfolded file first).count + (unfolded file test).count)))
      (p.0 (k + (unfolded file first).count) at ids given has)
      (λ next mid t later v. choose-supplied file limits next mid at t (side.Expr k)
      (side.Expr (k + (unfolded file first).count + (unfolded file test).count))
      (staged-later file limits at ids next given mid later has) v tt tt)
  level-supplied (Expr-F.Call name args) p whole k at ids given has =
      call-supplied (resolution_at file at name) at (name_operand file name at)
      (each (map (unfolded file) args) k at) ids given (name-supplied name at ids given has)
      (λ next mid later. each-supplied file limits (map (unfolded file) args)
      (each_map (IsSupplied file limits) (unfolded file) args p) k at next mid
      (staged-later file limits at ids next given mid later has))
  level-supplied (Expr-F.Suffixed base suffixes) p whole k at ids given has =
      then-supplied file limits HasSome HasSome ids given ((unfolded file base).build k at)
      (λ a. suffixed (map (unfolded_suffix file) suffixes) (k + (unfolded file base).count) at a)
      (p.0 k at ids given has)
      (λ next mid a later v. suffixed-supplied file limits (map (unfolded_suffix file) suffixes)
      (suffixes-supplied suffixes p.1) (k + (unfolded file base).count) at a next mid
      (staged-later file limits at ids next given mid later has) v)

  -- the nodes of each expression are supplied
  pub expression-supplied : (e : Expr) → IsSupplied file limits (unfolded file e)
  expression-supplied =
      by_parts OfExpression (λ e p. subst (IsSupplied file limits) (sym (unfolded_out file e))
      (λ k at ids given has. level-supplied (out-Expr e) p k (suc k) at ids given has))

  -- of several expressions
  members-supplied : (es : List Expr) → Each (IsSupplied file limits) (map (unfolded file) es)
  members-supplied [] = tt
  members-supplied (e ∷ es) = (expression-supplied e, members-supplied es)

  -- of right operands
  links-supplied : (links : List (CmpOp × Expr)) → Each (λ l. IsSupplied file limits l.1) (unfolded_links file links)
  links-supplied [] = tt
  links-supplied (l ∷ links) = (expression-supplied l.1, links-supplied links)

  -- what is left of an expression, by its first level
  left-supplied : (y : Expr-F Expr Suffix) (whole m : ℕ) (a : Arg) (at : Context) (ids : ℕ) (given : Given)
      → IsStaged file limits at ids given → HasSome ids given a
      → Gives file limits ids given (left_at file y whole m a at)
  left-supplied (Expr-F.And members) whole m a at ids given has v =
      conjunction-supplied file limits whole m (drop m (map (unfolded file) members))
      (each_drop (IsSupplied file limits) m (map (unfolded file) members) (members-supplied members))
      (suc whole + counts (take m (map (unfolded file) members))) at ids given has
  left-supplied (Expr-F.Or members) whole m a at ids given has v =
      disjunction-supplied file limits whole m (drop m (map (unfolded file) members))
      (each_drop (IsSupplied file limits) m (map (unfolded file) members) (members-supplied members))
      (suc whole + counts (take m (map (unfolded file) members))) at ids given has
  left-supplied (Expr-F.Compare first links) whole m a at ids given has v =
      compared-supplied file limits whole m (drop m (unfolded_links file links))
      (each_drop (λ l. IsSupplied file limits l.1) m (unfolded_links file links) (links-supplied links))
      (suc whole + (unfolded file first).count + operand_counts (take m (unfolded_links file links))) at a ids given has v
  left-supplied (Expr-F.Lit u) whole m a at ids given has v =
      stop-supplied file limits HasSome ids given at (Raised NameError at.line)
  left-supplied (Expr-F.Name name) whole m a at ids given has v =
      stop-supplied file limits HasSome ids given at (Raised NameError at.line)
  left-supplied (Expr-F.Tuple members) whole m a at ids given has v =
      stop-supplied file limits HasSome ids given at (Raised NameError at.line)
  left-supplied (Expr-F.Unary op e) whole m a at ids given has v =
      stop-supplied file limits HasSome ids given at (Raised NameError at.line)
  left-supplied (Expr-F.Chain first links) whole m a at ids given has v =
      stop-supplied file limits HasSome ids given at (Raised NameError at.line)
  left-supplied (Expr-F.Power base exponent) whole m a at ids given has v =
      stop-supplied file limits HasSome ids given at (Raised NameError at.line)
  left-supplied (Expr-F.If test first second) whole m a at ids given has v =
      stop-supplied file limits HasSome ids given at (Raised NameError at.line)
  left-supplied (Expr-F.Call name args) whole m a at ids given has v =
      stop-supplied file limits HasSome ids given at (Raised NameError at.line)
  left-supplied (Expr-F.Suffixed base suffixes) whole m a at ids given has v =
      stop-supplied file limits HasSome ids given at (Raised NameError at.line)

  -- an expression that a number may name
  numbered-supplied : (e : Option Expr) (k : ℕ) (at : Context) (ids : ℕ) (given : Given)
      → IsStaged file limits at ids given → Gives file limits ids given (unfold_numbered file e k at)
  numbered-supplied None k at ids given has = stop-supplied file limits HasSome ids given at (Raised NameError at.line)
  numbered-supplied (Some e) k at ids given has = expression-supplied e k at ids given has

  -- what is left of one that a number may name
  left_numbered-supplied : (e : Option Expr) (k m : ℕ) (a : Arg) (at : Context) (ids : ℕ) (given : Given)
      → IsStaged file limits at ids given → HasSome ids given a
      → Gives file limits ids given (left_numbered file e k m a at)
  left_numbered-supplied None k m a at ids given has v =
      stop-supplied file limits HasSome ids given at (Raised NameError at.line)
  left_numbered-supplied (Some e) k m a at ids given has v = left-supplied (out-Expr e) k m a at ids given has v

  -- each side of a choice
  pub side-supplied : (s : Side) (at : Context) (ids : ℕ) (given : Given) → IsStaged file limits at ids given
      → HaveValues ids given (side_arguments s) → Gives file limits ids given (side_unfolds file s at)
  unfolding side_unfolds
  side-supplied (side.Arg a) at ids given has p = pure-supplied file limits HasSome ids given a p.0
  side-supplied (side.Expr k) at ids given has p = numbered-supplied (numbered file at k) k at ids given has
  side-supplied (side.Tail k m a) at ids given has p =
      left_numbered-supplied (numbered file at k) k m a at ids given has p.0
