-- The nodes of each expression, and of each side of a choice, are numbered in order.
use Rattle.std.proofs.Common.{◌≤◌, ℕ, suc, ◌+◌, List, [], ◌∷◌, ◌++◌, map, take, drop, Option, Some, None, sym, subst, arith}
use Rattle.std.specs.Prelude.{zero, is_some}
use Rattle.pyd_value.specs.declared.fault.Fault.TheVariants.{Raised}
use Rattle.pyd_value.specs.declared.fault.Kind.TheVariants.{NameError}
use Rattle.pyd_value.specs.declared.operator.BinOp.TheVariants.{Pow}
use Rattle.pyd_value.specs.declared.operator.CmpOp.{CmpOp}
use Rattle.pyd_tree.specs.declared.expression.Expr.{Expr, out-Expr}
use Rattle.pyd_tree.specs.declared.expression.Expr.TheOpen.{Expr-F, Suffix-F}
use Rattle.pyd_tree.specs.declared.expression.Suffix.{Suffix, out-Suffix}
use Rattle.pyd_tree.specs.declared.file.File.{File}
use Rattle.pyd_names.specs.Binding.{function, locals}
use Rattle.pyd_names.specs.Resolution.{Resolution}
use Rattle.pyd_names.specs.Resolution as resolution
use Rattle.pyd_ir.specs.declared.arg.Arg.{Arg}
use Rattle.pyd_ir.specs.declared.arg.Arg.TheVariants.{Known}
use Rattle.pyd_ir.specs.declared.code.OpCode.TheVariants as code
use Rattle.pyd_ir.specs.declared.work.Side.{Side}
use Rattle.pyd_ir.specs.declared.work.Side.TheVariants as side
use Rattle.pyd_ir.specs.Arguments.{side_arguments}
use Rattle.pyd_translate.specs.Making.{Making, Context, emit_value, ◌>>>◌}
use Rattle.pyd_translate.specs.Slots.{arg_of}
use Rattle.pyd_translate.specs.Expressions.{Unfolded, counts, operand_counts, operator, each, bound, chained, suffixed, choose, compared, builtin_work, function_call, maybe_count, suffix_step, resolution_at, name_operand, call_as, build_parts, unfolded, unfolded_suffix}
use Rattle.pyd_translate.specs.Sides.{unfolded_links, left_at, left_numbered, unfold_numbered, numbered, side_unfolds}
use Rattle.pyd_translate.specs.Naming.{Naming}
use Rattle.pyd_translate.proofs.Induction.{Each, Maybe, InBrackets, InParts, by_parts}
use Rattle.pyd_translate.proofs.Numbered.{unfolded_level, unfolded_brackets, unfolded_out, unfolded_suffix_out}
use Rattle.pyd_translate.proofs.Ordering.{IsIn, AreIn, in_up, are_in_up, are_below_both, Orders, then_orders, pure_below, value_orders, stop_orders}
use Rattle.pyd_translate.proofs.ExpressionOrder.{IsOrdered, IsSuffixOrdered, slot_below, operator_orders, each_orders, bound_orders, chained_orders, suffixed_orders, choose_orders, conjunction_orders, disjunction_orders, compared_orders, builtin_arguments, function_orders, value_call_orders, operand_as_orders}

-- P of each image, where P of an image holds of each
pub each_map : {A B : Type 0} (P : B → Type 0) (f : A → B) (xs : List A) → Each (λ x. P (f x)) xs
    → Each P (map f xs)
each_map P f [] p = tt
each_map P f (x ∷ xs) p = (p.0, each_map P f xs p.1)

-- P of each right operand
pub each_operand_map : {A B C : Type 0} (P : C → Type 0) (f : B → C) (links : List (A × B))
    → Each (λ (l : A × B). P (f l.1)) links
    → Each (λ (l : A × C). P l.1) (map (λ (l : A × B). (l.0, f l.1)) links)
each_operand_map P f [] p = tt
each_operand_map P f (l ∷ links) p = (p.0, each_operand_map P f links p.1)

-- P of each from an item on
pub each_drop : {A : Type 0} (P : A → Type 0) (n : ℕ) (xs : List A) → Each P xs → Each P (drop n xs)
each_drop P zero xs p = p
each_drop P (suc n) [] p = tt
each_drop P (suc n) (x ∷ xs) p = each_drop P n xs p.1

module _ (naming : Naming) where
  module _ (file : File) where
    -- a name
    pub name_orders : (name : List ℕ) (at : Context) (least : ℕ) → AreIn naming least at.env
        → Orders naming (IsIn naming) least (name_operand file name at)
    name_orders name at least env =
        operand_as_orders naming (resolution_at file at name) at (arg_of (locals file at.routine) at.env name)
        least (slot_below naming least (locals file at.routine) at.env name env)

    -- a call of a name of each kind
    call_orders : (r : Resolution) (at : Context) (callee : Making Arg) (args : Making (List Arg))
        (least : ℕ) → Orders naming (IsIn naming) least callee
        → ((next : ℕ) → least ≤ next → Orders naming (AreIn naming) next args)
        → Orders naming (IsIn naming) least (call_as file r at callee args)
    call_orders resolution.Local at callee args least p q =
        value_call_orders naming at callee args least p q
    call_orders (resolution.Constant v) at callee args least p q =
        value_call_orders naming at callee args least p q
    call_orders (resolution.Function k) at callee args least p q =
        then_orders naming (AreIn naming) (IsIn naming) least args (function_call (function file k) k at)
        (q least (omega arith))
        (λ vs next le bs. function_orders naming (function file k) k at vs next bs)
    call_orders (resolution.Builtin b) at callee args least p q =
        then_orders naming (AreIn naming) (IsIn naming) least args (λ vs. emit_value at (builtin_work b vs))
        (q least (omega arith))
        (λ vs next le bs. value_orders naming next at (builtin_work b vs)
        (subst (AreIn naming next) (sym (builtin_arguments naming b vs)) bs))
    call_orders resolution.Imported at callee args least p q =
        value_call_orders naming at callee args least p q
    call_orders resolution.Variable at callee args least p q =
        value_call_orders naming at callee args least p q
    call_orders resolution.Unbound at callee args least p q =
        value_call_orders naming at callee args least p q

    -- an expression
    abbrev OfExpression : Expr → Type 0
    OfExpression e = (IsOrdered naming) (unfolded file e)

    -- the bounds of a slice
    slice_orders : (low high : Option Unfolded) → Maybe (IsOrdered naming) low → Maybe (IsOrdered naming) high
        → IsSuffixOrdered naming (suffix_step (Suffix-F.Slice low high))
    slice_orders low high p q k at a least env is =
        then_orders naming (AreIn naming) (IsIn naming) least (bound low k at)
        (λ l. bound high (k + maybe_count low) at
        >>> (λ h. operator (code.Slice (is_some low) (is_some high)) (a ∷ l ++ h) at))
        (bound_orders naming low p k at least env)
        (λ l next le ls. then_orders naming (AreIn naming) (IsIn naming) next (bound high (k + maybe_count low) at)
        (λ h. operator (code.Slice (is_some low) (is_some high)) (a ∷ l ++ h) at)
        (bound_orders naming high q (k + maybe_count low) at next (are_in_up naming least next at.env le env))
        (λ h last more hs. operator_orders naming last (code.Slice (is_some low) (is_some high))
        (a ∷ l ++ h) at (
          in_up naming next last a more (in_up naming least next a le is),
          are_below_both naming last l h (are_in_up naming next last l more ls) hs,
        )))

    -- one level of brackets
    brackets_orders : (y : Suffix-F Expr Suffix) → InBrackets OfExpression y
        → IsSuffixOrdered naming (suffix_step (unfolded_brackets file y))
    brackets_orders (Suffix-F.Index index) p k at a least env is =
        then_orders naming (IsIn naming) (IsIn naming) least ((unfolded file index).build k at)
        (λ i. operator code.Index (a ∷ i ∷ []) at)
        (p k at least env)
        (λ i next le low. operator_orders naming next code.Index (a ∷ i ∷ []) at
        (in_up naming least next a le is, (low, tt)))
    brackets_orders (Suffix-F.Slice None None) p k at a least env is =
        slice_orders None None tt tt k at a least env is
    brackets_orders (Suffix-F.Slice None (Some high)) p k at a least env is =
        slice_orders None (Some (unfolded file high)) tt p.1 k at a least env is
    brackets_orders (Suffix-F.Slice (Some low) None) p k at a least env is =
        slice_orders (Some (unfolded file low)) None p.0 tt k at a least env is
    brackets_orders (Suffix-F.Slice (Some low) (Some high)) p k at a least env is =
        slice_orders (Some (unfolded file low)) (Some (unfolded file high)) p.0 p.1 k at a least env
        is

    -- brackets
    suffix_orders : (s : Suffix) → InBrackets OfExpression (out-Suffix s)
        → IsSuffixOrdered naming (unfolded_suffix file s)
    suffix_orders s p =
        subst (IsSuffixOrdered naming) (sym (unfolded_suffix_out file s)) (brackets_orders (out-Suffix s) p)

    -- all brackets
    suffixes_order : (ss : List Suffix) → Each (λ s. InBrackets OfExpression (out-Suffix s)) ss
        → Each (IsSuffixOrdered naming) (map (unfolded_suffix file) ss)
    suffixes_order [] p = tt
    suffixes_order (s ∷ ss) p = (suffix_orders s p.0, suffixes_order ss p.1)

    -- one level of an expression
    level_orders : (y : Expr-F Expr Suffix) → InParts OfExpression y → (whole k : ℕ) (at : Context)
        (least : ℕ) → AreIn naming least at.env
        → Orders naming (IsIn naming) least (build_parts file (unfolded_level file y) whole k at)
    level_orders (Expr-F.Lit v) p whole k at least env = pure_below naming least (Known v) tt
    level_orders (Expr-F.Name name) p whole k at least env = name_orders name at least env
    level_orders (Expr-F.Tuple members) p whole k at least env =
        then_orders naming (AreIn naming) (IsIn naming) least (each (map (unfolded file) members) k at)
        (λ args. operator code.Tuple args at)
        (each_orders naming (map (unfolded file) members)
        (each_map (IsOrdered naming) (unfolded file) members p) k at least env)
        (λ args next le bs. operator_orders naming next code.Tuple args at bs)
    level_orders (Expr-F.Unary op e) p whole k at least env =
        then_orders naming (IsIn naming) (IsIn naming) least ((unfolded file e).build k at)
        (λ a. operator (code.Unary op) (a ∷ []) at)
        (p k at least env)
        (λ a next le low. operator_orders naming next (code.Unary op) (a ∷ []) at (low, tt))
    level_orders (Expr-F.Chain first links) p whole k at least env =
        then_orders naming (IsIn naming) (IsIn naming) least ((unfolded file first).build k at)
        (λ a. chained (map (λ l. (l.0, unfolded file l.1)) links) (k + (unfolded file first).count)
        at a)
        (p.0 k at least env)
        (λ a next le low. chained_orders naming (map (λ l. (l.0, unfolded file l.1)) links)
        (each_operand_map (IsOrdered naming) (unfolded file) links p.1) (k + (unfolded file first).count) at a
        next (are_in_up naming least next at.env le env) low)
    level_orders (Expr-F.Power base exponent) p whole k at least env =
        then_orders naming (IsIn naming) (IsIn naming) least ((unfolded file base).build k at)
        (λ a. (unfolded file exponent).build (k + (unfolded file base).count) at
        >>> (λ b. operator (code.Binary Pow) (a ∷ b ∷ []) at))
        (p.0 k at least env)
        (λ a next le low. then_orders naming (IsIn naming) (IsIn naming) next
        ((unfolded file exponent).build (k + (unfolded file base).count) at)
        (λ b. operator (code.Binary Pow) (a ∷ b ∷ []) at)
        (p.1 (k + (unfolded file base).count) at next (are_in_up naming least next at.env le env))
        (λ b last more r. operator_orders naming last (code.Binary Pow) (a ∷ b ∷ []) at
        (in_up naming next last a more low, (r, tt))))
    level_orders (Expr-F.And members) p whole k at least env =
        conjunction_orders naming whole 0 (map (unfolded file) members)
        (each_map (IsOrdered naming) (unfolded file) members p) k at least env
    level_orders (Expr-F.Or members) p whole k at least env =
        disjunction_orders naming whole 0 (map (unfolded file) members)
        (each_map (IsOrdered naming) (unfolded file) members p) k at least env
    level_orders (Expr-F.Compare first links) p whole k at least env =
        then_orders naming (IsIn naming) (IsIn naming) least ((unfolded file first).build k at)
        (λ a. compared whole 0 (map (λ l. (l.0, unfolded file l.1)) links)
        (k + (unfolded file first).count) at a)
        (p.0 k at least env)
        (λ a next le low. compared_orders naming whole 0 (map (λ l. (l.0, unfolded file l.1)) links)
        (each_operand_map (IsOrdered naming) (unfolded file) links p.1) (k + (unfolded file first).count) at a
        next (are_in_up naming least next at.env le env) low)
    level_orders (Expr-F.If test first second) p whole k at least env =
        then_orders naming (IsIn naming) (IsIn naming) least
        ((unfolded file test).build (k + (unfolded file first).count) at)
        (λ t. choose at t (side.Expr k)
        (side.Expr (k + (unfolded file first).count + (unfolded file test).count)))
        (p.0 (k + (unfolded file first).count) at least env)
        (λ t next le low. choose_orders naming next at t (side.Expr k)
        (side.Expr (k + (unfolded file first).count + (unfolded file test).count))
        (are_in_up naming least next at.env le env) low tt tt)
    level_orders (Expr-F.Call name args) p whole k at least env =
        call_orders (resolution_at file at name) at (name_operand file name at)
        (each (map (unfolded file) args) k at) least (name_orders name at least env)
        (λ next le. each_orders naming (map (unfolded file) args)
        (each_map (IsOrdered naming) (unfolded file) args p) k at next (are_in_up naming least next at.env le env))
    level_orders (Expr-F.Suffixed base suffixes) p whole k at least env =
        then_orders naming (IsIn naming) (IsIn naming) least ((unfolded file base).build k at)
        (λ a. suffixed (map (unfolded_suffix file) suffixes) (k + (unfolded file base).count) at a)
        (p.0 k at least env)
        (λ a next le low. suffixed_orders naming (map (unfolded_suffix file) suffixes)
        (suffixes_order suffixes p.1) (k + (unfolded file base).count) at a next
        (are_in_up naming least next at.env le env) low)

    -- the nodes of each expression are in order
    pub expression_orders : (e : Expr) → IsOrdered naming (unfolded file e)
    expression_orders =
        by_parts OfExpression (λ e p. subst (IsOrdered naming) (sym (unfolded_out file e))
        (λ k at least env. level_orders (out-Expr e) p k (suc k) at least env))

    -- of several expressions
    members_order : (es : List Expr) → Each (IsOrdered naming) (map (unfolded file) es)
    members_order [] = tt
    members_order (e ∷ es) = (expression_orders e, members_order es)

    -- of right operands
    links_order : (links : List (CmpOp × Expr)) → Each (λ l. (IsOrdered naming) l.1) (unfolded_links file links)
    links_order [] = tt
    links_order (l ∷ links) = (expression_orders l.1, links_order links)

    -- what is left of an expression, by its first level
    left_orders : (y : Expr-F Expr Suffix) (whole m : ℕ) (a : Arg) (at : Context) (least : ℕ)
        → AreIn naming least at.env → IsIn naming least a
        → Orders naming (IsIn naming) least (left_at file y whole m a at)
    left_orders (Expr-F.And members) whole m a at least env low =
        conjunction_orders naming whole m (drop m (map (unfolded file) members))
        (each_drop (IsOrdered naming) m (map (unfolded file) members) (members_order members))
        (suc whole + counts (take m (map (unfolded file) members))) at least env
    left_orders (Expr-F.Or members) whole m a at least env low =
        disjunction_orders naming whole m (drop m (map (unfolded file) members))
        (each_drop (IsOrdered naming) m (map (unfolded file) members) (members_order members))
        (suc whole + counts (take m (map (unfolded file) members))) at least env
    left_orders (Expr-F.Compare first links) whole m a at least env low =
        compared_orders naming whole m (drop m (unfolded_links file links))
        (each_drop (λ l. (IsOrdered naming) l.1) m (unfolded_links file links) (links_order links))
        (suc whole + (unfolded file first).count
        + operand_counts (take m (unfolded_links file links))) at a least env low
    left_orders (Expr-F.Lit v) whole m a at least env low =
        stop_orders naming (IsIn naming) least at (Raised NameError at.line)
    left_orders (Expr-F.Name name) whole m a at least env low =
        stop_orders naming (IsIn naming) least at (Raised NameError at.line)
    left_orders (Expr-F.Tuple members) whole m a at least env low =
        stop_orders naming (IsIn naming) least at (Raised NameError at.line)
    left_orders (Expr-F.Unary op e) whole m a at least env low =
        stop_orders naming (IsIn naming) least at (Raised NameError at.line)
    left_orders (Expr-F.Chain first links) whole m a at least env low =
        stop_orders naming (IsIn naming) least at (Raised NameError at.line)
    left_orders (Expr-F.Power base exponent) whole m a at least env low =
        stop_orders naming (IsIn naming) least at (Raised NameError at.line)
    left_orders (Expr-F.If test first second) whole m a at least env low =
        stop_orders naming (IsIn naming) least at (Raised NameError at.line)
    left_orders (Expr-F.Call name args) whole m a at least env low =
        stop_orders naming (IsIn naming) least at (Raised NameError at.line)
    left_orders (Expr-F.Suffixed base suffixes) whole m a at least env low =
        stop_orders naming (IsIn naming) least at (Raised NameError at.line)

    -- an expression that a number may name
    numbered_orders : (e : Option Expr) (k : ℕ) (at : Context) (least : ℕ) → AreIn naming least at.env
        → Orders naming (IsIn naming) least (unfold_numbered file e k at)
    numbered_orders None k at least env = stop_orders naming (IsIn naming) least at (Raised NameError at.line)
    numbered_orders (Some e) k at least env = expression_orders e k at least env

    -- what is left of one that a number may name
    left_numbered_orders : (e : Option Expr) (k m : ℕ) (a : Arg) (at : Context) (least : ℕ)
        → AreIn naming least at.env → IsIn naming least a
        → Orders naming (IsIn naming) least (left_numbered file e k m a at)
    left_numbered_orders None k m a at least env low =
        stop_orders naming (IsIn naming) least at (Raised NameError at.line)
    left_numbered_orders (Some e) k m a at least env low =
        left_orders (out-Expr e) k m a at least env low

    -- each side of a choice
    pub side_orders : (s : Side) (at : Context) (least : ℕ) → AreIn naming least at.env
        → AreIn naming least (side_arguments s) → Orders naming (IsIn naming) least (side_unfolds file s at)
    unfolding side_unfolds
    side_orders (side.Arg a) at least env p = pure_below naming least a p.0
    side_orders (side.Expr k) at least env p = numbered_orders (numbered file at k) k at least env
    side_orders (side.Tail k m a) at least env p =
        left_numbered_orders (numbered file at k) k m a at least env p.0
