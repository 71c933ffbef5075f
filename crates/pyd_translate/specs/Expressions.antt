-- The nodes of expressions, in order of evaluation.
use Rattle.std.specs.Prelude.{ℕ, suc, ◌+◌, List, [], ◌∷◌, ◌++◌, map, length, nat_eq, codes, Bool, true, false, if◌then◌else◌, Option, Some, None, is_some}
use Rattle.pyd_value.specs.declared.value.Value.{Bool as Truth}
use Rattle.pyd_value.specs.declared.value.Value.TheVariants as value
use Rattle.pyd_value.specs.Size.{total}
use Rattle.pyd_value.specs.declared.fault.Kind.TheVariants.{NameError, TypeError}
use Rattle.pyd_value.specs.declared.operator.BinOp.{BinOp}
use Rattle.pyd_value.specs.declared.operator.BinOp.TheVariants.{Pow}
use Rattle.pyd_value.specs.declared.operator.CmpOp.{CmpOp}
use Rattle.pyd_value.specs.declared.operator.Builtin.{Builtin}
use Rattle.pyd_value.specs.declared.operator.Builtin.TheVariants as builtin
use Rattle.pyd_tree.specs.declared.expression.Expr.{Expr, fold-Expr}
use Rattle.pyd_tree.specs.declared.expression.Expr.TheOpen.{Expr-F, Suffix-F}
use Rattle.pyd_tree.specs.declared.expression.Suffix.{Suffix, fold-Suffix}
use Rattle.pyd_tree.specs.declared.file.File.{File}
use Rattle.pyd_tree.specs.declared.file.Func.{Func}
use Rattle.pyd_names.specs.Binding.{function, locals}
use Rattle.pyd_names.specs.Resolution.{Resolution, resolved}
use Rattle.pyd_names.specs.Resolution as resolution
use Rattle.pyd_scope.specs.Rules.{has_mark, is_functional}
use Rattle.pyd_ir.specs.declared.arg.Arg.{Arg}
use Rattle.pyd_ir.specs.declared.arg.Arg.TheVariants.{Known}
use Rattle.pyd_ir.specs.declared.code.OpCode.{OpCode}
use Rattle.pyd_ir.specs.declared.code.OpCode.TheVariants as code
use Rattle.pyd_ir.specs.declared.work.Side.{Side}
use Rattle.pyd_ir.specs.declared.work.Side.TheVariants as side
use Rattle.pyd_ir.specs.declared.work.Work.{Work}
use Rattle.pyd_ir.specs.declared.work.Work.TheVariants.{Op, Call, Print, Run, Pick, Enter}
use Rattle.pyd_translate.specs.Making.{Making, Context, pure, stop_by, emit_value, ◌>>>◌}
use Rattle.pyd_translate.specs.Slots.{arg_of, operand_as}

-- how many expressions there are in one, and its nodes by its number
pub record Unfolded : Type 0 where
  pub count : ℕ
  pub build : ℕ → Context → Making Arg

-- how many expressions there are in brackets, and their nodes by the number of the first and the value that they stand behind
pub record UnfoldedSuffix : Type 0 where
  pub count : ℕ
  pub build : ℕ → Context → Arg → Making Arg

-- how many there are in several
abbrev pub counts : List Unfolded → ℕ
counts es = total (map (λ e. e.count) es)

-- how many there are in the right operands of operators
abbrev pub operand_counts : {A : Type 0} → List (A × Unfolded) → ℕ
operand_counts links = total (map (λ l. l.1.count) links)

-- how many there are in what may be missing
abbrev pub maybe_count : Option Unfolded → ℕ
maybe_count None = 0
maybe_count (Some e) = e.count

-- an operator's node, and its value
abbrev pub operator : OpCode → List Arg → Context → Making Arg
operator op args at = emit_value at (Op op args)

-- each in turn, and then all their arguments
unfoldable pub each : List Unfolded → ℕ → Context → Making (List Arg)
each [] k at = pure []
each (e ∷ es) k at = e.build k at >>> (λ a. each es (k + e.count) at >>> (λ args. pure (a ∷ args)))

-- what may be missing, and its argument if it is there
abbrev pub bound : Option Unfolded → ℕ → Context → Making (List Arg)
bound None k at = pure []
bound (Some e) k at = e.build k at >>> (λ a. pure (a ∷ []))

-- operators of one level from the left, each on the value so far
unfoldable pub chained : List (BinOp × Unfolded) → ℕ → Context → Arg → Making Arg
chained [] k at a = pure a
chained (l ∷ links) k at a =
    l.1.build k at >>> (λ b. operator (code.Binary l.0) (a ∷ b ∷ []) at
    >>> (λ c. chained links (k + l.1.count) at c))

-- what stands in brackets behind a value, from the left
unfoldable pub suffixed : List UnfoldedSuffix → ℕ → Context → Arg → Making Arg
suffixed [] k at a = pure a
suffixed (s ∷ ss) k at a = s.build k at a >>> (λ v. suffixed ss (k + s.count) at v)

-- the first side where a value is true, else the second
abbrev pub choose : Context → Arg → Side → Side → Making Arg
choose at test first second = emit_value at (Pick test first second at.env)

-- what is left of an `and` or `or` from a member on
abbrev pub members_from : ℕ → ℕ → Side
members_from whole m = side.Tail whole m (Known value.None)

-- expression number `whole`, an `and`, from its member m on, which is expression number k
unfoldable pub conjunction : ℕ → ℕ → List Unfolded → ℕ → Context → Making Arg
conjunction whole m [] k at = pure (Known (Truth true))
conjunction whole m (e ∷ []) k at = e.build k at
conjunction whole m (e ∷ f ∷ es) k at =
    e.build k at >>> (λ v. choose at v (members_from whole (suc m)) (side.Arg v))

-- the same of an `or`
unfoldable pub disjunction : ℕ → ℕ → List Unfolded → ℕ → Context → Making Arg
disjunction whole m [] k at = pure (Known (Truth false))
disjunction whole m (e ∷ []) k at = e.build k at
disjunction whole m (e ∷ f ∷ es) k at =
    e.build k at >>> (λ v. choose at v (side.Arg v) (members_from whole (suc m)))

-- the same of a comparison from its link m on, with its left operand
unfoldable pub compared : ℕ → ℕ → List (CmpOp × Unfolded) → ℕ → Context → Arg → Making Arg
compared whole m [] k at a = pure (Known (Truth true))
compared whole m (l ∷ []) k at a =
    l.1.build k at >>> (λ b. operator (code.Compare l.0) (a ∷ b ∷ []) at)
compared whole m (l ∷ next ∷ links) k at a =
    l.1.build k at >>> (λ b. operator (code.Compare l.0) (a ∷ b ∷ []) at
    >>> (λ v. choose at v (side.Tail whole (suc m) b) (side.Arg v)))

-- the node of a builtin function
abbrev pub builtin_work : Builtin → List Arg → Work
builtin_work builtin.Print args = Print args
builtin_work builtin.Len args = Op code.Len args
builtin_work builtin.Abs args = Op code.Abs args
builtin_work builtin.Min args = Op code.Min args
builtin_work builtin.Max args = Op code.Max args
builtin_work builtin.Sum args = Op code.Sum args
builtin_work builtin.Str args = Op code.Str args
builtin_work builtin.Repr args = Op code.Repr args
builtin_work builtin.Int args = Op code.Int args
builtin_work builtin.Bool args = Op code.Bool args
builtin_work builtin.Range args = Op code.Range args

-- whether a function is `@schedule`
abbrev pub is_unfolded : Func → Bool
is_unfolded f = has_mark (codes "schedule") f

-- the node of function number k: an unfolded one is entered, a pure one is called, and any other runs
abbrev pub function_work : Func → ℕ → List Arg → Work
function_work f k args =
    if is_unfolded f then Enter k args else if is_functional f then Call k args else Run k args

-- a call of a function that is there, with as many arguments as it has parameters
abbrev pub function_call : Option Func → ℕ → Context → List Arg → Making Arg
function_call None k at args = stop_by at NameError
function_call (Some f) k at args =
    if nat_eq (length args) (length f.params) then emit_value at (function_work f k args)
    else stop_by at TypeError

-- a call of a value, which raises TypeError behind the arguments
abbrev pub value_call : Context → Making Arg → Making (List Arg) → Making Arg
value_call at callee args = callee >>> (λ v. args >>> (λ vs. stop_by at TypeError))

-- how many expressions there are in the parts of one
abbrev pub part_counts : Expr-F Unfolded UnfoldedSuffix → ℕ
part_counts (Expr-F.Lit v) = 0
part_counts (Expr-F.Name name) = 0
part_counts (Expr-F.Tuple members) = counts members
part_counts (Expr-F.Unary op e) = e.count
part_counts (Expr-F.Chain first links) = first.count + operand_counts links
part_counts (Expr-F.Power base exponent) = base.count + exponent.count
part_counts (Expr-F.And members) = counts members
part_counts (Expr-F.Or members) = counts members
part_counts (Expr-F.Compare first links) = first.count + operand_counts links
part_counts (Expr-F.If test first second) = first.count + (test.count + second.count)
part_counts (Expr-F.Call name args) = counts args
part_counts (Expr-F.Suffixed base suffixes) = base.count + total (map (λ s. s.count) suffixes)

-- one level of what stands in brackets; of a slice the bounds that are there follow the base
abbrev pub suffix_step : Suffix-F Unfolded UnfoldedSuffix → UnfoldedSuffix
suffix_step (Suffix-F.Index e) = record {
  count = e.count;
  build = λ k at a. e.build k at >>> (λ i. operator code.Index (a ∷ i ∷ []) at);
}
suffix_step (Suffix-F.Slice low high) = record {
  count = maybe_count low + maybe_count high;
  build = λ k at a. bound low k at >>> (λ l. bound high (k + maybe_count low) at
      >>> (λ h. operator (code.Slice (is_some low) (is_some high)) (a ∷ l ++ h) at));
}

module _ (file : File) where
  -- what a name stands for where nodes are made
  abbrev pub resolution_at : Context → List ℕ → Resolution
  resolution_at at name = resolved file at.routine name

  -- a name as an operand
  abbrev pub name_operand : List ℕ → Context → Making Arg
  name_operand name at =
      operand_as (resolution_at at name) at (arg_of (locals file at.routine) at.env name)

  -- a call of a name that stands for this: the callee comes first, and then the arguments
  abbrev pub call_as : Resolution → Context → Making Arg → Making (List Arg) → Making Arg
  call_as (resolution.Function k) at callee args = args >>> function_call (function file k) k at
  call_as (resolution.Builtin b) at callee args = args >>> (λ vs. emit_value at (builtin_work b vs))
  call_as resolution.Local at callee args = value_call at callee args
  call_as (resolution.Constant v) at callee args = value_call at callee args
  call_as resolution.Imported at callee args = value_call at callee args
  call_as resolution.Variable at callee args = value_call at callee args
  call_as resolution.Unbound at callee args = value_call at callee args

  -- the nodes of one level of an expression, by the number of its first part
  abbrev pub build_parts : Expr-F Unfolded UnfoldedSuffix → ℕ → ℕ → Context → Making Arg
  build_parts (Expr-F.Lit v) whole k at = pure (Known v)
  build_parts (Expr-F.Name name) whole k at = name_operand name at
  build_parts (Expr-F.Tuple members) whole k at =
      each members k at >>> (λ args. operator code.Tuple args at)
  build_parts (Expr-F.Unary op e) whole k at =
      e.build k at >>> (λ a. operator (code.Unary op) (a ∷ []) at)
  build_parts (Expr-F.Chain first links) whole k at =
      first.build k at >>> (λ a. chained links (k + first.count) at a)
  build_parts (Expr-F.Power base exponent) whole k at =
      base.build k at >>> (λ a. exponent.build (k + base.count) at
      >>> (λ b. operator (code.Binary Pow) (a ∷ b ∷ []) at))
  build_parts (Expr-F.And members) whole k at = conjunction whole 0 members k at
  build_parts (Expr-F.Or members) whole k at = disjunction whole 0 members k at
  build_parts (Expr-F.Compare first links) whole k at =
      first.build k at >>> (λ a. compared whole 0 links (k + first.count) at a)
  build_parts (Expr-F.If test first second) whole k at =
      test.build (k + first.count) at
      >>> (λ t. choose at t (side.Expr k) (side.Expr (k + first.count + test.count)))
  build_parts (Expr-F.Call name args) whole k at =
      call_as (resolution_at at name) at (name_operand name at) (each args k at)
  build_parts (Expr-F.Suffixed base suffixes) whole k at =
      base.build k at >>> (λ a. suffixed suffixes (k + base.count) at a)

  -- one level of an expression, whose parts have the numbers behind its own
  abbrev pub unfold_step : Expr-F Unfolded UnfoldedSuffix → Unfolded
  unfold_step e = record { count = suc (part_counts e); build = λ k at. build_parts e k (suc k) at }

  -- an expression
  unfoldable pub unfolded : Expr → Unfolded
  unfolded = fold-Expr Unfolded UnfoldedSuffix unfold_step suffix_step

  -- what stands in brackets
  unfoldable pub unfolded_suffix : Suffix → UnfoldedSuffix
  unfolded_suffix = fold-Suffix Unfolded UnfoldedSuffix unfold_step suffix_step

  -- the nodes of expression number k
  abbrev pub expression_unfolds : Expr → ℕ → Context → Making Arg
  expression_unfolds e k at = (unfolded e).build k at
