-- What stands in a draft where nodes were made, and the nodes of each form of expression by the parts that code has.
use Rattle.std.specs.Prelude.{◌≡◌, ℕ, suc, ◌+◌, List, [], ◌∷◌, ◌++◌, map, option_map, Option, Some, None, true, false, if◌then◌else◌}
use Rattle.pyd_value.specs.declared.value.Value.{Bool as Truth}
use Rattle.pyd_value.specs.declared.operator.BinOp.{BinOp}
use Rattle.pyd_value.specs.declared.operator.CmpOp.{CmpOp}
use Rattle.pyd_value.specs.declared.operator.UnOp.{UnOp}
use Rattle.pyd_value.specs.declared.operator.Builtin.{Builtin}
use Rattle.pyd_tree.specs.declared.expression.Expr.{Expr}
use Rattle.pyd_tree.specs.declared.expression.Expr.TheOpen.{Expr-F, Suffix-F}
use Rattle.pyd_tree.specs.declared.expression.Suffix.{Suffix}
use Rattle.pyd_tree.specs.declared.file.File.{File}
use Rattle.pyd_names.specs.Binding.{function}
use Rattle.pyd_scope.specs.declared.routine.Routine.{Routine}
use Rattle.pyd_ir.specs.declared.arg.Arg.{Arg}
use Rattle.pyd_ir.specs.declared.arg.Arg.TheVariants.{Known, Unbound}
use Rattle.pyd_ir.specs.declared.code.OpCode.TheVariants as code
use Rattle.pyd_ir.specs.declared.node.Node.{Node}
use Rattle.pyd_ir.specs.declared.work.Side.TheVariants as side
use Rattle.pyd_ir.specs.declared.work.Work.{Work}
use Rattle.pyd_ir.specs.declared.work.Work.TheVariants.{Op, Call, Run, Enter}
use Rattle.pyd_translate.specs.declared.choices.Junction.{Junction}
use Rattle.pyd_translate.specs.declared.choices.Junction.TheVariants.{And, Or}
use Rattle.pyd_translate.specs.declared.context.Context.{Context as CodeContext}
use Rattle.pyd_translate.specs.declared.draft.Draft.{Draft}
use Rattle.pyd_translate.specs.Making.{Piece, Making, Context, emit, emit_value, ◌>>>◌}
use Rattle.pyd_translate.specs.Expressions.{Unfolded, UnfoldedSuffix, unfolded, unfolded_suffix, build_parts, suffix_step, expression_unfolds, each, operator, choose, members_from, conjunction, disjunction, builtin_work, function_call, value_call, name_operand}
use Rattle.pyd_translate.specs.Sides as sides

-- what nodes are made in, as the definitions have it
abbrev pub context_of : CodeContext → Context
context_of at = record { line = at.line; depth = at.depth; routine = at.routine; env = at.env.now }

-- the file whose nodes are made
abbrev pub file_of : CodeContext → File
file_of at = at.program.now.file

-- nodes that were made before, and then a piece
unfoldable pub onto : {A : Type 0} → List Node → Piece A → List Node × Option A × ℕ
onto before p = (before ++ p.nodes, p.got, p.next)

-- a draft has become what was there before with the nodes of a making, of which this came
abbrev pub Makes : {A : Type 0} → Draft → Making A → Draft → Option A → Type 0
Makes before u after got = onto before.nodes (u before.next) ≡ (after.nodes, got, after.next)

-- an argument that may not be there
abbrev pub or_unbound : Option Arg → Arg
or_unbound (Some a) = a
or_unbound None = Unbound

-- right operands of operators
abbrev pub unfolded_operands : File → List (BinOp × Expr) → List (BinOp × Unfolded)
unfolded_operands file links = map (λ l. (l.0, unfolded file l.1)) links

-- right operands of comparisons
abbrev pub unfolded_links : File → List (CmpOp × Expr) → List (CmpOp × Unfolded)
unfolded_links file links = map (λ l. (l.0, unfolded file l.1)) links

-- the nodes of one level of an expression, by its own number and that of its first part
abbrev pub level : CodeContext → Expr-F Unfolded UnfoldedSuffix → ℕ → ℕ → Making Arg
level at e whole k = build_parts (file_of at) e whole k (context_of at)

-- the nodes of a tuple
abbrev pub tuple : CodeContext → List Expr → ℕ → Making Arg
tuple at es k = level at (Expr-F.Tuple (map (unfolded (file_of at)) es)) 0 k

-- an operator before its operand
abbrev pub unary : CodeContext → UnOp → Expr → ℕ → Making Arg
unary at op e k = level at (Expr-F.Unary op (unfolded (file_of at) e)) 0 k

-- operators of one level
abbrev pub chain : CodeContext → Expr → List (BinOp × Expr) → ℕ → Making Arg
chain at first links k =
    level at (Expr-F.Chain (unfolded (file_of at) first) (unfolded_operands (file_of at) links)) 0 k

-- a right operand, and then the operator
abbrev pub operation : CodeContext → BinOp → Arg → Expr → ℕ → Making Arg
operation at op a e k =
    expression_unfolds (file_of at) e k (context_of at)
    >>> (λ b. operator (code.Binary op) (a ∷ b ∷ []) (context_of at))

-- a power
abbrev pub power : CodeContext → Expr → Expr → ℕ → Making Arg
power at base exponent k =
    level at (Expr-F.Power (unfolded (file_of at) base) (unfolded (file_of at) exponent)) 0 k

-- a comparison
abbrev pub comparison : CodeContext → Expr → List (CmpOp × Expr) → ℕ → ℕ → Making Arg
comparison at first links whole k =
    level at (Expr-F.Compare (unfolded (file_of at) first) (unfolded_links (file_of at) links)) whole k

-- a conditional expression, by its test and its first side
abbrev pub conditional : CodeContext → Expr → Expr → ℕ → Making Arg
conditional at test first k =
    (unfolded (file_of at) test).build (k + (unfolded (file_of at) first).count) (context_of at)
    >>> (λ t. choose (context_of at) t (side.Expr k)
    (side.Expr (k + (unfolded (file_of at) first).count + (unfolded (file_of at) test).count)))

-- an expression with brackets behind it
abbrev pub suffixed : CodeContext → Expr → List Suffix → ℕ → Making Arg
suffixed at base ss k =
    level at (Expr-F.Suffixed (unfolded (file_of at) base) (map (unfolded_suffix (file_of at)) ss)) 0 k

-- an index behind a value
abbrev pub indexed : CodeContext → Arg → Expr → ℕ → Making Arg
indexed at a e k =
    (suffix_step (Suffix-F.Index (unfolded (file_of at) e))).build k (context_of at) a

-- a slice behind a value
abbrev pub sliced : CodeContext → Arg → Option Expr → Option Expr → ℕ → Making Arg
sliced at a low high k =
    (suffix_step (Suffix-F.Slice (option_map (unfolded (file_of at)) low)
    (option_map (unfolded (file_of at)) high))).build k (context_of at) a

-- what an `and` or `or` gives of no members
abbrev pub of_none : Junction → Arg
of_none And = Known (Truth true)
of_none Or = Known (Truth false)

-- an `and` or `or` from a member on
abbrev pub members : Junction → ℕ → ℕ → List Unfolded → ℕ → Context → Making Arg
members And = conjunction
members Or = disjunction

-- the choice behind a member
abbrev pub member_chosen : Junction → ℕ → ℕ → Arg → Context → Making Arg
member_chosen And whole m v at = choose at v (members_from whole m) (side.Arg v)
member_chosen Or whole m v at = choose at v (side.Arg v) (members_from whole m)

-- the node of a link of a comparison
abbrev pub link_emitted : CmpOp → Arg → Arg → Context → Making ℕ
link_emitted op a b at = emit at (Op (code.Compare op) (a ∷ b ∷ []))

-- the last link of a comparison
abbrev pub link_compared : CmpOp → Arg → Arg → Context → Making Arg
link_compared op a b at = operator (code.Compare op) (a ∷ b ∷ []) at

-- a link, and the choice behind it
abbrev pub link_chosen : CmpOp → Arg → Arg → ℕ → ℕ → Context → Making Arg
link_chosen op a b whole m at =
    operator (code.Compare op) (a ∷ b ∷ []) at
    >>> (λ v. choose at v (side.Tail whole m b) (side.Arg v))

-- a call
abbrev pub call : CodeContext → List ℕ → List Expr → ℕ → Making Arg
call at name args k = level at (Expr-F.Call name (map (unfolded (file_of at)) args)) 0 k

-- the nodes of arguments
abbrev pub arguments : CodeContext → List Expr → ℕ → Making (List Arg)
arguments at args k = each (map (unfolded (file_of at)) args) k (context_of at)

-- a call of a function
abbrev pub call_of_function : CodeContext → ℕ → List Expr → ℕ → Making Arg
call_of_function at number args k =
    arguments at args k >>> function_call (function (file_of at) number) number (context_of at)

-- a call of a builtin function
abbrev pub call_of_builtin : CodeContext → Builtin → List Expr → ℕ → Making Arg
call_of_builtin at b args k =
    arguments at args k >>> (λ vs. emit_value (context_of at) (builtin_work b vs))

-- a call of a value
abbrev pub call_of_value : CodeContext → List ℕ → List Expr → ℕ → Making Arg
call_of_value at name args k =
    value_call (context_of at) (name_operand (file_of at) name (context_of at)) (arguments at args k)

-- the node of a routine
abbrev pub routine_work : Routine → ℕ → List Arg → Work
routine_work r k args =
    if r.unfolded then Enter k args else if r.pure then Call k args else Run k args

-- an `and` or `or` from a member on
abbrev pub members_left : CodeContext → Junction → ℕ → ℕ → List Expr → Making Arg
members_left at junction whole m es =
    sides.members_left (file_of at) (members junction) whole m (map (unfolded (file_of at)) es)
    (suc whole) (context_of at)

-- a comparison from a link on, with its left operand
abbrev pub links_left : CodeContext → ℕ → ℕ → Arg → Expr → List (CmpOp × Expr) → Making Arg
links_left at whole m a first links =
    sides.links_left (file_of at) whole m (unfolded_links (file_of at) links)
    (suc whole + (unfolded (file_of at) first).count) (context_of at) a
