-- What the definitions say of each construct, and the rules by which a name is resolved, to be read aloud.
use Rattle.std.specs.Prelude.{◌≡◌, ◌≤◌, ℕ, ◌+◌, length, pos, ◌-ℤ◌, List, [], ◌∷◌, ◌++◌, map, count_by, true, false, ◌&&◌, Option, Some, None, All}
use Rattle.std.specs.List.{filter_map, flat_map, list_all}
use Rattle.pyd_value.specs.declared.value.Value.{Value, Int}
use Rattle.pyd_value.specs.Size.{total}
use Rattle.pyd_value.specs.declared.operator.BinOp.{BinOp}
use Rattle.pyd_value.specs.declared.operator.Builtin.{Builtin as BuiltinFunction}
use Rattle.pyd_value.specs.declared.operator.CmpOp.{CmpOp}
use Rattle.pyd_value.specs.declared.operator.UnOp.{UnOp}
use Rattle.pyd_value.specs.declared.operator.UnOp.TheVariants.{Neg, Pos, Not}
use Rattle.pyd_tree.specs.declared.expression.Expr.{Expr}
use Rattle.pyd_tree.specs.declared.expression.Expr.TheVariants as expression
use Rattle.pyd_tree.specs.declared.expression.Suffix.{Suffix}
use Rattle.pyd_tree.specs.declared.expression.Suffix.TheVariants as suffix
use Rattle.pyd_tree.specs.declared.statement.Targets.{Targets}
use Rattle.pyd_tree.specs.declared.statement.Block.{Block, out-Block}
use Rattle.pyd_tree.specs.declared.statement.Arm.{Arm, out-Arm}
use Rattle.pyd_tree.specs.declared.statement.Stmt.{Stmt}
use Rattle.pyd_tree.specs.declared.statement.What.TheVariants as what
use Rattle.pyd_tree.specs.declared.file.File.{File}
use Rattle.pyd_names.specs.declared.name_use.Manner.{Manner}
use Rattle.pyd_names.specs.declared.name_use.Manner.TheVariants.{Read, Iterated}
use Rattle.pyd_names.specs.Literal.{literal, value_in, negated, form_of, values_in, tuple_of}
use Rattle.pyd_names.specs.Binding as binding
use Rattle.pyd_names.specs.Resolution.{Resolution, resolved, constant_named, function_named, builtin_named}
use Rattle.pyd_names.specs.Resolution as resolution
use Rattle.pyd_names.specs.Uses as uses
use Rattle.pyd_names.specs.WellFormed.{expression_parts, suffix_parts, maybe_parts, what_parts, arm_parts, block_parts, statement_parts, otherwise_parts, is_token_value, some_are, two_are, formed_targets, is_formed_expression, is_formed_suffix, is_formed_maybe, is_formed_what, is_formed_arm, is_formed_block, is_formed_statement, is_formed_otherwise}

-- what is a literal, and its value
pub record LiteralByKind : Type 0 where
  pub token : (v : Value) → literal (expression.Lit v) ≡ Some v
  pub sign : (e : Expr) → literal (expression.Unary Neg e) ≡ value_in (negated (form_of e))
  pub plus : (e : Expr) → literal (expression.Unary Pos e) ≡ None
  pub negation : (e : Expr) → literal (expression.Unary Not e) ≡ None
  pub negative : (n : ℕ) → literal (expression.Unary Neg (expression.Lit (Int (pos n)))) ≡ Some (Int (pos 0 -ℤ pos n))
  pub tuple : (es : List Expr) → literal (expression.Tuple es) ≡ tuple_of (values_in (map form_of es))
  pub name : (n : List ℕ) → literal (expression.Name n) ≡ None
  pub chain : (e : Expr) (ls : List (BinOp × Expr)) → literal (expression.Chain e ls) ≡ None
  pub power : (b e : Expr) → literal (expression.Power b e) ≡ None
  pub and : (es : List Expr) → literal (expression.And es) ≡ None
  pub or : (es : List Expr) → literal (expression.Or es) ≡ None
  pub compare : (e : Expr) (ls : List (CmpOp × Expr)) → literal (expression.Compare e ls) ≡ None
  pub choice : (c l r : Expr) → literal (expression.If c l r) ≡ None
  pub call : (n : List ℕ) (es : List Expr) → literal (expression.Call n es) ≡ None
  pub suffixed : (e : Expr) (ss : List Suffix) → literal (expression.Suffixed e ss) ≡ None

-- what each kind of statement binds in its line
pub record BindingsByKind : Type 0 where
  pub expression : (e : Expr) (line : ℕ) → binding.what_bindings (what.Expr e) line ≡ []
  pub assignment : (to : Targets) (e : Expr) (line : ℕ) → binding.what_bindings (what.Assign to e) line ≡ map (binding.bound_in line) to.names
  pub augmented : (n : List ℕ) (op : BinOp) (e : Expr) (line : ℕ) → binding.what_bindings (what.Aug n op e) line ≡ binding.bound_in line n ∷ []
  pub choice : (arms : List Arm) (otherwise : Option Block) (line : ℕ)
      → binding.what_bindings (what.If arms otherwise) line ≡ flat_map binding.arm_bindings arms ++ binding.otherwise_bindings otherwise
  pub while : (test : Expr) (body : Block) (line : ℕ) → binding.what_bindings (what.While test body) line ≡ binding.bindings body
  pub for : (to : Targets) (over : Expr) (body : Block) (line : ℕ)
      → binding.what_bindings (what.For to over body) line ≡ map (binding.bound_in line) to.names ++ binding.bindings body
  pub block : (b : Block) → binding.bindings b ≡ flat_map binding.statement_bindings (out-Block b).stmts
  pub statement : (s : Stmt) → binding.statement_bindings s ≡ binding.what_bindings s.what s.line
  pub arm : (a : Arm) → binding.arm_bindings a ≡ binding.bindings (out-Arm a).body

-- what each kind of expression uses; a call's name is used in the manner in which the call stands
pub record UsesByKind : Type 0 where
  pub literal : (v : Value) (line : ℕ) (m : Manner) → uses.expression_uses (expression.Lit v) line m ≡ []
  pub name : (n : List ℕ) (line : ℕ) (m : Manner) → uses.expression_uses (expression.Name n) line m ≡ uses.used line n Read ∷ []
  pub tuple : (es : List Expr) (line : ℕ) (m : Manner) → uses.expression_uses (expression.Tuple es) line m ≡ flat_map (uses.part_uses line) es
  pub unary : (op : UnOp) (e : Expr) (line : ℕ) (m : Manner) → uses.expression_uses (expression.Unary op e) line m ≡ uses.part_uses line e
  pub chain : (e : Expr) (ls : List (BinOp × Expr)) (line : ℕ) (m : Manner)
      → uses.expression_uses (expression.Chain e ls) line m ≡ uses.part_uses line e ++ flat_map (λ l. uses.part_uses line l.1) ls
  pub power : (b e : Expr) (line : ℕ) (m : Manner) → uses.expression_uses (expression.Power b e) line m ≡ uses.part_uses line b ++ uses.part_uses line e
  pub and : (es : List Expr) (line : ℕ) (m : Manner) → uses.expression_uses (expression.And es) line m ≡ flat_map (uses.part_uses line) es
  pub or : (es : List Expr) (line : ℕ) (m : Manner) → uses.expression_uses (expression.Or es) line m ≡ flat_map (uses.part_uses line) es
  pub compare : (e : Expr) (ls : List (CmpOp × Expr)) (line : ℕ) (m : Manner)
      → uses.expression_uses (expression.Compare e ls) line m ≡ uses.part_uses line e ++ flat_map (λ l. uses.part_uses line l.1) ls
  pub choice : (c l r : Expr) (line : ℕ) (m : Manner)
      → uses.expression_uses (expression.If c l r) line m ≡ uses.part_uses line l ++ (uses.part_uses line c ++ uses.part_uses line r)
  pub call : (n : List ℕ) (es : List Expr) (line : ℕ) (m : Manner)
      → uses.expression_uses (expression.Call n es) line m ≡ uses.used line n m ∷ flat_map (uses.part_uses line) es
  pub suffixed : (e : Expr) (ss : List Suffix) (line : ℕ) (m : Manner)
      → uses.expression_uses (expression.Suffixed e ss) line m ≡ uses.part_uses line e ++ flat_map (uses.bracket_uses line) ss
  pub index : (e : Expr) (line : ℕ) → uses.bracket_uses line (suffix.Index e) ≡ uses.part_uses line e
  pub slice : (l u : Option Expr) (line : ℕ) → uses.bracket_uses line (suffix.Slice l u) ≡ uses.maybe_uses line l ++ uses.maybe_uses line u

-- what each kind of statement uses in its line
pub record StatementUsesByKind : Type 0 where
  pub expression : (e : Expr) (line : ℕ) → uses.what_uses (what.Expr e) line ≡ uses.part_uses line e
  pub assignment : (to : Targets) (e : Expr) (line : ℕ) → uses.what_uses (what.Assign to e) line ≡ uses.part_uses line e
  pub augmented : (n : List ℕ) (op : BinOp) (e : Expr) (line : ℕ) → uses.what_uses (what.Aug n op e) line ≡ uses.augmented_uses line n e
  pub choice : (arms : List Arm) (otherwise : Option Block) (line : ℕ)
      → uses.what_uses (what.If arms otherwise) line ≡ flat_map uses.arm_uses arms ++ uses.otherwise_uses otherwise
  pub while : (test : Expr) (body : Block) (line : ℕ) → uses.what_uses (what.While test body) line ≡ uses.part_uses line test ++ uses.uses body
  pub for : (to : Targets) (over : Expr) (body : Block) (line : ℕ)
      → uses.what_uses (what.For to over body) line ≡ uses.expression_uses over line Iterated ++ uses.uses body
  pub return : (e : Option Expr) (line : ℕ) → uses.what_uses (what.Return e) line ≡ uses.maybe_uses line e
  pub assert : (test : Expr) (message : Option Expr) (line : ℕ)
      → uses.what_uses (what.Assert test message) line ≡ uses.part_uses line test ++ uses.maybe_uses line message
  pub block : (b : Block) → uses.uses b ≡ flat_map uses.statement_uses (out-Block b).stmts
  pub statement : (s : Stmt) → uses.statement_uses s ≡ uses.what_uses s.what s.line
  pub arm : (a : Arm) → uses.arm_uses a ≡ uses.part_uses (out-Arm a).line (out-Arm a).test ++ uses.uses (out-Arm a).body

-- what it says of each kind of expression to be well formed
pub record FormedByKind : Type 0 where
  pub literal : (v : Value) → is_formed_expression (expression.Lit v) ≡ is_token_value v
  pub name : (n : List ℕ) → is_formed_expression (expression.Name n) ≡ true
  pub tuple : (es : List Expr) → is_formed_expression (expression.Tuple es) ≡ list_all is_formed_expression es
  pub unary : (op : UnOp) (e : Expr) → is_formed_expression (expression.Unary op e) ≡ is_formed_expression e
  pub chain : (e : Expr) (ls : List (BinOp × Expr))
      → is_formed_expression (expression.Chain e ls) ≡ some_are ls && (is_formed_expression e && list_all (λ l. is_formed_expression l.1) ls)
  pub power : (b e : Expr) → is_formed_expression (expression.Power b e) ≡ is_formed_expression b && is_formed_expression e
  pub and : (es : List Expr) → is_formed_expression (expression.And es) ≡ two_are es && list_all is_formed_expression es
  pub or : (es : List Expr) → is_formed_expression (expression.Or es) ≡ two_are es && list_all is_formed_expression es
  pub compare : (e : Expr) (ls : List (CmpOp × Expr))
      → is_formed_expression (expression.Compare e ls) ≡ some_are ls && (is_formed_expression e && list_all (λ l. is_formed_expression l.1) ls)
  pub choice : (c l r : Expr)
      → is_formed_expression (expression.If c l r) ≡ is_formed_expression c && (is_formed_expression l && is_formed_expression r)
  pub call : (n : List ℕ) (es : List Expr) → is_formed_expression (expression.Call n es) ≡ list_all is_formed_expression es
  pub suffixed : (e : Expr) (ss : List Suffix)
      → is_formed_expression (expression.Suffixed e ss) ≡ some_are ss && (is_formed_expression e && list_all is_formed_suffix ss)
  pub index : (e : Expr) → is_formed_suffix (suffix.Index e) ≡ is_formed_expression e
  pub slice : (l u : Option Expr) → is_formed_suffix (suffix.Slice l u) ≡ is_formed_maybe l && is_formed_maybe u

-- what it says of each kind of statement to be well formed
pub record StatementsFormedByKind : Type 0 where
  pub expression : (e : Expr) → is_formed_what (what.Expr e) ≡ is_formed_expression e
  pub assignment : (to : Targets) (e : Expr) → is_formed_what (what.Assign to e) ≡ formed_targets to.tuple to.names && is_formed_expression e
  pub augmented : (n : List ℕ) (op : BinOp) (e : Expr) → is_formed_what (what.Aug n op e) ≡ is_formed_expression e
  pub choice : (arms : List Arm) (otherwise : Option Block)
      → is_formed_what (what.If arms otherwise) ≡ some_are arms && (list_all is_formed_arm arms && is_formed_otherwise otherwise)
  pub while : (test : Expr) (body : Block) → is_formed_what (what.While test body) ≡ is_formed_expression test && is_formed_block body
  pub for : (to : Targets) (over : Expr) (body : Block)
      → is_formed_what (what.For to over body) ≡ formed_targets to.tuple to.names && (is_formed_expression over && is_formed_block body)
  pub return : (e : Option Expr) → is_formed_what (what.Return e) ≡ is_formed_maybe e
  pub assert : (test : Expr) (message : Option Expr)
      → is_formed_what (what.Assert test message) ≡ is_formed_expression test && is_formed_maybe message
  pub block : (b : Block) → is_formed_block b ≡ some_are (out-Block b).stmts && list_all is_formed_statement (out-Block b).stmts
  pub statement : (s : Stmt) → is_formed_statement s ≡ is_formed_what s.what
  pub arm : (a : Arm) → is_formed_arm a ≡ is_formed_expression (out-Arm a).test && is_formed_block (out-Arm a).body

-- the parts of each kind of expression, itself among them
pub record PartsByKind : Type 0 where
  pub literal : (v : Value) → expression_parts (expression.Lit v) ≡ 1
  pub name : (n : List ℕ) → expression_parts (expression.Name n) ≡ 1
  pub tuple : (es : List Expr) → expression_parts (expression.Tuple es) ≡ 1 + total (map expression_parts es)
  pub unary : (op : UnOp) (e : Expr) → expression_parts (expression.Unary op e) ≡ 1 + expression_parts e
  pub chain : (e : Expr) (ls : List (BinOp × Expr))
      → expression_parts (expression.Chain e ls) ≡ 1 + (expression_parts e + total (map (λ l. expression_parts l.1) ls))
  pub power : (b e : Expr) → expression_parts (expression.Power b e) ≡ 1 + (expression_parts b + expression_parts e)
  pub and : (es : List Expr) → expression_parts (expression.And es) ≡ 1 + total (map expression_parts es)
  pub or : (es : List Expr) → expression_parts (expression.Or es) ≡ 1 + total (map expression_parts es)
  pub compare : (e : Expr) (ls : List (CmpOp × Expr))
      → expression_parts (expression.Compare e ls) ≡ 1 + (expression_parts e + total (map (λ l. expression_parts l.1) ls))
  pub choice : (c l r : Expr) → expression_parts (expression.If c l r) ≡ 1 + (expression_parts c + (expression_parts l + expression_parts r))
  pub call : (n : List ℕ) (es : List Expr) → expression_parts (expression.Call n es) ≡ 1 + total (map expression_parts es)
  pub suffixed : (e : Expr) (ss : List Suffix)
      → expression_parts (expression.Suffixed e ss) ≡ 1 + (expression_parts e + total (map suffix_parts ss))
  pub index : (e : Expr) → suffix_parts (suffix.Index e) ≡ 1 + expression_parts e
  pub slice : (l u : Option Expr) → suffix_parts (suffix.Slice l u) ≡ 1 + (maybe_parts l + maybe_parts u)

-- the parts of each kind of statement
pub record StatementPartsByKind : Type 0 where
  pub expression : (e : Expr) → what_parts (what.Expr e) ≡ expression_parts e
  pub assignment : (to : Targets) (e : Expr) → what_parts (what.Assign to e) ≡ length to.names + expression_parts e
  pub augmented : (n : List ℕ) (op : BinOp) (e : Expr) → what_parts (what.Aug n op e) ≡ 1 + expression_parts e
  pub choice : (arms : List Arm) (otherwise : Option Block)
      → what_parts (what.If arms otherwise) ≡ total (map arm_parts arms) + otherwise_parts otherwise
  pub while : (test : Expr) (body : Block) → what_parts (what.While test body) ≡ expression_parts test + block_parts body
  pub for : (to : Targets) (over : Expr) (body : Block)
      → what_parts (what.For to over body) ≡ length to.names + (expression_parts over + block_parts body)
  pub return : (e : Option Expr) → what_parts (what.Return e) ≡ maybe_parts e
  pub assert : (test : Expr) (message : Option Expr) → what_parts (what.Assert test message) ≡ expression_parts test + maybe_parts message
  pub block : (b : Block) → block_parts b ≡ total (map statement_parts (out-Block b).stmts)
  pub statement : (s : Stmt) → statement_parts s ≡ 1 + what_parts s.what
  pub arm : (a : Arm) → arm_parts a ≡ 1 + (expression_parts (out-Arm a).test + block_parts (out-Arm a).body)

-- a constant of the file is bound once by the module's statements
abbrev pub ConstantsAreBoundOnce : Type 0
ConstantsAreBoundOnce = (file : File) → All (λ c. binding.binds_once file c.0 ≡ true) (filter_map binding.constant_in (binding.lines file))

-- each name of a list is among its distinct names, no other is, and each is there once at most
pub record DistinctNames : Type 0 where
  pub same : (ns : List (List ℕ)) (n : List ℕ) → binding.is_among (binding.distinct ns) n ≡ binding.is_among ns n
  pub once : (ns : List (List ℕ)) (n : List ℕ) → count_by (binding.same_name n) (binding.distinct ns) ≤ 1

-- the rules of resolving, in their order
pub record ResolvesByRule (file : File) (routine : ℕ) (name : List ℕ) : Type 0 where
  pub local : binding.is_among (binding.locals file routine) name ≡ true → resolved file routine name ≡ resolution.Local
  pub constant : (v : Value) → binding.is_among (binding.locals file routine) name ≡ false
      → constant_named file name ≡ Some v → resolved file routine name ≡ resolution.Constant v
  pub function : (k : ℕ) → binding.is_among (binding.locals file routine) name ≡ false → constant_named file name ≡ None
      → function_named file name ≡ Some k → resolved file routine name ≡ resolution.Function k
  pub imported : binding.is_among (binding.locals file routine) name ≡ false → constant_named file name ≡ None
      → function_named file name ≡ None → binding.is_among (binding.imported_names file) name ≡ true
      → resolved file routine name ≡ resolution.Imported
  pub builtin : (b : BuiltinFunction) → binding.is_among (binding.locals file routine) name ≡ false → constant_named file name ≡ None
      → function_named file name ≡ None → binding.is_among (binding.imported_names file) name ≡ false
      → builtin_named name ≡ Some b → resolved file routine name ≡ resolution.Builtin b
  pub variable : binding.is_among (binding.locals file routine) name ≡ false → constant_named file name ≡ None
      → function_named file name ≡ None → binding.is_among (binding.imported_names file) name ≡ false
      → builtin_named name ≡ None → binding.is_among (binding.module_variables file) name ≡ true
      → resolved file routine name ≡ resolution.Variable
  pub unbound : binding.is_among (binding.locals file routine) name ≡ false → constant_named file name ≡ None
      → function_named file name ≡ None → binding.is_among (binding.imported_names file) name ≡ false
      → builtin_named name ≡ None → binding.is_among (binding.module_variables file) name ≡ false
      → resolved file routine name ≡ resolution.Unbound

-- each name of each routine resolves by the rules
abbrev pub NamesResolveByRule : Type 0
NamesResolveByRule = (file : File) (routine : ℕ) (name : List ℕ) → ResolvesByRule file routine name
