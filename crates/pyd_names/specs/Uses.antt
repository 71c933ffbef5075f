-- The names that are read and called, in text order, each with the line of the statement or header that it stands in.
use Rattle.std.specs.Prelude.{ℕ, zero, suc, List, [], ◌∷◌, ◌++◌, Option, Some, None}
use Rattle.std.specs.List.{flat_map}
use Rattle.pyd_tree.specs.declared.expression.Expr.{Expr, fold-Expr}
use Rattle.pyd_tree.specs.declared.expression.Expr.TheOpen.{Expr-F, Suffix-F}
use Rattle.pyd_tree.specs.declared.expression.Suffix.{Suffix, fold-Suffix}
use Rattle.pyd_tree.specs.declared.statement.Block.{Block, fold-Block}
use Rattle.pyd_tree.specs.declared.statement.Stmt.{Stmt, fold-Stmt}
use Rattle.pyd_tree.specs.declared.statement.Arm.{Arm, fold-Arm}
use Rattle.pyd_tree.specs.declared.statement.What.{What, fold-What}
use Rattle.pyd_tree.specs.declared.statement.What.TheOpen.{What-F, Arm-F, Block-F, Stmt-F}
use Rattle.pyd_tree.specs.declared.file.File.{File}
use Rattle.pyd_tree.specs.declared.file.Func.{Func}
use Rattle.pyd_names.specs.declared.name_use.NameUse.{NameUse}
use Rattle.pyd_names.specs.declared.name_use.Manner.{Manner}
use Rattle.pyd_names.specs.declared.name_use.Manner.TheVariants.{Read, Called}
use Rattle.pyd_names.specs.declared.name_use.Manner.TheVariants as manner
use Rattle.pyd_names.specs.Binding.{joined, or_empty, function, module_statements}

-- the name, used in the line in this manner
abbrev pub used : ℕ → List ℕ → Manner → NameUse
used line name manner = record { line = line; name = name; manner = manner }

-- the uses in a part of a statement: from the line, and the manner of the call that the part is, if it is one
abbrev pub Part : Type 0
Part = ℕ → Manner → List NameUse

-- the parts of an expression, whose calls are no whole iterables
abbrev pub within : ℕ → List Part → List NameUse
within line parts = flat_map (λ part. part line Called) parts

-- the uses in the right operands of operators
abbrev pub operands : {A : Type 0} → ℕ → List (A × Part) → List NameUse
operands line links = flat_map (λ l. l.1 line Called) links

-- a part that may be missing
abbrev pub maybe : ℕ → Option Part → List NameUse
maybe line None = []
maybe line (Some part) = part line Called

-- one level of an expression: a call's name is called, a name is read
abbrev pub expression_step : Expr-F Part (ℕ → List NameUse) → Part
expression_step (Expr-F.Lit v) line manner = []
expression_step (Expr-F.Name name) line manner = used line name Read ∷ []
expression_step (Expr-F.Tuple members) line manner = within line members
expression_step (Expr-F.Unary op operand) line manner = operand line Called
expression_step (Expr-F.Chain first links) line manner = first line Called ++ operands line links
expression_step (Expr-F.Power base exponent) line manner = base line Called ++ exponent line Called
expression_step (Expr-F.And parts) line manner = within line parts
expression_step (Expr-F.Or parts) line manner = within line parts
expression_step (Expr-F.Compare first links) line manner = first line Called ++ operands line links
expression_step (Expr-F.If test left right) line manner = left line Called ++ (test line Called ++ right line Called)
expression_step (Expr-F.Call name arguments) line manner = used line name manner ∷ within line arguments
expression_step (Expr-F.Suffixed base suffixes) line manner = base line Called ++ flat_map (λ s. s line) suffixes

-- one level of what stands in brackets
abbrev pub suffix_step : Suffix-F Part (ℕ → List NameUse) → ℕ → List NameUse
suffix_step (Suffix-F.Index index) line = index line Called
suffix_step (Suffix-F.Slice lower upper) line = maybe line lower ++ maybe line upper

-- the uses in an expression of the line; where it is a call, its name is used in the manner given
abbrev pub expression_uses : Expr → Part
expression_uses = fold-Expr Part (ℕ → List NameUse) expression_step suffix_step

-- the uses in what stands in brackets, in a line
abbrev pub suffix_uses : Suffix → ℕ → List NameUse
suffix_uses = fold-Suffix Part (ℕ → List NameUse) expression_step suffix_step

-- the uses in a part of an expression, which is no whole iterable
abbrev pub part_uses : ℕ → Expr → List NameUse
part_uses line e = expression_uses e line Called

-- the uses in brackets
abbrev pub bracket_uses : ℕ → Suffix → List NameUse
bracket_uses line s = suffix_uses s line

-- a call uses its name in the manner given, and then its arguments
abbrev pub call_uses : ℕ → Manner → List ℕ → List Expr → List NameUse
call_uses line manner name arguments = used line name manner ∷ flat_map (part_uses line) arguments

-- an augmented assignment reads its name, and then uses its right side
abbrev pub augmented_uses : ℕ → List ℕ → Expr → List NameUse
augmented_uses line name right = used line name Read ∷ part_uses line right

-- the uses in an expression that may be missing
abbrev pub maybe_uses : ℕ → Option Expr → List NameUse
maybe_uses line None = []
maybe_uses line (Some e) = expression_uses e line Called

-- one level of what a statement does in its line: an augmented assignment reads its name, and a `for` iterates over its expression
abbrev pub what_uses_step : What-F (ℕ → List NameUse) (List NameUse) (List NameUse) (List NameUse) → ℕ → List NameUse
what_uses_step (What-F.Expr e) line = expression_uses e line Called
what_uses_step (What-F.Assign to e) line = expression_uses e line Called
what_uses_step (What-F.Aug name op e) line = used line name Read ∷ expression_uses e line Called
what_uses_step (What-F.If arms otherwise) line = joined arms ++ or_empty otherwise
what_uses_step (What-F.While test body) line = expression_uses test line Called ++ body
what_uses_step (What-F.For to over body) line = expression_uses over line manner.Iterated ++ body
what_uses_step (What-F.Return e) line = maybe_uses line e
what_uses_step What-F.Break line = []
what_uses_step What-F.Continue line = []
what_uses_step What-F.Pass line = []
what_uses_step (What-F.Assert test message) line = expression_uses test line Called ++ maybe_uses line message

-- one level of an arm: its test stands in the arm's line
abbrev pub arm_uses_step : Arm-F (ℕ → List NameUse) (List NameUse) (List NameUse) (List NameUse) → List NameUse
arm_uses_step a = expression_uses a.test a.line Called ++ a.body

-- one level of a block
abbrev pub block_uses_step : Block-F (ℕ → List NameUse) (List NameUse) (List NameUse) (List NameUse) → List NameUse
block_uses_step b = joined b.stmts

-- one level of a statement
abbrev pub statement_uses_step : Stmt-F (ℕ → List NameUse) (List NameUse) (List NameUse) (List NameUse) → List NameUse
statement_uses_step s = s.what s.line

-- the uses in a block
abbrev pub uses : Block → List NameUse
uses = fold-Block (ℕ → List NameUse) (List NameUse) (List NameUse) (List NameUse) what_uses_step arm_uses_step block_uses_step statement_uses_step

-- the uses in a statement
abbrev pub statement_uses : Stmt → List NameUse
statement_uses = fold-Stmt (ℕ → List NameUse) (List NameUse) (List NameUse) (List NameUse) what_uses_step arm_uses_step block_uses_step statement_uses_step

-- the uses in an arm
abbrev pub arm_uses : Arm → List NameUse
arm_uses = fold-Arm (ℕ → List NameUse) (List NameUse) (List NameUse) (List NameUse) what_uses_step arm_uses_step block_uses_step statement_uses_step

-- the uses in what a statement does in its line
abbrev pub what_uses : What → ℕ → List NameUse
what_uses = fold-What (ℕ → List NameUse) (List NameUse) (List NameUse) (List NameUse) what_uses_step arm_uses_step block_uses_step statement_uses_step

-- the uses in the suite of an `else`, if there is one
abbrev pub otherwise_uses : Option Block → List NameUse
otherwise_uses None = []
otherwise_uses (Some block) = uses block

-- the uses in the module statements
abbrev pub module_uses : File → List NameUse
module_uses file = flat_map statement_uses (module_statements file)

-- the uses in a function that is there
abbrev pub uses_in : Option Func → List NameUse
uses_in None = []
uses_in (Some f) = uses f.body

-- the uses in a routine
abbrev pub routine_uses : File → ℕ → List NameUse
routine_uses file zero = module_uses file
routine_uses file (suc k) = uses_in (function file (suc k))
