-- The numbers of a routine's statements and expressions, from 0 in text order, each before its parts.
use Rattle.std.specs.Prelude.{◌≡◌, ℕ, zero, suc, ◌+◌, List, [], ◌∷◌, ◌++◌, map, length, drop, Option, Some, None}
use Rattle.std.specs.List.{flat_map}
use Rattle.pyd_tree.specs.declared.expression.Expr.{Expr, roll-Expr, fold-Expr}
use Rattle.pyd_tree.specs.declared.expression.Expr.TheOpen.{Expr-F, Suffix-F}
use Rattle.pyd_tree.specs.declared.expression.Expr.TheFolds.{map-Expr, map-Suffix}
use Rattle.pyd_tree.specs.declared.expression.Suffix.{Suffix, roll-Suffix}
use Rattle.pyd_tree.specs.declared.statement.What.{What, roll-What}
use Rattle.pyd_tree.specs.declared.statement.What.TheOpen.{What-F, Arm-F, Block-F, Stmt-F}
use Rattle.pyd_tree.specs.declared.statement.What.TheFolds.{map-What, map-Arm, map-Block, map-Stmt}
use Rattle.pyd_tree.specs.declared.statement.Arm.{Arm, roll-Arm, fold-Arm}
use Rattle.pyd_tree.specs.declared.statement.Block.{Block, out-Block, roll-Block}
use Rattle.pyd_tree.specs.declared.statement.Stmt.{Stmt, roll-Stmt, fold-Stmt}
use Rattle.pyd_tree.specs.declared.file.File.{File}
use Rattle.pyd_tree.specs.declared.file.Func.{Func}
use Rattle.pyd_names.specs.Binding.{module_statements, function}

-- a part of an expression, and all expressions in it in text order
pub record Within (A : Type 0) : Type 0 where
  pub self : A
  pub all : List Expr

-- the expressions in the right operands of operators
abbrev pub operands : {A : Type 0} → List (A × Within Expr) → List Expr
operands links = flat_map (λ l. l.1.all) links

-- the expressions in a part that may be missing
abbrev pub optional : Option (Within Expr) → List Expr
optional None = []
optional (Some e) = e.all

-- the expressions in the parts of one; of a conditional the text has the first side before the test
abbrev pub parts : Expr-F (Within Expr) (Within Suffix) → List Expr
parts (Expr-F.Lit v) = []
parts (Expr-F.Name name) = []
parts (Expr-F.Tuple members) = flat_map (λ e. e.all) members
parts (Expr-F.Unary op operand) = operand.all
parts (Expr-F.Chain first links) = first.all ++ operands links
parts (Expr-F.Power base exponent) = base.all ++ exponent.all
parts (Expr-F.And members) = flat_map (λ e. e.all) members
parts (Expr-F.Or members) = flat_map (λ e. e.all) members
parts (Expr-F.Compare first links) = first.all ++ operands links
parts (Expr-F.If test first second) = first.all ++ (test.all ++ second.all)
parts (Expr-F.Call name args) = flat_map (λ e. e.all) args
parts (Expr-F.Suffixed base suffixes) = base.all ++ flat_map (λ s. s.all) suffixes

-- the expressions in brackets
abbrev pub bracketed : Suffix-F (Within Expr) (Within Suffix) → List Expr
bracketed (Suffix-F.Index index) = index.all
bracketed (Suffix-F.Slice low high) = optional low ++ optional high

-- one level of an expression put together again
abbrev pub whole : Expr-F (Within Expr) (Within Suffix) → Expr
whole e =
    roll-Expr (map-Expr (Within Expr) (Within Suffix) Expr Suffix (λ x. x.self) (λ x. x.self) e)

-- one level of brackets put together again
abbrev pub whole_brackets : Suffix-F (Within Expr) (Within Suffix) → Suffix
whole_brackets s =
    roll-Suffix (map-Suffix (Within Expr) (Within Suffix) Expr Suffix (λ x. x.self) (λ x. x.self) s)

-- an expression comes before its parts
abbrev pub within_step : Expr-F (Within Expr) (Within Suffix) → Within Expr
within_step e = record { self = whole e; all = whole e ∷ parts e }

-- brackets are no expression
abbrev pub brackets_step : Suffix-F (Within Expr) (Within Suffix) → Within Suffix
brackets_step s = record { self = whole_brackets s; all = bracketed s }

-- an expression and those in it, in text order
unfoldable pub expressions : Expr → List Expr
expressions e = (fold-Expr (Within Expr) (Within Suffix) within_step brackets_step e).all

-- an entry of a routine's table: a statement, those that follow it in its block, and the number of the first expression in them
pub record Entry : Type 0 where
  pub stmts : List Stmt
  pub expression : ℕ

-- what stands in a part of a block: how many statements, which expressions, and by the number of the first expression an entry for each statement, all in text order
pub record Contents : Type 0 where
  pub statements : ℕ
  pub expressions : List Expr
  pub table : ℕ → List Entry

-- nothing
abbrev pub nothing : Contents
nothing = record { statements = 0; expressions = []; table = λ n. [] }

-- one part, and then another
abbrev pub followed : Contents → Contents → Contents
followed a b = record {
  statements = a.statements + b.statements;
  expressions = a.expressions ++ b.expressions;
  table = λ n. a.table n ++ b.table (n + length a.expressions);
}

-- an expression, and no statement
abbrev pub expression : Expr → Contents
expression e = record { statements = 0; expressions = expressions e; table = λ n. [] }

-- an expression that may be missing
abbrev pub maybe_expression : Option Expr → Contents
maybe_expression None = nothing
maybe_expression (Some e) = expression e

-- the first of some statements, with what stands in it and behind it
abbrev pub headed : List Stmt → Contents → Contents
headed ss c = record {
  statements = suc c.statements;
  expressions = c.expressions;
  table = λ n. record { stmts = ss; expression = n } ∷ c.table n;
}

-- a part of a block, and what stands in it
pub record Standing (A : Type 0) : Type 0 where
  pub self : A
  pub contents : Contents

-- the part itself
abbrev pub own : {A : Type 0} → Standing A → A
own p = p.self

-- one level of what a statement does, each part with what stands in it
abbrev pub WhatParts : Type 0
WhatParts = What-F (Standing What) (Standing Arm) (Standing Block) (Standing Stmt)

-- one level of an arm
abbrev pub ArmParts : Type 0
ArmParts = Arm-F (Standing What) (Standing Arm) (Standing Block) (Standing Stmt)

-- one level of a block
abbrev pub BlockParts : Type 0
BlockParts = Block-F (Standing What) (Standing Arm) (Standing Block) (Standing Stmt)

-- one level of a statement
abbrev pub StmtParts : Type 0
StmtParts = Stmt-F (Standing What) (Standing Arm) (Standing Block) (Standing Stmt)

-- parts one behind the other
abbrev pub in_order : {A : Type 0} → List (Standing A) → Contents
in_order [] = nothing
in_order (p ∷ ps) = followed p.contents (in_order ps)

-- a part that may be missing
abbrev pub maybe : {A : Type 0} → Option (Standing A) → Contents
maybe None = nothing
maybe (Some p) = p.contents

-- the statements of a block, each before those of its suites
abbrev pub headed_each : List (Standing Stmt) → Contents
headed_each [] = nothing
headed_each (p ∷ ps) = headed (p.self ∷ map own ps) (followed p.contents (headed_each ps))

-- what stands in a statement, its suites in text order
abbrev pub what_contents : WhatParts → Contents
what_contents (What-F.Expr e) = expression e
what_contents (What-F.Assign targets e) = expression e
what_contents (What-F.Aug name op e) = expression e
what_contents (What-F.If arms otherwise) = followed (in_order arms) (maybe otherwise)
what_contents (What-F.While test body) = followed (expression test) body.contents
what_contents (What-F.For targets e body) = followed (expression e) body.contents
what_contents (What-F.Return e) = maybe_expression e
what_contents What-F.Break = nothing
what_contents What-F.Continue = nothing
what_contents What-F.Pass = nothing
what_contents (What-F.Assert test message) = followed (expression test) (maybe_expression message)

-- one level of what a statement does
abbrev pub what_standing : WhatParts → Standing What
what_standing x = record {
  self = roll-What (map-What (Standing What) (Standing Arm) (Standing Block) (Standing Stmt)
      What Arm Block Stmt own own own own x);
  contents = what_contents x;
}

-- one level of an arm: its test, and its suite
abbrev pub arm_standing : ArmParts → Standing Arm
arm_standing x = record {
  self = roll-Arm (map-Arm (Standing What) (Standing Arm) (Standing Block) (Standing Stmt)
      What Arm Block Stmt own own own own x);
  contents = followed (expression x.test) x.body.contents;
}

-- one level of a block
abbrev pub block_standing : BlockParts → Standing Block
block_standing x = record {
  self = roll-Block (map-Block (Standing What) (Standing Arm) (Standing Block) (Standing Stmt)
      What Arm Block Stmt own own own own x);
  contents = headed_each x.stmts;
}

-- one level of a statement, which isn't counted in what stands in it
abbrev pub stmt_standing : StmtParts → Standing Stmt
stmt_standing x = record {
  self = roll-Stmt (map-Stmt (Standing What) (Standing Arm) (Standing Block) (Standing Stmt)
      What Arm Block Stmt own own own own x);
  contents = x.what.contents;
}

-- what stands in a statement
unfoldable pub inner : Stmt → Contents
inner s = (fold-Stmt (Standing What) (Standing Arm) (Standing Block) (Standing Stmt)
    what_standing arm_standing block_standing stmt_standing s).contents

-- what stands in an arm
unfoldable pub arm_contents : Arm → Contents
arm_contents a = (fold-Arm (Standing What) (Standing Arm) (Standing Block) (Standing Stmt)
    what_standing arm_standing block_standing stmt_standing a).contents

-- the statements of a block, and what stands in them
abbrev pub contents : List Stmt → Contents
contents [] = nothing
contents (s ∷ ss) = headed (s ∷ ss) (followed (inner s) (contents ss))

-- the arms of an `if`, one behind the other
abbrev pub arms_contents : List Arm → Contents
arms_contents [] = nothing
arms_contents (a ∷ arms) = followed (arm_contents a) (arms_contents arms)

-- a place in a routine's text: the numbers of the next statement and of the next expression
pub record Point : Type 0 where
  pub statement : ℕ
  pub expression : ℕ

-- the place of these numbers
abbrev pub point : ℕ → ℕ → Point
point statement expression = record { statement = statement; expression = expression }

-- the place behind a part that begins at a place
abbrev pub past : Contents → Point → Point
past c p = point (p.statement + c.statements) (p.expression + length c.expressions)

-- the place behind the header of a statement or arm
abbrev pub past_expression : Expr → Point → Point
past_expression e p = past (expression e) p

-- the place inside a statement, and that behind it
abbrev pub inside : Point → Point
inside p = point (suc p.statement) p.expression

-- the place behind a statement
abbrev pub past_statement : Stmt → Point → Point
past_statement s p = past (inner s) (inside p)

-- the place behind the first of some statements that begin at a place
abbrev pub past_first : List Stmt → Point → Point
past_first [] p = p
past_first (s ∷ ss) p = past_statement s p

-- where a routine begins
abbrev pub start : Point
start = point 0 0

-- the statements of a function that is there
abbrev pub body_of : Option Func → List Stmt
body_of None = []
body_of (Some f) = (out-Block f.body).stmts

-- the statements of a routine: in the module those that are no constants
abbrev pub body : File → ℕ → List Stmt
body file zero = module_statements file
body file (suc k) = body_of (function file (suc k))

-- the entries of a routine's statements, by their numbers
abbrev pub table : File → ℕ → List Entry
table file routine = (contents (body file routine)).table 0

-- a routine's expressions, by their numbers
abbrev pub expression_table : File → ℕ → List Expr
expression_table file routine = (contents (body file routine)).expressions

-- these stand in a table from a number on
abbrev pub Stands : {A : Type 0} → List A → ℕ → List A → Type 0
Stands {A} table k xs = (more : List A) × (drop k table ≡ xs ++ more)
