-- What a draft holds where statements were made: for each sequel their nodes are those of the draft, and then what the sequel makes of the flow that came of them.
use Rattle.std.specs.Prelude.{◌≡◌, ℕ, List, [], ◌∷◌, Bool, true, false, Option, Some, None}
use Rattle.pyd_value.specs.declared.operator.BinOp.{BinOp}
use Rattle.pyd_tree.specs.declared.expression.Expr.{Expr}
use Rattle.pyd_tree.specs.declared.statement.What.{What, out-What}
use Rattle.pyd_tree.specs.declared.statement.Arm.{Arm}
use Rattle.pyd_tree.specs.declared.statement.Targets.{Targets}
use Rattle.pyd_tree.specs.declared.file.File.{File}
use Rattle.pyd_names.specs.Binding.{locals}
use Rattle.pyd_scope.specs.Numbering.{Contents, Stands, table, expression_table, past_expression}
use Rattle.pyd_scope.specs.Numbering as numbering
use Rattle.pyd_scope.specs.Passages as passages
use Rattle.pyd_ir.specs.declared.arg.Arg.{Arg}
use Rattle.pyd_ir.specs.declared.arg.Arg.TheVariants as arg
use Rattle.pyd_ir.specs.declared.code.OpCode.TheVariants as code
use Rattle.pyd_ir.specs.declared.work.Frame.{Frame}
use Rattle.pyd_ir.specs.declared.work.Work.{Work}
use Rattle.pyd_ir.specs.declared.work.Work.TheVariants as work
use Rattle.pyd_translate.specs.declared.setting.Setting.{Setting}
use Rattle.pyd_translate.specs.declared.setting.Point.{Point}
use Rattle.pyd_translate.specs.declared.setting.Passage.{Passage}
use Rattle.pyd_translate.specs.declared.spot.Spot.{Spot}
use Rattle.pyd_translate.specs.declared.composite.Composite.{Composite}
use Rattle.pyd_translate.specs.declared.composite.Composite.TheVariants.{Cond, While, For}
use Rattle.pyd_translate.specs.declared.flow.Exit.{Exit}
use Rattle.pyd_translate.specs.declared.flow.Exit.TheVariants.{Normal, Break, Continue}
use Rattle.pyd_translate.specs.declared.flow.Flow.{Flow}
use Rattle.pyd_translate.specs.declared.flow.Flow.TheVariants.{Left, Ended}
use Rattle.pyd_translate.specs.declared.draft.Draft.{Draft}
use Rattle.pyd_translate.specs.Making.{Making, Context, pure, emit, ◌>>>◌}
use Rattle.pyd_translate.specs.Drafts.{onto, Makes}
use Rattle.pyd_translate.specs.Expressions.{name_operand, operator}
use Rattle.pyd_translate.specs.Statements as statements
use Rattle.pyd_translate.specs.Statements.{Done, Onward, Sequel, done, then_done, context, ported, with_rest, header, assigned, augmented, message_unfolds, returned, headed_by, if_unfolds, what_unfolds}

-- the file whose nodes are made
abbrev pub file_in : Setting → File
file_in s = s.program.now.file

-- what nodes are made in, in a line and with these arguments of the slots
abbrev pub context_in : Setting → ℕ → List Arg → Context
context_in s line env = context s.routine s.depth line env

-- the names of the slots
abbrev pub slots_in : Setting → List (List ℕ)
slots_in s = locals (file_in s) s.routine

-- a place, as the definitions have it
abbrev pub point_of : Point → numbering.Point
point_of p = numbering.point p.statement p.expression

-- statements that begin at a place, as the definitions have them
abbrev pub passage_of : Passage → passages.Passage
passage_of here = record { stmts = here.stmts; point = point_of here.point }

-- a part of the routine's text stands in its tables at a place, with all that stands in it
abbrev pub StandsIn : Setting → Contents → numbering.Point → Type 0
StandsIn s c p =
    Stands (table (file_in s) s.routine) p.statement (c.table p.expression)
    × Stands (expression_table (file_in s) s.routine) p.expression c.expressions

-- what came of targets that were bound: the slots, or nothing behind a Stop
abbrev pub bound : Bool → List Arg → Option (List Arg)
bound true env = Some env
bound false env = None

-- slots are as they were made, or as they were behind a Stop
pub record Binds (before : Draft) (making : Making (List Arg)) (after : Draft) (goes : Bool)
    (old new : List Arg) : Type 0 where
  pub made : Makes before making after (bound goes new)
  pub same : goes ≡ false → new ≡ old

-- what the nodes of a statement are made in
abbrev pub context_at : Spot → List Arg → Context
context_at at env = context_in at.setting at.line env

-- the names of the slots there
abbrev pub slots_at : Spot → List (List ℕ)
slots_at at = slots_in at.setting

-- the same statement in another line
abbrev pub spot_in : Spot → ℕ → Spot
spot_in at line = record {
  setting = at.setting;
  line = line;
  point = at.point;
  early = at.early;
  rest = at.rest;
}

-- the first expression of a statement
abbrev pub header_at : Spot → Expr → List Arg → Making Arg
header_at at e env = header (file_in at.setting) e (point_of at.point) (context_at at env)

-- the work of a composite for a statement, by its test or iterable
abbrev pub work_of : Composite → ℕ → Arg → List Arg → List Frame → Work
work_of (Cond arm) k control env rest = work.Cond control k arm rest env
work_of (While turns) k control env rest = work.While control k turns rest env
work_of (For turns) k control env rest = work.For control k turns rest env

-- a composite that takes a rest with it
abbrev pub last_at : Spot → Composite → Arg → List Arg → List Frame → Making Done
last_at at c control env rest =
    emit (context_at at env) (work_of c at.point.statement control env rest) >>> ported (slots_at at)

-- a `while` after so many turns, which takes the rest with it, with its test before
abbrev pub again_while_at : Spot → Expr → ℕ → List Arg → Making Done
again_while_at at test turns env =
    then_done env (header_at at test env) (λ control. last_at at (While turns) control env at.rest.now)

-- a composite, and then the sequel
abbrev pub composite_at : Spot → Composite → Arg → List Arg → Sequel → Making Done
composite_at at c control env sequel =
    with_rest (slots_at at) at.early at.point.statement
    (work_of c at.point.statement control env) (context_at at env) sequel

-- the header of a compound statement, its composite, and then the sequel
abbrev pub headed_at : Spot → Composite → Expr → List Arg → Sequel → Making Done
headed_at at c e env sequel =
    headed_by (file_in at.setting) e (λ control. work_of c at.point.statement control env)
    at.early (point_of at.point) (context_at at env) sequel

-- an expression whose value isn't used, and then the sequel
abbrev pub expression_at : Spot → Expr → List Arg → Sequel → Making Done
expression_at at e env sequel = then_done env (header_at at e env) (λ a. sequel.next env)

-- the slots after an assignment
abbrev pub assigned_at : Spot → Targets → Expr → List Arg → Making (List Arg)
assigned_at at targets e env =
    header_at at e env >>> assigned (file_in at.setting) targets (context_at at env)

-- the slots after an augmented assignment
abbrev pub augmented_at : Spot → List ℕ → BinOp → Expr → List Arg → Making (List Arg)
augmented_at at name op e env =
    augmented (file_in at.setting) name op e (point_of at.point) (context_at at env)

-- what it gives the name
abbrev pub operation_at : Spot → List ℕ → BinOp → Expr → List Arg → Making Arg
operation_at at name op e env =
    name_operand (file_in at.setting) name (context_at at env) >>> (λ a. header_at at e env
    >>> (λ b. operator (code.Binary op) (a ∷ b ∷ []) (context_at at env)))

-- the number of an expression behind the first of a statement
abbrev pub second_at : Spot → Expr → ℕ
second_at at e = (past_expression e (point_of at.point)).expression

-- the message of an `assert`, by the value of its test
abbrev pub message_at : Spot → Expr → Option Expr → Arg → List Arg → Making Arg
message_at at test message value env =
    message_unfolds (file_in at.setting) message (second_at at test) (context_at at env) value

-- the message, and then the test once more
abbrev pub raised_at : Spot → Expr → Option Expr → Arg → List Arg → Making (List Arg)
raised_at at test message value env =
    statements.asserted (file_in at.setting) message (second_at at test) (context_at at env) value

-- an `assert`
abbrev pub asserted_at : Spot → Expr → Option Expr → List Arg → Making (List Arg)
asserted_at at test message env =
    header_at at test env >>> (λ value. raised_at at test message value env)

-- a `return`, which has no sequel
abbrev pub returned_at : Spot → Option Expr → List Arg → Sequel → Making Done
returned_at at e env sequel =
    returned (file_in at.setting) e (point_of at.point) (context_at at env)

-- an `if`, and then the sequel
abbrev pub if_at : Spot → List Arm → List Arg → Sequel → Making Done
if_at at arms env sequel =
    if_unfolds (file_in at.setting) arms at.early (point_of at.point) (context_at at env) sequel

-- a statement, and then the sequel
abbrev pub statement_at : Spot → What → List Arg → Sequel → Making Done
statement_at at what env sequel =
    what_unfolds (file_in at.setting) (out-What what) at.early (point_of at.point)
    (context_at at env) sequel

-- how statements are left, as the definitions have it
abbrev pub exit_of : Exit → statements.Exit
exit_of Normal = statements.Normal
exit_of Break = statements.Break
exit_of Continue = statements.Continue

-- what goes on by the way in which a block is left
abbrev pub leaving : Sequel → statements.Exit → Onward
leaving sequel statements.Normal = sequel.next
leaving sequel statements.Break = sequel.leave statements.Break
leaving sequel statements.Continue = sequel.leave statements.Continue

-- what goes on behind a flow
abbrev pub onward : (statements.Exit → Onward) → Flow → Onward
onward leave (Left exit) env = leave (exit_of exit) env
onward leave (Ended value) env = pure (done env value)

-- whether slots were bound, as a flow: behind a Stop there is no value
abbrev pub going : Bool → Flow
going true = Left Normal
going false = Ended arg.Unbound

-- a sequel with this rest
abbrev pub sequel_of : List Frame → (statements.Exit → Onward) → Onward → Sequel
sequel_of rest leave next = record { rest = rest; leave = leave; next = next }

-- a draft has become what was there before with the nodes of a making, up to where it goes on with this flow and these slots
abbrev pub Goes : Draft → Making Done → Draft → (statements.Exit → Onward) → Flow → List Arg
    → Type 0
Goes before making after leave flow env =
    onto before.nodes (making before.next) ≡ onto after.nodes (onward leave flow env after.next)

-- the same of statements, whatever goes on behind them
abbrev pub Flows : Draft → List Frame → (Sequel → Making Done) → Draft → Flow → List Arg → Type 0
Flows before rest making after flow env = (leave : statements.Exit → Onward) (next : Onward)
    → Goes before (making (sequel_of rest leave next)) after (leaving (sequel_of rest leave next))
    flow env

-- the same of a value that isn't used, and without a Stop
abbrev pub Passes : Draft → Making Arg → Draft → Type 0
Passes before making after = (next : Making (List Arg))
    → onto before.nodes ((making >>> (λ a. next)) before.next) ≡ onto after.nodes (next after.next)
