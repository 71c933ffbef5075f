-- The statements at a start, and the nodes of a block and of a side as one piece.
use Rattle.std.specs.Prelude.{ℕ, List, [], take, Option, Some, None}
use Rattle.std.specs.List.{slice_get}
use Rattle.pyd_tree.specs.declared.statement.Arm.{Arm, out-Arm}
use Rattle.pyd_tree.specs.declared.statement.Block.{Block, out-Block}
use Rattle.pyd_tree.specs.declared.file.File.{File}
use Rattle.pyd_ir.specs.declared.arg.Arg.{Arg}
use Rattle.pyd_ir.specs.declared.arg.Arg.TheVariants.{Unbound}
use Rattle.pyd_ir.specs.declared.node.Node.{Node}
use Rattle.pyd_ir.specs.declared.work.Side.{Side}
use Rattle.pyd_translate.specs.declared.at.At.{At}
use Rattle.pyd_translate.specs.declared.at.Start.{Start}
use Rattle.pyd_translate.specs.declared.at.Start.TheVariants as at
use Rattle.pyd_translate.specs.declared.piece.Piece.{Piece}
use Rattle.pyd_translate.specs.Making as making
use Rattle.pyd_scope.specs.Numbering.{Point, start, body, past, past_expression, inside, arms_contents}
use Rattle.pyd_scope.specs.Passages.{Passage, passage_at}
use Rattle.pyd_translate.specs.Compounds.{Compound, Choice, WhileLoop, ForLoop, Simple, first_compound}
use Rattle.pyd_translate.specs.Sides.{side_unfolds}
use Rattle.pyd_translate.specs.Statements.{Done, done, context}
use Rattle.pyd_translate.specs.Rests.{block_unfolds}

-- no statement
abbrev pub no_passage : Passage
no_passage = record { stmts = []; point = start }

-- the statements of a suite that begins at a place
abbrev pub suite : Block → Point → Passage
suite b p = record { stmts = (out-Block b).stmts; point = p }

-- a suite that may be missing
abbrev pub maybe_suite : Option Block → Point → Passage
maybe_suite None p = no_passage
maybe_suite (Some b) p = suite b p

-- the suite of an arm behind its test
abbrev pub arm_suite : Option Arm → Point → Passage
arm_suite None p = no_passage
arm_suite (Some a) p = suite (out-Arm a).body (past_expression (out-Arm a).test p)

-- the suite of an arm of an `if` that begins at a place
abbrev pub suite_of_arm : Compound → ℕ → Point → Passage
suite_of_arm (Choice arms otherwise) arm p =
    arm_suite (slice_get arms arm) (past (arms_contents (take arm arms)) (inside p))
suite_of_arm (WhileLoop test body) arm p = no_passage
suite_of_arm (ForLoop targets e body) arm p = no_passage
suite_of_arm Simple arm p = no_passage

-- the suite of its `else`
abbrev pub suite_of_else : Compound → Point → Passage
suite_of_else (Choice arms otherwise) p =
    maybe_suite otherwise (past (arms_contents arms) (inside p))
suite_of_else (WhileLoop test body) p = no_passage
suite_of_else (ForLoop targets e body) p = no_passage
suite_of_else Simple p = no_passage

-- the suite of a loop that begins at a place
abbrev pub suite_of_loop : Compound → Point → Passage
suite_of_loop (WhileLoop test body) p = suite body (past_expression test (inside p))
suite_of_loop (ForLoop targets e body) p = suite body (past_expression e (inside p))
suite_of_loop (Choice arms otherwise) p = no_passage
suite_of_loop Simple p = no_passage

-- a suite of the first statement of a passage
abbrev pub suite_in : (Compound → Point → Passage) → Passage → Passage
suite_in part here = part (first_compound here.stmts) here.point

-- the statements at a start in a routine
abbrev pub passage : File → ℕ → Start → Passage
passage file routine at.Body = record { stmts = body file routine; point = start }
passage file routine (at.Arm k arm) =
    suite_in (λ c p. suite_of_arm c arm p) (passage_at file routine k)
passage file routine (at.Otherwise k) = suite_in suite_of_else (passage_at file routine k)
passage file routine (at.LoopBody k) = suite_in suite_of_loop (passage_at file routine k)
passage file routine at.Rest = no_passage

-- a piece that ends so
abbrev pub piece_of : List Node → Done → ℕ → Piece
piece_of nodes d next = record { nodes = nodes; env = d.env; value = d.value; next = next }

-- behind a Stop the slots are as they were, and the value is left out
abbrev pub done_or_stopped : List Arg → Option Done → Done
done_or_stopped env (Some d) = d
done_or_stopped env None = done env Unbound

-- a value that a Stop may have left out
abbrev pub value_or_unbound : Option Arg → Arg
value_or_unbound (Some a) = a
value_or_unbound None = Unbound

-- nodes that were made for statements, as a piece
abbrev pub statements_piece : List Arg → making.Piece Done → Piece
statements_piece env p = piece_of p.nodes (done_or_stopped env p.got) p.next

-- nodes that were made for a value, as a piece
abbrev pub value_piece : List Arg → making.Piece Arg → Piece
value_piece env p = piece_of p.nodes (done env (value_or_unbound p.got)) p.next

-- the nodes of the statements at a start and of what goes on behind them, numbered from a free number on
abbrev pub block_piece : File → At → List Arg → ℕ → Piece
block_piece file a env ids =
    statements_piece env
    (block_unfolds file a.routine a.depth (passage file a.routine a.start) a.rest env ids)

-- the nodes of a side in a line, numbered from a free number on
abbrev pub side_piece : File → At → Side → List Arg → ℕ → ℕ → Piece
side_piece file a s env line ids =
    value_piece env (side_unfolds file s (context a.routine a.depth line env) ids)
