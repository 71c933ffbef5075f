-- Statements, what goes on behind them, and sides have 3 nodes for each item at most.
use Rattle.std.proofs.Common.{◌≤◌, ℕ, ◌+◌, ◌*◌, List, [], ◌∷◌, length, arith}
use Rattle.pyd_value.specs.declared.value.Value.TheVariants as value
use Rattle.pyd_tree.specs.declared.statement.What.{out-What}
use Rattle.pyd_tree.specs.declared.statement.Stmt.{Stmt}
use Rattle.pyd_tree.specs.declared.file.File.{File}
use Rattle.pyd_names.specs.Binding.{locals}
use Rattle.pyd_names.specs.WellFormed.{expression_parts}
use Rattle.pyd_ir.specs.declared.arg.Arg.{Arg}
use Rattle.pyd_ir.specs.declared.arg.Arg.TheVariants.{Known}
use Rattle.pyd_ir.specs.declared.work.Frame.{Frame}
use Rattle.pyd_ir.specs.declared.work.Frame.TheVariants.{After, Again}
use Rattle.pyd_ir.specs.declared.work.Work.TheVariants.{While, For}
use Rattle.pyd_scope.specs.Numbering.{Point, past_statement}
use Rattle.pyd_scope.specs.Passages.{Passage, passage_at}
use Rattle.pyd_translate.specs.Making.{Context, emit, ◌>>>◌}
use Rattle.pyd_translate.specs.Compounds.{Compound, Choice, WhileLoop, ForLoop, Simple, first_compound, first_line, compound_at, passage_behind}
use Rattle.pyd_translate.specs.Expressions.{expression_unfolds}
use Rattle.pyd_translate.specs.Statements.{done, finished, Exit, Normal, Break, Continue, Onward, may_leave, context, ported, stmts_unfold}
use Rattle.pyd_translate.specs.Rests.{again, again_first, rest_unfolds, block_unfolds}
use Rattle.pyd_translate.specs.Counts.{what_items, items, all_items, again_items, rest_items, BlockCount}
use Rattle.pyd_translate.proofs.FewNodes.{Few, done_few, few_more, pure_few}
use Rattle.pyd_translate.proofs.FewInExpressions.{expression_few}
use Rattle.pyd_translate.proofs.FewInStatements.{GoesFew, items_level, items_out, ported_few, what_few}

module _ (file : File) (routine depth : ℕ) where
  -- an end
  finished_few : (n : ℕ) → GoesFew n finished
  finished_few n env = pure_few n 0 (done env (Known value.None)) (omega arith)

  -- statements, and then what goes on by the way in which they are left
  statements_few : (ss : List Stmt) (p : Point) (rest : List Frame) (leave : Exit → Onward) (n : ℕ)
      → ((exit : Exit) → GoesFew (3 * n) (leave exit))
      → GoesFew (3 * (all_items ss + n)) (stmts_unfold file routine depth ss p rest leave)
  unfolding stmts_unfold
  statements_few [] p rest leave n goes env =
      few_more (3 * n) 0 (3 * (0 + n)) 0 (leave Normal env) (goes Normal env) (omega arith)
  statements_few (s ∷ ss) p rest leave n goes env =
      let is = items_out s in
      few_more
      (3 * (1 + what_items (items_level (out-What s.what))) + 3 * (all_items ss + n)) 0
      (3 * (items s + all_items ss + n)) 0
      (stmts_unfold file routine depth (s ∷ ss) p rest leave env)
      (what_few file (out-What s.what) (may_leave s) p (context routine depth s.line env)
      (record {
        rest = rest;
        leave = leave;
        next = stmts_unfold file routine depth ss (past_statement s p) rest leave;
      }) (3 * (all_items ss + n))
      (record {
        leave = λ exit env. few_more (3 * n) 0 (3 * (all_items ss + n)) 0 (leave exit env)
            (goes exit env) (omega arith);
        next = statements_few ss (past_statement s p) rest leave n goes;
      })) (omega (arith, is))

  -- a loop that is gone on with
  again_few : (c : Compound) (p : Point) (turns : ℕ) (over : Arg) (rest : List Frame)
      (at : Context) (next : Onward) (n : ℕ) → GoesFew (3 * n) next
      → Few (3 * (again_items c + n)) 0 (again file routine depth c p turns over rest at next)
  again_few (WhileLoop test body) p turns over rest at next n goes =
      done_few (3 * expression_parts test) 1 1 0 (3 * (1 + expression_parts test + n)) 0 at.env
      (expression_unfolds file test p.expression at)
      (λ t. emit at (While t p.statement turns rest at.env) >>> ported (locals file routine))
      (expression_few file test p.expression at)
      (λ t. ported_few (locals file routine) at (While t p.statement turns rest at.env))
      (omega arith) (omega arith)
  again_few (ForLoop targets e body) p turns over rest at next n goes =
      few_more 1 0 (3 * (1 + n)) 0
      (emit at (For over p.statement turns rest at.env) >>> ported (locals file routine))
      (ported_few (locals file routine) at (For over p.statement turns rest at.env)) (omega arith)
  again_few (Choice arms otherwise) p turns over rest at next n goes =
      few_more (3 * n) 0 (3 * (0 + n)) 0 (next at.env) (goes at.env) (omega arith)
  again_few Simple p turns over rest at next n goes =
      few_more (3 * n) 0 (3 * (0 + n)) 0 (next at.env) (goes at.env) (omega arith)

  -- the first statement of a passage, as a loop that is gone on with
  again_first_few : (here : Passage) (turns : ℕ) (over : Arg) (rest : List Frame) (next : Onward)
      (n : ℕ) → GoesFew (3 * n) next
      → GoesFew (3 * (again_items (first_compound here.stmts) + n))
      (again_first file routine depth here turns over rest next)
  again_first_few here turns over rest next n goes env =
      again_few (first_compound here.stmts) here.point turns over rest
      (context routine depth (first_line here.stmts) env) next n goes

  -- a rest, by the way in which the block before it was left
  rest_few : (rest : List Frame) (exit : Exit)
      → GoesFew (3 * rest_items file routine rest) (rest_unfolds file routine depth rest exit)
  unfolding rest_unfolds
  rest_few [] Normal env = finished_few 0 env
  rest_few [] Break env = finished_few 0 env
  rest_few [] Continue env = finished_few 0 env
  rest_few (After k ∷ rest) Normal env =
      statements_few (passage_behind (passage_at file routine k)).stmts
      (passage_behind (passage_at file routine k)).point rest
      (rest_unfolds file routine depth rest) (rest_items file routine rest) (rest_few rest) env
  rest_few (After k ∷ rest) Break env =
      few_more (3 * rest_items file routine rest) 0
      (3 * (all_items (passage_behind (passage_at file routine k)).stmts
      + rest_items file routine rest)) 0
      (rest_unfolds file routine depth rest Break env) (rest_few rest Break env) (omega arith)
  rest_few (After k ∷ rest) Continue env =
      few_more (3 * rest_items file routine rest) 0
      (3 * (all_items (passage_behind (passage_at file routine k)).stmts
      + rest_items file routine rest)) 0
      (rest_unfolds file routine depth rest Continue env) (rest_few rest Continue env) (omega arith)
  rest_few (Again k turns over ∷ rest) Normal env =
      again_first_few (passage_at file routine k) turns over rest
      (rest_unfolds file routine depth rest Normal) (rest_items file routine rest)
      (rest_few rest Normal) env
  rest_few (Again k turns over ∷ rest) Break env =
      few_more (3 * rest_items file routine rest) 0
      (3 * (again_items (compound_at file routine k) + rest_items file routine rest)) 0
      (rest_unfolds file routine depth rest Normal env) (rest_few rest Normal env) (omega arith)
  rest_few (Again k turns over ∷ rest) Continue env =
      again_first_few (passage_at file routine k) turns over rest
      (rest_unfolds file routine depth rest Normal) (rest_items file routine rest)
      (rest_few rest Normal) env

-- statements and what goes on behind them
pub block_few : BlockCount
block_few file routine depth here rest ids env =
    let few : Few (3 * (all_items here.stmts + rest_items file routine rest)) 0
    (block_unfolds file routine depth here rest env) =
    statements_few file routine depth here.stmts here.point rest
    (rest_unfolds file routine depth rest) (rest_items file routine rest)
    (rest_few file routine depth rest) env in
    let count : length (block_unfolds file routine depth here rest env ids).nodes + 0
    ≤ 3 * (all_items here.stmts + rest_items file routine rest) = few ids in
    omega (arith, count)
