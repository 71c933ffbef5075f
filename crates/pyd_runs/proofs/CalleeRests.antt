-- The nodes of statements, and of what goes on behind them, have their callees.
use Rattle.std.proofs.Common.{ℕ, List, [], ◌∷◌}
use Rattle.pyd_value.specs.declared.value.Value.TheVariants as value
use Rattle.pyd_tree.specs.declared.statement.What.{out-What}
use Rattle.pyd_tree.specs.declared.statement.Stmt.{Stmt}
use Rattle.pyd_tree.specs.declared.file.File.{File}
use Rattle.pyd_names.specs.Binding.{locals}
use Rattle.pyd_ir.specs.declared.arg.Arg.{Arg}
use Rattle.pyd_ir.specs.declared.arg.Arg.TheVariants.{Known}
use Rattle.pyd_ir.specs.declared.work.Frame.{Frame}
use Rattle.pyd_ir.specs.declared.work.Frame.TheVariants.{After, Again}
use Rattle.pyd_ir.specs.declared.work.Work.TheVariants.{While, For}
use Rattle.pyd_scope.specs.Numbering.{Point, past_statement}
use Rattle.pyd_scope.specs.Passages.{Passage, passage_at}
use Rattle.pyd_translate.specs.Making.{Context}
use Rattle.pyd_translate.specs.Compounds.{Compound, Choice, WhileLoop, ForLoop, Simple, first_compound, first_line, passage_behind}
use Rattle.pyd_translate.specs.Expressions.{expression_unfolds}
use Rattle.pyd_translate.specs.Statements.{done, Exit, Normal, Break, Continue, Onward, may_leave, context, stmts_unfold}
use Rattle.pyd_translate.specs.Rests.{again, again_first, rest_unfolds, block_unfolds}
use Rattle.pyd_runs.proofs.CalleeNodes.{Callees, done_callees, pure_callees}
use Rattle.pyd_runs.proofs.CalleeExpressions.{expression_callees}
use Rattle.pyd_runs.proofs.CalleeStatements.{ported_callees, what_callees}

module _ (file : File) (routine depth : ℕ) where
  -- what goes on, from any arguments of the slots
  abbrev pub GoesOn : Onward → Type 0
  GoesOn onward = (env : List Arg) → Callees file (onward env)

  -- statements, and then what goes on by the way in which they are left
  statements_callees : (ss : List Stmt) (p : Point) (rest : List Frame) (leave : Exit → Onward)
      → ((exit : Exit) → GoesOn (leave exit))
      → GoesOn (stmts_unfold file routine depth ss p rest leave)
  unfolding stmts_unfold
  statements_callees [] p rest leave goes env = goes Normal env
  statements_callees (s ∷ ss) p rest leave goes env =
      what_callees file (out-What s.what) (may_leave s) p (context routine depth s.line env)
      (record {
        rest = rest;
        leave = leave;
        next = stmts_unfold file routine depth ss (past_statement s p) rest leave;
      })
      (record {
        leave = goes;
        next = statements_callees ss (past_statement s p) rest leave goes;
      })

  -- a loop that is gone on with
  again_callees : (c : Compound) (p : Point) (turns : ℕ) (over : Arg) (rest : List Frame)
      (at : Context) (next : Onward) → GoesOn next
      → Callees file (again file routine depth c p turns over rest at next)
  again_callees (WhileLoop test body) p turns over rest at next goes =
      done_callees file at.env (expression_unfolds file test p.expression at) _
      (expression_callees file test p.expression at)
      (λ t. ported_callees file (locals file routine) at (While t p.statement turns rest at.env) tt)
  again_callees (ForLoop targets e body) p turns over rest at next goes =
      ported_callees file (locals file routine) at (For over p.statement turns rest at.env) tt
  again_callees (Choice arms otherwise) p turns over rest at next goes = goes at.env
  again_callees Simple p turns over rest at next goes = goes at.env

  -- the first statement of a passage, as a loop that is gone on with
  first_callees : (here : Passage) (turns : ℕ) (over : Arg) (rest : List Frame) (next : Onward)
      → GoesOn next → GoesOn (again_first file routine depth here turns over rest next)
  first_callees here turns over rest next goes env =
      again_callees (first_compound here.stmts) here.point turns over rest
      (context routine depth (first_line here.stmts) env) next goes

  -- a rest, by the way in which the block before it was left
  rest_callees : (rest : List Frame) (exit : Exit)
      → GoesOn (rest_unfolds file routine depth rest exit)
  unfolding rest_unfolds
  rest_callees [] Normal env = pure_callees file (done env (Known value.None))
  rest_callees [] Break env = pure_callees file (done env (Known value.None))
  rest_callees [] Continue env = pure_callees file (done env (Known value.None))
  rest_callees (After k ∷ rest) Normal env =
      let here = passage_behind (passage_at file routine k) in
      statements_callees here.stmts here.point rest (rest_unfolds file routine depth rest)
      (rest_callees rest) env
  rest_callees (After k ∷ rest) Break env = rest_callees rest Break env
  rest_callees (After k ∷ rest) Continue env = rest_callees rest Continue env
  rest_callees (Again k turns over ∷ rest) Normal env =
      first_callees (passage_at file routine k) turns over rest
      (rest_unfolds file routine depth rest Normal) (rest_callees rest Normal) env
  rest_callees (Again k turns over ∷ rest) Break env = rest_callees rest Normal env
  rest_callees (Again k turns over ∷ rest) Continue env =
      first_callees (passage_at file routine k) turns over rest
      (rest_unfolds file routine depth rest Normal) (rest_callees rest Normal) env

  -- statements of one block, and then the rest
  pub block_callees : (here : Passage) (rest : List Frame)
      → GoesOn (block_unfolds file routine depth here rest)
  block_callees here rest =
      statements_callees here.stmts here.point rest (rest_unfolds file routine depth rest)
      (rest_callees rest)
