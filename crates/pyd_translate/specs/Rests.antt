-- The nodes of what goes on behind a body: what follows a statement in its block, the next turn of a loop, or nothing.
use Rattle.std.specs.Prelude.{ℕ, List, [], ◌∷◌}
use Rattle.pyd_tree.specs.declared.file.File.{File}
use Rattle.pyd_names.specs.Binding.{locals}
use Rattle.pyd_ir.specs.declared.arg.Arg.{Arg}
use Rattle.pyd_ir.specs.declared.work.Frame.{Frame}
use Rattle.pyd_ir.specs.declared.work.Frame.TheVariants.{After, Again}
use Rattle.pyd_ir.specs.declared.work.Work.TheVariants.{While, For}
use Rattle.pyd_translate.specs.Making.{Making, Context, emit, ◌>>>◌}
use Rattle.pyd_scope.specs.Numbering.{Point}
use Rattle.pyd_scope.specs.Passages.{Passage, passage_at}
use Rattle.pyd_translate.specs.Compounds.{Compound, Choice, WhileLoop, ForLoop, Simple, first_compound, first_line, passage_behind}
use Rattle.pyd_translate.specs.Expressions.{expression_unfolds}
use Rattle.pyd_translate.specs.Statements.{Done, Exit, Normal, Break, Continue, Onward, finished, then_done, ported, context, stmts_unfold}

module _ (file : File) (routine depth : ℕ) where
  -- statements of one block, and then the rest, which goes on by the way in which they are left
  abbrev pub passage_unfolds : Passage → List Frame → (Exit → Onward) → Onward
  passage_unfolds here rest leave env =
      stmts_unfold file routine depth here.stmts here.point rest leave env

  -- a loop after so many turns, which takes the rest with it: the test of a `while` comes first, and a `for` goes on over its iterable; what is no loop is over
  abbrev pub again : Compound → Point → ℕ → Arg → List Frame → Context → Onward → Making Done
  again (WhileLoop test body) p turns over rest at next =
      then_done at.env (expression_unfolds file test p.expression at) (λ t.
      emit at (While t p.statement turns rest at.env) >>> ported (locals file routine))
  again (ForLoop targets e body) p turns over rest at next =
      emit at (For over p.statement turns rest at.env) >>> ported (locals file routine)
  again (Choice arms otherwise) p turns over rest at next = next at.env
  again Simple p turns over rest at next = next at.env

  -- the first statement of a passage, as a loop after so many turns
  abbrev pub again_first : Passage → ℕ → Arg → List Frame → Onward → Onward
  again_first here turns over rest next env =
      again (first_compound here.stmts) here.point turns over rest
      (context routine depth (first_line here.stmts) env) next

  -- goes on with a rest by the way in which the block before it was left: `continue` drops what stands before the nearest loop, `break` that loop too
  unfoldable pub rest_unfolds : List Frame → Exit → Onward
  rest_unfolds [] Normal env = finished env
  rest_unfolds [] Break env = finished env
  rest_unfolds [] Continue env = finished env
  rest_unfolds (After k ∷ rest) Normal env =
      passage_unfolds (passage_behind (passage_at file routine k)) rest (rest_unfolds rest) env
  rest_unfolds (After k ∷ rest) Break env = rest_unfolds rest Break env
  rest_unfolds (After k ∷ rest) Continue env = rest_unfolds rest Continue env
  rest_unfolds (Again k turns over ∷ rest) Normal env =
      again_first (passage_at file routine k) turns over rest (rest_unfolds rest Normal) env
  rest_unfolds (Again k turns over ∷ rest) Break env = rest_unfolds rest Normal env
  rest_unfolds (Again k turns over ∷ rest) Continue env =
      again_first (passage_at file routine k) turns over rest (rest_unfolds rest Normal) env

  -- statements of one block, and then the rest
  abbrev pub block_unfolds : Passage → List Frame → Onward
  block_unfolds here rest env = passage_unfolds here rest (rest_unfolds rest) env
