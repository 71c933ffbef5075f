-- The composites of statements, and of what goes on behind them, have nested rests.
use Rattle.std.proofs.Common.{◌≡◌, ◌≤◌, ℕ, ◌+◌, List, [], ◌∷◌, Option, Some, None, refl, sym, ap, subst, arith}
use Rattle.std.specs.List.{slice_get}
use Rattle.pyd_value.specs.declared.value.Value.TheVariants as value
use Rattle.pyd_tree.specs.declared.statement.What.{out-What}
use Rattle.pyd_tree.specs.declared.statement.Stmt.{Stmt}
use Rattle.pyd_tree.specs.declared.file.File.{File}
use Rattle.pyd_names.specs.Binding.{locals}
use Rattle.pyd_ir.specs.declared.arg.Arg.{Arg}
use Rattle.pyd_ir.specs.declared.arg.Arg.TheVariants.{Known}
use Rattle.pyd_ir.specs.declared.work.Frame.{Frame}
use Rattle.pyd_ir.specs.declared.work.Frame.TheVariants.{After, Again}
use Rattle.pyd_ir.specs.declared.work.Work.TheVariants.{While, For}
use Rattle.pyd_scope.specs.Numbering.{Entry, Point, contents, inner, followed, table, past_statement}
use Rattle.pyd_scope.specs.Passages.{passage_at, entry_passage}
use Rattle.pyd_translate.specs.Making.{Context}
use Rattle.pyd_translate.specs.Compounds.{Compound, Choice, WhileLoop, ForLoop, Simple, first_compound, first_line, passage_behind}
use Rattle.pyd_translate.specs.Expressions.{expression_unfolds}
use Rattle.pyd_translate.specs.Statements.{done, Exit, Normal, Break, Continue, Onward, may_leave, context, stmts_unfold}
use Rattle.pyd_translate.specs.Rests.{again, again_first, rest_unfolds}
use Rattle.pyd_translate.specs.Laws.{IsPlaced}
use Rattle.pyd_translate.specs.Nested.{number_behind, AreWithin, following, end_of, IsNested, BlockNested}
use Rattle.pyd_translate.proofs.Standing.{stands_at}
use Rattle.pyd_translate.proofs.Lookup.{number_placed, behind_placed}
use Rattle.pyd_translate.proofs.NestedNodes.{Nests, done_nests, pure_nests}
use Rattle.pyd_translate.proofs.NestedExpressions.{expression_nests}
use Rattle.pyd_translate.proofs.NestedStatements.{ported_nests, what_nests}

-- an entry's statements begin at its number
pub entry_begins : (o : Option Entry) (k : ℕ) → (entry_passage o k).point.statement ≡ k
entry_begins None k = refl
entry_begins (Some e) k = refl

-- what follows some statements begins no earlier
follows_later : (ss : List Stmt) (p : Point)
    → p.statement ≤ (passage_behind (record { stmts = ss; point = p })).point.statement
follows_later [] p = omega arith
follows_later (s ∷ ss) p = omega arith

-- what follows an entry's first statement begins no earlier than its number
entry_later : (o : Option Entry) (k : ℕ) → k ≤ (passage_behind (entry_passage o k)).point.statement
entry_later None k = omega arith
entry_later (Some e) k = follows_later e.stmts (entry_passage (Some e) k).point

-- what follows the first of statements stands between the same numbers
within_behind : (s : Stmt) (ss : List Stmt) (p : Point) (first last : ℕ)
    → AreWithin first last (s ∷ ss) p.statement
    → AreWithin first last ss (past_statement s p).statement
within_behind s [] p first last is = tt
within_behind s (t ∷ ss) p first last is = (omega (arith, is.0), omega (arith, is.1))

-- statements stand between a number that is no greater than theirs and that behind them
placed_within : (ss : List Stmt) (number first : ℕ) → first ≤ number
    → AreWithin first (number + (contents ss).statements) ss number
placed_within [] number first le = tt
placed_within (s ∷ ss) number first le = (le, omega arith)

module _ (file : File) (routine : ℕ) where
  -- a rest that is nested round statements is nested round fewer
  nested_in : (rest : List Frame) (first last low high : ℕ) → first ≤ low → high ≤ last
      → IsNested file routine first last rest → IsNested file routine low high rest
  nested_in [] first last low high p q is = tt
  nested_in (After k ∷ rest) first last low high p q is = (
    omega (arith, q, is.0),
    nested_in rest first (number_behind (following file routine k)) low
        (number_behind (following file routine k)) p (omega arith) is.1,
  )
  nested_in (Again k turns over ∷ rest) first last low high p q is =
      (omega (arith, p, is.0), (omega (arith, q, is.1.0), is.1.1))

  -- statements that are placed are those that their number names
  pub passage_found : (s : Stmt) (ss : List Stmt) (p : Point)
      → IsPlaced file routine (record { stmts = s ∷ ss; point = p })
      → passage_at file routine p.statement ≡ record { stmts = s ∷ ss; point = p }
  passage_found s ss p is =
      ap (λ o. entry_passage o p.statement)
      (stands_at (table file routine) p.statement
      (record { stmts = s ∷ ss; expression = p.expression })
      ((followed (inner s) (contents ss)).table p.expression) is.statements)

  -- the rest that a composite takes with it
  taken_nested : (s : Stmt) (ss : List Stmt) (p : Point) (rest : List Frame) (first last : ℕ)
      → IsPlaced file routine (record { stmts = s ∷ ss; point = p })
      → AreWithin first last (s ∷ ss) p.statement → IsNested file routine first last rest
      → IsNested file routine p.statement (end_of file routine p.statement)
      (After p.statement ∷ rest)
  taken_nested s ss p rest first last placed within is =
      let found : passage_at file routine p.statement ≡ record { stmts = s ∷ ss; point = p } =
      passage_found s ss p placed in
      let end : number_behind (following file routine p.statement)
      ≡ (past_statement s p).statement + (contents ss).statements =
      ap (λ x. number_behind (passage_behind x)) found in (
        omega arith,
        nested_in rest first last p.statement (number_behind (following file routine p.statement))
            within.0 (omega (arith, end, within.1)) is,
      )

module _ (file : File) (routine depth : ℕ) where
  -- statements, and then what goes on by the way in which they are left
  statements_nest : (ss : List Stmt) (p : Point) (rest : List Frame) (leave : Exit → Onward)
      (first last : ℕ) → IsPlaced file routine (record { stmts = ss; point = p })
      → AreWithin first last ss p.statement → IsNested file routine first last rest
      → ((exit : Exit) (env : List Arg) → Nests file (leave exit env))
      → (env : List Arg) → Nests file (stmts_unfold file routine depth ss p rest leave env)
  unfolding stmts_unfold
  statements_nest [] p rest leave first last placed within is goes env = goes Normal env
  statements_nest (s ∷ ss) p rest leave first last placed within is goes env =
      what_nests file (out-What s.what) (may_leave s) p (context routine depth s.line env)
      (record {
        rest = rest;
        leave = leave;
        next = stmts_unfold file routine depth ss (past_statement s p) rest leave;
      })
      (record {
        taken = taken_nested file routine s ss p rest first last placed within is;
        leave = goes;
        next = statements_nest ss (past_statement s p) rest leave first last
            (behind_placed file routine (record { stmts = s ∷ ss; point = p }) placed)
            (within_behind s ss p first last within) is goes;
      })

  -- a loop that is gone on with
  again_nests : (c : Compound) (p : Point) (k turns : ℕ) (over : Arg) (rest : List Frame)
      (at : Context) (next : Onward) → p.statement ≡ k → at.routine ≡ routine
      → IsNested file routine k (end_of file routine k) rest
      → ((env : List Arg) → Nests file (next env))
      → Nests file (again file routine depth c p turns over rest at next)
  again_nests (WhileLoop test body) p k turns over rest at next begins same is goes =
      done_nests file at.env (expression_unfolds file test p.expression at) _
      (expression_nests file test p.expression at)
      (λ t. ported_nests file (locals file routine) at (While t p.statement turns rest at.env)
      (subst (λ r. IsNested file r p.statement (end_of file r p.statement) rest) (sym same)
      (subst (λ n. IsNested file routine n (end_of file routine n) rest) (sym begins) is)))
  again_nests (ForLoop targets e body) p k turns over rest at next begins same is goes =
      ported_nests file (locals file routine) at (For over p.statement turns rest at.env)
      (subst (λ r. IsNested file r p.statement (end_of file r p.statement) rest) (sym same)
      (subst (λ n. IsNested file routine n (end_of file routine n) rest) (sym begins) is))
  again_nests (Choice arms otherwise) p k turns over rest at next begins same is goes =
      goes at.env
  again_nests Simple p k turns over rest at next begins same is goes = goes at.env

  -- the first statement of a number, as a loop that is gone on with
  again_number_nests : (k turns : ℕ) (over : Arg) (rest : List Frame) (next : Onward)
      → IsNested file routine k (end_of file routine k) rest
      → ((env : List Arg) → Nests file (next env)) → (env : List Arg)
      → Nests file
      (again_first file routine depth (passage_at file routine k) turns over rest next env)
  again_number_nests k turns over rest next is goes env =
      again_nests (first_compound (passage_at file routine k).stmts)
      (passage_at file routine k).point k turns over rest
      (context routine depth (first_line (passage_at file routine k).stmts) env) next
      (entry_begins (slice_get (table file routine) k) k) refl is goes

  -- a rest, by the way in which the block before it was left
  rest_nests : (rest : List Frame) (first last : ℕ) → first ≤ last
      → IsNested file routine first last rest → (exit : Exit) (env : List Arg)
      → Nests file (rest_unfolds file routine depth rest exit env)
  unfolding rest_unfolds
  rest_nests [] first last le is Normal env = pure_nests file (done env (Known value.None))
  rest_nests [] first last le is Break env = pure_nests file (done env (Known value.None))
  rest_nests [] first last le is Continue env = pure_nests file (done env (Known value.None))
  rest_nests (After k ∷ rest) first last le is Normal env =
      statements_nest (following file routine k).stmts (following file routine k).point rest
      (rest_unfolds file routine depth rest) first (number_behind (following file routine k))
      (behind_placed file routine (passage_at file routine k) (number_placed file routine k))
      (placed_within (following file routine k).stmts (end_of file routine k) first
      (omega (arith, le, is.0)))
      is.1
      (rest_nests rest first (number_behind (following file routine k)) (omega (arith, le, is.0))
      is.1) env
  rest_nests (After k ∷ rest) first last le is Break env =
      rest_nests rest first (number_behind (following file routine k)) (omega (arith, le, is.0))
      is.1 Break env
  rest_nests (After k ∷ rest) first last le is Continue env =
      rest_nests rest first (number_behind (following file routine k)) (omega (arith, le, is.0))
      is.1 Continue env
  rest_nests (Again k turns over ∷ rest) first last le is Normal env =
      again_number_nests k turns over rest (rest_unfolds file routine depth rest Normal) is.1.1
      (rest_nests rest k (end_of file routine k)
      (entry_later (slice_get (table file routine) k) k) is.1.1 Normal) env
  rest_nests (Again k turns over ∷ rest) first last le is Break env =
      rest_nests rest k (end_of file routine k) (entry_later (slice_get (table file routine) k) k)
      is.1.1 Normal env
  rest_nests (Again k turns over ∷ rest) first last le is Continue env =
      again_number_nests k turns over rest (rest_unfolds file routine depth rest Normal) is.1.1
      (rest_nests rest k (end_of file routine k)
      (entry_later (slice_get (table file routine) k) k) is.1.1 Normal) env

-- statements and a nested rest
pub block_nested : BlockNested
block_nested file routine depth first last here rest ids env placed le within nested =
    statements_nest file routine depth here.stmts here.point rest
    (rest_unfolds file routine depth rest) first last placed within nested
    (rest_nests file routine depth rest first last le nested) env ids
