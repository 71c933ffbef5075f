-- The statement of each number stands in its routine, and so do what follows it and its suites.
use Rattle.std.proofs.Common.{◌≡◌, ℕ, zero, suc, ◌+◌, List, [], ◌∷◌, ◌++◌, length, Option, Some, None, refl, subst, arith}
use Rattle.std.specs.List.{slice_get}
use Rattle.pyd_tree.specs.declared.expression.Expr.{Expr}
use Rattle.pyd_tree.specs.declared.statement.Stmt.{Stmt}
use Rattle.pyd_tree.specs.declared.file.File.{File}
use Rattle.pyd_scope.specs.Numbering.{Entry, Contents, followed, inner, contents, body, table, expression_table, Point, point, past, inside, start}
use Rattle.pyd_scope.specs.Passages.{Passage, entry_passage, passage_at}
use Rattle.pyd_translate.specs.declared.at.Start.TheVariants as at
use Rattle.pyd_translate.specs.Compounds.{passage_behind}
use Rattle.pyd_translate.specs.Starts.{passage, suite_of_arm, suite_of_else, suite_of_loop, suite_in}
use Rattle.pyd_translate.specs.Laws.{IsPlaced, StartLaw}
use Rattle.pyd_translate.proofs.Standing.{stands_whole}
use Rattle.pyd_translate.proofs.Contents.{IsKeptBy, of_contents}
use Rattle.pyd_translate.proofs.Placing.{IsSized, sized, StandsAt, IsAt, nothing_at, first_at, second_at, inside_at, behind_at, arm_in, else_in, loop_in}

-- an item of two lists is one of the first, or stands in the second behind it
found_in_either : {A C : Type 0} (xs ys : List A) (k : ℕ) (x : A)
    → slice_get (xs ++ ys) k ≡ Some x
    → (slice_get xs k ≡ Some x → C)
    → ((j : ℕ) → k ≡ length xs + j → slice_get ys j ≡ Some x → C)
    → C
found_in_either [] ys k x e first second = second k (omega arith) e
found_in_either (z ∷ xs) ys zero x e first second = first e
found_in_either (z ∷ xs) ys (suc k) x e first second =
    found_in_either xs ys k x e first (λ j n q. second j (omega (arith, n)) q)

module _ (entries : List Entry) (all : List Expr) where
  -- each entry's statements stand at its number, where the contents stand at a place
  abbrev IsFound : Contents → Type 0
  IsFound c = (p : Point) → StandsAt entries all c p → (k : ℕ) (e : Entry)
      → slice_get (c.table p.expression) k ≡ Some e
      → StandsAt entries all (contents e.stmts) (point (p.statement + k) e.expression)

  -- the same, with the number of entries
  abbrev IsKnown : Contents → Type 0
  IsKnown c = IsSized c × IsFound c

  -- in no entries none is found
  found_nowhere : (p : Point) (k : ℕ) (e : Entry) → slice_get [] k ≡ Some e
      → StandsAt entries all (contents e.stmts) (point (p.statement + k) e.expression)
  found_nowhere p k e q = absurd (cc q)

  -- in one part and then another
  found_both : (a b : Contents) → IsKnown a → IsKnown b → IsFound (followed a b)
  found_both a b f g p st k e q =
      found_in_either (a.table p.expression) (b.table (p.expression + length a.expressions)) k e q
      (λ r. f.1 p (first_at entries all a b p st) k e r)
      (λ j n r.
      let size = f.0 p.expression in
      let number : p.statement + a.statements + j ≡ p.statement + k = omega (arith, n, size) in
      subst (λ m. StandsAt entries all (contents e.stmts) (point m e.expression)) number
      (g.1 (past a p) (second_at entries all a b p f.0 st) j e r))

  -- the first of statements
  found_first : (s : Stmt) (ss : List Stmt) → IsFound (followed (inner s) (contents ss))
      → IsFound (contents (s ∷ ss))
  found_first s ss f p st zero e q =
      let same : record { stmts = s ∷ ss; expression = p.expression } ≡ e = cc q in
      let number : p.statement ≡ p.statement + 0 = omega arith in
      subst (λ x. StandsAt entries all (contents x.stmts) (point (p.statement + 0) x.expression)) same
      (subst (λ m. StandsAt entries all (contents (s ∷ ss)) (point m p.expression)) number st)
  found_first s ss f p st (suc k) e q =
      let number : suc p.statement + k ≡ p.statement + suc k = omega arith in
      subst (λ m. StandsAt entries all (contents e.stmts) (point m e.expression)) number
      (f (inside p)
      (inside_at entries all (s ∷ ss) (followed (inner s) (contents ss)) p st) k e q)

  -- all contents are such
  known : IsKeptBy IsKnown
  known = record {
    none = (sized.none, λ p st k e q. found_nowhere p k e q);
    one = λ x. (sized.one x, λ p st k e q. found_nowhere p k e q);
    both = λ a b f g. (sized.both a b f.0 g.0, found_both a b f g);
    first = λ s ss f. (sized.first s ss f.0, found_first s ss f.1);
  }

-- statements that stand in the tables of a routine are placed
placed : (file : File) (routine : ℕ) (here : Passage)
    → IsAt (table file routine) (expression_table file routine) here
    → IsPlaced file routine here
placed file routine here st = record { statements = st.0; expressions = st.1 }

-- the other way round
standing_at : (file : File) (routine : ℕ) (here : Passage) → IsPlaced file routine here
    → IsAt (table file routine) (expression_table file routine) here
standing_at file routine here is = (is.statements, is.expressions)

-- the statements of a routine are placed at its start
pub body_placed : (file : File) (routine : ℕ)
    → IsPlaced file routine (record { stmts = body file routine; point = start })
body_placed file routine =
    placed file routine (record { stmts = body file routine; point = start })
    (stands_whole (table file routine), stands_whole (expression_table file routine))

-- the statements of an entry that was looked up are placed
entry_placed : (file : File) (routine k : ℕ) (o : Option Entry)
    → slice_get (table file routine) k ≡ o → IsPlaced file routine (entry_passage o k)
entry_placed file routine k None q =
    placed file routine (entry_passage None k)
    (nothing_at (table file routine) (expression_table file routine) (point k 0))
entry_placed file routine k (Some e) q =
    let is = body_placed file routine in
    let number : 0 + k ≡ k = omega arith in
    placed file routine (entry_passage (Some e) k)
    (subst (λ n. StandsAt (table file routine) (expression_table file routine) (contents e.stmts)
    (point n e.expression)) number
    ((of_contents (IsKnown (table file routine) (expression_table file routine))
    (known (table file routine) (expression_table file routine)) (body file routine)).1
    start (is.statements, is.expressions) k e q))

-- statement k of a routine is placed, with those that follow it; no statement is placed too
pub number_placed : (file : File) (routine k : ℕ) → IsPlaced file routine (passage_at file routine k)
number_placed file routine k =
    entry_placed file routine k (slice_get (table file routine) k) refl

-- what follows the first statement of a passage is placed where the passage is
pub behind_placed : (file : File) (routine : ℕ) (here : Passage) → IsPlaced file routine here
    → IsPlaced file routine (passage_behind here)
behind_placed file routine here is =
    placed file routine (passage_behind here)
    (behind_at (table file routine) (expression_table file routine) here.stmts here.point
    (standing_at file routine here is))

-- the suite of an arm of its first statement
pub arm_placed : (file : File) (routine arm : ℕ) (here : Passage) → IsPlaced file routine here
    → IsPlaced file routine (suite_in (λ c p. suite_of_arm c arm p) here)
arm_placed file routine arm here is =
    placed file routine (suite_in (λ c p. suite_of_arm c arm p) here)
    (arm_in (table file routine) (expression_table file routine) arm here.stmts here.point
    (standing_at file routine here is))

-- the suite of its `else`
pub else_placed : (file : File) (routine : ℕ) (here : Passage) → IsPlaced file routine here
    → IsPlaced file routine (suite_in suite_of_else here)
else_placed file routine here is =
    placed file routine (suite_in suite_of_else here)
    (else_in (table file routine) (expression_table file routine) here.stmts here.point
    (standing_at file routine here is))

-- its suite, where it is a loop
pub loop_placed : (file : File) (routine : ℕ) (here : Passage) → IsPlaced file routine here
    → IsPlaced file routine (suite_in suite_of_loop here)
loop_placed file routine here is =
    placed file routine (suite_in suite_of_loop here)
    (loop_in (table file routine) (expression_table file routine) here.stmts here.point
    (standing_at file routine here is))

-- the statements at each start are placed
pub start_placed : StartLaw
start_placed file routine at.Body = body_placed file routine
start_placed file routine (at.Arm k arm) =
    arm_placed file routine arm (passage_at file routine k) (number_placed file routine k)
start_placed file routine (at.Otherwise k) =
    else_placed file routine (passage_at file routine k) (number_placed file routine k)
start_placed file routine (at.LoopBody k) =
    loop_placed file routine (passage_at file routine k) (number_placed file routine k)
start_placed file routine at.Rest =
    placed file routine (passage file routine at.Rest)
    (nothing_at (table file routine) (expression_table file routine) start)
