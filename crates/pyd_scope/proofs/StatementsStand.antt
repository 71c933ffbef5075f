-- The cell of each statement says where the statement stands in its block, and where it ends.
use Rattle.std.proofs.Common.{◌≡◌, ◌<◌, ◌≤◌, ℕ, zero, suc, ◌+◌, List, [], ◌∷◌, ◌++◌, map, length, drop, Option, Some, None, refl, sym, ap, subst, ◌∙◌, arith}
use Rattle.std.specs.Prelude.{slice_get, option_map, option_and_then, option_to_list}
use Rattle.std.proofs.lemmas.List.{length-append}
use Rattle.pyd_tree.specs.declared.expression.Expr.{Expr}
use Rattle.pyd_tree.specs.declared.statement.What.{What, out-What}
use Rattle.pyd_tree.specs.declared.statement.What.TheOpen.{What-F}
use Rattle.pyd_tree.specs.declared.statement.Arm.{Arm, out-Arm}
use Rattle.pyd_tree.specs.declared.statement.Block.{Block}
use Rattle.pyd_tree.specs.declared.statement.Stmt.{Stmt}
use Rattle.pyd_scope.specs.declared.cells.Origin.TheVariants.{Header}
use Rattle.pyd_scope.specs.declared.cells.Suite.{Suite}
use Rattle.pyd_scope.specs.declared.cells.Suite.TheVariants as suite
use Rattle.pyd_scope.specs.declared.cells.StatementCell.{StatementCell}
use Rattle.pyd_scope.specs.Numbering.{Entry, Contents, nothing, followed, expression, maybe_expression, headed, inner, contents, arm_contents, arms_contents, Point, point, past, inside, past_first, start}
use Rattle.pyd_scope.specs.Parting.{test_of, body_of_arm, headers, arm_in, else_in, loop_in, header_at, arm_suite, else_suite, loop_suite}
use Rattle.pyd_scope.specs.Blocks.{block_stmts}
use Rattle.pyd_scope.specs.Locating.{statement_in, located, suite_stmts, entry_in}
use Rattle.pyd_scope.specs.Cells.{Cells, Making, no_cells, past_cells, joined_cells, then_cells, header_cells, maybe_header, headed_by, stmts_from, arms_from, maybe_block, what_made, stmt_cells, arm_cells, block_cells, inner_cells, body_cells}
use Rattle.pyd_scope.proofs.Induction.{Each, Maybe, InSuite, InSuites, by_suites}
use Rattle.pyd_scope.proofs.Contents.{block_contents, what_inner, inner_out, of_contents}
use Rattle.pyd_scope.proofs.Contents as levels
use Rattle.pyd_scope.proofs.Froms.{AllFrom, from-append}
use Rattle.pyd_scope.proofs.Stands.{stands_at, dropped_first}
use Rattle.pyd_scope.proofs.ContentsStand.{IsSized, sized, sized_both, sized_inner, past_both, StandsAt, first_at, second_at, inside_at}
use Rattle.pyd_scope.proofs.CellParts.{counted}
use Rattle.pyd_scope.proofs.CellsStand.{drop_more, IsCell, has_cells}
use Rattle.pyd_scope.proofs.StatementLevels.{block_out, arm_out, stmt_out}

-- the number of the statement whose suite it is lies below
abbrev pub IsLater : Suite → ℕ → Type 0
IsLater suite.Body n = Unit {0}
IsLater (suite.Arm stmt arm) n = stmt < n
IsLater (suite.Otherwise stmt) n = stmt < n
IsLater (suite.LoopBody stmt) n = stmt < n

-- what holds of a number holds of all later ones
abbrev Stays : (ℕ → Type 0) → Type 0
Stays E = (k l : ℕ) → k ≤ l → E k → E l

-- a number below stays below
stays_later : (b : Suite) → Stays (IsLater b)
stays_later suite.Body k l le q = tt
stays_later (suite.Arm stmt arm) k l le q = omega (arith, le, q)
stays_later (suite.Otherwise stmt) k l le q = omega (arith, le, q)
stays_later (suite.LoopBody stmt) k l le q = omega (arith, le, q)

-- the same of one number
stays_below : (n : ℕ) → Stays (λ k. n < k)
stays_below n k l le q = omega (arith, le, q)

-- an item of what is made of each
pub mapped_at : {A B : Type 0} (f : A → B) (xs : List A) (k : ℕ) (x : A) → slice_get xs k ≡ Some x
    → slice_get (map f xs) k ≡ Some (f x)
mapped_at f [] k x is = absurd (cc is)
mapped_at f (y ∷ xs) zero x is =
    let same : y ≡ x = cc is in
    ap (λ z. Some (f z)) same
mapped_at f (y ∷ xs) (suc k) x is = mapped_at f xs k x is

-- the only item
only_at : {A : Type 0} (o : Option A) → slice_get (option_to_list o) 0 ≡ o
only_at None = refl
only_at (Some x) = refl

-- the second item
second_item : {A : Type 0} (x : A) (o : Option A) → slice_get (x ∷ option_to_list o) 1 ≡ o
second_item x None = refl
second_item x (Some y) = refl

-- the place behind some cells and then others
past_joined : (a b : Cells) (p : Point)
    → past_cells (joined_cells a b) p ≡ past_cells b (past_cells a p)
past_joined a b p =
    let statements = length-append a.statements b.statements in
    let expressions = length-append a.expressions b.expressions in
    let s : p.statement + length (a.statements ++ b.statements)
    ≡ p.statement + length a.statements + length b.statements =
    omega (arith, statements) in
    let e : p.expression + length (a.expressions ++ b.expressions)
    ≡ p.expression + length a.expressions + length b.expressions =
    omega (arith, expressions) in
    λ i. point (s i) (e i)

module _ (entries : List Entry) (all : List Expr) (body : List Stmt) where
  -- the statements of a block
  abbrev stmts_of : Suite → Option (List Stmt)
  stmts_of b = suite_stmts entries body b

  -- what is right in the cell of statement n
  pub record IsStatementCell (n : ℕ) (c : StatementCell) : Type 0 where
    pub entry : entry_in entries body c ≡ slice_get entries n
    pub later : IsLater c.suite n
    pub behind : (e : Entry) → slice_get entries n ≡ Some e
        → point c.behind_statement c.behind_expression ≡ past_first e.stmts (point n e.expression)

  -- cells of what stands at a place are right, and as many as are there
  pub record FitsAt (c : Contents) (p : Point) (x : Cells) : Type 0 where
    pub behind : past_cells x p ≡ past c p
    pub statements : AllFrom IsStatementCell p.statement x.statements
    pub expressions : AllFrom (IsCell entries all) p.expression x.expressions

  -- cells are right wherever something stands, from a number on of which this holds
  record Fits (E : ℕ → Type 0) (c : Contents) (m : Making) : Type 0 where
    sized : IsSized c
    at : (p : Point) → E p.statement → StandsAt entries all c p → FitsAt c p (m p)

  -- no cells are right
  fits_none : (E : ℕ → Type 0) → Fits E nothing no_cells
  fits_none E = record {
    sized = λ n. refl;
    at = λ p lt st. record { behind = refl; statements = tt; expressions = tt };
  }

  -- those of one part and those of another behind it
  fits_behind : (c d : Contents) (p : Point) (x y : Cells) → FitsAt c p x
      → FitsAt d (past_cells x p) y → FitsAt (followed c d) p (joined_cells x y)
  fits_behind c d p x y f g =
      record {
        behind = past_joined x y p ∙ g.behind ∙ ap (past d) f.behind ∙ sym (past_both c d p);
        statements =
            from-append IsStatementCell p.statement x.statements y.statements
            f.statements g.statements;
        expressions =
            from-append (IsCell entries all) p.expression x.expressions y.expressions
            f.expressions g.expressions;
      }

  -- of both parts
  fits_both : (E : ℕ → Type 0) (c d : Contents) (m k : Making) → Stays E → Fits E c m → Fits E d k
      → Fits E (followed c d) (then_cells m k)
  fits_both E c d m k stays f g =
      record {
        sized = sized_both c d f.sized g.sized;
        at = λ p lt st.
            let here = f.at p lt (first_at entries all c d p st) in
            let next : p.statement ≤ p.statement + length (m p).statements = omega arith in
            fits_behind c d p (m p) (k (past_cells (m p) p)) here
            (g.at (past_cells (m p) p)
            (stays p.statement (p.statement + length (m p).statements) next lt)
            (subst (StandsAt entries all d) (sym here.behind)
            (second_at entries all c d p f.sized st)));
      }

  -- of a header
  fits_header : (E : ℕ → Type 0) (n at : ℕ) (e : Expr) → located entries all (Header n at) ≡ Some e
      → Fits E (expression e) (header_cells n at e)
  fits_header E n at e is =
      record {
        sized = λ m. refl;
        at = λ p lt st. record {
          behind =
              ap (λ l. point (p.statement + 0) (p.expression + l))
              (counted e (Header n at) p.expression);
          statements = tt;
          expressions = has_cells entries all e (Header n at) p.expression st.1 is tt;
        };
      }

  -- of one that may be missing
  fits_maybe : (E : ℕ → Type 0) (n at : ℕ) (o : Option Expr) → located entries all (Header n at) ≡ o
      → Fits E (maybe_expression o) (maybe_header n at o)
  fits_maybe E n at None is = fits_none E
  fits_maybe E n at (Some e) is = fits_header E n at e is

  -- the cells of a statement are right wherever it stands in its block
  abbrev FitsStmt : Stmt → Type 0
  FitsStmt s =
      (b : Suite) (at : ℕ) (block ss : List Stmt) (p : Point) → stmts_of b ≡ Some block
      → drop at block ≡ s ∷ ss → IsLater b p.statement
      → StandsAt entries all (headed (s ∷ ss) (inner s)) p
      → FitsAt (headed (s ∷ ss) (inner s)) p (stmt_cells s b at p)

  -- a first statement and those behind it
  fits_first : (s : Stmt) (ss : List Stmt) (p : Point) (x : Cells)
      → FitsAt (followed (headed (s ∷ ss) (inner s)) (contents ss)) p x
      → FitsAt (contents (s ∷ ss)) p x
  fits_first s ss p x f =
      let same : p.statement + (suc (inner s).statements + (contents ss).statements)
      ≡ p.statement + suc ((inner s).statements + (contents ss).statements) =
      omega arith in
      record {
        behind =
            f.behind
            ∙ ap (λ l. point l (p.expression
            + length ((inner s).expressions ++ (contents ss).expressions))) same;
        statements = f.statements;
        expressions = f.expressions;
      }

  -- the place behind a first statement, in two ways
  behind_first : (s : Stmt) (ss : List Stmt) (p : Point)
      → past (inner s) (inside p) ≡ past (headed (s ∷ ss) (inner s)) p
  behind_first s ss p =
      let same : suc p.statement + (inner s).statements
      ≡ p.statement + suc (inner s).statements =
      omega arith in
      ap (λ l. point l (p.expression + length (inner s).expressions)) same

  -- of statements of a block
  fits_stmts : (b : Suite) (at : ℕ) (block ss : List Stmt) → stmts_of b ≡ Some block
      → drop at block ≡ ss → Each FitsStmt ss
      → Fits (IsLater b) (contents ss) (stmts_from stmt_cells b at ss)
  fits_stmts b at block [] is d q = fits_none (IsLater b)
  fits_stmts b at block (s ∷ ss) is d q =
      let rest = fits_stmts b (suc at) block ss is (drop_more block at s ss d) q.1 in
      record {
        sized = of_contents IsSized sized (s ∷ ss);
        at = λ p lt st.
            let x = stmt_cells s b at p in
            let here =
            q.0 b at block ss p is d lt
            (first_at entries all (headed (s ∷ ss) (inner s)) (contents ss) p st) in
            let next : p.statement ≤ p.statement + length (stmt_cells s b at p).statements =
            omega arith in
            let behind : StandsAt entries all (contents ss) (past (inner s) (inside p)) =
            second_at entries all (inner s) (contents ss) (inside p) (sized_inner s)
            (inside_at entries all (s ∷ ss) (followed (inner s) (contents ss)) p st) in
            fits_first s ss p
            (joined_cells x (stmts_from stmt_cells b (suc at) ss (past_cells x p)))
            (fits_behind (headed (s ∷ ss) (inner s)) (contents ss) p x
            (stmts_from stmt_cells b (suc at) ss (past_cells x p)) here
            (rest.at (past_cells x p)
            (stays_later b p.statement (p.statement + length (stmt_cells s b at p).statements)
            next lt)
            (subst (StandsAt entries all (contents ss)) (behind_first s ss p ∙ sym here.behind)
            behind)));
      }

  -- of a suite
  fits_block : (b : Suite) (block : Block) → stmts_of b ≡ Some (block_stmts block)
      → InSuite FitsStmt block → Fits (IsLater b) (block_contents block) (block_cells block b)
  fits_block b block is q =
      subst (Fits (IsLater b) (block_contents block)) (sym (block_out block b))
      (fits_stmts b 0 (block_stmts block) (block_stmts block) is refl q)

  -- of an arm
  fits_arm : (n at : ℕ) (a : Arm) → located entries all (Header n at) ≡ Some (test_of a)
      → stmts_of (suite.Arm n at) ≡ Some (block_stmts (body_of_arm a))
      → InSuite FitsStmt (out-Arm a).body
      → Fits (λ k. n < k) (arm_contents a) (arm_cells a n at)
  fits_arm n at a is block q =
      subst (Fits (λ k. n < k) (arm_contents a)) (sym (arm_out a n at))
      (subst (λ c. Fits (λ k. n < k) c (then_cells (header_cells n at (out-Arm a).test)
      (block_cells (out-Arm a).body (suite.Arm n at)))) (sym (levels.arm_out a))
      (fits_both (λ k. n < k) (expression (out-Arm a).test) (block_contents (out-Arm a).body)
      (header_cells n at (out-Arm a).test) (block_cells (out-Arm a).body (suite.Arm n at))
      (stays_below n) (fits_header (λ k. n < k) n at (out-Arm a).test is)
      (fits_block (suite.Arm n at) (out-Arm a).body block q)))

  -- of arms, from a place on
  fits_arms : (n at : ℕ) (every arms : List Arm) → drop at every ≡ arms
      → ((k : ℕ) → located entries all (Header n k) ≡ slice_get (map test_of every) k)
      → ((k : ℕ) → stmts_of (suite.Arm n k)
      ≡ option_map block_stmts (option_map body_of_arm (slice_get every k)))
      → Each (λ a. InSuite FitsStmt (out-Arm a).body) arms
      → Fits (λ k. n < k) (arms_contents arms) (arms_from arm_cells n at arms)
  fits_arms n at every [] d tests bodies q = fits_none (λ k. n < k)
  fits_arms n at every (a ∷ arms) d tests bodies q =
      let here : slice_get every at ≡ Some a = dropped_first every at a arms d in
      fits_both (λ k. n < k) (arm_contents a) (arms_contents arms) (arm_cells a n at)
      (arms_from arm_cells n (suc at) arms) (stays_below n)
      (fits_arm n at a (tests at ∙ mapped_at test_of every at a here)
      (bodies at ∙ ap (λ o. option_map block_stmts (option_map body_of_arm o)) here) q.0)
      (fits_arms n (suc at) every arms (drop_more every at a arms d) tests bodies q.1)

  -- of an `else`
  fits_else : (n : ℕ) (o : Option Block)
      → stmts_of (suite.Otherwise n) ≡ option_map block_stmts o
      → Maybe (InSuite FitsStmt) o
      → Fits (λ k. n < k) (levels.maybe_block o) (maybe_block block_cells n o)
  fits_else n None is q = fits_none (λ k. n < k)
  fits_else n (Some b) is q = fits_block (suite.Otherwise n) b is q

  -- where the parts of a statement with number n stand
  record Tells (n : ℕ) (y : What-F What Arm Block Stmt) : Type 0 where
    headers : (k : ℕ) → located entries all (Header n k) ≡ slice_get (headers y) k
    arms : (k : ℕ) → stmts_of (suite.Arm n k) ≡ option_map block_stmts (arm_in y k)
    otherwise : stmts_of (suite.Otherwise n) ≡ option_map block_stmts (else_in y)
    repeated : stmts_of (suite.LoopBody n) ≡ option_map block_stmts (loop_in y)

  -- of what stands in a statement
  fits_what : (n : ℕ) (y : What-F What Arm Block Stmt) → Tells n y → InSuites FitsStmt y
      → Fits (λ k. n < k) (what_inner y) (what_made arm_cells block_cells y n)
  fits_what n (What-F.Expr e) t q = fits_header (λ k. n < k) n 0 e (t.headers 0)
  fits_what n (What-F.Assign targets e) t q = fits_header (λ k. n < k) n 0 e (t.headers 0)
  fits_what n (What-F.Aug name op e) t q = fits_header (λ k. n < k) n 0 e (t.headers 0)
  fits_what n (What-F.If arms otherwise) t q =
      fits_both (λ k. n < k) (arms_contents arms) (levels.maybe_block otherwise)
      (arms_from arm_cells n 0 arms) (maybe_block block_cells n otherwise) (stays_below n)
      (fits_arms n 0 arms arms refl t.headers t.arms q.0) (fits_else n otherwise t.otherwise q.1)
  fits_what n (What-F.While test body) t q =
      fits_both (λ k. n < k) (expression test) (block_contents body)
      (header_cells n 0 test) (block_cells body (suite.LoopBody n)) (stays_below n)
      (fits_header (λ k. n < k) n 0 test (t.headers 0))
      (fits_block (suite.LoopBody n) body t.repeated q)
  fits_what n (What-F.For targets e body) t q =
      fits_both (λ k. n < k) (expression e) (block_contents body)
      (header_cells n 0 e) (block_cells body (suite.LoopBody n)) (stays_below n)
      (fits_header (λ k. n < k) n 0 e (t.headers 0))
      (fits_block (suite.LoopBody n) body t.repeated q)
  fits_what n (What-F.Return e) t q = fits_maybe (λ k. n < k) n 0 e (t.headers 0 ∙ only_at e)
  fits_what n What-F.Break t q = fits_none (λ k. n < k)
  fits_what n What-F.Continue t q = fits_none (λ k. n < k)
  fits_what n What-F.Pass t q = fits_none (λ k. n < k)
  fits_what n (What-F.Assert test message) t q =
      fits_both (λ k. n < k) (expression test) (maybe_expression message)
      (header_cells n 0 test) (maybe_header n 1 message) (stays_below n)
      (fits_header (λ k. n < k) n 0 test (t.headers 0))
      (fits_maybe (λ k. n < k) n 1 message (t.headers 1 ∙ second_item test message))

  -- a statement's number tells where its parts stand
  tells : (n : ℕ) (s : Stmt) → statement_in (slice_get entries n) ≡ Some s
      → Tells n (out-What s.what)
  tells n s is = record {
    headers = λ k. ap (option_and_then (λ z. header_at z k)) is;
    arms = λ k. ap (λ o. option_map block_stmts (option_and_then (λ z. arm_suite z k) o)) is;
    otherwise = ap (λ o. option_map block_stmts (option_and_then else_suite o)) is;
    repeated = ap (λ o. option_map block_stmts (option_and_then loop_suite o)) is;
  }

  -- the cell of a statement, before the cells of what stands in it
  headed_fits : (s : Stmt) (b : Suite) (at : ℕ) (block ss : List Stmt) (p : Point) (x : Cells)
      → stmts_of b ≡ Some block → drop at block ≡ s ∷ ss → IsLater b p.statement
      → slice_get entries p.statement ≡ Some (record { stmts = s ∷ ss; expression = p.expression })
      → FitsAt (inner s) (inside p) x
      → FitsAt (headed (s ∷ ss) (inner s)) p (headed_by b at p x)
  headed_fits s b at block ss p x is d lt here f =
      let statements = ap (λ q. q.statement) f.behind in
      let expressions = ap (λ q. q.expression) f.behind in
      let number : p.statement + suc (length x.statements)
      ≡ p.statement + suc (inner s).statements =
      omega (arith, statements) in
      let entry : Entry = record { stmts = s ∷ ss; expression = p.expression } in
      record {
        behind = λ i. point (number i) (expressions i);
        statements = (
          record {
            entry =
                ap (option_map (λ z. record { stmts = drop at z; expression = p.expression })) is
                ∙ ap (λ z. Some (record { stmts = z; expression = p.expression })) d
                ∙ sym here;
            later = lt;
            behind = λ e found.
                let same : record { stmts = s ∷ ss; expression = p.expression } ≡ e =
                cc (sym here ∙ found) in
                subst (λ z. past_cells x (inside p)
                ≡ past_first z.stmts (point p.statement z.expression)) same f.behind;
          },
          f.statements,
        );
        expressions = f.expressions;
      }

  -- of each statement
  fits_stmt : (s : Stmt) → InSuites FitsStmt (out-What s.what) → FitsStmt s
  fits_stmt s q b at block ss p is d lt st =
      let here : slice_get entries p.statement
      ≡ Some (record { stmts = s ∷ ss; expression = p.expression }) =
      stands_at entries p.statement (record { stmts = s ∷ ss; expression = p.expression })
      ((inner s).table p.expression) st.0 in
      let below : p.statement < suc p.statement = omega arith in
      let parts =
      fits_what p.statement (out-What s.what) (tells p.statement s (ap statement_in here)) q in
      let within =
      parts.at (inside p) below
      (subst (λ c. StandsAt entries all c (inside p)) (inner_out s)
      (inside_at entries all (s ∷ ss) (inner s) p st)) in
      subst (FitsAt (headed (s ∷ ss) (inner s)) p) (sym (ap (λ (m : Making). m p) (stmt_out s b at)))
      (headed_fits s b at block ss p (inner_cells s.what p.statement (inside p)) is d lt here
      (subst (λ c. FitsAt c (inside p) (inner_cells s.what p.statement (inside p)))
      (sym (inner_out s)) within))

  -- of all
  fits_each : (ss : List Stmt) → Each FitsStmt ss
  fits_each [] = tt
  fits_each (s ∷ ss) = (by_suites FitsStmt fits_stmt s, fits_each ss)

  -- of a routine's body
  pub fits_body : StandsAt entries all (contents body) start
      → FitsAt (contents body) start (body_cells body)
  fits_body st = (fits_stmts suite.Body 0 body body refl refl (fits_each body)).at start tt st
