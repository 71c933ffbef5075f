-- An `if` that is refined, by the parts that code has.
use Rattle.std.proofs.Common.{◌≡◌, ℕ, zero, suc, ◌+◌, List, [], ◌∷◌, ◌++◌, length, take, append_assoc, Bool, true, false, refl, sym, ap, subst, ◌∙◌, Option, Some, None}
use Rattle.std.specs.List.{slice_get}
use Rattle.std.specs.Prelude.{Result, IfOk}
use Rattle.pyd_value.specs.declared.memory.NoMemory.{NoMemory}
use Rattle.pyd_tree.specs.declared.expression.Expr.{Expr}
use Rattle.pyd_tree.specs.declared.statement.What.{What, out-What}
use Rattle.pyd_tree.specs.declared.statement.What.TheOpen.{What-F}
use Rattle.pyd_tree.specs.declared.statement.Arm.{Arm, out-Arm}
use Rattle.pyd_tree.specs.declared.statement.Block.{Block}
use Rattle.pyd_tree.specs.declared.statement.Stmt.{Stmt}
use Rattle.pyd_ir.specs.declared.arg.Arg.{Arg}
use Rattle.pyd_ir.specs.declared.arg.Arg.TheVariants.{Unbound}
use Rattle.pyd_ir.specs.declared.work.Frame.{Frame}
use Rattle.pyd_ir.specs.declared.work.Work.TheVariants.{Cond}
use Rattle.pyd_scope.specs.Numbering.{Entry, Point, inside, contents, arm_contents, arms_contents, table, expression_table}
use Rattle.pyd_scope.specs.Passages.{passage_at}
use Rattle.pyd_translate.specs.declared.draft.Draft.{Draft}
use Rattle.pyd_translate.specs.declared.setting.Setting.{Setting}
use Rattle.pyd_translate.specs.declared.setting.Passage.{Passage}
use Rattle.pyd_translate.specs.declared.at.Start.TheVariants as start
use Rattle.pyd_translate.specs.Compounds.{compound_of, first_compound}
use Rattle.pyd_translate.specs.Drafts.{Makes}
use Rattle.pyd_translate.specs.Flows.{file_in, context_in, slots_in, point_of, passage_of, StandsIn}
use Rattle.pyd_translate.specs.Laws.{Stands}
use Rattle.pyd_translate.specs.Making.{Making, emit, ◌>>>◌}
use Rattle.pyd_translate.specs.Statements.{Done, done, header, ported}
use Rattle.pyd_translate.proofs.Contents.{what_inner, maybe_block}
use Rattle.pyd_translate.proofs.Lookup.{number_placed}
use Rattle.pyd_translate.proofs.Placing.{StandsAt, nothing_at, first_at, first_statement_at}
use Rattle.pyd_translate.proofs.Standing.{stands_first}
use Rattle.pyd_refine.specs.Composites.{arms_of, arm_point, arm_refined}
use Rattle.pyd_refine.specs.Drafts.{Ends, started_in, arms_at, cond_in, tested_in}
use Rattle.pyd_refine.proofs.Ended.{header_left, header_ends}

module _ (at : Setting) (k arm : ℕ) (rest : List Frame) (env : List Arg) where
  module _ (here : Passage) (arms : List Arm) (read : passage_of here ≡ passage_at (file_in at) at.routine k)
      (are : arms ≡ arms_of (first_compound here.stmts)) where
    -- the arms of a passage are those of the statement
    pub arms_are : arms ≡ arms_at at k
    arms_are = are ∙ ap (λ p. arms_of (first_compound p.stmts)) read

    cond_so : (o : Option Arm) (truth : Bool) → o ≡ slice_get arms arm
        → arm_refined (file_in at) at.routine at.depth k rest arms (point_of here.point) arm o truth env
        ≡ cond_in at k arm rest truth env
    cond_so o truth found =
        ap (λ x. arm_refined (file_in at) at.routine at.depth k rest arms (point_of here.point) arm x truth env) found
        ∙ (λ i. arm_refined (file_in at) at.routine at.depth k rest (arms_are i) (read i).point arm
        (slice_get (arms_are i) arm) truth env)

    -- where its arm's test was true the arm's suite
    pub cond_true : (a : Arm) (truth : Bool) → Some a ≡ slice_get arms arm → truth ≡ true
        → started_in at (start.Arm k arm) rest env ≡ cond_in at k arm rest truth env
    cond_true a truth found t =
        cond_so (Some a) true found ∙ ap (λ b. cond_in at k arm rest b env) (sym t)

    -- else the next arm
    pub cond_false : (a : Arm) (truth : Bool) → Some a ≡ slice_get arms arm → truth ≡ false
        → tested_in at k (suc arm) (slice_get arms (suc arm)) rest (arm_point arms (suc arm) (point_of here.point)) env
        ≡ cond_in at k arm rest truth env
    cond_false a truth found t =
        cond_so (Some a) false found ∙ ap (λ b. cond_in at k arm rest b env) (sym t)

    -- an arm that isn't there leaves the `else`
    pub cond_none : (truth : Bool) → None ≡ slice_get arms arm
        → started_in at (start.Otherwise k) rest env ≡ cond_in at k arm rest truth env
    cond_none truth found = cond_so None truth found

-- the test of an arm, at the same number and place
pub tested_so : (at : Setting) (k n m : ℕ) (o q : Option Arm) (rest : List Frame) (p r : Point) (env : List Arg)
    → n ≡ m → o ≡ q → p ≡ r → tested_in at k n o rest p env ≡ tested_in at k m q rest r env
tested_so at k n m o q rest p r env e f g = λ i. tested_in at k (e i) (f i) rest (g i) env

-- the first of some arms have the first entries
entries_before : (arms : List Arm) (n m : ℕ)
    → (more : List Entry) × ((arms_contents arms).table m ≡ (arms_contents (take n arms)).table m ++ more)
entries_before [] zero m = ([], refl)
entries_before [] (suc n) m = ([], refl)
entries_before (a ∷ arms) zero m = ((arms_contents (a ∷ arms)).table m, refl)
entries_before (a ∷ arms) (suc n) m =
    let next = entries_before arms n (m + length (arm_contents a).expressions) in (
      next.0,
      ap (λ l. (arm_contents a).table m ++ l) next.1
          ∙ sym (append_assoc ((arm_contents a).table m)
          ((arms_contents (take n arms)).table (m + length (arm_contents a).expressions)) next.0),
    )

-- and the first expressions
expressions_before : (arms : List Arm) (n : ℕ)
    → (more : List Expr) × ((arms_contents arms).expressions ≡ (arms_contents (take n arms)).expressions ++ more)
expressions_before [] zero = ([], refl)
expressions_before [] (suc n) = ([], refl)
expressions_before (a ∷ arms) zero = ((arms_contents (a ∷ arms)).expressions, refl)
expressions_before (a ∷ arms) (suc n) =
    let next = expressions_before arms n in (
      next.0,
      ap (λ l. (arm_contents a).expressions ++ l) next.1
          ∙ sym (append_assoc (arm_contents a).expressions (arms_contents (take n arms)).expressions next.0),
    )

module _ (entries : List Entry) (all : List Expr) (p : Point) where
  -- the first of some arms stand where all do
  before_at : (arms : List Arm) (n : ℕ) → StandsAt entries all (arms_contents arms) p
      → StandsAt entries all (arms_contents (take n arms)) p
  before_at arms n st =
      let es = entries_before arms n p.expression in
      let xs = expressions_before arms n in (
        stands_first entries p.statement ((arms_contents (take n arms)).table p.expression) es.0
            (subst (λ l. Stands entries p.statement l) es.1 st.0),
        stands_first all p.expression (arms_contents (take n arms)).expressions xs.0
            (subst (λ l. Stands all p.expression l) xs.1 st.1),
      )

  -- the arms of a statement stand inside it
  arms_of_level : (y : What-F What Arm Block Stmt) → StandsAt entries all (what_inner y) p
      → StandsAt entries all (arms_contents (arms_of (compound_of y))) p
  arms_of_level (What-F.Expr e) st = nothing_at entries all p
  arms_of_level (What-F.Assign targets e) st = nothing_at entries all p
  arms_of_level (What-F.Aug name op e) st = nothing_at entries all p
  arms_of_level (What-F.If arms otherwise) st =
      first_at entries all (arms_contents arms) (maybe_block otherwise) p st
  arms_of_level (What-F.While test body) st = nothing_at entries all p
  arms_of_level (What-F.For targets e body) st = nothing_at entries all p
  arms_of_level (What-F.Return e) st = nothing_at entries all p
  arms_of_level What-F.Break st = nothing_at entries all p
  arms_of_level What-F.Continue st = nothing_at entries all p
  arms_of_level What-F.Pass st = nothing_at entries all p
  arms_of_level (What-F.Assert test message) st = nothing_at entries all p

module _ (entries : List Entry) (all : List Expr) where
  arms_of_first : (ss : List Stmt) (p : Point) → StandsAt entries all (contents ss) p
      → StandsAt entries all (arms_contents (arms_of (first_compound ss))) (inside p)
  arms_of_first [] p st = nothing_at entries all (inside p)
  arms_of_first (s ∷ ss) p st =
      arms_of_level entries all (inside p) (out-What s.what) (first_statement_at entries all s ss p st)

-- the arms of the statement of a number stand inside it
pub arms_stand : (at : Setting) (k : ℕ) (here : Passage) (arms : List Arm)
    → passage_of here ≡ passage_at (file_in at) at.routine k → arms ≡ arms_of (first_compound here.stmts)
    → StandsIn at (arms_contents arms) (inside (point_of here.point))
arms_stand at k here arms read are =
    let is = number_placed (file_in at) at.routine k in
    subst (λ (xs : List Arm). StandsIn at (arms_contents xs) (inside (point_of here.point))) (sym are)
    (subst (λ p. StandsIn at (arms_contents (arms_of (first_compound p.stmts))) (inside p.point)) (sym read)
    (arms_of_first (table (file_in at) at.routine) (expression_table (file_in at) at.routine)
    (passage_at (file_in at) at.routine k).stmts (passage_at (file_in at) at.routine k).point
    (is.statements, is.expressions)))

-- so do the first of them
pub before_stand : (at : Setting) (arms : List Arm) (n : ℕ) (p q : Point) → q ≡ p
    → StandsIn at (arms_contents arms) p → StandsIn at (arms_contents (take n arms)) q
before_stand at arms n p q same st =
    subst (λ r. StandsIn at (arms_contents (take n arms)) r) (sym same)
    (before_at (table (file_in at) at.routine) (expression_table (file_in at) at.routine) p arms n st)

module _ (at : Setting) (k arm : ℕ) (a : Arm) (rest : List Frame) (p : Point) (env read : List Arg) (same : read ≡ env) where
  -- the test of an arm
  abbrev test_of : List Arg → Making Arg
  test_of args = header (file_in at) (out-Arm a).test p (context_in at (out-Arm a).line args)

  -- the Cond behind it
  abbrev cond_of : List Frame → Arg → Making Done
  cond_of frames t =
      emit (context_in at (out-Arm a).line env) (Cond t k arm frames env) >>> ported (slots_in at)

  test_made : (before after : Draft) (got o : Option Arg) → got ≡ o → Makes before (test_of read) after got
      → Makes before (test_of env) after o
  test_made before after got o e h =
      subst (λ x. Makes before (test_of env) after x) e
      (subst (λ (args : List Arg). Makes before (test_of args) after got) same h)

  -- behind a test that is stopped nothing follows
  pub arm_stops : (before after : Draft) (got : Option Arg) → got ≡ None → Makes before (test_of read) after got
      → Ends before (tested_in at k arm (Some a) rest p env) env after env Unbound
  arm_stops before after got e h =
      header_left before after env (test_of env) (cond_of rest) (test_made before after got None e h)

  -- behind a test that came the Cond
  pub arm_goes : (r : Result Arg NoMemory) (before mid after : Draft) (slots : List Arg) (frames : List Frame)
      (got : Option Arg) (t : Arg) → got ≡ Some t → frames ≡ rest → Makes before (test_of read) mid got
      → IfOk r (λ v. Makes mid (cond_of frames t) after (Some (done slots v)))
      → IfOk r (λ v. Ends before (tested_in at k arm (Some a) rest p env) env after slots v)
  arm_goes r before mid after slots frames got t e f h made =
      header_ends r before mid after env slots (test_of env) (cond_of rest) t
      (test_made before mid got (Some t) e h)
      (subst (λ (fs : List Frame). IfOk r (λ v. Makes mid (cond_of fs t) after (Some (done slots v)))) f made)
