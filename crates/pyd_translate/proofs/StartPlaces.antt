-- Where the statements at a start stand, and which they are.
use Rattle.std.proofs.Common.{◌≡◌, ℕ, zero, suc, ◌+◌, ◌<◌, ◌≤◌, List, [], ◌∷◌, ◌++◌, length, take, drop, get_or, arith, append_assoc, refl, sym, ap, subst, ◌∙◌, Option, Some, None}
use Rattle.std.specs.Prelude.{slice_get}
use Rattle.std.proofs.lemmas.List.{drop-drop, drop_at}
use Rattle.pyd_tree.specs.declared.expression.Expr.{Expr}
use Rattle.pyd_tree.specs.declared.statement.What.{What, out-What}
use Rattle.pyd_tree.specs.declared.statement.What.TheOpen.{What-F}
use Rattle.pyd_tree.specs.declared.statement.Arm.{Arm, out-Arm}
use Rattle.pyd_tree.specs.declared.statement.Block.{Block}
use Rattle.pyd_tree.specs.declared.statement.Stmt.{Stmt}
use Rattle.pyd_tree.specs.declared.file.File.{File}
use Rattle.pyd_translate.specs.declared.at.Start.{Start}
use Rattle.pyd_scope.specs.Numbering.{Entry, Contents, Point, followed, contents, arm_contents, arms_contents, inside, past, past_expression, table, expression_table}
use Rattle.pyd_scope.specs.Passages.{Passage, passage_at}
use Rattle.pyd_translate.specs.Compounds.{Compound, Simple, compound_of, first_compound}
use Rattle.pyd_translate.specs.Starts.{passage, no_passage, suite, arm_suite, suite_in}
use Rattle.pyd_translate.specs.Laws.{Stands}
use Rattle.pyd_translate.proofs.Contents.{what_inner, maybe_block}
use Rattle.pyd_translate.proofs.Lookup.{number_placed, start_placed}
use Rattle.pyd_translate.proofs.PassageFlows.{no_first}
use Rattle.pyd_translate.proofs.Placing.{IsSized, sized_arm, StandsAt, nothing_at, first_at, second_at, first_statement_at}

-- two parts stand one behind the other
stands_both : {A : Type 0} (table : List A) (k : ℕ) (xs ys : List A)
    → Stands table k xs → Stands table (k + length xs) ys → Stands table k (xs ++ ys)
stands_both table k xs ys s t =
    let left : s.0 ≡ ys ++ t.0 =
    sym (drop_at xs s.0 (length xs) refl) ∙ sym (ap (drop (length xs)) s.1)
    ∙ drop-drop (length xs) k table ∙ t.1 in
    (t.0, s.1 ∙ ap (λ m. xs ++ m) left ∙ sym (append_assoc xs ys t.0))

module _ (entries : List Entry) (all : List Expr) where
  -- so do two parts of a routine's text
  both_at : (a b : Contents) (p : Point) → IsSized a → StandsAt entries all a p
      → StandsAt entries all b (past a p) → StandsAt entries all (followed a b) p
  both_at a b p is s t = (
    stands_both entries p.statement (a.table p.expression) (b.table (p.expression + length a.expressions)) s.0
        (subst (λ n. Stands entries (p.statement + n) (b.table (p.expression + length a.expressions)))
        (sym (is p.expression)) t.0),
    stands_both all p.expression a.expressions b.expressions s.1 t.1,
  )

  -- the first of some arms stand where all do
  pub arms_taken : (arms : List Arm) (n : ℕ) (p : Point) → StandsAt entries all (arms_contents arms) p
      → StandsAt entries all (arms_contents (take n arms)) p
  arms_taken [] zero p st = nothing_at entries all p
  arms_taken [] (suc n) p st = nothing_at entries all p
  arms_taken (a ∷ arms) zero p st = nothing_at entries all p
  arms_taken (a ∷ arms) (suc n) p st =
      both_at (arm_contents a) (arms_contents (take n arms)) p (sized_arm a)
      (first_at entries all (arm_contents a) (arms_contents arms) p st)
      (arms_taken arms n (past (arm_contents a) p)
      (second_at entries all (arm_contents a) (arms_contents arms) p (sized_arm a) st))

  -- those before an arm stand at a place
  pub arms_before : (arms before : List Arm) (n : ℕ) (p q : Point) → before ≡ take n arms → q ≡ p
      → StandsAt entries all (arms_contents arms) p → StandsAt entries all (arms_contents before) q
  arms_before arms before n p q taken place st =
      subst (λ xs. StandsAt entries all (arms_contents xs) q) (sym taken)
      (subst (λ x. StandsAt entries all (arms_contents (take n arms)) x) (sym place)
      (arms_taken arms n p st))

-- an item at a place below the length is there
pub there_at : {A : Type 0} (xs : List A) (n : ℕ) (x : A) → n < length xs → x ≡ get_or xs n x
    → Some x ≡ slice_get xs n
there_at [] n x some is = absurd (omega (arith, some))
there_at (y ∷ xs) zero x some is = ap (λ z. Some z) is
there_at (y ∷ xs) (suc n) x some is =
    let less : n < length xs = omega (arith, some) in
    there_at xs n x less is

-- none is past the last
pub none_at : {A : Type 0} (xs : List A) (n : ℕ) → length xs ≤ n → None ≡ slice_get xs n
none_at [] zero past = refl
none_at [] (suc n) past = refl
none_at (y ∷ xs) zero past = absurd (omega (arith, past))
none_at (y ∷ xs) (suc n) past =
    let more : length xs ≤ n = omega (arith, past) in
    none_at xs n more

module _ (arms : List Arm) (n : ℕ) (p : Point) where
  -- where the arm begins
  abbrev begin : Point
  begin = past (arms_contents (take n arms)) p

  -- the suite of an arm that is there
  pub arm_found : (a : Arm) (before : List Arm) (q r t : Point) (here : Passage)
      → Some a ≡ slice_get arms n → before ≡ take n arms → q ≡ p
      → r ≡ past (arms_contents before) q → t ≡ past_expression (out-Arm a).test r
      → here ≡ suite (out-Arm a).body t
      → here ≡ arm_suite (slice_get arms n) begin
  arm_found a before q r t here found taken inner behind header is =
      is ∙ ap (suite (out-Arm a).body)
      (header ∙ ap (past_expression (out-Arm a).test)
      (behind ∙ (λ i. past (arms_contents (taken i)) (inner i))))
      ∙ ap (λ o. arm_suite o begin) found

  -- that of one that isn't
  pub arm_missing : (here : Passage) → None ≡ slice_get arms n → here ≡ no_passage
      → here ≡ arm_suite (slice_get arms n) begin
  arm_missing here none is = is ∙ ap (λ o. arm_suite o begin) none

module _ (entries : List Entry) (all : List Expr) (s : Stmt) (arms : List Arm) (otherwise : Option Block) where
  -- the arms of an `if` stand inside it
  arms_inside : (ss : List Stmt) (p : Point) → Some s ≡ slice_get ss 0
      → out-What s.what ≡ What-F.If arms otherwise
      → StandsAt entries all (contents ss) p
      → StandsAt entries all (arms_contents arms) (inside p)
  arms_inside [] p first level st = absurd (cc first)
  arms_inside (x ∷ ss) p first level st =
      let same : x ≡ s = cc first in
      first_at entries all (arms_contents arms) (maybe_block otherwise) (inside p)
      (subst (λ y. StandsAt entries all (what_inner y) (inside p))
      (ap (λ (z : Stmt). out-What z.what) same ∙ level)
      (first_statement_at entries all x ss p st))

-- a suite of the first statement
suite_of_first : (part : Compound → Point → Passage) (ss : List Stmt) (p : Point) (s : Stmt) (y : What-F What Arm Block Stmt)
    → Some s ≡ slice_get ss 0 → out-What s.what ≡ y
    → part (compound_of y) p ≡ part (first_compound ss) p
suite_of_first part [] p s y first level = absurd (cc first)
suite_of_first part (x ∷ ss) p s y first level =
    let same : x ≡ s = cc first in
    ap (λ z. part (compound_of z) p) (sym level)
    ∙ ap (λ (z : Stmt). part (compound_of (out-What z.what)) p) (sym same)

module _ (file : File) (routine k : ℕ) where
  -- the arms of an `if` that a number names stand inside it
  pub arms_stand : (here : Passage) (s : Stmt) (arms : List Arm) (otherwise : Option Block)
      → here ≡ passage_at file routine k → Some s ≡ slice_get here.stmts 0
      → out-What s.what ≡ What-F.If arms otherwise
      → StandsAt (table file routine) (expression_table file routine) (arms_contents arms) (inside here.point)
  arms_stand here s arms otherwise is first level =
      let placed = number_placed file routine k in
      arms_inside (table file routine) (expression_table file routine) s arms otherwise here.stmts here.point first level
      (subst (λ b. StandsAt (table file routine) (expression_table file routine) (contents b.stmts) b.point) (sym is)
      (placed.statements, placed.expressions))

  -- a suite of the statement that a number names
  pub suite_found : (part : Compound → Point → Passage) (here : Passage) (s : Stmt) (y : What-F What Arm Block Stmt)
      → here ≡ passage_at file routine k → Some s ≡ slice_get here.stmts 0
      → out-What s.what ≡ y
      → part (compound_of y) here.point ≡ suite_in part (passage_at file routine k)
  suite_found part here s y is first level =
      suite_of_first part here.stmts here.point s y first level ∙ ap (suite_in part) is

  -- a number that names none
  pub suite_missing : (part : Compound → Point → Passage) (here : Passage)
      → here ≡ passage_at file routine k → None ≡ slice_get here.stmts 0
      → part Simple here.point ≡ suite_in part (passage_at file routine k)
  suite_missing part here is none =
      ap (λ (ss : List Stmt). part (first_compound ss) here.point) (sym (no_first here.stmts none))
      ∙ ap (suite_in part) is

-- the statements at a start stand in their routine
pub start_stands : (file : File) (routine : ℕ) (s : Start) (here : Passage) → here ≡ passage file routine s
    → StandsAt (table file routine) (expression_table file routine) (contents here.stmts) here.point
start_stands file routine s here is =
    let placed = start_placed file routine s in
    subst (λ b. StandsAt (table file routine) (expression_table file routine) (contents b.stmts) b.point) (sym is)
    (placed.statements, placed.expressions)
