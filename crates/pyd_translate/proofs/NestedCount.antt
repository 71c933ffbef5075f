-- Statements of a routine and a nested rest have no more items than the routine.
use Rattle.std.proofs.Common.{◌≡◌, ◌≤◌, ℕ, suc, ◌+◌, ◌*◌, List, [], ◌∷◌, length, take, Option, Some, None, refl, sym, subst, arith}
use Rattle.std.specs.List.{slice_get}
use Rattle.pyd_tree.specs.declared.expression.Expr.{Expr}
use Rattle.pyd_tree.specs.declared.expression.Expr.TheOpen.{Expr-F}
use Rattle.pyd_tree.specs.declared.expression.Expr.TheFolds.{fold_out-Expr}
use Rattle.pyd_tree.specs.declared.statement.What.{What, out-What}
use Rattle.pyd_tree.specs.declared.statement.What.TheOpen.{What-F}
use Rattle.pyd_tree.specs.declared.statement.Arm.{Arm}
use Rattle.pyd_tree.specs.declared.statement.Block.{Block}
use Rattle.pyd_tree.specs.declared.statement.Stmt.{Stmt}
use Rattle.pyd_tree.specs.declared.file.File.{File}
use Rattle.pyd_names.specs.WellFormed.{count_expression, count_suffix, expression_parts}
use Rattle.pyd_ir.specs.declared.work.Frame.{Frame}
use Rattle.pyd_ir.specs.declared.work.Frame.TheVariants.{After, Again}
use Rattle.pyd_scope.specs.Numbering.{Entry, contents, body, table}
use Rattle.pyd_scope.specs.Passages.{Passage, passage_at, entry_passage}
use Rattle.pyd_translate.specs.Compounds.{compound_of, first_compound, compound_at}
use Rattle.pyd_translate.specs.Rests.{block_unfolds}
use Rattle.pyd_translate.specs.Laws.{IsPlaced}
use Rattle.pyd_translate.specs.Counts.{all_items, again_items, rest_items}
use Rattle.pyd_translate.specs.Nested.{number_behind, AreWithin, following, end_of, spare_items, rest_spare, IsNested, RoutineCount}
use Rattle.pyd_translate.proofs.Contents.{of_contents}
use Rattle.pyd_translate.proofs.Placing.{IsSized, sized}
use Rattle.pyd_translate.proofs.Lookup.{number_placed, behind_placed}
use Rattle.pyd_translate.proofs.FewInRests.{block_few}
use Rattle.pyd_translate.proofs.Items.{own_items, first_items, entry_items, statements_shared, fewer_before, fewer_than_all, entries_stand, entry_stands}

-- an expression has a part at least, by its first level
least_level : (y : Expr-F ℕ ℕ) → 1 ≤ count_expression y
least_level (Expr-F.Lit v) = omega arith
least_level (Expr-F.Name name) = omega arith
least_level (Expr-F.Tuple members) = omega arith
least_level (Expr-F.Unary op e) = omega arith
least_level (Expr-F.Chain first links) = omega arith
least_level (Expr-F.Power base exponent) = omega arith
least_level (Expr-F.And members) = omega arith
least_level (Expr-F.Or members) = omega arith
least_level (Expr-F.Compare first links) = omega arith
least_level (Expr-F.If test first second) = omega arith
least_level (Expr-F.Call name args) = omega arith
least_level (Expr-F.Suffixed base suffixes) = omega arith

-- an expression has a part at least
least_parts : (e : Expr) → 1 ≤ expression_parts e
least_parts e =
    subst (λ n. 1 ≤ n) (sym (fold_out-Expr ℕ ℕ count_expression count_suffix e)) (least_level _)

-- a loop that is gone on with has no more items than its statement alone, by its first level
again_level : (y : What-F What Arm Block Stmt)
    → again_items (compound_of y) + spare_items (compound_of y) ≤ own_items y
again_level (What-F.Expr e) = omega arith
again_level (What-F.Assign targets e) = omega arith
again_level (What-F.Aug name op e) = omega arith
again_level (What-F.If arms otherwise) = omega arith
again_level (What-F.While test body) = omega arith
again_level (What-F.For targets e body) = let least = least_parts e in omega (arith, least)
again_level (What-F.Return e) = omega arith
again_level What-F.Break = omega arith
again_level What-F.Continue = omega arith
again_level What-F.Pass = omega arith
again_level (What-F.Assert test message) = omega arith

-- than the first of some statements
again_first : (ss : List Stmt)
    → again_items (first_compound ss) + spare_items (first_compound ss) ≤ first_items ss
again_first [] = omega arith
again_first (s ∷ ss) = again_level (out-What s.what)

module _ (file : File) (routine : ℕ) where
  -- the items of the statements before a number
  abbrev before : ℕ → ℕ
  before k = entry_items (take k (table file routine))

  -- the items of a passage come behind those before it
  passage_items : (here : Passage) → IsPlaced file routine here
      → before here.point.statement + all_items here.stmts ≡ before (number_behind here)
  passage_items here is =
      let entries = (contents here.stmts).table here.point.expression in
      let size : length entries ≡ (contents here.stmts).statements =
      of_contents IsSized sized here.stmts here.point.expression in
      let shared : entry_items entries ≡ all_items here.stmts =
      statements_shared here.stmts here.point.expression in
      subst (λ n. before here.point.statement + n ≡ before (number_behind here)) shared
      (subst (λ n. before here.point.statement + entry_items entries
      ≡ before (here.point.statement + n)) size
      (entries_stand (table file routine) here.point.statement entries is.statements))

  -- a loop of an entry that is gone on with
  again_entry : (o : Option Entry) (k : ℕ) → slice_get (table file routine) k ≡ o
      → before k + again_items (first_compound (entry_passage o k).stmts)
      + spare_items (first_compound (entry_passage o k).stmts) ≤ before (suc k)
  again_entry None k q =
      let more : before k ≤ before (suc k) =
      fewer_before (table file routine) k (suc k) (omega arith) in
      omega (arith, more)
  again_entry (Some e) k q =
      let own : before k + first_items e.stmts ≡ before (suc k) =
      entry_stands (table file routine) k e q in
      let less : again_items (first_compound e.stmts) + spare_items (first_compound e.stmts)
      ≤ first_items e.stmts =
      again_first e.stmts in
      omega (arith, own, less)

  -- a loop that is gone on with
  again_number : (k : ℕ)
      → before k + again_items (compound_at file routine k) + spare_items (compound_at file routine k)
      ≤ before (suc k)
  again_number k = again_entry (slice_get (table file routine) k) k refl

  -- the items of a nested rest are beside those of the statements before it
  nested_items : (rest : List Frame) (first last : ℕ) → IsNested file routine first last rest
      → before last + rest_items file routine rest + rest_spare file routine rest
      ≤ entry_items (table file routine) + before first
  nested_items [] first last is =
      let all : before last ≤ entry_items (table file routine) =
      fewer_than_all (table file routine) last in
      omega (arith, all)
  nested_items (After k ∷ rest) first last is =
      let more : before last ≤ before (end_of file routine k) =
      fewer_before (table file routine) last (end_of file routine k) is.0 in
      let placed : IsPlaced file routine (following file routine k) =
      behind_placed file routine (passage_at file routine k) (number_placed file routine k) in
      let own : before (end_of file routine k) + all_items (following file routine k).stmts
      ≡ before (number_behind (following file routine k)) =
      passage_items (following file routine k) placed in
      let others : before (number_behind (following file routine k))
      + rest_items file routine rest + rest_spare file routine rest
      ≤ entry_items (table file routine) + before first =
      nested_items rest first (number_behind (following file routine k)) is.1 in
      omega (arith, more, own, others)
  nested_items (Again k turns over ∷ rest) first last is =
      let le : suc k ≤ first = omega (arith, is.0) in
      let more : before (suc k) ≤ before first =
      fewer_before (table file routine) (suc k) first le in
      let wide : before last ≤ before (end_of file routine k) =
      fewer_before (table file routine) last (end_of file routine k) is.1.0 in
      let own : before k + again_items (compound_at file routine k)
      + spare_items (compound_at file routine k) ≤ before (suc k) =
      again_number k in
      let others : before (end_of file routine k)
      + rest_items file routine rest + rest_spare file routine rest
      ≤ entry_items (table file routine) + before k =
      nested_items rest k (end_of file routine k) is.1.1 in
      omega (arith, more, wide, own, others)

  -- the items of statements between two numbers
  within_items : (ss : List Stmt) (number first last : ℕ)
      → before number + all_items ss ≡ before (number + (contents ss).statements)
      → first ≤ last → AreWithin first last ss number
      → all_items ss + before first ≤ before last
  within_items [] number first last own le is =
      let more : before first ≤ before last = fewer_before (table file routine) first last le in
      omega (arith, more)
  within_items (s ∷ ss) number first last own le is =
      let less : before first ≤ before number =
      fewer_before (table file routine) first number is.0 in
      let more : before (number + (contents (s ∷ ss)).statements) ≤ before last =
      fewer_before (table file routine) (number + (contents (s ∷ ss)).statements) last is.1 in
      omega (arith, own, less, more)

-- statements of a routine and a nested rest
pub routine_few : RoutineCount
routine_few file routine depth first last here rest ids env placed le within nested =
    let few : length (block_unfolds file routine depth here rest env ids).nodes
    ≤ 3 * (all_items here.stmts + rest_items file routine rest) =
    block_few file routine depth here rest ids env in
    let inside : all_items here.stmts + before file routine first ≤ before file routine last =
    within_items file routine here.stmts here.point.statement first last
    (passage_items file routine here placed) le within in
    let outside : before file routine last + rest_items file routine rest
    + rest_spare file routine rest
    ≤ entry_items (table file routine) + before file routine first =
    nested_items file routine rest first last nested in
    let all : entry_items (table file routine) ≡ all_items (body file routine) =
    statements_shared (body file routine) 0 in
    omega (arith, few, inside, outside, all)
