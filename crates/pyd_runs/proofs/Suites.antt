-- Where suites stand among the statements of their routine, and how few parts the tests of arms have.
use Rattle.std.proofs.Common.{◌≡◌, ◌≤◌, ℕ, zero, suc, ◌+◌, List, [], ◌∷◌, map, Option, Some, None, ap, arith}
use Rattle.std.specs.List.{slice_get}
use Rattle.pyd_value.specs.Size.{total}
use Rattle.pyd_tree.specs.declared.statement.What.{What, out-What}
use Rattle.pyd_tree.specs.declared.statement.What.TheOpen.{What-F}
use Rattle.pyd_tree.specs.declared.statement.Arm.{Arm, out-Arm}
use Rattle.pyd_tree.specs.declared.statement.Block.{Block}
use Rattle.pyd_tree.specs.declared.statement.Stmt.{Stmt}
use Rattle.pyd_tree.specs.declared.file.File.{File}
use Rattle.pyd_names.specs.WellFormed.{expression_parts}
use Rattle.pyd_scope.specs.Numbering.{Entry, Point, contents, body, table}
use Rattle.pyd_scope.specs.Passages.{entry_passage}
use Rattle.pyd_translate.specs.Compounds.{Compound, Choice, WhileLoop, ForLoop, Simple, compound_of, first_compound, past_first, passage_behind}
use Rattle.pyd_translate.specs.Counts.{all_items}
use Rattle.pyd_translate.specs.Nested.{AreWithin}
use Rattle.pyd_translate.proofs.Items.{own_items, first_items, entry_items, fewer_than_all, entry_stands, statements_shared}
use Rattle.pyd_refine.specs.Composites.{arms_of}

-- what follows the first of some statements begins no earlier
follows_later : (ss : List Stmt) (p : Point) → p.statement ≤ (past_first ss p).statement
follows_later [] p = omega arith
follows_later (s ∷ ss) p = omega arith

-- nor earlier than the number of their entry
pub entry_later : (o : Option Entry) (k : ℕ)
    → k ≤ (passage_behind (entry_passage o k)).point.statement
entry_later None k = omega arith
entry_later (Some e) k = follows_later e.stmts (entry_passage (Some e) k).point

-- a loop
abbrev pub IsLoop : Compound → Type 0
IsLoop (WhileLoop test body) = Unit {0}
IsLoop (ForLoop targets e body) = Unit {0}
IsLoop (Choice arms otherwise) = ⊥
IsLoop Simple = ⊥

-- what follows a loop begins behind its number
loop_follows : (ss : List Stmt) (p : Point) → IsLoop (first_compound ss)
    → suc p.statement ≤ (past_first ss p).statement
loop_follows [] p is = absurd is
loop_follows (s ∷ ss) p is = omega arith

pub loop_later : (o : Option Entry) (k : ℕ) → IsLoop (first_compound (entry_passage o k).stmts)
    → suc k ≤ (passage_behind (entry_passage o k)).point.statement
loop_later None k is = absurd is
loop_later (Some e) k is = loop_follows e.stmts (entry_passage (Some e) k).point is

-- statements behind a number stand behind the one before it
pub within_from : (ss : List Stmt) (number first last : ℕ) → AreWithin (suc first) last ss number
    → AreWithin first last ss number
within_from [] number first last is = tt
within_from (s ∷ ss) number first last is = (omega (arith, is.0), is.1)

-- statements from number 0 on
pub within_all : (ss : List Stmt) → AreWithin 0 (0 + (contents ss).statements) ss 0
within_all [] = tt
within_all (s ∷ ss) = (omega arith, omega arith)

-- the items of the headers of arms
abbrev header_items : List Arm → ℕ
header_items arms = total (map (λ (a : Arm). 1 + expression_parts (out-Arm a).test) arms)

-- the test of an arm has no more parts
header_parts : (arms : List Arm) (j : ℕ) (a : Arm) → slice_get arms j ≡ Some a
    → expression_parts (out-Arm a).test ≤ header_items arms
header_parts [] j a is = absurd (cc is)
header_parts (x ∷ arms) zero a is =
    let same : x ≡ a = cc is in
    let one = ap (λ (y : Arm). expression_parts (out-Arm y).test) same in
    omega (arith, one)
header_parts (x ∷ arms) (suc j) a is =
    let more = header_parts arms j a is in omega (arith, more)

-- nor more than its `if` has items of its own
level_parts : (y : What-F What Arm Block Stmt) (j : ℕ) (a : Arm)
    → slice_get (arms_of (compound_of y)) j ≡ Some a
    → expression_parts (out-Arm a).test ≤ own_items y
level_parts (What-F.If arms otherwise) j a is =
    let less = header_parts arms j a is in omega (arith, less)
level_parts (What-F.Expr e) j a is = absurd (cc is)
level_parts (What-F.Assign targets e) j a is = absurd (cc is)
level_parts (What-F.Aug name op e) j a is = absurd (cc is)
level_parts (What-F.While test body) j a is = absurd (cc is)
level_parts (What-F.For targets e body) j a is = absurd (cc is)
level_parts (What-F.Return e) j a is = absurd (cc is)
level_parts What-F.Break j a is = absurd (cc is)
level_parts What-F.Continue j a is = absurd (cc is)
level_parts What-F.Pass j a is = absurd (cc is)
level_parts (What-F.Assert test message) j a is = absurd (cc is)

first_parts : (ss : List Stmt) (j : ℕ) (a : Arm)
    → slice_get (arms_of (first_compound ss)) j ≡ Some a
    → expression_parts (out-Arm a).test ≤ first_items ss
first_parts [] j a is = absurd (cc is)
first_parts (s ∷ ss) j a is = level_parts (out-What s.what) j a is

-- nor more than the routine has items
pub entry_parts : (file : File) (routine k : ℕ) (o : Option Entry) (j : ℕ) (a : Arm)
    → slice_get (table file routine) k ≡ o
    → slice_get (arms_of (first_compound (entry_passage o k).stmts)) j ≡ Some a
    → expression_parts (out-Arm a).test ≤ all_items (body file routine)
entry_parts file routine k None j a at is = absurd (cc is)
entry_parts file routine k (Some e) j a at is =
    let own = first_parts e.stmts j a is in
    let stands = entry_stands (table file routine) k e at in
    let few = fewer_than_all (table file routine) (suc k) in
    let all : entry_items (table file routine) ≡ all_items (body file routine) =
    statements_shared (body file routine) 0 in
    omega (arith, own, stands, few, all)
