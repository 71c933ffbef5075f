-- The items of statements are those of their entries together.
use Rattle.std.proofs.Common.{◌≡◌, ◌≤◌, ℕ, zero, suc, ◌+◌, List, [], ◌∷◌, ◌++◌, map, length, take, Some, None, refl, sym, ap, subst, ◌∙◌, arith}
use Rattle.std.specs.List.{slice_get}
use Rattle.pyd_value.specs.Size.{total}
use Rattle.pyd_tree.specs.declared.statement.What.{What, out-What}
use Rattle.pyd_tree.specs.declared.statement.What.TheOpen.{What-F}
use Rattle.pyd_tree.specs.declared.statement.What.TheFolds.{fold_out-Arm, fold_out-Block}
use Rattle.pyd_tree.specs.declared.statement.Arm.{Arm, out-Arm, fold-Arm}
use Rattle.pyd_tree.specs.declared.statement.Block.{Block, out-Block, fold-Block}
use Rattle.pyd_tree.specs.declared.statement.Stmt.{Stmt}
use Rattle.pyd_names.specs.WellFormed.{expression_parts, maybe_parts}
use Rattle.pyd_scope.specs.Numbering.{Entry, Contents, expressions, inner, contents, arm_contents, arms_contents}
use Rattle.pyd_translate.specs.Laws.{Stands}
use Rattle.pyd_translate.specs.Counts.{what_items, arm_items, block_items, stmt_items, items, all_items}
use Rattle.pyd_translate.proofs.Induction.{Each, InSuite, InSuites, by_suites}
use Rattle.pyd_translate.proofs.Contents.{block_contents, what_inner, arm_out, inner_out}
use Rattle.pyd_translate.proofs.FewInStatements.{items_level, items_out}

-- the items of an arm but those of its suite
abbrev header_items : Arm → ℕ
header_items a = 1 + expression_parts (out-Arm a).test

-- the items of a statement but those of its suites
abbrev pub own_items : What-F What Arm Block Stmt → ℕ
own_items (What-F.Expr e) = 1 + expression_parts e
own_items (What-F.Assign targets e) = 1 + expression_parts e
own_items (What-F.Aug name op e) = 1 + expression_parts e
own_items (What-F.If arms otherwise) = 1 + total (map header_items arms)
own_items (What-F.While test body) = 1 + expression_parts test
own_items (What-F.For targets e body) = 1 + expression_parts e
own_items (What-F.Return e) = 1 + maybe_parts e
own_items What-F.Break = 1
own_items What-F.Continue = 1
own_items What-F.Pass = 1
own_items (What-F.Assert test message) = 1 + (expression_parts test + maybe_parts message)

-- those of the first of some statements
abbrev pub first_items : List Stmt → ℕ
first_items [] = 0
first_items (s ∷ ss) = own_items (out-What s.what)

-- those of the statements of some entries
abbrev pub entry_items : List Entry → ℕ
entry_items es = total (map (λ e. first_items e.stmts) es)

-- those of entries and then others
pub entries_both : (xs ys : List Entry) → entry_items (xs ++ ys) ≡ entry_items xs + entry_items ys
entries_both [] ys = omega arith
entries_both (x ∷ xs) ys = let more = entries_both xs ys in omega (arith, more)

-- a statement's items are its own, and those of the entries in it
abbrev IsShared : Stmt → Type 0
IsShared s = (n : ℕ) → own_items (out-What s.what) + entry_items ((inner s).table n) ≡ items s

-- the items of statements are those of their entries
each_shared : (ss : List Stmt) → Each IsShared ss → (n : ℕ)
    → entry_items ((contents ss).table n) ≡ all_items ss
each_shared [] p n = refl
each_shared (s ∷ ss) p n =
    let one = p.0 n in
    let more = each_shared ss p.1 (n + length (inner s).expressions) in
    let both =
    entries_both ((inner s).table n) ((contents ss).table (n + length (inner s).expressions)) in
    omega (arith, one, more, both)

-- those of a block
block_shared : (b : Block) → InSuite IsShared b → (n : ℕ)
    → entry_items ((block_contents b).table n)
    ≡ fold-Block ℕ ℕ ℕ ℕ what_items arm_items block_items stmt_items b
unfolding items
block_shared b p n =
    each_shared (out-Block b).stmts p n
    ∙ sym (fold_out-Block ℕ ℕ ℕ ℕ what_items arm_items block_items stmt_items b)

-- those of an arm
arm_shared : (a : Arm) → InSuite IsShared (out-Arm a).body → (n : ℕ)
    → header_items a + entry_items ((arm_contents a).table n)
    ≡ fold-Arm ℕ ℕ ℕ ℕ what_items arm_items block_items stmt_items a
arm_shared a p n =
    let out = ap (λ (c : Contents). entry_items (c.table n)) (arm_out a) in
    let suite = block_shared (out-Arm a).body p (n + length (expressions (out-Arm a).test)) in
    let is = fold_out-Arm ℕ ℕ ℕ ℕ what_items arm_items block_items stmt_items a in
    omega (arith, out, suite, is)

-- those of arms
arms_shared : (arms : List Arm) → Each (λ a. InSuite IsShared (out-Arm a).body) arms → (n : ℕ)
    → total (map header_items arms) + entry_items ((arms_contents arms).table n)
    ≡ total (map (fold-Arm ℕ ℕ ℕ ℕ what_items arm_items block_items stmt_items) arms)
arms_shared [] p n = refl
arms_shared (a ∷ arms) p n =
    let one = arm_shared a p.0 n in
    let more = arms_shared arms p.1 (n + length (arm_contents a).expressions) in
    let both =
    entries_both ((arm_contents a).table n)
    ((arms_contents arms).table (n + length (arm_contents a).expressions)) in
    omega (arith, one, more, both)

-- those of one level
level_shared : (y : What-F What Arm Block Stmt) → InSuites IsShared y → (n : ℕ)
    → own_items y + entry_items ((what_inner y).table n) ≡ 1 + what_items (items_level y)
level_shared (What-F.Expr e) p n = omega arith
level_shared (What-F.Assign targets e) p n = omega arith
level_shared (What-F.Aug name op e) p n = omega arith
level_shared (What-F.If arms None) p n =
    let each = arms_shared arms p.0 n in
    let both = entries_both ((arms_contents arms).table n) [] in
    omega (arith, each, both)
level_shared (What-F.If arms (Some b)) p n =
    let each = arms_shared arms p.0 n in
    let last = block_shared b p.1 (n + length (arms_contents arms).expressions) in
    let both =
    entries_both ((arms_contents arms).table n)
    ((block_contents b).table (n + length (arms_contents arms).expressions)) in
    omega (arith, each, last, both)
level_shared (What-F.While test body) p n =
    let suite = block_shared body p (n + length (expressions test)) in omega (arith, suite)
level_shared (What-F.For targets e body) p n =
    let suite = block_shared body p (n + length (expressions e)) in omega (arith, suite)
level_shared (What-F.Return None) p n = omega arith
level_shared (What-F.Return (Some e)) p n = omega arith
level_shared What-F.Break p n = refl
level_shared What-F.Continue p n = refl
level_shared What-F.Pass p n = refl
level_shared (What-F.Assert test None) p n = omega arith
level_shared (What-F.Assert test (Some message)) p n = omega arith

-- those of each statement
pub statement_shared : (s : Stmt) → IsShared s
statement_shared =
    by_suites IsShared (λ s p n.
    ap (λ (c : Contents). own_items (out-What s.what) + entry_items (c.table n)) (inner_out s)
    ∙ level_shared (out-What s.what) p n
    ∙ sym (items_out s))

-- of all
all_shared : (ss : List Stmt) → Each IsShared ss
all_shared [] = tt
all_shared (s ∷ ss) = (statement_shared s, all_shared ss)

-- the items of statements are those of their entries together
pub statements_shared : (ss : List Stmt) (n : ℕ) → entry_items ((contents ss).table n) ≡ all_items ss
statements_shared ss n = each_shared ss (all_shared ss) n

-- entries before a number are no more than those before a greater one
pub fewer_before : (table : List Entry) (a b : ℕ) → a ≤ b
    → entry_items (take a table) ≤ entry_items (take b table)
fewer_before table zero b le = omega arith
fewer_before [] (suc a) b le = omega arith
fewer_before (e ∷ table) (suc a) zero le = absurd (omega (arith, le))
fewer_before (e ∷ table) (suc a) (suc b) le =
    let less = fewer_before table a b (omega (arith, le)) in omega (arith, less)

-- nor than all
pub fewer_than_all : (table : List Entry) (a : ℕ) → entry_items (take a table) ≤ entry_items table
fewer_than_all table zero = omega arith
fewer_than_all [] (suc a) = omega arith
fewer_than_all (e ∷ table) (suc a) = let less = fewer_than_all table a in omega (arith, less)

-- the first of some entries
first_entries : (xs more : List Entry) → entry_items (take (length xs) (xs ++ more)) ≡ entry_items xs
first_entries [] more = refl
first_entries (x ∷ xs) more =
    let less = first_entries xs more in omega (arith, less)

-- entries that stand from a number on come behind those before it
pub entries_stand : (table : List Entry) (k : ℕ) (xs : List Entry) → Stands table k xs
    → entry_items (take k table) + entry_items xs ≡ entry_items (take (k + length xs) table)
entries_stand table zero xs st =
    let number : 0 + length xs ≡ length xs = omega arith in
    let same = first_entries xs st.0 in
    subst (λ n. 0 + entry_items xs ≡ entry_items (take n table)) (sym number)
    (subst (λ t. 0 + entry_items xs ≡ entry_items (take (length xs) t)) (sym st.1)
    (omega (arith, same)))
entries_stand [] (suc k) [] st =
    let number : suc k ≡ suc k + 0 = omega arith in
    subst (λ n. 0 ≡ entry_items (take n [])) number refl
entries_stand [] (suc k) (x ∷ xs) st = absurd (cc st.1)
entries_stand (e ∷ table) (suc k) xs st =
    let number : suc (k + length xs) ≡ suc k + length xs = omega arith in
    let less = entries_stand table k xs st in
    subst (λ n. first_items e.stmts + entry_items (take k table) + entry_items xs
    ≡ entry_items (take n (e ∷ table))) number (omega (arith, less))

-- an entry that is looked up comes behind those before it
pub entry_stands : (table : List Entry) (k : ℕ) (e : Entry) → slice_get table k ≡ Some e
    → entry_items (take k table) + first_items e.stmts ≡ entry_items (take (suc k) table)
entry_stands [] zero e q = absurd (cc q)
entry_stands [] (suc k) e q = absurd (cc q)
entry_stands (x ∷ table) zero e q =
    let same : x ≡ e = cc q in
    subst (λ (z : Entry). 0 + first_items z.stmts ≡ first_items x.stmts + 0) same (omega arith)
entry_stands (x ∷ table) (suc k) e q =
    let less = entry_stands table k e q in omega (arith, less)
