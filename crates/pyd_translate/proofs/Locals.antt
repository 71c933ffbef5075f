-- Statements that stand in a routine bind its locals alone, and are found by their number.
use Rattle.std.proofs.Common.{◌≡◌, ℕ, zero, suc, ◌+◌, List, [], ◌∷◌, ◌++◌, map, flat_map, length, append_assoc, refl, sym, ap, subst, ◌∙◌, Option, Some, None, Bool, true, false, ◌||◌}
use Rattle.std.specs.List.{slice_get}
use Rattle.std.specs.Prelude.{option_map}
use Rattle.std.proofs.lemmas.List.Folds.{list_any-append}
use Rattle.pyd_tree.specs.declared.expression.Expr.{Expr}
use Rattle.pyd_tree.specs.declared.statement.What.{What, out-What}
use Rattle.pyd_tree.specs.declared.statement.What.TheOpen.{What-F}
use Rattle.pyd_tree.specs.declared.statement.Arm.{Arm, out-Arm}
use Rattle.pyd_tree.specs.declared.statement.Block.{Block, out-Block}
use Rattle.pyd_tree.specs.declared.statement.Stmt.{Stmt}
use Rattle.pyd_tree.specs.declared.file.File.{File}
use Rattle.pyd_tree.specs.declared.file.Func.{Func}
use Rattle.pyd_names.specs.declared.binding.Binding.{Binding}
use Rattle.pyd_names.specs.Binding.{joined, or_empty, same_name, is_among, distinct, bound_in, what_binds, names_of, bindings, arm_bindings, statement_bindings, module_statements, module_bindings, module_variables, function, function_locals, locals_in, locals}
use Rattle.pyd_names.proofs.Names.{is_same}
use Rattle.pyd_names.proofs.Turns.{is_among-distinct}
use Rattle.pyd_scope.specs.Numbering.{Entry, Contents, Point, followed, expression, maybe_expression, inner, arm_contents, contents, arms_contents, body_of, body, table}
use Rattle.pyd_scope.specs.Passages.{Passage, entry_passage, passage_at}
use Rattle.pyd_translate.specs.Laws.{IsPlaced}
use Rattle.pyd_translate.proofs.Induction.{Each, Maybe, InSuite, InSuites, by_suites}
use Rattle.pyd_translate.proofs.Standing.{stands_at}
use Rattle.pyd_translate.proofs.Contents.{block_contents, maybe_block, what_inner, arm_out, inner_out}
use Rattle.pyd_translate.proofs.Gathered.{gathered, statement_level}
use Rattle.pyd_translate.proofs.Stays.{each_front, each_back, BindsSlot, BindsSlots}
use Rattle.pyd_translate.proofs.Leaving.{from_choice, choice_first, suite_binds}

-- P of lists end to end
each_both : {A : Type 0} (P : A → Type 0) (xs ys : List A) → Each P xs → Each P ys → Each P (xs ++ ys)
each_both P [] ys p q = q
each_both P (x ∷ xs) ys p q = (p.0, each_both P xs ys p.1 q)

-- P of the item of a number
each_at : {A : Type 0} (P : A → Type 0) (xs : List A) (k : ℕ) (x : A) → Each P xs
    → slice_get xs k ≡ Some x → P x
each_at P [] k x p e = absurd (cc e)
each_at {A} P (y ∷ xs) zero x p e = subst P (the_item e) p.0
  where
    item_or : A → Option A → A
    item_or d (Some z) = z
    item_or d None = d

    the_item : ◌≡◌ {A = Option A} (Some y) (Some x) → y ≡ x
    the_item q = ap (item_or y) q
each_at P (y ∷ xs) (suc k) x p e = each_at P xs k x p.1 e

module _ (slots : List (List ℕ)) where
  -- the statements of an entry bind slots alone
  abbrev EntryBinds : Entry → Type 0
  EntryBinds e = Each (BindsSlots slots) e.stmts

  -- the statements of all entries do, whichever number the first expression has
  abbrev EntriesBind : Contents → Type 0
  EntriesBind c = (n : ℕ) → Each EntryBinds (c.table n)

  both_bind : (a b : Contents) → EntriesBind a → EntriesBind b → EntriesBind (followed a b)
  both_bind a b p q n =
      each_both EntryBinds (a.table n) (b.table (n + length a.expressions)) (p n)
      (q (n + length a.expressions))

  -- those that stand in a statement do where it binds slots alone
  abbrev InnerBinds : Stmt → Type 0
  InnerBinds s = BindsSlots slots s → EntriesBind (inner s)

  contents_bind : (ss : List Stmt) → Each InnerBinds ss → Each (BindsSlots slots) ss
      → EntriesBind (contents ss)
  contents_bind [] p b n = tt
  contents_bind (s ∷ ss) p b n =
      (b, both_bind (inner s) (contents ss) (p.0 b.0) (contents_bind ss p.1 b.1) n)

  suite_bind : (b : Block) → InSuite InnerBinds b → Each (BindsSlot slots) (bindings b)
      → EntriesBind (contents (out-Block b).stmts)
  suite_bind b p q = contents_bind (out-Block b).stmts p (suite_binds slots b q)

  -- what stands in arms binds slots alone where all that they bind are slots
  arms_bind : (choices : List Arm) (last : Option Block)
      → Each (λ a. InSuite InnerBinds (out-Arm a).body) choices
      → Each (BindsSlot slots) (from_choice Binding what_binds choices last)
      → EntriesBind (arms_contents choices)
  arms_bind [] last p b n = tt
  arms_bind (a ∷ more) last p b n =
      let both = subst (Each (BindsSlot slots)) (choice_first Binding what_binds a more last) b in
      both_bind (arm_contents a) (arms_contents more)
      (subst EntriesBind (sym (arm_out a))
      (both_bind (expression (out-Arm a).test) (block_contents (out-Arm a).body) (λ m. tt)
      (suite_bind (out-Arm a).body p.0
      (each_front (BindsSlot slots) (bindings (out-Arm a).body) (from_choice Binding what_binds more last) both))))
      (arms_bind more last p.1
      (each_back (BindsSlot slots) (bindings (out-Arm a).body) (from_choice Binding what_binds more last) both)) n

  -- so does what stands in an `else`
  last_binds : (last : Option Block) → Maybe (InSuite InnerBinds) last
      → Each (BindsSlot slots) (or_empty (option_map bindings last)) → EntriesBind (maybe_block last)
  last_binds None p b n = tt
  last_binds (Some last) p b n = suite_bind last p b n

  maybe_binds : (e : Option Expr) → EntriesBind (maybe_expression e)
  maybe_binds None n = tt
  maybe_binds (Some e) n = tt

  -- what stands in one level
  level_bind : (y : What-F What Arm Block Stmt) (line : ℕ) → InSuites InnerBinds y
      → Each (BindsSlot slots) (what_binds (gathered Binding what_binds y) line)
      → EntriesBind (what_inner y)
  level_bind (What-F.Expr e) line p b n = tt
  level_bind (What-F.Assign targets e) line p b n = tt
  level_bind (What-F.Aug name op e) line p b n = tt
  level_bind (What-F.If choices last) line p b n =
      both_bind (arms_contents choices) (maybe_block last) (arms_bind choices last p.0 b)
      (last_binds last p.1
      (each_back (BindsSlot slots) (joined (map arm_bindings choices)) (or_empty (option_map bindings last)) b)) n
  level_bind (What-F.While test body) line p b n =
      both_bind (expression test) (block_contents body) (λ m. tt) (suite_bind body p b) n
  level_bind (What-F.For targets e body) line p b n =
      both_bind (expression e) (block_contents body) (λ m. tt)
      (suite_bind body p
      (each_back (BindsSlot slots) (map (bound_in line) targets.names) (bindings body) b)) n
  level_bind (What-F.Return e) line p b n = maybe_binds e n
  level_bind What-F.Break line p b n = tt
  level_bind What-F.Continue line p b n = tt
  level_bind What-F.Pass line p b n = tt
  level_bind (What-F.Assert test message) line p b n =
      both_bind (expression test) (maybe_expression message) (λ m. tt) (maybe_binds message) n

  inner_binds : (s : Stmt) → InnerBinds s
  inner_binds =
      by_suites InnerBinds (λ s p b. subst EntriesBind (sym (inner_out s))
      (level_bind (out-What s.what) s.line p
      (subst (Each (BindsSlot slots)) (statement_level Binding what_binds s) b)))

  all_inner : (ss : List Stmt) → Each InnerBinds ss
  all_inner [] = tt
  all_inner (s ∷ ss) = (inner_binds s, all_inner ss)

  -- the entries of statements that bind slots alone do so
  entries_bind : (ss : List Stmt) → Each (BindsSlots slots) ss → EntriesBind (contents ss)
  entries_bind ss b = contents_bind ss (all_inner ss) b

either : (a : Bool) → (a || true) ≡ true
either true = refl
either false = refl

-- a name is among those before it, itself and those behind it
among_itself : (before : List (List ℕ)) (x : List ℕ) (more : List (List ℕ))
    → is_among (before ++ (x ∷ more)) x ≡ true
among_itself before x more =
    list_any-append (same_name x) before (x ∷ more)
    ∙ ap (λ t. is_among before x || (t || is_among more x)) (is_same x x refl)
    ∙ either (is_among before x)

-- the names of bindings are among those that are bound
all_among : (before : List (List ℕ)) (bs : List Binding)
    → Each (λ b. is_among (before ++ names_of bs) b.name ≡ true) bs
all_among before [] = tt
all_among before (b ∷ bs) = (
  among_itself before b.name (names_of bs),
  subst (λ ns. Each (λ c. is_among ns c.name ≡ true) bs) (append_assoc before (b.name ∷ []) (names_of bs))
      (all_among (before ++ b.name ∷ []) bs),
)

-- and among the distinct ones of these
all_distinct : (names : List (List ℕ)) (bs : List Binding)
    → Each (λ b. is_among names b.name ≡ true) bs → Each (BindsSlot (distinct names)) bs
all_distinct names [] p = tt
all_distinct names (b ∷ bs) p =
    (is_among-distinct names b.name ∙ p.0, all_distinct names bs p.1)

-- each of statements binds what all bind
flat_binds : (slots : List (List ℕ)) (ss : List Stmt)
    → Each (BindsSlot slots) (flat_map statement_bindings ss) → Each (BindsSlots slots) ss
flat_binds slots [] b = tt
flat_binds slots (s ∷ ss) b = (
  each_front (BindsSlot slots) (statement_bindings s) (flat_map statement_bindings ss) b,
  flat_binds slots ss (each_back (BindsSlot slots) (statement_bindings s) (flat_map statement_bindings ss) b),
)

-- the statements of a function bind its locals alone
function_binds : (o : Option Func) → Each (BindsSlots (locals_in o)) (body_of o)
function_binds None = tt
function_binds (Some f) =
    suite_binds (function_locals f) f.body
    (all_distinct (map (λ p. p.1) f.params ++ names_of (bindings f.body)) (bindings f.body)
    (all_among (map (λ p. p.1) f.params) (bindings f.body)))

-- the statements of a routine bind its locals alone
pub body_binds : (file : File) (routine : ℕ) → Each (BindsSlots (locals file routine)) (body file routine)
body_binds file zero =
    flat_binds (module_variables file) (module_statements file)
    (all_distinct (names_of (module_bindings file)) (module_bindings file)
    (all_among [] (module_bindings file)))
body_binds file (suc k) = function_binds (function file (suc k))

-- so do those of each entry of its table
entry_binds : (slots : List (List ℕ)) (entries : List Entry) (k : ℕ) (o : Option Entry)
    → Each (λ e. Each (BindsSlots slots) e.stmts) entries → slice_get entries k ≡ o
    → Each (BindsSlots slots) (entry_passage o k).stmts
entry_binds slots entries k None p e = tt
entry_binds slots entries k (Some x) p e = each_at (λ y. Each (BindsSlots slots) y.stmts) entries k x p e

-- the statements that are found by a number bind the locals of their routine alone
pub passage_binds : (file : File) (routine k : ℕ)
    → Each (BindsSlots (locals file routine)) (passage_at file routine k).stmts
passage_binds file routine k =
    entry_binds (locals file routine) (table file routine) k (slice_get (table file routine) k)
    (entries_bind (locals file routine) (body file routine) (body_binds file routine) 0) refl

-- the first of statements that stand in a routine is found by its number
pub passage_found : (file : File) (routine : ℕ) (s : Stmt) (ss : List Stmt) (p : Point)
    → IsPlaced file routine (record { stmts = s ∷ ss; point = p })
    → passage_at file routine p.statement ≡ record { stmts = s ∷ ss; point = p }
passage_found file routine s ss p is =
    ap (λ o. entry_passage o p.statement)
    (stands_at (table file routine) p.statement (record { stmts = s ∷ ss; expression = p.expression })
    ((followed (inner s) (contents ss)).table p.expression) is.statements)

-- statements that stand in a routine bind its locals alone
pub placed_binds : (file : File) (routine : ℕ) (ss : List Stmt) (p : Point)
    → IsPlaced file routine (record { stmts = ss; point = p })
    → Each (BindsSlots (locals file routine)) ss
placed_binds file routine [] p is = tt
placed_binds file routine (s ∷ ss) p is =
    subst (λ (here : Passage). Each (BindsSlots (locals file routine)) here.stmts)
    (passage_found file routine s ss p is) (passage_binds file routine p.statement)
