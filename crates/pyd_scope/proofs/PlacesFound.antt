-- The items of a file by the places that its index keeps.
use Rattle.std.proofs.Common.{◌≡◌, ℕ, zero, suc, List, [], ◌∷◌, ◌++◌, drop, Bool, true, false, if◌then◌else◌, Option, Some, None, refl, sym, ap, ◌∙◌}
use Rattle.std.specs.Prelude.{slice_get, is_some, option_and_then, ◌&&◌}
use Rattle.std.specs.List.{filter_map, cons_option}
use Rattle.pyd_value.specs.declared.value.Value.{Value}
use Rattle.pyd_tree.specs.declared.statement.Stmt.{Stmt}
use Rattle.pyd_tree.specs.declared.file.File.{File}
use Rattle.pyd_tree.specs.declared.file.Item.{Item}
use Rattle.pyd_tree.specs.declared.file.Item.TheVariants as item
use Rattle.pyd_names.specs.Binding.{Constant, Statement, line_of, statement_line, lines_from, binds_once, statement_in, function_in, functions, module_statements, literal_assignment, constants_may_follow}
use Rattle.pyd_scope.specs.Blocks.{item_stmt, stmt_at, placed_stmts}
use Rattle.pyd_scope.specs.Indexing.{places_from, statement_places, function_places}
use Rattle.pyd_scope.proofs.Stands.{dropped_first}
use Rattle.pyd_scope.proofs.CellsStand.{drop_more}

-- the item at a place that may be there, as f sees it
abbrev pub seen_at : {A B : Type 0} → (A → Option B) → List A → Option ℕ → Option B
seen_at f all o = option_and_then f (option_and_then (λ p. slice_get all p) o)

-- one more item, where f sees it or not
seen_more : {A B : Type 0} (f : A → Option B) (all : List A) (at : ℕ) (o : Option B)
    (ys : List B) (ps : List ℕ) → option_and_then f (slice_get all at) ≡ o
    → ((j : ℕ) → slice_get ys j ≡ seen_at f all (slice_get ps j))
    → (k : ℕ)
    → slice_get (cons_option o ys) k
    ≡ seen_at f all (slice_get ((if is_some o then at ∷ [] else []) ++ ps) k)
seen_more f all at None ys ps is rest k = rest k
seen_more f all at (Some y) ys ps is rest zero = sym is
seen_more f all at (Some y) ys ps is rest (suc k) = rest k

-- the items that f sees, by their places
seen_from : {A B : Type 0} (f : A → Option B) (all : List A) (at : ℕ) (xs : List A)
    → drop at all ≡ xs → (k : ℕ)
    → slice_get (filter_map f xs) k
    ≡ seen_at f all (slice_get (places_from (λ x. is_some (f x)) at xs) k)
seen_from f all at [] d k = refl
seen_from f all at (x ∷ xs) d k =
    seen_more f all at (f x) (filter_map f xs) (places_from (λ z. is_some (f z)) (suc at) xs)
    (ap (option_and_then f) (dropped_first all at x xs d))
    (seen_from f all (suc at) xs (drop_more all at x xs d)) k

-- the functions of a file, by their places
pub function_found : (file : File) (k : ℕ)
    → slice_get (functions file) k
    ≡ seen_at function_in file.items (slice_get (function_places file) k)
function_found file k = seen_from function_in file.items 0 file.items refl k

-- these statements are at these places among items
abbrev ArePlaced : List Item → List ℕ → List Stmt → Type 0
ArePlaced items [] [] = Unit {0}
ArePlaced items [] (s ∷ ss) = ⊥
ArePlaced items (p ∷ ps) [] = ⊥
ArePlaced items (p ∷ ps) (s ∷ ss) = (stmt_at items p ≡ Some s) × ArePlaced items ps ss

-- so are those that follow some
placed_behind : (items : List Item) (places : List ℕ) (ss : List Stmt) (count : ℕ)
    → ArePlaced items places ss → placed_stmts items (drop count places) ≡ drop count ss
placed_behind items [] [] zero q = refl
placed_behind items [] [] (suc count) q = refl
placed_behind items [] (s ∷ ss) count q = absurd q
placed_behind items (p ∷ ps) [] count q = absurd q
placed_behind items (p ∷ ps) (s ∷ ss) zero q =
    (λ i. cons_option (q.0 i) (placed_stmts items ps))
    ∙ ap (λ z. s ∷ z) (placed_behind items ps ss zero q.1)
placed_behind items (p ∷ ps) (s ∷ ss) (suc count) q = placed_behind items ps ss count q.1

-- where a line that may be a constant is a statement, it is the item's
literal_line : (once : List ℕ → Bool) (early : Bool) (s : Stmt) (a : List ℕ × Value) (is : Bool)
    (t : Stmt) → statement_in (if is then Constant s.line a.0 a.1 else Statement s) ≡ Some t
    → Some s ≡ Some t
literal_line once early s a true t q = absurd (cc q)
literal_line once early s a false t q = q

-- so is a line of a plain assignment, or of any other statement
assigned_line : (once : List ℕ → Bool) (early : Bool) (s : Stmt) (o : Option (List ℕ × Value))
    (t : Stmt) → statement_in (statement_line once early s o) ≡ Some t → Some s ≡ Some t
assigned_line once early s None t q = q
assigned_line once early s (Some a) t q = literal_line once early s a (early && once a.0) t q

-- a line that is a statement is the item's
item_line : (once : List ℕ → Bool) (early : Bool) (i : Item) (t : Stmt)
    → statement_in (line_of once early i) ≡ Some t → item_stmt i ≡ Some t
item_line once early (item.Import line from names) t q = absurd (cc q)
item_line once early (item.Def f) t q = absurd (cc q)
item_line once early (item.Stmt s) t q = assigned_line once early s (literal_assignment s) t q

-- one more item, where its line is a statement or not
one_placed : (items : List Item) (at : ℕ) (i : Item) (o : Option Stmt) (places : List ℕ)
    (ss : List Stmt) → slice_get items at ≡ Some i
    → ((t : Stmt) → o ≡ Some t → item_stmt i ≡ Some t)
    → ArePlaced items places ss
    → ArePlaced items ((if is_some o then at ∷ [] else []) ++ places) (cons_option o ss)
one_placed items at i None places ss is same q = q
one_placed items at i (Some s) places ss is same q =
    (ap (option_and_then item_stmt) is ∙ same s refl, q)

-- the statements of lines are at their places among the items
lines_placed : (once : List ℕ → Bool) (items : List Item) (at : ℕ) (early : Bool) (is : List Item)
    → drop at items ≡ is
    → ArePlaced items
    (places_from (λ line. is_some (statement_in line)) at (lines_from once early is))
    (filter_map statement_in (lines_from once early is))
lines_placed once items at early [] d = tt
lines_placed once items at early (i ∷ is) d =
    one_placed items at i (statement_in (line_of once early i))
    (places_from (λ line. is_some (statement_in line)) (suc at)
    (lines_from once (early && constants_may_follow i) is))
    (filter_map statement_in (lines_from once (early && constants_may_follow i) is))
    (dropped_first items at i is d) (item_line once early i)
    (lines_placed once items (suc at) (early && constants_may_follow i) is
    (drop_more items at i is d))

-- the statements of a module, but for so many, by their places
pub statements_found : (file : File) (count : ℕ)
    → placed_stmts file.items (drop count (statement_places file))
    ≡ drop count (module_statements file)
statements_found file count =
    placed_behind file.items (statement_places file) (module_statements file) count
    (lines_placed (binds_once file) file.items 0 true file.items refl)

-- a function by its place that may be there
pub function_by : (file : File) (places : List ℕ) (k : ℕ) (o : Option ℕ)
    → places ≡ function_places file → o ≡ slice_get places k
    → seen_at function_in file.items o ≡ slice_get (functions file) k
function_by file places k o same is =
    ap (seen_at function_in file.items) (is ∙ ap (λ ps. slice_get ps k) same)
    ∙ sym (function_found file k)
