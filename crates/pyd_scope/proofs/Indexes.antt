-- The places and the cells that an index keeps.
use Rattle.std.proofs.Common.{◌≡◌, ◌<◌, ◌≤◌, ℕ, suc, ◌+◌, List, [], ◌∷◌, ◌++◌, map, length, drop, get_or, Bool, true, false, not, if◌then◌else◌, Option, Some, None, Bor, refl, sym, ap, ◌∙◌, append_assoc, append-nil}
use Rattle.std.specs.Prelude.{slice_get, is_some, ◌&&◌}
use Rattle.pyd_value.specs.declared.value.Value.{Value}
use Rattle.pyd_tree.specs.declared.statement.Stmt.{Stmt}
use Rattle.pyd_tree.specs.declared.file.File.{File}
use Rattle.pyd_tree.specs.declared.file.Item.{Item}
use Rattle.pyd_tree.specs.declared.file.Item.TheVariants as item
use Rattle.pyd_names.specs.Binding.{Line, Constant, Statement, line_of, statement_line, lines_from, lines, binds_once, is_constant, statement_in, literal_assignment, constants_may_follow}
use Rattle.pyd_scope.specs.declared.cells.Suite.{Suite}
use Rattle.pyd_scope.specs.Cells.{then_cells, stmts_from, stmt_cells}
use Rattle.pyd_scope.specs.Indexing.{is_unmarked, places_from, unmarked_from, statement_places}
use Rattle.pyd_scope.proofs.Stands.{dropped_first}
use Rattle.pyd_scope.proofs.CellsStand.{drop_more}
use Rattle.pyd_scope.proofs.StatementsStand.{mapped_at}
use Rattle.pyd_scope.proofs.Leasts.{drop_at}
use Rattle.pyd_scope.proofs.Walking.{next_is, drop_past}

-- a line that may be a constant
literal_unmarked : (once : List ℕ → Bool) (s : Stmt) (a : List ℕ × Value) (is : Bool)
    → not (is_constant (if is then Constant s.line a.0 a.1 else Statement s))
    ≡ is_some (statement_in (if is then Constant s.line a.0 a.1 else Statement s))
literal_unmarked once s a true = refl
literal_unmarked once s a false = refl

-- a line of a plain assignment, or of any other statement
assigned_unmarked : (once : List ℕ → Bool) (early : Bool) (s : Stmt) (o : Option (List ℕ × Value))
    → not (is_constant (statement_line once early s o))
    ≡ is_some (statement_in (statement_line once early s o))
assigned_unmarked once early s None = refl
assigned_unmarked once early s (Some a) = literal_unmarked once s a (early && once a.0)

-- an item is an unmarked statement where its line is a module statement
item_unmarked : (once : List ℕ → Bool) (early : Bool) (i : Item)
    → is_unmarked i (Some (is_constant (line_of once early i)))
    ≡ is_some (statement_in (line_of once early i))
item_unmarked once early (item.Import line from names) = refl
item_unmarked once early (item.Def f) = refl
item_unmarked once early (item.Stmt s) = assigned_unmarked once early s (literal_assignment s)

-- the places of unmarked statements are those of the lines that are statements
unmarked_lines : (once : List ℕ → Bool) (all : List Line) (at : ℕ) (early : Bool) (is : List Item)
    → drop at all ≡ lines_from once early is
    → unmarked_from (map is_constant all) at is
    ≡ places_from (λ line. is_some (statement_in line)) at (lines_from once early is)
unmarked_lines once all at early [] d = refl
unmarked_lines once all at early (i ∷ is) d =
    let rest = lines_from once (early && constants_may_follow i) is in
    let mark : slice_get (map is_constant all) at ≡ Some (is_constant (line_of once early i)) =
    mapped_at is_constant all at (line_of once early i)
    (dropped_first all at (line_of once early i) rest d) in
    (λ k. (if (ap (is_unmarked i) mark ∙ item_unmarked once early i) k then at ∷ [] else [])
    ++ unmarked_lines once all (suc at) (early && constants_may_follow i) is
    (drop_more all at (line_of once early i) rest d) k)

-- the places of a module's statements
pub statements_unmarked : (file : File)
    → unmarked_from (map is_constant (lines file)) 0 file.items ≡ statement_places file
statements_unmarked file = unmarked_lines (binds_once file) (lines file) 0 true file.items refl

-- one more item among those of which some are wanted
pub place_more : {A : Type 0} (test : A → Bool) (xs : List A) (at : ℕ) (x : A) (wanted : Bool)
    (old new whole : List ℕ) → x ≡ get_or xs at x → at < length xs → wanted ≡ test x
    → old ++ places_from test at (drop at xs) ≡ whole
    → new ≡ old ++ (if wanted then at ∷ [] else [])
    → new ++ places_from test (at + 1) (drop (at + 1) xs) ≡ whole
place_more test xs at x wanted old new whole is within same so_far put =
    ap (λ n. new ++ places_from test n (drop (at + 1) xs)) (next_is at)
    ∙ ap (λ z. z ++ places_from test (suc at) (drop (at + 1) xs))
    (put ∙ ap (λ w. old ++ (if w then at ∷ [] else [])) same)
    ∙ append_assoc old (if test x then at ∷ [] else []) (places_from test (suc at) (drop (at + 1) xs))
    ∙ sym (ap (λ z. old ++ places_from test at z) (drop_at xs at x is within))
    ∙ so_far

-- no more items
pub places_done : {A : Type 0} (test : A → Bool) (xs : List A) (at : ℕ) (old whole : List ℕ)
    → length xs ≤ at → old ++ places_from test at (drop at xs) ≡ whole → old ≡ whole
places_done test xs at old whole past so_far =
    sym (append-nil old)
    ∙ sym (ap (λ z. old ++ places_from test at z) (drop_past xs at past))
    ∙ so_far

-- the same by marks
pub unmarked_more : (marks : List Bool) (xs : List Item) (at : ℕ) (x : Item) (wanted : Bool)
    (old new whole : List ℕ) → x ≡ get_or xs at x → at < length xs
    → wanted ≡ is_unmarked x (slice_get marks at)
    → old ++ unmarked_from marks at (drop at xs) ≡ whole
    → new ≡ old ++ (if wanted then at ∷ [] else [])
    → new ++ unmarked_from marks (at + 1) (drop (at + 1) xs) ≡ whole
unmarked_more marks xs at x wanted old new whole is within same so_far put =
    ap (λ n. new ++ unmarked_from marks n (drop (at + 1) xs)) (next_is at)
    ∙ ap (λ z. z ++ unmarked_from marks (suc at) (drop (at + 1) xs))
    (put ∙ ap (λ w. old ++ (if w then at ∷ [] else [])) same)
    ∙ append_assoc old (if is_unmarked x (slice_get marks at) then at ∷ [] else [])
    (unmarked_from marks (suc at) (drop (at + 1) xs))
    ∙ sym (ap (λ z. old ++ unmarked_from marks at z) (drop_at xs at x is within))
    ∙ so_far

-- no more items
pub unmarked_done : (marks : List Bool) (xs : List Item) (at : ℕ) (old whole : List ℕ)
    → length xs ≤ at → old ++ unmarked_from marks at (drop at xs) ≡ whole → old ≡ whole
unmarked_done marks xs at old whole past so_far =
    sym (append-nil old)
    ∙ sym (ap (λ z. old ++ unmarked_from marks at z) (drop_past xs at past))
    ∙ so_far

-- one more of what is made of each
pub each_more : {A B C : Type 0} (f : A → B) (g : C → B) (xs : List A) (at : ℕ) (x : A)
    (old new : List C) (whole : List B) → x ≡ get_or xs at x → at < length xs
    → map g old ++ map f (drop at xs) ≡ whole
    → map g new ≡ map g old ++ f x ∷ []
    → map g new ++ map f (drop (at + 1) xs) ≡ whole
each_more f g xs at x old new whole is within so_far put =
    ap (λ z. z ++ map f (drop (at + 1) xs)) put
    ∙ append_assoc (map g old) (f x ∷ []) (map f (drop (at + 1) xs))
    ∙ sym (ap (λ z. map g old ++ map f z) (drop_at xs at x is within))
    ∙ so_far

-- no more
pub each_done : {A B C : Type 0} (f : A → B) (g : C → B) (xs : List A) (at : ℕ)
    (old : List C) (whole : List B) → length xs ≤ at
    → map g old ++ map f (drop at xs) ≡ whole → map g old ≡ whole
each_done f g xs at old whole past so_far =
    sym (append-nil (map g old))
    ∙ sym (ap (λ z. map g old ++ map f z) (drop_past xs at past))
    ∙ so_far

-- what is made of some and one more
pub map-push : {A B : Type 0} (f : A → B) (xs : List A) (x : A)
    → map f (xs ++ x ∷ []) ≡ map f xs ++ f x ∷ []
map-push f [] x = refl
map-push f (y ∷ xs) x = ap (λ z. f y ∷ z) (map-push f xs x)

-- statements that are borrowed have the cells of those that they are
pub borrowed_stmts : (b : Suite) (at : ℕ) (ss : List (Bor Stmt))
    → stmts_from (λ (s : Bor Stmt). stmt_cells s.now) b at ss
    ≡ stmts_from stmt_cells b at (map (λ (s : Bor Stmt). s.now) ss)
borrowed_stmts b at [] = refl
borrowed_stmts b at (s ∷ ss) =
    ap (then_cells (stmt_cells s.now b at)) (borrowed_stmts b (suc at) ss)

-- what is made of what is made of each
pub map-twice : {A B C : Type 0} (f : A → B) (g : B → C) (xs : List A)
    → map (λ x. g (f x)) xs ≡ map g (map f xs)
map-twice f g [] = refl
map-twice f g (x ∷ xs) = ap (λ z. g (f x) ∷ z) (map-twice f g xs)
