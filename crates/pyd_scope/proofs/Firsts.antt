-- The first of some refusals.
use Rattle.std.proofs.Common.{◌≡◌, ℕ, suc, zero, ◌<◌, ◌≤◌, ◌||◌, List, [], ◌∷◌, ◌++◌, map, length, get_or, Option, Some, None, refl, ap, sym, ◌∙◌, arith}
use Rattle.pyd_value.specs.Size.{total}
use Rattle.pyd_tree.specs.declared.file.File.{File}
use Rattle.pyd_tree.specs.declared.file.Item.{Item}
use Rattle.pyd_names.specs.declared.binding.Binding.{Binding}
use Rattle.pyd_names.specs.Binding.{is_among, imported_names, module_bindings}
use Rattle.pyd_names.specs.WellFormed.{item_parts}
use Rattle.pyd_scope.specs.declared.refusal.Refusal.{Refusal}
use Rattle.pyd_scope.specs.Checks.{or_else, first}
use Rattle.pyd_scope.specs.Least.{least, lesser}
use Rattle.pyd_scope.specs.Rules.{bound_where, is_taken, function_names, definitions, rebind}
use Rattle.pyd_scope.proofs.Leasts.{least-append}

-- both sides of a choice
pub both : (r a a' b b' : Option Refusal) → r ≡ or_else a b → a ≡ a' → b ≡ b' → r ≡ or_else a' b'
both r a a' b b' er ea eb = er ∙ ap (λ x. or_else x b) ea ∙ ap (or_else a') eb

or_else_assoc : (a b c : Option Refusal) → or_else (or_else a b) c ≡ or_else a (or_else b c)
or_else_assoc None b c = refl
or_else_assoc (Some a) b c = refl

-- the first of two lists
pub first-append : (xs ys : List (Option Refusal)) → first (xs ++ ys) ≡ or_else (first xs) (first ys)
first-append [] ys = refl
first-append (x ∷ xs) ys = ap (or_else x) (first-append xs ys) ∙ sym (or_else_assoc x (first xs) (first ys))

-- what a module binds that it may not
pub rebind_is : (file : File) (result taken rebound : Option ℕ) (im fs : List (List ℕ)) (ds bs : List Binding)
    → result ≡ lesser taken rebound → taken ≡ least (bound_where (is_taken im) ds)
    → rebound ≡ least (bound_where (λ n. is_taken im n || is_among fs n) bs)
    → im ≡ imported_names file → fs ≡ function_names file → ds ≡ definitions file → bs ≡ module_bindings file
    → result ≡ least (rebind file)
rebind_is file result taken rebound im fs ds bs er et eb ei ef ed es =
    er
    ∙ ap (λ (a : Option ℕ). lesser a rebound) (et ∙ ap (λ (i : List (List ℕ)). least (bound_where (is_taken i) ds)) ei ∙ ap (λ (l : List Binding). least (bound_where (is_taken (imported_names file)) l)) ed)
    ∙ ap (lesser (least (bound_where (is_taken (imported_names file)) (definitions file))))
    (eb ∙ ap (λ (i : List (List ℕ)). least (bound_where (λ n. is_taken i n || is_among fs n) bs)) ei
    ∙ ap (λ (l : List (List ℕ)). least (bound_where (λ n. is_taken (imported_names file) n || is_among l n) bs)) ef
    ∙ ap (λ (l : List Binding). least (bound_where (λ n. is_taken (imported_names file) n || is_among (function_names file) n) l)) es)
    ∙ sym (least-append (bound_where (is_taken (imported_names file)) (definitions file))
    (bound_where (λ n. is_taken (imported_names file) n || is_among (function_names file) n) (module_bindings file)))

-- an item has no more parts than all items together
parts_within : (items : List Item) (i : ℕ) (x : Item) → x ≡ get_or items i x → i < length items → item_parts x ≤ total (map item_parts items)
parts_within [] i x is within = absurd (omega arith)
parts_within (y ∷ ys) zero x is within = let e : item_parts x ≡ item_parts y = ap item_parts is in omega arith
parts_within (y ∷ ys) (suc i) x is within = let h : item_parts x ≤ total (map item_parts ys) = parts_within ys i x is (omega arith) in omega arith

-- an item of few items has few parts
pub few_parts : (items items' : List Item) (i : ℕ) (x : Item) → items ≡ items' → x ≡ get_or items i x → i < length items
    → total (map item_parts items') < 4294967296 → item_parts x < 4294967296
few_parts items items' i x same is within few =
    let h : item_parts x ≤ total (map item_parts items) = parts_within items i x is within in
    let e : total (map item_parts items) ≡ total (map item_parts items') = ap (λ (l : List Item). total (map item_parts l)) same in
    omega arith
