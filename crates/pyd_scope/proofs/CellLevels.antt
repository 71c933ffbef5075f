-- The cells of an expression, by its first level.
use Rattle.std.proofs.Common.{◌≡◌, ℕ, suc, ◌+◌, List, [], ◌∷◌, ◌++◌, map, length, Some, None, refl, sym, ap, ◌∙◌}
use Rattle.pyd_tree.specs.declared.expression.Expr.{Expr, out-Expr, fold-Expr}
use Rattle.pyd_tree.specs.declared.expression.Expr.TheOpen.{Expr-F, Suffix-F}
use Rattle.pyd_tree.specs.declared.expression.Expr.TheFolds.{map-Expr, map-Suffix, fold_out-Expr, fold_out-Suffix}
use Rattle.pyd_tree.specs.declared.expression.Suffix.{Suffix, out-Suffix, fold-Suffix}
use Rattle.pyd_scope.specs.declared.cells.Origin.{Origin}
use Rattle.pyd_scope.specs.declared.cells.Origin.TheVariants.{Part}
use Rattle.pyd_scope.specs.Parting.{direct, brackets}
use Rattle.pyd_scope.specs.Cells.{Celled, Bounded, placed_from, bounds, bounds_from, parts, in_turn, headed_cells, cells_step, bounds_step, expression_cells, suffix_parts, expression_parts, part_cells}

-- parts with what is made of each
abbrev pub each_made : {A B : Type 0} → (A → B) → List (Origin × A) → List (Origin × B)
each_made f ps = map (λ p. (p.0, f p.1)) ps

-- of some and then others
made-append : {A B : Type 0} (f : A → B) (ps qs : List (Origin × A))
    → each_made f (ps ++ qs) ≡ each_made f ps ++ each_made f qs
made-append f [] qs = refl
made-append f (p ∷ ps) qs = ap (λ z. (p.0, f p.1) ∷ z) (made-append f ps qs)

-- of parts by their places
placed_from_made : {A B : Type 0} (f : A → B) (origin : ℕ → Origin) (at : ℕ) (xs : List A)
    → placed_from origin at (map f xs) ≡ each_made f (placed_from origin at xs)
placed_from_made f origin at [] = refl
placed_from_made f origin at (x ∷ xs) =
    ap (λ z. (origin at, f x) ∷ z) (placed_from_made f origin (suc at) xs)

-- the cells of parts that are made first
in_turn_made : {A : Type 0} (f : A → Celled) (ps : List (Origin × A)) (n : ℕ)
    → in_turn (λ c. c) (each_made f ps) n ≡ in_turn f ps n
in_turn_made f [] n = refl
in_turn_made f (p ∷ ps) n =
    ap (λ z. f p.1 p.0 n ++ z) (in_turn_made f ps (n + length (f p.1 p.0 n)))

-- the cells of an expression
abbrev made : Expr → Celled
made = fold-Expr Celled Bounded cells_step bounds_step

-- the parts in brackets with their cells
abbrev bounded : Suffix → Bounded
bounded = fold-Suffix Celled Bounded cells_step bounds_step

-- one level of an expression
abbrev level : Expr-F Expr Suffix → Expr-F Celled Bounded
level y = map-Expr Expr Suffix Celled Bounded made bounded y

-- one level of brackets
abbrev suffix_level : Suffix-F Expr Suffix → Suffix-F Celled Bounded
suffix_level y = map-Suffix Expr Suffix Celled Bounded made bounded y

-- the second items
seconds_made : {A : Type 0} (links : List (A × Expr))
    → map (λ (l : A × Celled). l.1) (map (λ (l : A × Expr). (l.0, made l.1)) links)
    ≡ map made (map (λ (l : A × Expr). l.1) links)
seconds_made [] = refl
seconds_made (l ∷ links) = ap (λ z. made l.1 ∷ z) (seconds_made links)

-- the parts outside brackets
direct_made : (y : Expr-F Expr Suffix) → direct (level y) ≡ map made (direct y)
direct_made (Expr-F.Lit v) = refl
direct_made (Expr-F.Name name) = refl
direct_made (Expr-F.Tuple members) = refl
direct_made (Expr-F.Unary op operand) = refl
direct_made (Expr-F.Chain first links) = ap (λ z. made first ∷ z) (seconds_made links)
direct_made (Expr-F.Power base exponent) = refl
direct_made (Expr-F.And members) = refl
direct_made (Expr-F.Or members) = refl
direct_made (Expr-F.Compare first links) = ap (λ z. made first ∷ z) (seconds_made links)
direct_made (Expr-F.If test first second) = refl
direct_made (Expr-F.Call name args) = refl
direct_made (Expr-F.Suffixed base suffixes) = refl

-- the brackets
brackets_made : (y : Expr-F Expr Suffix) → brackets (level y) ≡ map bounded (brackets y)
brackets_made (Expr-F.Lit v) = refl
brackets_made (Expr-F.Name name) = refl
brackets_made (Expr-F.Tuple members) = refl
brackets_made (Expr-F.Unary op operand) = refl
brackets_made (Expr-F.Chain first links) = refl
brackets_made (Expr-F.Power base exponent) = refl
brackets_made (Expr-F.And members) = refl
brackets_made (Expr-F.Or members) = refl
brackets_made (Expr-F.Compare first links) = refl
brackets_made (Expr-F.If test first second) = refl
brackets_made (Expr-F.Call name args) = refl
brackets_made (Expr-F.Suffixed base suffixes) = refl

-- the parts in brackets
bounds_made : (of at : ℕ) (s : Suffix-F Expr Suffix)
    → bounds of at (suffix_level s) ≡ each_made made (bounds of at s)
bounds_made of at (Suffix-F.Index index) = refl
bounds_made of at (Suffix-F.Slice None None) = refl
bounds_made of at (Suffix-F.Slice None (Some high)) = refl
bounds_made of at (Suffix-F.Slice (Some low) None) = refl
bounds_made of at (Suffix-F.Slice (Some low) (Some high)) = refl

-- those of a suffix
suffix_made : (of at : ℕ) (s : Suffix)
    → bounded s of at ≡ each_made made (suffix_parts of at s)
suffix_made of at s =
    ap (λ (f : Bounded). f of at) (fold_out-Suffix Celled Bounded cells_step bounds_step s)
    ∙ bounds_made of at (out-Suffix s)

-- those of all
bounds_from_made : (of at : ℕ) (ss : List Suffix)
    → bounds_from (λ n i (b : Bounded). b n i) of at (map bounded ss)
    ≡ each_made made (bounds_from suffix_parts of at ss)
bounds_from_made of at [] = refl
bounds_from_made of at (s ∷ ss) =
    (λ i. suffix_made of at s i ++ bounds_from_made of (suc at) ss i)
    ∙ sym (made-append made (suffix_parts of at s) (bounds_from suffix_parts of (suc at) ss))

-- the parts of an expression
parts_made : (n : ℕ) (y : Expr-F Expr Suffix)
    → parts (λ of at (b : Bounded). b of at) n (level y) ≡ each_made made (parts suffix_parts n y)
parts_made n y =
    (λ i. placed_from (Part n) 0 (direct_made y i)
    ++ bounds_from (λ of at (b : Bounded). b of at) n 0 (brackets_made y i))
    ∙ (λ i. placed_from_made made (Part n) 0 (direct y) i ++ bounds_from_made n 0 (brackets y) i)
    ∙ sym (made-append made (placed_from (Part n) 0 (direct y))
    (bounds_from suffix_parts n 0 (brackets y)))

-- an expression's cell, and then those of its parts
pub cells_out : (e : Expr) (origin : Origin) (n : ℕ)
    → expression_cells e origin n
    ≡ headed_cells origin n (part_cells (expression_parts n e) (suc n))
unfolding expression_cells
cells_out e origin n =
    ap (λ (f : Celled). f origin n) (fold_out-Expr Celled Bounded cells_step bounds_step e)
    ∙ ap (λ ps. headed_cells origin n (in_turn (λ c. c) ps (suc n))) (parts_made n (out-Expr e))
    ∙ ap (headed_cells origin n) (in_turn_made made (parts suffix_parts n (out-Expr e)) (suc n))
