-- Constants are bound once.
use Rattle.std.proofs.Common.{◌≡◌, ℕ, Bool, true, false, cond, ◌&&◌, List, [], ◌∷◌, Option, Some, None, refl, sym, ◌∙◌, ap}
use Rattle.std.specs.List.{All, filter_map, cons_option}
use Rattle.std.proofs.lemmas.List.Elements.{All-nil, All-cons}
use Rattle.pyd_value.specs.declared.value.Value.{Value}
use Rattle.pyd_tree.specs.declared.statement.Stmt.{Stmt}
use Rattle.pyd_tree.specs.declared.file.Item.{Item}
use Rattle.pyd_tree.specs.declared.file.Item.TheVariants as item
use Rattle.pyd_names.specs.Binding.{Constant, Statement, constant_in, line_of, statement_line, lines_from, literal_assignment, constants_may_follow, binds_once}
use Rattle.pyd_names.specs.Laws.{ConstantsAreBoundOnce}

second : (a b : Bool) → (a && b) ≡ true → b ≡ true
second true b h = h
second false b h = cc

chosen : (once : List ℕ → Bool) (early : Bool) (s : Stmt) (a c : List ℕ × Value) (b : Bool) → (early && once a.0) ≡ b
    → constant_in (cond b (Constant s.line a.0 a.1) (Statement s)) ≡ Some c → once c.0 ≡ true
chosen once early s a c true h is = let e : a.0 ≡ c.0 = cc in ap once (sym e) ∙ second early (once a.0) h
chosen once early s a c false h is = cc

stated : (once : List ℕ → Bool) (early : Bool) (s : Stmt) (o : Option (List ℕ × Value)) (c : List ℕ × Value)
    → constant_in (statement_line once early s o) ≡ Some c → once c.0 ≡ true
stated once early s None c is = cc
stated once early s (Some a) c is = chosen once early s a c (early && once a.0) refl is

constant_once : (once : List ℕ → Bool) (early : Bool) (i : Item) (c : List ℕ × Value) → constant_in (line_of once early i) ≡ Some c → once c.0 ≡ true
constant_once once early (item.Import line from names) c is = cc
constant_once once early (item.Def f) c is = cc
constant_once once early (item.Stmt s) c is = stated once early s (literal_assignment s) c is

put_first : {X : Type 0} → (P : X → Type 0) (o : Option X) (xs : List X) → ((x : X) → o ≡ Some x → P x) → All P xs → All P (cons_option o xs)
put_first P None xs h all = all
put_first P (Some x) xs h all = All-cons P x xs (h x refl) all

all_once : (once : List ℕ → Bool) (early : Bool) (is : List Item) → All (λ c. once c.0 ≡ true) (filter_map constant_in (lines_from once early is))
all_once once early [] = All-nil (λ c. once c.0 ≡ true)
all_once once early (i ∷ is) =
    put_first (λ c. once c.0 ≡ true) (constant_in (line_of once early i)) _ (constant_once once early i) (all_once once (early && constants_may_follow i) is)

pub bound_once : ConstantsAreBoundOnce
bound_once file = all_once (binds_once file) true file.items
