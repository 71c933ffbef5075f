-- What it says of each kind of expression and statement to be well formed.
use Rattle.std.proofs.Common.{◌≡◌, Bool, ◌&&◌, List, [], ◌∷◌, map, Option, Some, None, refl, ap, rules}
use Rattle.std.specs.List.{list_all}
use Rattle.pyd_tree.specs.declared.expression.Expr.{Expr, the_lemmas}
use Rattle.pyd_tree.specs.declared.expression.Suffix.TheVariants as suffix
use Rattle.pyd_tree.specs.declared.statement.Block.{Block}
use Rattle.pyd_tree.specs.declared.statement.Arm.{Arm}
use Rattle.pyd_tree.specs.declared.statement.What.{the_lemmas as what_lemmas}
use Rattle.pyd_tree.specs.declared.statement.What.TheVariants as what
use Rattle.pyd_names.specs.WellFormed.{some_are, two_are, is_formed_suffix, is_formed_maybe, is_formed_what, is_formed_arm, is_formed_otherwise}
use Rattle.pyd_names.specs.Laws.{FormedByKind, StatementsFormedByKind}

list_all-map : {X Y : Type 0} → (g : X → Y) (p : Y → Bool) (xs : List X) → list_all p (map g xs) ≡ list_all (λ x. p (g x)) xs
list_all-map g p [] = refl
list_all-map g p (x ∷ xs) = ap (λ b. p (g x) && b) (list_all-map g p xs)

some_are-map : {X Y : Type 0} → (g : X → Y) (xs : List X) → some_are (map g xs) ≡ some_are xs
some_are-map g [] = refl
some_are-map g (x ∷ xs) = refl

two_are-map : {X Y : Type 0} → (g : X → Y) (xs : List X) → two_are (map g xs) ≡ two_are xs
two_are-map g [] = refl
two_are-map g (x ∷ xs) = some_are-map g xs

pub by_kind : FormedByKind
by_kind =
    record {
      literal = λ v. search (rules, the_lemmas);
      name = λ n. search (rules, the_lemmas);
      tuple = λ es. search (rules, the_lemmas, list_all-map);
      unary = λ op e. search (rules, the_lemmas);
      chain = λ e ls. search (rules, the_lemmas, list_all-map, some_are-map);
      power = λ b e. search (rules, the_lemmas);
      and = λ es. search (rules, the_lemmas, list_all-map, two_are-map);
      or = λ es. search (rules, the_lemmas, list_all-map, two_are-map);
      compare = λ e ls. search (rules, the_lemmas, list_all-map, some_are-map);
      choice = λ c l r. search (rules, the_lemmas);
      call = λ n es. search (rules, the_lemmas, list_all-map);
      suffixed = λ e ss. search (rules, the_lemmas, list_all-map, some_are-map);
      index = λ e. search (rules, the_lemmas);
      slice = slice_formed;
    }
  where
    slice_formed : (l u : Option Expr) → is_formed_suffix (suffix.Slice l u) ≡ is_formed_maybe l && is_formed_maybe u
    slice_formed None None = search (rules, the_lemmas)
    slice_formed None (Some u) = search (rules, the_lemmas)
    slice_formed (Some l) None = search (rules, the_lemmas)
    slice_formed (Some l) (Some u) = search (rules, the_lemmas)

pub statements_by_kind : StatementsFormedByKind
statements_by_kind =
    record {
      expression = λ e. search (rules, what_lemmas);
      assignment = λ to e. search (rules, what_lemmas);
      augmented = λ n op e. search (rules, what_lemmas);
      choice = choice_formed;
      while = λ test body. search (rules, what_lemmas);
      for = λ to over body. search (rules, what_lemmas);
      return = λ e. search (rules, what_lemmas);
      assert = λ test message. search (rules, what_lemmas);
      block = λ b. search (rules, what_lemmas, list_all-map, some_are-map);
      statement = λ s. search (rules, what_lemmas);
      arm = λ a. search (rules, what_lemmas);
    }
  where
    choice_formed : (arms : List Arm) (otherwise : Option Block)
        → is_formed_what (what.If arms otherwise) ≡ some_are arms && (list_all is_formed_arm arms && is_formed_otherwise otherwise)
    choice_formed arms None = search (rules, what_lemmas, list_all-map, some_are-map)
    choice_formed arms (Some b) = search (rules, what_lemmas, list_all-map, some_are-map)
