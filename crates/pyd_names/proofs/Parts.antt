-- How many parts each kind of expression and statement has.
use Rattle.std.proofs.Common.{◌≡◌, ◌+◌, List, [], ◌∷◌, map, Option, Some, None, refl, ap, rules}
use Rattle.pyd_value.specs.Size.{total}
use Rattle.pyd_tree.specs.declared.expression.Expr.{Expr, the_lemmas}
use Rattle.pyd_tree.specs.declared.expression.Suffix.TheVariants as suffix
use Rattle.pyd_tree.specs.declared.statement.Block.{Block}
use Rattle.pyd_tree.specs.declared.statement.Arm.{Arm}
use Rattle.pyd_tree.specs.declared.statement.What.{the_lemmas as what_lemmas}
use Rattle.pyd_tree.specs.declared.statement.What.TheVariants as what
use Rattle.pyd_names.specs.WellFormed.{suffix_parts, maybe_parts, what_parts, arm_parts, otherwise_parts}
use Rattle.pyd_names.specs.Laws.{PartsByKind, StatementPartsByKind}

map-map : {X Y Z : Type 0} → (g : X → Y) (f : Y → Z) (xs : List X) → map f (map g xs) ≡ map (λ x. f (g x)) xs
map-map g f [] = refl
map-map g f (x ∷ xs) = ap (λ zs. f (g x) ∷ zs) (map-map g f xs)

slice_parts : (l u : Option Expr) → suffix_parts (suffix.Slice l u) ≡ 1 + (maybe_parts l + maybe_parts u)
slice_parts None None = search (rules, the_lemmas)
slice_parts None (Some u) = search (rules, the_lemmas)
slice_parts (Some l) None = search (rules, the_lemmas)
slice_parts (Some l) (Some u) = search (rules, the_lemmas)

choice_parts : (arms : List Arm) (otherwise : Option Block)
    → what_parts (what.If arms otherwise) ≡ total (map arm_parts arms) + otherwise_parts otherwise
choice_parts arms None = search (rules, what_lemmas)
choice_parts arms (Some b) = search (rules, what_lemmas)

pub by_kind : PartsByKind
by_kind =
    record {
      literal = λ v. search (rules, the_lemmas);
      name = λ n. search (rules, the_lemmas);
      tuple = λ es. search (rules, the_lemmas);
      unary = λ op e. search (rules, the_lemmas);
      chain = λ e ls. search (rules, the_lemmas, map-map);
      power = λ b e. search (rules, the_lemmas);
      and = λ es. search (rules, the_lemmas);
      or = λ es. search (rules, the_lemmas);
      compare = λ e ls. search (rules, the_lemmas, map-map);
      choice = λ c l r. search (rules, the_lemmas);
      call = λ n es. search (rules, the_lemmas);
      suffixed = λ e ss. search (rules, the_lemmas);
      index = λ e. search (rules, the_lemmas);
      slice = slice_parts;
    }

pub statements_by_kind : StatementPartsByKind
statements_by_kind =
    record {
      expression = λ e. search (rules, what_lemmas);
      assignment = λ to e. search (rules, what_lemmas);
      augmented = λ n op e. search (rules, what_lemmas);
      choice = choice_parts;
      while = λ test body. search (rules, what_lemmas);
      for = λ to over body. search (rules, what_lemmas);
      return = λ e. search (rules, what_lemmas);
      assert = λ test message. search (rules, what_lemmas);
      block = λ b. search (rules, what_lemmas);
      statement = λ s. search (rules, what_lemmas);
      arm = λ a. search (rules, what_lemmas);
    }
