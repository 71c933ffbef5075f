-- What each kind of expression and of statement uses.
use Rattle.std.proofs.Common.{◌≡◌, ℕ, List, [], ◌∷◌, ◌++◌, Option, Some, None, ◌⊎◌, inl, inr, ap, ◌∙◌, rules}
use Rattle.std.specs.List.{flat_map}
use Rattle.pyd_value.specs.declared.operator.BinOp.{BinOp}
use Rattle.pyd_value.specs.declared.operator.CmpOp.{CmpOp}
use Rattle.pyd_value.specs.declared.operator.UnOp.{UnOp}
use Rattle.pyd_value.specs.declared.value.Value.{Value}
use Rattle.pyd_tree.specs.declared.expression.Expr.{Expr, the_lemmas}
use Rattle.pyd_tree.specs.declared.expression.Expr.TheVariants as expression
use Rattle.pyd_tree.specs.declared.expression.Suffix.{Suffix}
use Rattle.pyd_tree.specs.declared.expression.Suffix.TheVariants as suffix
use Rattle.pyd_tree.specs.declared.statement.Targets.{Targets}
use Rattle.pyd_tree.specs.declared.statement.Block.{Block, out-Block}
use Rattle.pyd_tree.specs.declared.statement.Arm.{Arm, out-Arm}
use Rattle.pyd_tree.specs.declared.statement.Stmt.{Stmt}
use Rattle.pyd_tree.specs.declared.statement.What.{the_lemmas as what_lemmas}
use Rattle.pyd_tree.specs.declared.statement.What.TheVariants as what
use Rattle.pyd_names.specs.declared.name_use.Manner.{Manner}
use Rattle.pyd_names.specs.declared.name_use.Manner.TheVariants.{Read, Called}
use Rattle.pyd_names.specs.declared.name_use.Manner.TheVariants as manner
use Rattle.pyd_names.specs.Uses as spec
use Rattle.pyd_names.specs.Laws.{UsesByKind, StatementUsesByKind}
use Rattle.pyd_names.proofs.Lists.{flat_map-map}

pub tuple_uses : (es : List Expr) (line : ℕ) (m : Manner) → spec.expression_uses (expression.Tuple es) line m ≡ flat_map (spec.part_uses line) es
tuple_uses es line m = search (rules, the_lemmas, flat_map-map)

pub and_uses : (es : List Expr) (line : ℕ) (m : Manner) → spec.expression_uses (expression.And es) line m ≡ flat_map (spec.part_uses line) es
and_uses es line m = search (rules, the_lemmas, flat_map-map)

pub or_uses : (es : List Expr) (line : ℕ) (m : Manner) → spec.expression_uses (expression.Or es) line m ≡ flat_map (spec.part_uses line) es
or_uses es line m = search (rules, the_lemmas, flat_map-map)

pub listed_uses : (e : Expr) (es : List Expr) (line : ℕ) (m : Manner)
    → (e ≡ expression.Tuple es) ⊎ ((e ≡ expression.And es) ⊎ (e ≡ expression.Or es))
    → spec.expression_uses e line m ≡ flat_map (spec.part_uses line) es
listed_uses e es line m (inl is) = ap (λ e. spec.expression_uses e line m) is ∙ tuple_uses es line m
listed_uses e es line m (inr (inl is)) = ap (λ e. spec.expression_uses e line m) is ∙ and_uses es line m
listed_uses e es line m (inr (inr is)) = ap (λ e. spec.expression_uses e line m) is ∙ or_uses es line m

pub chain_uses : (e : Expr) (ls : List (BinOp × Expr)) (line : ℕ) (m : Manner)
    → spec.expression_uses (expression.Chain e ls) line m ≡ spec.part_uses line e ++ flat_map (λ l. spec.part_uses line l.1) ls
chain_uses e ls line m = search (rules, the_lemmas, flat_map-map)

pub compare_uses : (e : Expr) (ls : List (CmpOp × Expr)) (line : ℕ) (m : Manner)
    → spec.expression_uses (expression.Compare e ls) line m ≡ spec.part_uses line e ++ flat_map (λ l. spec.part_uses line l.1) ls
compare_uses e ls line m = search (rules, the_lemmas, flat_map-map)

pub power_uses : (b e : Expr) (line : ℕ) (m : Manner) → spec.expression_uses (expression.Power b e) line m ≡ spec.part_uses line b ++ spec.part_uses line e
power_uses b e line m = search (rules, the_lemmas)

pub choice_uses : (c l r : Expr) (line : ℕ) (m : Manner)
    → spec.expression_uses (expression.If c l r) line m ≡ spec.part_uses line l ++ (spec.part_uses line c ++ spec.part_uses line r)
choice_uses c l r line m = search (rules, the_lemmas)

pub call_uses : (n : List ℕ) (es : List Expr) (line : ℕ) (m : Manner)
    → spec.expression_uses (expression.Call n es) line m ≡ spec.used line n m ∷ flat_map (spec.part_uses line) es
call_uses n es line m = search (rules, the_lemmas, flat_map-map)

pub suffixed_uses : (e : Expr) (ss : List Suffix) (line : ℕ) (m : Manner)
    → spec.expression_uses (expression.Suffixed e ss) line m ≡ spec.part_uses line e ++ flat_map (spec.bracket_uses line) ss
suffixed_uses e ss line m = search (rules, the_lemmas, flat_map-map)

pub slice_uses : (l u : Option Expr) (line : ℕ) → spec.suffix_uses (suffix.Slice l u) line ≡ spec.maybe_uses line l ++ spec.maybe_uses line u
slice_uses None None line = search (rules, the_lemmas)
slice_uses None (Some u) line = search (rules, the_lemmas)
slice_uses (Some l) None line = search (rules, the_lemmas)
slice_uses (Some l) (Some u) line = search (rules, the_lemmas)

pub choices_use : (arms : List Arm) (otherwise : Option Block) (line : ℕ)
    → spec.what_uses (what.If arms otherwise) line ≡ flat_map spec.arm_uses arms ++ spec.otherwise_uses otherwise
choices_use arms None line = search (rules, what_lemmas, flat_map-map)
choices_use arms (Some b) line = search (rules, what_lemmas, flat_map-map)

pub while_uses : (test : Expr) (body : Block) (line : ℕ) → spec.what_uses (what.While test body) line ≡ spec.part_uses line test ++ spec.uses body
while_uses test body line = search (rules, what_lemmas)

pub for_uses : (to : Targets) (over : Expr) (body : Block) (line : ℕ)
    → spec.what_uses (what.For to over body) line ≡ spec.expression_uses over line manner.Iterated ++ spec.uses body
for_uses to over body line = search (rules, what_lemmas)

pub assert_uses : (test : Expr) (message : Option Expr) (line : ℕ)
    → spec.what_uses (what.Assert test message) line ≡ spec.part_uses line test ++ spec.maybe_uses line message
assert_uses test message line = search (rules, what_lemmas)

pub block_uses : (b : Block) → spec.uses b ≡ flat_map spec.statement_uses (out-Block b).stmts
block_uses b = search (rules, what_lemmas, flat_map-map)

literal_uses : (v : Value) (line : ℕ) (m : Manner) → spec.expression_uses (expression.Lit v) line m ≡ []
literal_uses v line m = search (rules, the_lemmas)

name_uses : (n : List ℕ) (line : ℕ) (m : Manner) → spec.expression_uses (expression.Name n) line m ≡ spec.used line n Read ∷ []
name_uses n line m = search (rules, the_lemmas)

unary_uses : (op : UnOp) (e : Expr) (line : ℕ) (m : Manner) → spec.expression_uses (expression.Unary op e) line m ≡ spec.part_uses line e
unary_uses op e line m = search (rules, the_lemmas)

index_uses : (e : Expr) (line : ℕ) → spec.bracket_uses line (suffix.Index e) ≡ spec.part_uses line e
index_uses e line = search (rules, the_lemmas)

expression_statement_uses : (e : Expr) (line : ℕ) → spec.what_uses (what.Expr e) line ≡ spec.part_uses line e
expression_statement_uses e line = search (rules, what_lemmas)

assignment_uses : (to : Targets) (e : Expr) (line : ℕ) → spec.what_uses (what.Assign to e) line ≡ spec.part_uses line e
assignment_uses to e line = search (rules, what_lemmas)

augmented_uses : (n : List ℕ) (op : BinOp) (e : Expr) (line : ℕ) → spec.what_uses (what.Aug n op e) line ≡ spec.augmented_uses line n e
augmented_uses n op e line = search (rules, what_lemmas)

return_uses : (e : Option Expr) (line : ℕ) → spec.what_uses (what.Return e) line ≡ spec.maybe_uses line e
return_uses e line = search (rules, what_lemmas)

statement_uses : (s : Stmt) → spec.statement_uses s ≡ spec.what_uses s.what s.line
statement_uses s = search (rules, what_lemmas)

arm_uses : (a : Arm) → spec.arm_uses a ≡ spec.part_uses (out-Arm a).line (out-Arm a).test ++ spec.uses (out-Arm a).body
arm_uses a = search (rules, what_lemmas)

pub by_kind : UsesByKind
by_kind =
    record {
      literal = literal_uses;
      name = name_uses;
      tuple = tuple_uses;
      unary = unary_uses;
      chain = chain_uses;
      power = power_uses;
      and = and_uses;
      or = or_uses;
      compare = compare_uses;
      choice = choice_uses;
      call = call_uses;
      suffixed = suffixed_uses;
      index = index_uses;
      slice = λ l u line. slice_uses l u line;
    }

pub statements_by_kind : StatementUsesByKind
statements_by_kind =
    record {
      expression = expression_statement_uses;
      assignment = assignment_uses;
      augmented = augmented_uses;
      choice = choices_use;
      while = while_uses;
      for = for_uses;
      return = return_uses;
      assert = assert_uses;
      block = block_uses;
      statement = statement_uses;
      arm = arm_uses;
    }
