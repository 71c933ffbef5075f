-- The piece of each composite, rule by rule.
use Rattle.std.proofs.Common.{◌≡◌, ◌≤◌, ℕ, suc, ◌-◌, nat_eq, List, [], length, Bool, true, false, if◌then◌else◌, Option, Some, None, ap, ◌∙◌, arith}
use Rattle.std.specs.List.{slice_get}
use Rattle.std.proofs.lemmas.Bool.Decides.{nat_tests}
use Rattle.pyd_value.specs.declared.value.Value.{Value}
use Rattle.pyd_value.specs.declared.fault.Fault.TheVariants.{Raised}
use Rattle.pyd_value.specs.declared.fault.Kind.TheVariants.{TypeError}
use Rattle.pyd_value.specs.Truth.{is_true}
use Rattle.pyd_tree.specs.declared.expression.Expr.{Expr}
use Rattle.pyd_tree.specs.declared.statement.Arm.{Arm}
use Rattle.pyd_tree.specs.declared.statement.Block.{Block}
use Rattle.pyd_tree.specs.declared.statement.Targets.{Targets}
use Rattle.pyd_tree.specs.declared.file.File.{File}
use Rattle.pyd_tree.specs.declared.file.Func.{Func}
use Rattle.pyd_names.specs.Binding.{function}
use Rattle.pyd_meaning.specs.declared.limits.Limits.{Limits}
use Rattle.pyd_meaning.specs.Loops.{Items, items_over}
use Rattle.pyd_meaning.specs.Statement.{calls_range}
use Rattle.pyd_meaning.specs.Module.{setting_at}
use Rattle.pyd_ir.specs.declared.arg.Arg.{Arg}
use Rattle.pyd_ir.specs.declared.node.Node.{Node}
use Rattle.pyd_ir.specs.declared.work.Frame.{Frame}
use Rattle.pyd_ir.specs.declared.work.Side.{Side}
use Rattle.pyd_scope.specs.Passages.{passage_at}
use Rattle.pyd_translate.specs.Compounds.{Choice, WhileLoop, ForLoop, compound_at, line_at}
use Rattle.pyd_translate.specs.Making.{Making, stop}
use Rattle.pyd_translate.specs.Statements.{Done}
use Rattle.pyd_refine.specs.Composites.{arms_of, arm_point, arm_tested, arm_refined, while_refined, item_refined, items_refined, loop_refined, side_refined, body_refined, function_refined, context_of}
use Rattle.pyd_refine.specs.Rules.{CondRules, WhileRules, ForRules, PickRules, EnterRules, RuleLaws}

-- nothing is left where a limit was reached
none-left : (limit made : ℕ) → limit ≤ made → limit - made ≡ 0
none-left limit made le = omega (arith, le)

-- one is left, and some more, below it
some-left : (limit made : ℕ) → suc made ≤ limit → limit - made ≡ suc (limit - suc made)
some-left limit made le = omega (arith, le)

module _ (file : File) (limits : Limits) (node : Node) where
  -- a Cond
  cond-rules : (test : Arg) (k arm : ℕ) (rest : List Frame) (env : List Arg) (v : Value)
      (arms : List Arm) (last : Option Block) (a : Arm)
      → compound_at file node.routine k ≡ Choice arms last → slice_get arms arm ≡ Some a
      → CondRules file limits node test k arm rest env v arms last a
  cond-rules test k arm rest env v arms last a is found =
      let p = (passage_at file node.routine k).point in
      let opened : (b : Bool) → is_true v ≡ b
      → arm_refined file node.routine node.depth k rest (arms_of (compound_at file node.routine k)) p arm
      (slice_get (arms_of (compound_at file node.routine k)) arm) (is_true v) env
      ≡ arm_refined file node.routine node.depth k rest arms p arm (Some a) b env =
      λ b e.
      ap (λ c. arm_refined file node.routine node.depth k rest (arms_of c) p arm (slice_get (arms_of c) arm) (is_true v) env) is
      ∙ ap (λ o. arm_refined file node.routine node.depth k rest arms p arm o (is_true v) env) found
      ∙ ap (λ t. arm_refined file node.routine node.depth k rest arms p arm (Some a) t env) e in
      record {
        taken = λ e. opened true e;
        next = λ b e more.
            opened false e
            ∙ ap (λ o. arm_tested file node.routine node.depth k rest o (suc arm) (arm_point arms (suc arm) p) env) more;
        otherwise = λ e more.
            opened false e
            ∙ ap (λ o. arm_tested file node.routine node.depth k rest o (suc arm) (arm_point arms (suc arm) p) env) more;
      }

  -- a While
  while-rules : (test : Arg) (k turns : ℕ) (rest : List Frame) (env : List Arg) (v : Value) (e : Expr) (body : Block)
      → compound_at file node.routine k ≡ WhileLoop e body
      → WhileRules file limits node test k turns rest env v
  while-rules test k turns rest env v e body is =
      let opened : (b : Bool) → is_true v ≡ b
      → loop_refined file limits node.routine node.depth k rest (compound_at file node.routine k) (line_at file node.routine k) turns test v env
      ≡ while_refined file node.routine node.depth k rest b (limits.turns - turns) (line_at file node.routine k) turns env =
      λ b q.
      ap (λ c. loop_refined file limits node.routine node.depth k rest c (line_at file node.routine k) turns test v env) is
      ∙ ap (λ t. while_refined file node.routine node.depth k rest t (limits.turns - turns) (line_at file node.routine k) turns env) q in
      record {
        over = λ q. opened false q;
        limit = λ q le.
            opened true q
            ∙ ap (λ n. while_refined file node.routine node.depth k rest true n (line_at file node.routine k) turns env) (none-left limits.turns turns le);
        turn = λ q le.
            opened true q
            ∙ ap (λ n. while_refined file node.routine node.depth k rest true n (line_at file node.routine k) turns env) (some-left limits.turns turns le);
      }

  -- a For
  for-rules : (over : Arg) (k turns : ℕ) (rest : List Frame) (env : List Arg) (v : Value) (targets : Targets) (e : Expr) (body : Block)
      → compound_at file node.routine k ≡ ForLoop targets e body
      → ForRules file limits node over k turns rest env v targets e
  for-rules over k turns rest env v targets e body is =
      let ranged = calls_range (setting_at file limits node.routine node.depth) e in
      let opened : (o : Option Items) → items_over ranged v ≡ o
      → loop_refined file limits node.routine node.depth k rest (compound_at file node.routine k) (line_at file node.routine k) turns over v env
      ≡ items_refined file node.routine node.depth k rest (limits.turns - turns) targets o (line_at file node.routine k) turns over env =
      λ o q.
      ap (λ c. loop_refined file limits node.routine node.depth k rest c (line_at file node.routine k) turns over v env) is
      ∙ ap (λ i. items_refined file node.routine node.depth k rest (limits.turns - turns) targets i (line_at file node.routine k) turns over env) q in
      let item : (o : Option Value) (n : ℕ) → Making Done =
      λ o n. item_refined file node.routine node.depth k rest n targets o (line_at file node.routine k) turns over env in
      record {
        nothing = λ q. opened None q;
        done = λ items q none. opened (Some items) q ∙ ap (λ o. item o (limits.turns - turns)) none;
        limit = λ items w q some le.
            opened (Some items) q ∙ ap (λ o. item o (limits.turns - turns)) some
            ∙ ap (item (Some w)) (none-left limits.turns turns le);
        turn = λ items w q some le.
            opened (Some items) q ∙ ap (λ o. item o (limits.turns - turns)) some
            ∙ ap (item (Some w)) (some-left limits.turns turns le);
      }

  -- a Pick
  pick-rules : (test : Arg) (first second : Side) (env : List Arg) (v : Value)
      → PickRules file limits node test first second env v
  pick-rules test first second env v = record {
    where_true = λ e. ap (λ t. side_refined file t first second (context_of node env)) e;
    where_false = λ e. ap (λ t. side_refined file t first second (context_of node env)) e;
  }

  -- an Enter
  enter-rules : (func : ℕ) (args : List Arg) (f : Func)
      → function file func ≡ Some f → length args ≡ length f.params
      → EnterRules file limits node func args f
  enter-rules func args f found even =
      let at = context_of node [] in
      let same : nat_eq (length args) (length f.params) ≡ true = equal-is (length args) (length f.params) even in
      let opened : function_refined file limits (function file func) func args at
      ≡ body_refined file (limits.depth - node.depth) func f args at =
      ap (λ o. function_refined file limits o func args at) found
      ∙ ap (λ t. if t then body_refined file (limits.depth - node.depth) func f args at else stop at (Raised TypeError node.line)) same in
      record {
        limit = λ le. opened ∙ ap (λ n. body_refined file n func f args at) (none-left limits.depth node.depth le);
        entered = λ le. opened ∙ ap (λ n. body_refined file n func f args at) (some-left limits.depth node.depth le);
      }
    where
      equal-is : (m n : ℕ) → m ≡ n → nat_eq m n ≡ true
      equal-is m n e = grind (arith, nat_tests)

-- the rules of each composite
pub rules : RuleLaws
rules = record {
  cond = cond-rules;
  while = while-rules;
  for = for-rules;
  pick = pick-rules;
  enter = enter-rules;
}
