-- A file that is a script does what the script's own parts do.
use Rattle.std.proofs.Common.{◌≡◌, ℕ, zero, suc, ◌-◌, List, map, ap, ◌∙◌, arith}
use Rattle.pyd_value.specs.declared.fault.Limit.TheVariants.{Depth}
use Rattle.pyd_tree.specs.declared.expression.Expr.{Expr}
use Rattle.pyd_tree.specs.declared.file.File.{File}
use Rattle.pyd_tree.specs.declared.statement.Stmt.{Stmt}
use Rattle.pyd_tree.specs.declared.statement.Arm.{roll-Arm}
use Rattle.pyd_tree.specs.declared.statement.Block.{Block, roll-Block}
use Rattle.pyd_tree.specs.declared.statement.What.TheOpen.{Arm-F, Block-F}
use Rattle.pyd_tree.specs.declared.statement.What.TheViews.{out-roll-Block, out-roll-Arm}
use Rattle.pyd_meaning.specs.declared.limits.Limits.{Limits}
use Rattle.pyd_meaning.specs.Names.{Names, no_names}
use Rattle.pyd_meaning.specs.Setting.{Setting, Calls, place_of, exceeds}
use Rattle.pyd_meaning.specs.Expression.{meaning_of}
use Rattle.pyd_meaning.specs.Completion.{in_turn}
use Rattle.pyd_meaning.specs.Statement.{action_of, block_action, arm_action}
use Rattle.pyd_meaning.specs.Module.{with_function, body_value, call_within, mean}
use Rattle.pyd_meaning.specs.Rows.{Script, IsScript, function_in, named, kinds_in}
use Rattle.pyd_meaning.proofs.Statements.{suite as suite_does, arm as arm_does}

-- the setting of a routine of a script
abbrev pub setting_in : Script → Limits → ℕ → Calls → Setting
setting_in script limits k calls = record { limits = limits; routine = k; resolve = named (kinds_in script.kinds k); calls = calls }

-- calls in a script
unfoldable pub calls_in : Script → Limits → ℕ → Calls
calls_in script limits zero k args line = with_function (function_in script.functions k) args line (λ f names. exceeds Depth (place_of line))
calls_in script limits (suc depths) k args line =
    with_function (function_in script.functions k) args line (body_value (setting_in script limits k (calls_in script limits depths)))

module _ (file : File) (script : Script) (is : IsScript file script) (limits : Limits) where
  calls_are : (depths : ℕ) → call_within file limits depths ≡ calls_in script limits depths
  unfolding call_within calls_in
  calls_are zero = λ i k args line. with_function (is.functions_are k i) args line (λ f names. exceeds Depth (place_of line))
  calls_are (suc depths) = λ i k args line.
      with_function (is.functions_are k i) args line (body_value (record { limits = limits; routine = k; resolve = λ name. is.names_are k name i; calls = calls_are depths i }))

  one_less : (n : ℕ) → suc n - 1 ≡ n
  one_less n = omega arith

  deepest : call_within file limits (suc limits.depth - 1) ≡ calls_in script limits limits.depth
  deepest = ap (call_within file limits) (one_less limits.depth) ∙ calls_are limits.depth

  -- the script's own run
  pub script_means : mean file limits ≡ in_turn (map (action_of (setting_in script limits 0 (calls_in script limits limits.depth))) script.statements) no_names
  unfolding mean
  script_means = λ i.
      in_turn (map (action_of (record { limits = limits; routine = 0; resolve = λ name. is.names_are 0 name i; calls = deepest i })) (is.statements_are i)) no_names

-- a suite does its statements in turn
pub suite-does : (setting : Setting) (ss : List Stmt) (names : Names)
    → block_action setting (roll-Block (record { stmts = ss })) names ≡ in_turn (map (action_of setting) ss) names
suite-does setting ss names = suite_does setting (roll-Block (record { stmts = ss })) names ∙ ap (λ (b : Block-F _ _ _ _). in_turn (map (action_of setting) b.stmts) names) (out-roll-Block _)

-- an arm with its header's line
pub arm-does : (setting : Setting) (line : ℕ) (test : Expr) (body : Block)
    → arm_action setting (roll-Arm (record { line = line; test = test; body = body })) ≡ record { test = meaning_of setting test (place_of line); body = block_action setting body }
arm-does setting line test body =
    arm_does setting (roll-Arm (record { line = line; test = test; body = body }))
    ∙ ap (λ (a : Arm-F _ _ _ _). record { test = meaning_of setting a.test (place_of a.line); body = block_action setting a.body }) (out-roll-Arm _)
