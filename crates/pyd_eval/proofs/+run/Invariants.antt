use Rattle.std.proofs.Common.{◌≡◌, ℕ, suc, ◌+◌, ◌*◌, ◌-◌, map, drop, length, Some, ◌≤◌, true, option_map}
use Rattle.pyd_value.specs.Size.{total}
use Rattle.pyd_value.specs.declared.operator.BinOp.{BinOp}
use Rattle.pyd_value.specs.declared.operator.CmpOp.{CmpOp}
use Rattle.pyd_tree.specs.declared.expression.Expr.{Expr}
use Rattle.pyd_names.specs.WellFormed.{expression_parts, suffix_parts, maybe_parts, what_parts, arm_parts, block_parts, statement_parts, otherwise_parts}
use Rattle.pyd_meaning.specs.Outcome.{outcome, each_after}
use Rattle.pyd_meaning.specs.Setting.{place_of}
use Rattle.pyd_meaning.specs.Expression.{meaning_of}
use Rattle.pyd_eval.specs.Measure.{left_for}
use Rattle.pyd_eval.specs.Frames.{setting, names_of, evaluations, suite_execution}
use Rattle.pyd_eval.specs.Given.{value_of}
use Rattle.pyd_eval.specs.Junctions.{joined}
use Rattle.pyd_eval.specs.Passed.{values_in}
use Rattle.pyd_eval.specs.Tails.{chain_tail, comparison_tail, suffix_tail}
use Rattle.pyd_ops.specs.Sequence.{item_at}
use Rattle.pyd_ops.specs.Ranges.{number_at}
use Rattle.pyd_ops.specs.Integer.{is_within}
use Rattle.pyd_meaning.specs.Completion.{in_turn}
use Rattle.pyd_meaning.specs.Loops.{while_loop, for_from, numbers}
use Rattle.pyd_meaning.specs.Statement.{action_of, block_action, arm_action, arms, otherwise}
use Rattle.pyd_eval.specs.Steps.{does_what, does_arms}
use Rattle.pyd_eval.specs.Turns.{does_items, does_numbers}
use Rattle.pyd_eval.proofs.+run.Given as goal
use Rattle.pyd_tree.specs.declared.statement.What.TheVariants as what

abbrev pub decreases-evaluate::eval : goal.decreases-evaluate::eval
decreases-evaluate::eval l = left_for l.on.now (expression_parts l.e.now) 0

abbrev pub decreases-evaluate::eval_tuple : goal.decreases-evaluate::eval_tuple
decreases-evaluate::eval_tuple l = left_for l.on.now (total (map expression_parts l.es.now)) 2

abbrev pub decreases-evaluate::eval_unary : goal.decreases-evaluate::eval_unary
decreases-evaluate::eval_unary l = left_for l.on.now (expression_parts l.e.now) 1

abbrev pub decreases-evaluate::eval_chain : goal.decreases-evaluate::eval_chain
decreases-evaluate::eval_chain l = left_for l.on.now (expression_parts l.first.now + total (map (λ (k : BinOp × Expr). expression_parts k.1) l.links.now)) 3

abbrev pub decreases-evaluate::eval_links : goal.decreases-evaluate::eval_links
decreases-evaluate::eval_links l = left_for l.on.now (total (map (λ (k : BinOp × Expr). expression_parts k.1) l.links.now)) 2

abbrev pub decreases-evaluate::eval_operation : goal.decreases-evaluate::eval_operation
decreases-evaluate::eval_operation l = left_for l.on.now (expression_parts l.right.now) 1

abbrev pub decreases-evaluate::eval_power : goal.decreases-evaluate::eval_power
decreases-evaluate::eval_power l = left_for l.on.now (expression_parts l.base.now + expression_parts l.exponent.now) 2

abbrev pub decreases-evaluate::eval_junction : goal.decreases-evaluate::eval_junction
decreases-evaluate::eval_junction l = left_for l.on.now (total (map expression_parts l.es.now)) 1

abbrev pub decreases-evaluate::eval_comparison : goal.decreases-evaluate::eval_comparison
decreases-evaluate::eval_comparison l = left_for l.on.now (expression_parts l.first.now + total (map (λ (k : CmpOp × Expr). expression_parts k.1) l.links.now)) 3

abbrev pub decreases-evaluate::eval_comparisons : goal.decreases-evaluate::eval_comparisons
decreases-evaluate::eval_comparisons l = left_for l.on.now (total (map (λ (k : CmpOp × Expr). expression_parts k.1) l.links.now)) 2

abbrev pub decreases-evaluate::eval_link : goal.decreases-evaluate::eval_link
decreases-evaluate::eval_link l = left_for l.on.now (expression_parts l.link.now.1) 1

abbrev pub decreases-evaluate::eval_conditional : goal.decreases-evaluate::eval_conditional
decreases-evaluate::eval_conditional l = left_for l.on.now (expression_parts l.test.now + (expression_parts l.yes.now + expression_parts l.no.now)) 1

abbrev pub decreases-suffixes::eval_suffixed : goal.decreases-suffixes::eval_suffixed
decreases-suffixes::eval_suffixed l = left_for l.on.now (expression_parts l.base.now + total (map suffix_parts l.suffixes.now)) 2

abbrev pub decreases-suffixes::eval_suffixes : goal.decreases-suffixes::eval_suffixes
decreases-suffixes::eval_suffixes l = left_for l.on.now (total (map suffix_parts l.suffixes.now)) 1

abbrev pub decreases-suffixes::eval_suffix : goal.decreases-suffixes::eval_suffix
decreases-suffixes::eval_suffix l = left_for l.on.now (suffix_parts l.suffix.now) 0

abbrev pub decreases-suffixes::eval_slice : goal.decreases-suffixes::eval_slice
decreases-suffixes::eval_slice l = left_for l.on.now (maybe_parts l.low.now + maybe_parts l.high.now) 3

abbrev pub decreases-suffixes::eval_bound : goal.decreases-suffixes::eval_bound
decreases-suffixes::eval_bound l = left_for l.on.now (maybe_parts l.bound.now) 1

abbrev pub decreases-arguments::eval_all : goal.decreases-arguments::eval_all
decreases-arguments::eval_all l = left_for l.on.now (total (map expression_parts l.es.now)) 1

abbrev pub decreases-arguments::eval_arguments : goal.decreases-arguments::eval_arguments
decreases-arguments::eval_arguments l = left_for l.on.now (total (map expression_parts l.es.now)) 1

abbrev pub decreases-calls::eval_call : goal.decreases-calls::eval_call
decreases-calls::eval_call l = left_for l.on.now (total (map expression_parts l.args.now)) 4

abbrev pub invariant-arguments::eval_all-loop-e : goal.invariant-arguments::eval_all-loop-e
invariant-arguments::eval_all-loop-e l =
    outcome l.out (each_after l.values (map (meaning_of (setting l.on)) (drop l.e-index l.es)) (place_of l.line) (names_of l.on l.slots))
    ≡ outcome l.initial.out (evaluations l.on l.es l.line l.slots)

abbrev pub invariant-arguments::eval_arguments-loop-e : goal.invariant-arguments::eval_arguments-loop-e
invariant-arguments::eval_arguments-loop-e l = record {
  does : outcome l.out (each_after (values_in l.taken.items) (map (meaning_of (setting l.on)) (drop l.e-index l.es)) (place_of l.line) (names_of l.on l.slots))
      ≡ outcome l.initial.out (evaluations l.on l.es l.line l.slots);
  full : l.taken.items ≡ map Some (values_in l.taken.items);
}

abbrev pub invariant-evaluate::eval_links-loop-link : goal.invariant-evaluate::eval_links-loop-link
invariant-evaluate::eval_links-loop-link l =
    outcome l.out (chain_tail l.on (value_of l.left) (drop l.link-index l.links) l.line l.slots)
    ≡ outcome l.initial.out (chain_tail l.on (value_of l.fn.first) l.links l.line l.slots)

abbrev pub invariant-evaluate::eval_junction-loop-e : goal.invariant-evaluate::eval_junction-loop-e
invariant-evaluate::eval_junction-loop-e l = record {
  does : outcome l.out (joined l.junction (map (meaning_of (setting l.on)) (drop l.e-index l.es)) (place_of l.line) (names_of l.on l.slots))
      ≡ outcome l.initial.out (joined l.junction (map (meaning_of (setting l.on)) l.es) (place_of l.line) (names_of l.on l.slots));
  left : l.behind + l.e-index ≡ length l.es;
}

abbrev pub invariant-evaluate::eval_comparisons-loop-link : goal.invariant-evaluate::eval_comparisons-loop-link
invariant-evaluate::eval_comparisons-loop-link l = record {
  does : outcome l.out (comparison_tail l.on (value_of l.left) (drop l.link-index l.links) l.line l.slots)
      ≡ outcome l.initial.out (comparison_tail l.on (value_of l.fn.first) l.links l.line l.slots);
  left : l.behind + l.link-index ≡ length l.links;
}

abbrev pub invariant-suffixes::eval_suffixes-loop-suffix : goal.invariant-suffixes::eval_suffixes-loop-suffix
invariant-suffixes::eval_suffixes-loop-suffix l =
    outcome l.out (suffix_tail l.on (value_of l.base) (drop l.suffix-index l.suffixes) l.line l.slots)
    ≡ outcome l.initial.out (suffix_tail l.on (value_of l.fn.first) l.suffixes l.line l.slots)

abbrev pub decreases-calls::eval_function_call : goal.decreases-calls::eval_function_call
decreases-calls::eval_function_call l = left_for l.on.now (total (map expression_parts l.args.now)) 3

abbrev pub decreases-calls::eval_builtin_call : goal.decreases-calls::eval_builtin_call
decreases-calls::eval_builtin_call l = left_for l.on.now (total (map expression_parts l.args.now)) 3

abbrev pub decreases-calls::eval_uncallable : goal.decreases-calls::eval_uncallable
decreases-calls::eval_uncallable l = left_for l.on.now (total (map expression_parts l.args.now)) 3

abbrev pub decreases-calls::call_function : goal.decreases-calls::call_function
decreases-calls::call_function l = left_for l.on.now 0 2

abbrev pub decreases-calls::run_function : goal.decreases-calls::run_function
decreases-calls::run_function l = left_for l.on.now 0 1

abbrev pub decreases-execute::exec_block : goal.decreases-execute::exec_block
decreases-execute::exec_block l = left_for l.on.now (block_parts l.block.now) 1

abbrev pub decreases-execute::exec_stmt : goal.decreases-execute::exec_stmt
decreases-execute::exec_stmt l = left_for l.on.now (statement_parts l.stmt.now) 0

abbrev pub decreases-execute::exec_if : goal.decreases-execute::exec_if
decreases-execute::exec_if l = left_for l.on.now (total (map arm_parts l.arms.now) + otherwise_parts l.otherwise.now) 4

abbrev pub decreases-loops::exec_while : goal.decreases-loops::exec_while
decreases-loops::exec_while l = left_for l.on.now (expression_parts l.test.now + block_parts l.body.now) 4

abbrev pub decreases-loops::exec_for : goal.decreases-loops::exec_for
decreases-loops::exec_for l = left_for l.on.now (expression_parts l.e.now + block_parts l.body.now) 6

abbrev pub decreases-loops::exec_over : goal.decreases-loops::exec_over
decreases-loops::exec_over l = left_for l.on.now (block_parts l.body.now) 5

abbrev pub decreases-loops::exec_items : goal.decreases-loops::exec_items
decreases-loops::exec_items l = left_for l.on.now (block_parts l.body.now) 4

abbrev pub decreases-loops::exec_numbers : goal.decreases-loops::exec_numbers
decreases-loops::exec_numbers l = left_for l.on.now (block_parts l.body.now) 4

abbrev pub decreases-loops::exec_turn : goal.decreases-loops::exec_turn
decreases-loops::exec_turn l = left_for l.on.now (block_parts l.body.now) 3

abbrev pub invariant-execute::exec_block-loop-stmt : goal.invariant-execute::exec_block-loop-stmt
invariant-execute::exec_block-loop-stmt l =
    outcome l.out (in_turn (map (action_of (setting l.on)) (drop l.stmt-index l.stmt-items)) (names_of l.on l.slots))
    ≡ outcome l.initial.out (suite_execution l.on l.block l.initial.slots)

abbrev pub invariant-execute::exec_if-loop-arm : goal.invariant-execute::exec_if-loop-arm
invariant-execute::exec_if-loop-arm l =
    outcome l.out (arms (map (arm_action (setting l.on)) (drop l.arm-index l.arms)) (otherwise (option_map (block_action (setting l.on)) l.otherwise)) (names_of l.on l.slots))
    ≡ outcome l.initial.out (does_arms l.on l.arms l.otherwise l.initial.slots)

abbrev pub decreases-execute::exec_expression : goal.decreases-execute::exec_expression
decreases-execute::exec_expression l = left_for l.on.now (expression_parts l.e.now) 1

abbrev pub decreases-execute::exec_assign : goal.decreases-execute::exec_assign
decreases-execute::exec_assign l = left_for l.on.now (expression_parts l.e.now) 2

abbrev pub decreases-execute::exec_augmented : goal.decreases-execute::exec_augmented
decreases-execute::exec_augmented l = left_for l.on.now (expression_parts l.e.now) 3

abbrev pub decreases-execute::eval_augmented : goal.decreases-execute::eval_augmented
decreases-execute::eval_augmented l = left_for l.on.now (expression_parts l.e.now) 2

abbrev pub decreases-execute::exec_return : goal.decreases-execute::exec_return
decreases-execute::exec_return l = left_for l.on.now (maybe_parts l.value.now) 2

abbrev pub decreases-execute::exec_assert : goal.decreases-execute::exec_assert
decreases-execute::exec_assert l = left_for l.on.now (expression_parts l.test.now + maybe_parts l.message.now) 3

abbrev pub decreases-execute::fail : goal.decreases-execute::fail
decreases-execute::fail l = left_for l.on.now (maybe_parts l.message.now) 2

abbrev pub decreases-loops::exec_while-turns : goal.decreases-loops::exec_while-turns
decreases-loops::exec_while-turns l = l.left

abbrev pub invariant-loops::exec_while-turns : goal.invariant-loops::exec_while-turns
invariant-loops::exec_while-turns l =
    outcome l.out (while_loop l.left (place_of l.line) (meaning_of (setting l.on) l.test) (block_action (setting l.on) l.body) (names_of l.on l.slots))
    ≡ outcome l.initial.out (does_what l.on (what.While l.test l.body) l.line l.initial.slots)

abbrev pub decreases-loops::exec_items-turns : goal.decreases-loops::exec_items-turns
decreases-loops::exec_items-turns l = l.on.limits.turns - l.turn

abbrev pub invariant-loops::exec_items-turns : goal.invariant-loops::exec_items-turns
invariant-loops::exec_items-turns l =
    (l.turn ≤ l.on.limits.turns)
    × (outcome l.out (for_from (l.on.limits.turns - l.turn) (place_of l.line) l.targets (block_action (setting l.on) l.body) (item_at l.over) l.turn (names_of l.on l.slots))
    ≡ outcome l.initial.out (does_items l.on l.targets l.body l.over l.line l.initial.slots))

abbrev pub decreases-loops::exec_numbers-turns : goal.decreases-loops::exec_numbers-turns
decreases-loops::exec_numbers-turns l = l.on.limits.turns - l.turn

abbrev pub invariant-loops::exec_numbers-turns : goal.invariant-loops::exec_numbers-turns
invariant-loops::exec_numbers-turns l =
    (l.turn ≤ l.on.limits.turns)
    × (outcome l.out (for_from (l.on.limits.turns - l.turn) (place_of l.line) l.targets (block_action (setting l.on) l.body) (numbers l.span l.span.count) l.turn (names_of l.on l.slots))
    ≡ outcome l.initial.out (does_numbers l.on l.targets l.body l.span l.line l.initial.slots))
    × (is_within (number_at l.span l.turn) ≡ true → l.number ≡ number_at l.span l.turn)
