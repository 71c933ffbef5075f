use Rattle.std.proofs.Common.{◌≡◌, ◌+◌, ◌*◌, map, drop}
use Rattle.pyd_value.specs.Size.{total}
use Rattle.pyd_value.specs.declared.operator.BinOp.{BinOp}
use Rattle.pyd_value.specs.declared.operator.CmpOp.{CmpOp}
use Rattle.pyd_tree.specs.declared.expression.Expr.{Expr}
use Rattle.pyd_names.specs.WellFormed.{expression_parts, suffix_parts, maybe_parts}
use Rattle.pyd_translate.specs.Expressions.{unfolded, unfolded_suffix, each, chained, suffixed}
use Rattle.pyd_translate.specs.Drafts.{onto, context_of, file_of, unfolded_operands}
use Rattle.pyd_translate.proofs.Parted.{fronted}
use Rattle.pyd_translate.proofs.+build.Given as goal

abbrev pub invariant-expressions::build_each-loop-e : goal.invariant-expressions::build_each-loop-e
invariant-expressions::build_each-loop-e l =
    onto l.draft.nodes (fronted l.args (each (map (unfolded (file_of l.at)) (drop l.e-index l.es)) l.k (context_of l.at)) l.draft.next)
    ≡ onto l.initial.draft.nodes (each (map (unfolded (file_of l.at)) l.es) l.first (context_of l.at) l.initial.draft.next)

abbrev pub invariant-expressions::build_links-loop-link : goal.invariant-expressions::build_links-loop-link
invariant-expressions::build_links-loop-link l =
    onto l.draft.nodes (chained (unfolded_operands (file_of l.at) (drop l.link-index l.links)) l.k (context_of l.at) l.left l.draft.next)
    ≡ onto l.initial.draft.nodes (chained (unfolded_operands (file_of l.at) l.links) l.first (context_of l.at) l.fn.value l.initial.draft.next)

abbrev pub invariant-brackets::build_suffixes-loop-suffix : goal.invariant-brackets::build_suffixes-loop-suffix
invariant-brackets::build_suffixes-loop-suffix l =
    onto l.draft.nodes (suffixed (map (unfolded_suffix (file_of l.at)) (drop l.suffix-index l.suffixes)) l.k (context_of l.at) l.base l.draft.next)
    ≡ onto l.initial.draft.nodes (suffixed (map (unfolded_suffix (file_of l.at)) l.suffixes) l.first (context_of l.at) l.fn.value l.initial.draft.next)

abbrev pub decreases-expressions::build : goal.decreases-expressions::build
decreases-expressions::build l = 8 * (expression_parts l.e.now) + 0

abbrev pub decreases-expressions::build_tuple : goal.decreases-expressions::build_tuple
decreases-expressions::build_tuple l = 8 * (total (map expression_parts l.es.now)) + 2

abbrev pub decreases-expressions::build_each : goal.decreases-expressions::build_each
decreases-expressions::build_each l = 8 * (total (map expression_parts l.es.now)) + 1

abbrev pub decreases-expressions::build_unary : goal.decreases-expressions::build_unary
decreases-expressions::build_unary l = 8 * (expression_parts l.e.now) + 1

abbrev pub decreases-expressions::build_chain : goal.decreases-expressions::build_chain
decreases-expressions::build_chain l = 8 * (expression_parts l.first.now + total (map (λ (k : BinOp × Expr). expression_parts k.1) l.links.now)) + 3

abbrev pub decreases-expressions::build_links : goal.decreases-expressions::build_links
decreases-expressions::build_links l = 8 * (total (map (λ (k : BinOp × Expr). expression_parts k.1) l.links.now)) + 2

abbrev pub decreases-expressions::build_operation : goal.decreases-expressions::build_operation
decreases-expressions::build_operation l = 8 * (expression_parts l.right.now) + 1

abbrev pub decreases-expressions::build_power : goal.decreases-expressions::build_power
decreases-expressions::build_power l = 8 * (expression_parts l.base.now + expression_parts l.exponent.now) + 2

abbrev pub decreases-choices::build_members : goal.decreases-choices::build_members
decreases-choices::build_members l = 8 * (total (map expression_parts l.es.now)) + 1

abbrev pub decreases-choices::build_comparison : goal.decreases-choices::build_comparison
decreases-choices::build_comparison l = 8 * (expression_parts l.first.now + total (map (λ (k : CmpOp × Expr). expression_parts k.1) l.links.now)) + 3

abbrev pub decreases-choices::build_comparisons : goal.decreases-choices::build_comparisons
decreases-choices::build_comparisons l = 8 * (total (map (λ (k : CmpOp × Expr). expression_parts k.1) l.links.now)) + 2

abbrev pub decreases-choices::build_conditional : goal.decreases-choices::build_conditional
decreases-choices::build_conditional l = 8 * (expression_parts l.test.now + expression_parts l.first.now) + 1

abbrev pub decreases-calls::build_call : goal.decreases-calls::build_call
decreases-calls::build_call l = 8 * (total (map expression_parts l.args.now)) + 4

abbrev pub decreases-calls::build_function_call : goal.decreases-calls::build_function_call
decreases-calls::build_function_call l = 8 * (total (map expression_parts l.args.now)) + 3

abbrev pub decreases-calls::build_builtin_call : goal.decreases-calls::build_builtin_call
decreases-calls::build_builtin_call l = 8 * (total (map expression_parts l.args.now)) + 3

abbrev pub decreases-calls::build_value_call : goal.decreases-calls::build_value_call
decreases-calls::build_value_call l = 8 * (total (map expression_parts l.args.now)) + 3

abbrev pub decreases-brackets::build_suffixed : goal.decreases-brackets::build_suffixed
decreases-brackets::build_suffixed l = 8 * (expression_parts l.base.now + total (map suffix_parts l.suffixes.now)) + 2

abbrev pub decreases-brackets::build_suffixes : goal.decreases-brackets::build_suffixes
decreases-brackets::build_suffixes l = 8 * (total (map suffix_parts l.suffixes.now)) + 1

abbrev pub decreases-brackets::build_suffix : goal.decreases-brackets::build_suffix
decreases-brackets::build_suffix l = 8 * (suffix_parts l.suffix.now) + 0

abbrev pub decreases-brackets::build_index : goal.decreases-brackets::build_index
decreases-brackets::build_index l = 8 * (expression_parts l.e.now) + 1

abbrev pub decreases-brackets::build_slice : goal.decreases-brackets::build_slice
decreases-brackets::build_slice l = 8 * (maybe_parts l.low.now + maybe_parts l.high.now) + 3

abbrev pub decreases-brackets::build_bound : goal.decreases-brackets::build_bound
decreases-brackets::build_bound l = 8 * (maybe_parts l.bound.now) + 1
