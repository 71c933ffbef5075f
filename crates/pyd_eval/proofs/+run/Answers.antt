use Rattle.std.proofs.Common.{◌≡◌, ℕ, suc, ◌+◌, ◌*◌, ◌-◌, ◌<◌, ◌≤◌, List, [], ◌∷◌, ◌++◌, map, drop, length, Some, None, Ok, Err, true, false, refl, sym, ap, ◌∙◌, arith, rules, get_or, subst, to_z}
use Rattle.pyd_value.specs.Size.{total}
use Rattle.pyd_value.specs.declared.operator.BinOp.{BinOp}
use Rattle.pyd_value.specs.declared.operator.CmpOp.{CmpOp}
use Rattle.pyd_tree.specs.declared.expression.Expr.{Expr}
use Rattle.pyd_names.specs.WellFormed.{expression_parts, suffix_parts, maybe_parts, block_parts, statement_parts, arm_parts, otherwise_parts}
use Rattle.pyd_names.proofs.Parts.{by_kind, statements_by_kind}
use Rattle.pyd_meaning.specs.Outcome.{outcome}
use Rattle.pyd_meaning.proofs.Sequencing.{gives-then, faults-then, outcome-ok, outcome-err, outcome-step, outcome-settled}
use Rattle.pyd_eval.specs.Given.{value_of, seen}
use Rattle.pyd_eval.proofs.Expressions.{answered}
use Rattle.pyd_eval.proofs.Lists.{each-start, each-done, each-more, each-fault, full-push, values_in-push}
use Rattle.pyd_eval.proofs.Parts.{parts_of-member}
use Rattle.pyd_eval.proofs.Subscripts.{suffixed-done, suffixed-more, suffixed-fault}
use Rattle.pyd_eval.proofs.Tails.{chained-done, chained-more, chained-fault, compared-none, compared-more, compared-last, compared-false, compared-fault, joined-none, joined-more, joined-last, joined-ended, joined-fault}
use Rattle.pyd_meaning.specs.Reference.{Defined, Given}
use Rattle.pyd_eval.specs.Frames.{setting, names_of as bound_names}
use Rattle.pyd_eval.proofs.Entering.{length-values}
use Rattle.pyd_eval.proofs.Program.{is_known}
use Rattle.pyd_eval.proofs.Calling.{call-missing, call-uneven, call-deep, call-found, call-valued, call-unvalued, no-function, continues, IsCallee, is-callee, callee-holds, callee-less, callee-left, callee-faults}
use Rattle.pyd_tree.specs.declared.statement.Block.{out-Block}
use Rattle.pyd_names.specs.Binding.{names_of, bindings, statement_bindings, bound_in, arm_bindings, otherwise_bindings}
use Rattle.pyd_names.proofs.Bound.{by_kind as binds_by_kind}
use Rattle.pyd_meaning.specs.Statement.{action_of, block_action, calls_range}
use Rattle.pyd_meaning.proofs.Statements.{suite, passes, breaks, continues as continue_does, if_statement, expression_statement, assignment, return_statement, assert_statement, while_statement, for_statement}
use Rattle.pyd_eval.proofs.Blocks.{block_done, block_more, block_fault, block_ends}
use Rattle.pyd_eval.proofs.Holding.{holds_as, holds_kept, holds_member, holds_first, holds_second}
use Rattle.std.specs.List.{flat_map}
use Rattle.pyd_eval.proofs.StatementKinds.{does_kind, assign_binds, augmented_binds, if_binds, while_binds, for_binds, targets_names}
use Rattle.pyd_eval.proofs.StatementParts.{kind_parts}
use Rattle.pyd_eval.proofs.Assigning.{augmented_ok, augmented_err}
use Rattle.pyd_eval.proofs.Arms.{arms_fault, arms_next, arms_taken, arms_done}
use Rattle.pyd_meaning.specs.Setting.{place_of}
use Rattle.pyd_meaning.specs.Expression.{meaning_of}
use Rattle.pyd_meaning.specs.Loops.{while_loop, items_over, numbers}
use Rattle.pyd_eval.specs.Left.{completion_of}
use Rattle.pyd_eval.proofs.Turns.{while_fault, while_over, while_limit, while_more, while_stops, turn_exits, turn_goes_on, for_over}
use Rattle.pyd_eval.proofs.Rounds.{loop_over, loop_nothing, round_limit, round_stops, round_exits, round_more, number_within, number_there, number_past, number_held}
use Rattle.pyd_ops.specs.Sequence.{item_at}
use Rattle.std.specs.Int.{w128}
use Rattle.pyd_value.specs.declared.value.Value.{Int}
use Rattle.pyd_meaning.proofs.Expressions as law
use Rattle.pyd_eval.proofs.+run.Goals as goal
use Rattle.pyd_names.specs.Resolution as resolution
use Rattle.pyd_meaning.specs.Completion as meaning
use Rattle.pyd_tree.specs.declared.statement.What.TheVariants as what

pub evaluate::eval-eval_tuple-requires : goal.evaluate::eval-eval_tuple-requires
evaluate::eval-eval_tuple-requires t c =
    let e : expression_parts c.args.e.now ≡ 1 + total (map expression_parts c.as_slice.result.now) = rw (c.in-Tuple.is, by_kind.tuple, c.as_slice.ensures) in omega arith

pub evaluate::eval-eval_unary-requires : goal.evaluate::eval-eval_unary-requires
evaluate::eval-eval_unary-requires t c =
    let e : expression_parts c.args.e.now ≡ 1 + expression_parts c.get.result.now = rw (c.in-Unary.is, by_kind.unary, c.get.ensures) in omega arith

pub evaluate::eval-eval_chain-requires : goal.evaluate::eval-eval_chain-requires
evaluate::eval-eval_chain-requires t c =
    let e : expression_parts c.args.e.now ≡ 1 + (expression_parts c.get-in-Chain.result.now + total (map (λ (k : BinOp × Expr). expression_parts k.1) c.as_slice-in-Chain.result.now)) = rw (c.in-Chain.is, by_kind.chain, c.get-in-Chain.ensures, c.as_slice-in-Chain.ensures) in omega arith

pub evaluate::eval-eval_power-requires : goal.evaluate::eval-eval_power-requires
evaluate::eval-eval_power-requires t c =
    let e : expression_parts c.args.e.now ≡ 1 + (expression_parts c.get-in-Power.result.now + expression_parts c.get-in-Power-2.result.now) = rw (c.in-Power.is, by_kind.power, c.get-in-Power.ensures, c.get-in-Power-2.ensures) in omega arith

pub evaluate::eval-eval_junction-requires : goal.evaluate::eval-eval_junction-requires
evaluate::eval-eval_junction-requires t c =
    let e : expression_parts c.args.e.now ≡ 1 + total (map expression_parts c.as_slice-in-And.result.now) = rw (c.in-And.is, by_kind.and, c.as_slice-in-And.ensures) in omega arith

pub evaluate::eval-eval_junction-requires-in-Or : goal.evaluate::eval-eval_junction-requires-in-Or
evaluate::eval-eval_junction-requires-in-Or t c =
    let e : expression_parts c.args.e.now ≡ 1 + total (map expression_parts c.as_slice-in-Or.result.now) = rw (c.in-Or.is, by_kind.or, c.as_slice-in-Or.ensures) in omega arith

pub evaluate::eval-eval_comparison-requires : goal.evaluate::eval-eval_comparison-requires
evaluate::eval-eval_comparison-requires t c =
    let e : expression_parts c.args.e.now ≡ 1 + (expression_parts c.get-in-Compare.result.now + total (map (λ (k : CmpOp × Expr). expression_parts k.1) c.as_slice-in-Compare.result.now)) = rw (c.in-Compare.is, by_kind.compare, c.get-in-Compare.ensures, c.as_slice-in-Compare.ensures) in omega arith

pub evaluate::eval-eval_conditional-requires : goal.evaluate::eval-eval_conditional-requires
evaluate::eval-eval_conditional-requires t c =
    let e : expression_parts c.args.e.now ≡ 1 + (expression_parts c.get-in-If.result.now + (expression_parts c.get-in-If-2.result.now + expression_parts c.get-in-If-3.result.now)) = rw (c.in-If.is, by_kind.choice, c.get-in-If.ensures, c.get-in-If-2.ensures, c.get-in-If-3.ensures) in omega arith

pub evaluate::eval-eval_call-requires : goal.evaluate::eval-eval_call-requires
evaluate::eval-eval_call-requires t c =
    let e : expression_parts c.args.e.now ≡ 1 + total (map expression_parts c.as_slice-in-Call.result.now) = rw (c.in-Call.is, by_kind.call, c.as_slice-in-Call.ensures) in omega arith

pub evaluate::eval-eval_suffixed-requires : goal.evaluate::eval-eval_suffixed-requires
evaluate::eval-eval_suffixed-requires t c =
    let e : expression_parts c.args.e.now ≡ 1 + (expression_parts c.get-in-Suffixed.result.now + total (map suffix_parts c.as_slice-in-Suffixed.result.now)) = rw (c.in-Suffixed.is, by_kind.suffixed, c.get-in-Suffixed.ensures, c.as_slice-in-Suffixed.ensures) in omega arith

pub evaluate::eval-returns-in-Lit : goal.evaluate::eval-returns-in-Lit
evaluate::eval-returns-in-Lit t c = rw (c.in-Lit.is, law.literal, outcome-step) (outcome-settled _ _)

pub evaluate::eval-returns-in-Name : goal.evaluate::eval-returns-in-Name
evaluate::eval-returns-in-Name t c = rw (c.in-Name.is, law.name_read, outcome-step, c.read.ensures) (outcome-settled _ _)

pub evaluate::eval-returns-in-Tuple : goal.evaluate::eval-returns-in-Tuple
evaluate::eval-returns-in-Tuple t c = rw c.in-Tuple.is (rw c.as_slice.ensures at c.eval_tuple.ensures)

pub evaluate::eval-returns-in-Unary : goal.evaluate::eval-returns-in-Unary
evaluate::eval-returns-in-Unary t c = rw c.in-Unary.is (rw c.get.ensures at c.eval_unary.ensures)

pub evaluate::eval-returns-in-Chain : goal.evaluate::eval-returns-in-Chain
evaluate::eval-returns-in-Chain t c = rw c.in-Chain.is (rw (c.get-in-Chain.ensures, c.as_slice-in-Chain.ensures) at c.eval_chain.ensures)

pub evaluate::eval-returns-in-Power : goal.evaluate::eval-returns-in-Power
evaluate::eval-returns-in-Power t c = rw c.in-Power.is (rw (c.get-in-Power.ensures, c.get-in-Power-2.ensures) at c.eval_power.ensures)

pub evaluate::eval-returns-in-And : goal.evaluate::eval-returns-in-And
evaluate::eval-returns-in-And t c = rw (c.in-And.is, law.conjunction, outcome-step) (rw c.as_slice-in-And.ensures at c.eval_junction.ensures)

pub evaluate::eval-returns-in-Or : goal.evaluate::eval-returns-in-Or
evaluate::eval-returns-in-Or t c = rw (c.in-Or.is, law.disjunction, outcome-step) (rw c.as_slice-in-Or.ensures at c.eval_junction-in-Or.ensures)

pub evaluate::eval-returns-in-Compare : goal.evaluate::eval-returns-in-Compare
evaluate::eval-returns-in-Compare t c = rw c.in-Compare.is (rw (c.get-in-Compare.ensures, c.as_slice-in-Compare.ensures) at c.eval_comparison.ensures)

pub evaluate::eval-returns-in-If : goal.evaluate::eval-returns-in-If
evaluate::eval-returns-in-If t c = rw c.in-If.is (rw (c.get-in-If.ensures, c.get-in-If-2.ensures, c.get-in-If-3.ensures) at c.eval_conditional.ensures)

pub evaluate::eval-returns-in-Call : goal.evaluate::eval-returns-in-Call
evaluate::eval-returns-in-Call t c = rw c.in-Call.is (rw c.as_slice-in-Call.ensures at c.eval_call.ensures)

pub evaluate::eval-returns-in-Suffixed : goal.evaluate::eval-returns-in-Suffixed
evaluate::eval-returns-in-Suffixed t c = rw c.in-Suffixed.is (rw (c.get-in-Suffixed.ensures, c.as_slice-in-Suffixed.ensures) at c.eval_suffixed.ensures)

pub evaluate::eval_tuple-returns-in-Ok : goal.evaluate::eval_tuple-returns-in-Ok
evaluate::eval_tuple-returns-in-Ok t c =
    rw (law.tuple, outcome-step, outcome-ok _ _ _ _ _ (rw c.in-Ok.is at c.in_ok-values.ensures), c.tuple.ensures) (outcome-settled _ _)

pub evaluate::eval_tuple-returns-in-Err : goal.evaluate::eval_tuple-returns-in-Err
evaluate::eval_tuple-returns-in-Err t c = rw (law.tuple, outcome-step) (outcome-err _ _ _ _ _ (rw c.in-Err.is at c.in_ok-values.ensures))

pub evaluate::eval_unary-returns-in-Ok : goal.evaluate::eval_unary-returns-in-Ok
evaluate::eval_unary-returns-in-Ok t c =
    rw (law.unary, outcome-step, outcome-ok _ _ _ _ _ (rw c.in-Ok.is at c.in_ok-operand.ensures), outcome-settled) (answered _ _ _ c.apply_unary.ensures)

pub evaluate::eval_unary-returns-in-Err : goal.evaluate::eval_unary-returns-in-Err
evaluate::eval_unary-returns-in-Err t c = rw (law.unary, outcome-step) (outcome-err _ _ _ _ _ (rw c.in-Err.is at c.in_ok-operand.ensures))

pub evaluate::eval_chain-returns-in-Some : goal.evaluate::eval_chain-returns-in-Some
evaluate::eval_chain-returns-in-Some t c = rw c.to_value.ensures (c.in-Some.ensures c.args.out.now)

pub evaluate::eval_chain-returns-in-Ok : goal.evaluate::eval_chain-returns-in-Ok
evaluate::eval_chain-returns-in-Ok t c = rw (law.chain, outcome-step, outcome-ok _ _ _ _ _ (rw c.in-Ok.is at c.in_ok-left.ensures)) c.eval_links.ensures

pub evaluate::eval_chain-returns-in-Err : goal.evaluate::eval_chain-returns-in-Err
evaluate::eval_chain-returns-in-Err t c = rw (law.chain, outcome-step) (outcome-err _ _ _ _ _ (rw c.in-Err.is at c.in_ok-left.ensures))

pub evaluate::eval_links-eval_operation-value-requires : goal.evaluate::eval_links-eval_operation-value-requires
evaluate::eval_links-eval_operation-value-requires t c =
    let e = parts_of-member (λ (k : BinOp × Expr). expression_parts k.1) c.args.links.now c.loop-link.link-index c.link-item.result c.loop-link-test.true c.link-item.is in omega arith

pub evaluate::eval_links-loop-link-preserved : goal.evaluate::eval_links-loop-link-preserved
evaluate::eval_links-loop-link-preserved t c =
    sym (chained-more _ _ _ _ _ _ _ c.link-item.result _ c.loop-link-test.true c.link-item.is _ (rw c.in-Ok.is at c.in_ok-value.ensures)) ∙ c.loop-link.invariant

pub evaluate::eval_links-returns-in-Err : goal.evaluate::eval_links-returns-in-Err
evaluate::eval_links-returns-in-Err t c =
    sym c.loop-link.invariant ∙ chained-fault _ _ _ _ _ _ _ c.link-item.result _ c.loop-link-test.true c.link-item.is _ (rw c.in-Err.is at c.in_ok-value.ensures)

pub evaluate::eval_links-returns : goal.evaluate::eval_links-returns
evaluate::eval_links-returns t c = sym c.loop-link.invariant ∙ chained-done _ _ _ _ _ _ _ c.loop-link-test.false

pub evaluate::eval_operation-returns-in-Ok : goal.evaluate::eval_operation-returns-in-Ok
evaluate::eval_operation-returns-in-Ok t c =
    rw (outcome-ok _ _ _ _ _ (rw c.in-Ok.is at c.in_ok-right.ensures), outcome-settled) (answered _ _ _ c.apply_to.ensures)

pub evaluate::eval_operation-returns-in-Err : goal.evaluate::eval_operation-returns-in-Err
evaluate::eval_operation-returns-in-Err t c = outcome-err _ _ _ _ _ (rw c.in-Err.is at c.in_ok-right.ensures)

pub evaluate::eval_power-returns-in-Ok : goal.evaluate::eval_power-returns-in-Ok
evaluate::eval_power-returns-in-Ok t c =
    rw (law.power, outcome-step, outcome-ok _ _ _ _ _ (rw c.in-Ok.is at c.in_ok-left.ensures)) c.eval_operation-value.ensures

pub evaluate::eval_power-returns-in-Err : goal.evaluate::eval_power-returns-in-Err
evaluate::eval_power-returns-in-Err t c = rw (law.power, outcome-step) (outcome-err _ _ _ _ _ (rw c.in-Err.is at c.in_ok-left.ensures))

pub evaluate::eval_junction-eval-requires : goal.evaluate::eval_junction-eval-requires
evaluate::eval_junction-eval-requires t c =
    let e = parts_of-member expression_parts c.args.es.now c.loop-e.e-index c.e-item.result c.loop-e-test.true c.e-item.is in omega arith

pub evaluate::eval_junction-loop-e-preserved : goal.evaluate::eval_junction-loop-e-preserved
evaluate::eval_junction-loop-e-preserved t c =
    record {
      does = sym (joined-more _ _ _ _ _ _ _ c.e-item.result _ c.loop-e-test.true c.e-item.is _ (rw c.in-Ok.is at c.in_ok-member.ensures) (sym c.if-is_ended_by.ensures) (omega (arith, c.loop-e.invariant.left, c.if-behind-eq0.false))) ∙ c.loop-e.invariant.does;
      left = omega (arith, c.loop-e.invariant.left, c.if-behind-eq0.false);
    }

pub evaluate::eval_junction-returns-then-behind-eq0 : goal.evaluate::eval_junction-returns-then-behind-eq0
evaluate::eval_junction-returns-then-behind-eq0 t c =
    sym c.loop-e.invariant.does ∙ joined-last _ _ _ _ _ _ _ c.e-item.result _ c.loop-e-test.true c.e-item.is _ (rw c.in-Ok.is at c.in_ok-member.ensures) (omega (arith, c.loop-e.invariant.left, c.if-behind-eq0.true))

pub evaluate::eval_junction-returns-then-is_ended_by : goal.evaluate::eval_junction-returns-then-is_ended_by
evaluate::eval_junction-returns-then-is_ended_by t c =
    sym c.loop-e.invariant.does ∙ joined-ended _ _ _ _ _ _ _ c.e-item.result _ c.loop-e-test.true c.e-item.is _ (rw c.in-Ok.is at c.in_ok-member.ensures) (sym c.if-is_ended_by.ensures)

pub evaluate::eval_junction-returns-in-Err : goal.evaluate::eval_junction-returns-in-Err
evaluate::eval_junction-returns-in-Err t c =
    sym c.loop-e.invariant.does ∙ joined-fault _ _ _ _ _ _ _ c.e-item.result _ c.loop-e-test.true c.e-item.is _ (rw c.in-Err.is at c.in_ok-member.ensures)

pub evaluate::eval_junction-returns : goal.evaluate::eval_junction-returns
evaluate::eval_junction-returns t c =
    rw c.of_none.ensures (sym c.loop-e.invariant.does ∙ joined-none _ _ _ _ _ _ _ c.loop-e-test.false)

pub evaluate::eval_comparison-returns-in-Ok : goal.evaluate::eval_comparison-returns-in-Ok
evaluate::eval_comparison-returns-in-Ok t c =
    rw (law.comparison, outcome-step, outcome-ok _ _ _ _ _ (rw c.in-Ok.is at c.in_ok-left.ensures)) c.eval_comparisons.ensures

pub evaluate::eval_comparison-returns-in-Err : goal.evaluate::eval_comparison-returns-in-Err
evaluate::eval_comparison-returns-in-Err t c = rw (law.comparison, outcome-step) (outcome-err _ _ _ _ _ (rw c.in-Err.is at c.in_ok-left.ensures))

pub evaluate::eval_comparisons-eval_link-found-requires : goal.evaluate::eval_comparisons-eval_link-found-requires
evaluate::eval_comparisons-eval_link-found-requires t c =
    let e = parts_of-member (λ (k : CmpOp × Expr). expression_parts k.1) c.args.links.now c.loop-link.link-index c.link-item.result c.loop-link-test.true c.link-item.is in omega arith

pub evaluate::eval_comparisons-loop-link-preserved : goal.evaluate::eval_comparisons-loop-link-preserved
evaluate::eval_comparisons-loop-link-preserved t c =
    record {
      does = sym (compared-more _ _ _ _ _ _ _ c.link-item.result _ c.loop-link-test.true c.link-item.is _ _ (rw c.in-Ok.is at c.in_ok-right.ensures) (sym c.if-not-holds.ensures) (omega (arith, c.loop-link.invariant.left, c.if-behind-eq0.false))) ∙ c.loop-link.invariant.does;
      left = omega (arith, c.loop-link.invariant.left, c.if-behind-eq0.false);
    }

pub evaluate::eval_comparisons-returns-then-behind-eq0 : goal.evaluate::eval_comparisons-returns-then-behind-eq0
evaluate::eval_comparisons-returns-then-behind-eq0 t c =
    sym c.loop-link.invariant.does ∙ compared-last _ _ _ _ _ _ _ c.link-item.result _ c.loop-link-test.true c.link-item.is _ _ (rw c.in-Ok.is at c.in_ok-right.ensures) (omega (arith, c.loop-link.invariant.left, c.if-behind-eq0.true))

pub evaluate::eval_comparisons-returns-then-not-holds : goal.evaluate::eval_comparisons-returns-then-not-holds
evaluate::eval_comparisons-returns-then-not-holds t c =
    sym c.loop-link.invariant.does ∙ compared-false _ _ _ _ _ _ _ c.link-item.result _ c.loop-link-test.true c.link-item.is _ _ (rw c.in-Ok.is at c.in_ok-right.ensures) (sym c.if-not-holds.ensures)

pub evaluate::eval_comparisons-returns : goal.evaluate::eval_comparisons-returns
evaluate::eval_comparisons-returns t c = sym c.loop-link.invariant.does ∙ compared-none _ _ _ _ _ _ _ c.loop-link-test.false

pub evaluate::eval_comparisons-returns-in-Err : goal.evaluate::eval_comparisons-returns-in-Err
evaluate::eval_comparisons-returns-in-Err t c =
    sym c.loop-link.invariant.does ∙ compared-fault _ _ _ _ _ _ _ c.link-item.result _ c.loop-link-test.true c.link-item.is _ (rw c.in-Err.is at c.in_ok-right.ensures)

pub evaluate::eval_link-returns-in-Ok-apply_comparison : goal.evaluate::eval_link-returns-in-Ok-apply_comparison
evaluate::eval_link-returns-in-Ok-apply_comparison t c =
    rw (outcome-ok _ _ _ _ _ (rw c.in-Ok.is at c.in_ok-right.ensures), ← c.apply_comparison.ensures, c.in-Ok-apply_comparison.is, gives-then) (outcome-settled _ _)

pub evaluate::eval_link-returns-in-Err-apply_comparison : goal.evaluate::eval_link-returns-in-Err-apply_comparison
evaluate::eval_link-returns-in-Err-apply_comparison t c =
    rw (outcome-ok _ _ _ _ _ (rw c.in-Ok.is at c.in_ok-right.ensures), ← c.apply_comparison.ensures, c.in-Err-apply_comparison.is, faults-then) (outcome-settled _ _)

pub evaluate::eval_link-returns-in-Err : goal.evaluate::eval_link-returns-in-Err
evaluate::eval_link-returns-in-Err t c = outcome-err _ _ _ _ _ (rw c.in-Err.is at c.in_ok-right.ensures)

pub evaluate::eval_conditional-returns-in-Err : goal.evaluate::eval_conditional-returns-in-Err
evaluate::eval_conditional-returns-in-Err t c = rw (law.conditional, outcome-step) (outcome-err _ _ _ _ _ (rw c.in-Err.is at c.in_ok-value.ensures))

pub evaluate::eval_conditional-returns-then-is_true : goal.evaluate::eval_conditional-returns-then-is_true
evaluate::eval_conditional-returns-then-is_true t c =
    rw (law.conditional, outcome-step, outcome-ok _ _ _ _ _ (rw c.in-Ok.is at c.in_ok-value.ensures), ← c.if-is_true.ensures) c.eval-then-is_true.ensures

pub evaluate::eval_conditional-returns-else-is_true : goal.evaluate::eval_conditional-returns-else-is_true
evaluate::eval_conditional-returns-else-is_true t c =
    rw (law.conditional, outcome-step, outcome-ok _ _ _ _ _ (rw c.in-Ok.is at c.in_ok-value.ensures), ← c.if-is_true.ensures) c.eval-else-is_true.ensures

pub suffixes::eval_suffixed-returns-in-Ok : goal.suffixes::eval_suffixed-returns-in-Ok
suffixes::eval_suffixed-returns-in-Ok t c =
    rw (law.suffixed, outcome-step, outcome-ok _ _ _ _ _ (rw c.in-Ok.is at c.in_ok-base.ensures)) c.eval_suffixes.ensures

pub suffixes::eval_suffixed-returns-in-Err : goal.suffixes::eval_suffixed-returns-in-Err
suffixes::eval_suffixed-returns-in-Err t c = rw (law.suffixed, outcome-step) (outcome-err _ _ _ _ _ (rw c.in-Err.is at c.in_ok-base.ensures))

pub suffixes::eval_suffixes-eval_suffix-value-requires : goal.suffixes::eval_suffixes-eval_suffix-value-requires
suffixes::eval_suffixes-eval_suffix-value-requires t c =
    let e = parts_of-member suffix_parts c.args.suffixes.now c.loop-suffix.suffix-index c.suffix-item.result c.loop-suffix-test.true c.suffix-item.is in omega arith

pub suffixes::eval_suffixes-loop-suffix-preserved : goal.suffixes::eval_suffixes-loop-suffix-preserved
suffixes::eval_suffixes-loop-suffix-preserved t c =
    sym (suffixed-more _ _ _ _ _ _ _ c.suffix-item.result _ c.loop-suffix-test.true c.suffix-item.is _ (rw c.in-Ok.is at c.in_ok-value.ensures)) ∙ c.loop-suffix.invariant

pub suffixes::eval_suffixes-returns-in-Err : goal.suffixes::eval_suffixes-returns-in-Err
suffixes::eval_suffixes-returns-in-Err t c =
    sym c.loop-suffix.invariant ∙ suffixed-fault _ _ _ _ _ _ _ c.suffix-item.result _ c.loop-suffix-test.true c.suffix-item.is _ (rw c.in-Err.is at c.in_ok-value.ensures)

pub suffixes::eval_suffixes-returns : goal.suffixes::eval_suffixes-returns
suffixes::eval_suffixes-returns t c = sym c.loop-suffix.invariant ∙ suffixed-done _ _ _ _ _ _ _ c.loop-suffix-test.false

pub suffixes::eval_suffix-eval-requires : goal.suffixes::eval_suffix-eval-requires
suffixes::eval_suffix-eval-requires t c =
    let e : suffix_parts c.args.suffix.now ≡ 1 + expression_parts c.in-Index.e = rw (c.in-Index.is, by_kind.index) in omega arith

pub suffixes::eval_suffix-eval_slice-requires : goal.suffixes::eval_suffix-eval_slice-requires
suffixes::eval_suffix-eval_slice-requires t c =
    let e : suffix_parts c.args.suffix.now ≡ 1 + (maybe_parts c.in-Slice.low + maybe_parts c.in-Slice.high) = rw (c.in-Slice.is, by_kind.slice) in omega arith

pub suffixes::eval_suffix-returns-in-Ok : goal.suffixes::eval_suffix-returns-in-Ok
suffixes::eval_suffix-returns-in-Ok t c =
    rw (c.in-Index.is, law.index, outcome-step, outcome-ok _ _ _ _ _ (rw c.in-Ok.is at c.in_ok-at-in-Index.ensures), outcome-settled) (answered _ _ _ c.apply_index.ensures)

pub suffixes::eval_suffix-returns-in-Err : goal.suffixes::eval_suffix-returns-in-Err
suffixes::eval_suffix-returns-in-Err t c =
    rw (c.in-Index.is, law.index, outcome-step) (outcome-err _ _ _ _ _ (rw c.in-Err.is at c.in_ok-at-in-Index.ensures))

pub suffixes::eval_suffix-returns-in-Slice : goal.suffixes::eval_suffix-returns-in-Slice
suffixes::eval_suffix-returns-in-Slice t c = rw c.in-Slice.is c.eval_slice.ensures

pub suffixes::eval_slice-returns-in-Err : goal.suffixes::eval_slice-returns-in-Err
suffixes::eval_slice-returns-in-Err t c = rw (law.slice, outcome-step) (outcome-err _ _ _ _ _ (rw c.in-Err.is at c.in_ok-low.ensures))

pub suffixes::eval_slice-returns-in-Ok-Ok : goal.suffixes::eval_slice-returns-in-Ok-Ok
suffixes::eval_slice-returns-in-Ok-Ok t c =
    rw (law.slice, outcome-step, outcome-ok _ _ _ _ _ (rw c.in-Ok.is at c.in_ok-low.ensures), outcome-ok _ _ _ _ _ (rw c.in-Ok-Ok.field-0-is at c.in-Ok-Ok.ensures), outcome-settled) (answered _ _ _ c.apply_slice.ensures)

pub suffixes::eval_slice-returns-in-Ok-Err : goal.suffixes::eval_slice-returns-in-Ok-Err
suffixes::eval_slice-returns-in-Ok-Err t c =
    rw (law.slice, outcome-step, outcome-ok _ _ _ _ _ (rw c.in-Ok.is at c.in_ok-low.ensures)) (outcome-err _ _ _ _ _ (rw c.in-Ok-Err.field-0-is at c.in-Ok-Err.ensures))

pub suffixes::eval_bound-returns-in-None : goal.suffixes::eval_bound-returns-in-None
suffixes::eval_bound-returns-in-None t c = rw c.in-None.is (outcome-settled _ _)

pub suffixes::eval_bound-returns-in_ok-into_value-in-Ok : goal.suffixes::eval_bound-returns-in_ok-into_value-in-Ok
suffixes::eval_bound-returns-in_ok-into_value-in-Ok t c =
    rw (c.in-Some.is, outcome-ok _ _ _ _ _ (rw c.in-Ok.is at c.in_ok-value-in-Some.ensures), c.in_ok-into_value-in-Ok.ensures) (outcome-settled _ _)

pub suffixes::eval_bound-returns-in-Err : goal.suffixes::eval_bound-returns-in-Err
suffixes::eval_bound-returns-in-Err t c =
    rw c.in-Some.is (outcome-err _ _ _ _ _ (rw c.in-Err.is at c.in_ok-value-in-Some.ensures))

pub arguments::eval_all-eval-requires : goal.arguments::eval_all-eval-requires
arguments::eval_all-eval-requires t c =
    let e = parts_of-member expression_parts c.args.es.now c.loop-e.e-index c.e-item.result c.loop-e-test.true c.e-item.is in omega arith

pub arguments::eval_all-loop-e-init : goal.arguments::eval_all-loop-e-init
arguments::eval_all-loop-e-init t c =
    rw c.new-values.ensures (each-start _ _ _ _)

pub arguments::eval_all-loop-e-preserved : goal.arguments::eval_all-loop-e-preserved
arguments::eval_all-loop-e-preserved t c =
    rw c.in_ok-add-in-Ok.ensures (sym (each-more _ _ _ _ _ _ _ c.e-item.result _ c.loop-e-test.true c.e-item.is _ (rw c.in-Ok.is at c.in_ok-got.ensures)) ∙ c.loop-e.invariant)

pub arguments::eval_all-returns-in-Err : goal.arguments::eval_all-returns-in-Err
arguments::eval_all-returns-in-Err t c =
    sym c.loop-e.invariant ∙ each-fault _ _ _ _ _ _ _ c.e-item.result _ c.loop-e-test.true c.e-item.is _ (rw c.in-Err.is at c.in_ok-got.ensures)

pub arguments::eval_all-returns : goal.arguments::eval_all-returns
arguments::eval_all-returns t c = sym c.loop-e.invariant ∙ each-done _ _ _ _ _ _ _ c.loop-e-test.false

pub arguments::eval_arguments-eval-requires : goal.arguments::eval_arguments-eval-requires
arguments::eval_arguments-eval-requires t c =
    let e = parts_of-member expression_parts c.args.es.now c.loop-e.e-index c.e-item.result c.loop-e-test.true c.e-item.is in omega arith

pub arguments::eval_arguments-loop-e-init : goal.arguments::eval_arguments-loop-e-init
arguments::eval_arguments-loop-e-init t c =
    record { does = rw c.new-taken.ensures.items (each-start _ _ _ _); full = rw c.new-taken.ensures.items refl }

pub arguments::eval_arguments-loop-e-preserved : goal.arguments::eval_arguments-loop-e-preserved
arguments::eval_arguments-loop-e-preserved t c =
    record {
      does = rw (c.in_ok-add_slot-in-Ok.ensures, values_in-push) (sym (each-more _ _ _ _ _ _ _ c.e-item.result _ c.loop-e-test.true c.e-item.is _ (rw c.in-Ok.is at c.in_ok-got.ensures)) ∙ c.loop-e.invariant.does);
      full = rw c.in_ok-add_slot-in-Ok.ensures (full-push _ _ c.loop-e.invariant.full);
    }

pub arguments::eval_arguments-returns-in-Err-clause-meaning : goal.arguments::eval_arguments-returns-in-Err-clause-meaning
arguments::eval_arguments-returns-in-Err-clause-meaning t c =
    sym c.loop-e.invariant.does ∙ each-fault _ _ _ _ _ _ _ c.e-item.result _ c.loop-e-test.true c.e-item.is _ (rw c.in-Err.is at c.in_ok-got.ensures)

pub arguments::eval_arguments-returns-clause-meaning : goal.arguments::eval_arguments-returns-clause-meaning
arguments::eval_arguments-returns-clause-meaning t c = sym c.loop-e.invariant.does ∙ each-done _ _ _ _ _ _ _ c.loop-e-test.false

pub calls::eval_call-eval_function_call-requires : goal.calls::eval_call-eval_function_call-requires
calls::eval_call-eval_function_call-requires t c = (omega arith, tt)

pub calls::eval_call-eval_builtin_call-requires : goal.calls::eval_call-eval_builtin_call-requires
calls::eval_call-eval_builtin_call-requires t c = (omega arith, tt)

pub calls::eval_call-eval_uncallable-requires : goal.calls::eval_call-eval_uncallable-requires
calls::eval_call-eval_uncallable-requires t c = (omega arith, tt)

pub calls::eval_call-returns-in-Routine : goal.calls::eval_call-returns-in-Routine
calls::eval_call-returns-in-Routine t c =
    continues c.eval_function_call.result _ _ _ _ _
    (call-found (setting c.args.on.now) c.args.name.now c.args.args.now _ _ _ (resolution.Function c.in-Routine.routine) (Defined c.in-Routine.routine) c.in-Routine.ensures.resolution refl)
    c.eval_function_call.ensures

pub calls::eval_call-returns-in-Builtin : goal.calls::eval_call-returns-in-Builtin
calls::eval_call-returns-in-Builtin t c =
    continues c.eval_builtin_call.result _ _ _ _ _
    (call-found (setting c.args.on.now) c.args.name.now c.args.args.now _ _ _ (resolution.Builtin c.in-Builtin.builtin) (Given c.in-Builtin.builtin) c.in-Builtin.ensures.resolution refl)
    c.eval_builtin_call.ensures

pub calls::eval_call-returns-in-Ok : goal.calls::eval_call-returns-in-Ok
calls::eval_call-returns-in-Ok t c =
    continues c.eval_uncallable.result _ _ _ _ _
    (call-valued (setting c.args.on.now) c.args.name.now c.args.args.now _ _ _ _ c.resolve.ensures.resolution (no-function c.resolve.result _ c.in-Slot.is) _ c.in-Ok.ensures)
    c.eval_uncallable.ensures

pub calls::eval_call-returns-in-Err : goal.calls::eval_call-returns-in-Err
calls::eval_call-returns-in-Err t c =
    call-unvalued (setting c.args.on.now) c.args.name.now c.args.args.now _ _ _ _ c.resolve.ensures.resolution (no-function c.resolve.result _ c.in-Slot.is) _ c.in-Err.ensures

pub calls::eval_function_call-eval_arguments-requires : goal.calls::eval_function_call-eval_arguments-requires
calls::eval_function_call-eval_arguments-requires t c = (omega arith, tt)

pub calls::eval_function_call-call_function-requires : goal.calls::eval_function_call-call_function-requires
calls::eval_function_call-call_function-requires t c = (omega arith, rw c.in-Ok.is at c.in_ok-taken.ensures.full)

pub calls::eval_function_call-returns-in_ok-got-in-Ok : goal.calls::eval_function_call-returns-in_ok-got-in-Ok
calls::eval_function_call-returns-in_ok-got-in-Ok t c =
    outcome-ok _ _ _ _ _ (rw c.in-Ok.is at c.in_ok-taken.ensures.meaning)
    ∙ c.in_ok-got-in-Ok.ensures ∙ ap (λ r. (c.call_function.new.out, r)) (sym c.owned.ensures)

pub calls::eval_function_call-returns-in-Err : goal.calls::eval_function_call-returns-in-Err
calls::eval_function_call-returns-in-Err t c = outcome-err _ _ _ _ _ (rw c.in-Err.is at c.in_ok-taken.ensures.meaning)

pub calls::eval_builtin_call-eval_all-requires : goal.calls::eval_builtin_call-eval_all-requires
calls::eval_builtin_call-eval_all-requires t c = (omega arith, tt)

pub calls::eval_builtin_call-returns-in-Ok : goal.calls::eval_builtin_call-returns-in-Ok
calls::eval_builtin_call-returns-in-Ok t c =
    continues c.call_builtin.result _ _ _ _ _ (outcome-ok _ _ _ _ _ (rw c.in-Ok.is at c.in_ok-values.ensures)) c.call_builtin.ensures

pub calls::eval_builtin_call-returns-in-Err : goal.calls::eval_builtin_call-returns-in-Err
calls::eval_builtin_call-returns-in-Err t c = outcome-err _ _ _ _ _ (rw c.in-Err.is at c.in_ok-values.ensures)

pub calls::eval_uncallable-eval_all-requires : goal.calls::eval_uncallable-eval_all-requires
calls::eval_uncallable-eval_all-requires t c = (omega arith, tt)

pub calls::eval_uncallable-returns-in-Ok : goal.calls::eval_uncallable-returns-in-Ok
calls::eval_uncallable-returns-in-Ok t c = outcome-ok _ _ _ _ _ (rw c.in-Ok.is at c.in_ok-values.ensures) ∙ outcome-settled _ _

pub calls::eval_uncallable-returns-in-Err : goal.calls::eval_uncallable-returns-in-Err
calls::eval_uncallable-returns-in-Err t c = outcome-err _ _ _ _ _ (rw c.in-Err.is at c.in_ok-values.ensures)

pub calls::call_function-returns-in_default : goal.calls::call_function-returns-in_default
calls::call_function-returns-in_default t c = call-missing _ _ c.args.routine c.args.line _ _ _ (sym c.in_default.ensures)

pub calls::call_function-returns-then-len : goal.calls::call_function-returns-then-len
calls::call_function-returns-then-len t c =
    let n = length-values c.args.taken.items c.requires in
    call-uneven _ _ c.args.routine c.args.line _ _ _ c.in-Some.func.now (sym c.in-Some.ensures) (λ e. c.if-len.true (omega (arith, c.args.taken.ok.0, c.len.ensures, n, e)))

pub calls::call_function-returns-then-on : goal.calls::call_function-returns-then-on
calls::call_function-returns-then-on t c =
    let n = length-values c.args.taken.items c.requires in
    call-deep _ _ c.args.routine c.args.line _ _ _ c.in-Some.func.now (sym c.in-Some.ensures) (omega (arith, c.args.taken.ok.0, c.len.ensures, n)) (omega (arith, c.if-on.true))

pub calls::call_function-run_function-requires : goal.calls::call_function-run_function-requires
calls::call_function-run_function-requires t c = (
  omega arith,
  record {
    found = sym c.in-Some.ensures;
    within = omega (arith, c.if-on.false);
    even = omega (arith, c.args.taken.ok.0, c.len.ensures);
    full = c.requires;
  },
)

pub calls::run_function-called-callee-requires-clause-known : goal.calls::run_function-called-callee-requires-clause-known
calls::run_function-called-callee-requires-clause-known t c =
    let program = c.args.on.now.program.now in
    is_known program.file c.args.func.now c.args.routine program.routines program.its_routines c.requires.found

pub calls::run_function-exec_block-requires : goal.calls::run_function-exec_block-requires
calls::run_function-exec_block-requires t c =
    let e = c.called-callee.ensures in
    let is : IsCallee c.args.on.now c.called-callee.result c.args.routine c.args.func.now c.args.taken.items c.as_mut_slice.result.now =
    is-callee c.requires e.program e.limits e.routine e.depth c.slot_count.ensures c.in_ok-fill.ensures c.as_mut_slice.ensures.value in
    let less = callee-less is in
    (omega (arith, less), callee-holds is)

pub calls::run_function-returns-in-Ok : goal.calls::run_function-returns-in-Ok
calls::run_function-returns-in-Ok t c =
    let e = c.called-callee.ensures in
    let is : IsCallee c.args.on.now c.called-callee.result c.args.routine c.args.func.now c.args.taken.items c.as_mut_slice.result.now =
    is-callee c.requires e.program e.limits e.routine e.depth c.slot_count.ensures c.in_ok-fill.ensures c.as_mut_slice.ensures.value in
    λ line. callee-left is _ _ _ _ (rw c.in-Ok.is at c.in_ok-how.ensures) line ∙ ap (λ v. (c.exec_block.new.out, Ok v)) (sym c.into_value.ensures)

pub calls::run_function-returns : goal.calls::run_function-returns
calls::run_function-returns t c =
    let e = c.called-callee.ensures in
    let is : IsCallee c.args.on.now c.called-callee.result c.args.routine c.args.func.now c.args.taken.items c.as_mut_slice.result.now =
    is-callee c.requires e.program e.limits e.routine e.depth c.slot_count.ensures c.in_ok-fill.ensures c.as_mut_slice.ensures.value in
    callee-faults is _ _ _ (rw c.in-Err.is at c.in_ok-how.ensures)

pub execute::exec_block-loop-stmt-init : goal.execute::exec_block-loop-stmt-init
execute::exec_block-loop-stmt-init t c = rw (suite, ← c.as_slice-stmt-items.ensures) refl

pub execute::exec_block-exec_stmt-requires : goal.execute::exec_block-exec_stmt-requires
execute::exec_block-exec_stmt-requires t c =
    let h = holds_as c.args.on.now c.args.slots.now _ _ (ap names_of (binds_by_kind.block c.args.block.now)) c.requires in
    let lt = subst (λ xs. c.loop-stmt.stmt-index < length xs) c.as_slice-stmt-items.ensures c.loop-stmt-test.true in
    let at = subst (λ xs. c.stmt-item.result ≡ get_or xs c.loop-stmt.stmt-index c.stmt-item.result) c.as_slice-stmt-items.ensures c.stmt-item.is in
    let m = parts_of-member statement_parts (out-Block c.args.block.now).stmts c.loop-stmt.stmt-index c.stmt-item.result lt at in
    let e : block_parts c.args.block.now ≡ total (map statement_parts (out-Block c.args.block.now).stmts) = statements_by_kind.block c.args.block.now in (
      omega arith,
      holds_kept c.args.on.now c.args.slots.now c.loop-stmt.slots (names_of (statement_bindings c.stmt-item.result)) c.loop-stmt.auto.slots
          (holds_member c.args.on.now c.args.slots.now statement_bindings (out-Block c.args.block.now).stmts c.loop-stmt.stmt-index c.stmt-item.result lt at h),
    )

pub execute::exec_block-returns-in-Ok-Break : goal.execute::exec_block-returns-in-Ok-Break
execute::exec_block-returns-in-Ok-Break t c =
    sym c.loop-stmt.invariant ∙ block_ends _ _ _ _ _ c.stmt-item.result _ _ _ (λ next. refl) c.loop-stmt-test.true c.stmt-item.is (rw (c.in-Ok-Break.is, c.in-Ok-Break.field-0-is) at c.in_ok-exec_stmt.ensures)

pub execute::exec_block-returns-in-Ok-Continue : goal.execute::exec_block-returns-in-Ok-Continue
execute::exec_block-returns-in-Ok-Continue t c =
    sym c.loop-stmt.invariant ∙ block_ends _ _ _ _ _ c.stmt-item.result _ _ _ (λ next. refl) c.loop-stmt-test.true c.stmt-item.is (rw (c.in-Ok-Continue.is, c.in-Ok-Continue.field-0-is) at c.in_ok-exec_stmt.ensures)

pub execute::exec_block-returns-in-Ok-Return : goal.execute::exec_block-returns-in-Ok-Return
execute::exec_block-returns-in-Ok-Return t c =
    sym c.loop-stmt.invariant ∙ block_ends _ _ _ _ _ c.stmt-item.result _ _ _ (λ next. refl) c.loop-stmt-test.true c.stmt-item.is (rw (c.in-Ok-Return.is, c.in-Ok-Return.field-0-is) at c.in_ok-exec_stmt.ensures)

pub execute::exec_block-returns-in-Err : goal.execute::exec_block-returns-in-Err
execute::exec_block-returns-in-Err t c =
    sym c.loop-stmt.invariant ∙ block_fault _ _ _ _ _ c.stmt-item.result _ _ c.loop-stmt-test.true c.stmt-item.is (rw c.in-Err.is at c.in_ok-exec_stmt.ensures)

pub execute::exec_block-loop-stmt-preserved : goal.execute::exec_block-loop-stmt-preserved
execute::exec_block-loop-stmt-preserved t c =
    sym (block_more _ _ _ _ _ c.stmt-item.result _ _ _ c.loop-stmt-test.true c.stmt-item.is (rw (c.in-Ok-Normal.is, c.in-Ok-Normal.field-0-is) at c.in_ok-exec_stmt.ensures)) ∙ c.loop-stmt.invariant

pub execute::exec_block-returns : goal.execute::exec_block-returns
execute::exec_block-returns t c = sym c.loop-stmt.invariant ∙ block_done _ _ _ _ _ c.loop-stmt-test.false

pub execute::exec_stmt-exec_expression-requires : goal.execute::exec_stmt-exec_expression-requires
execute::exec_stmt-exec_expression-requires t c =
    let e : statement_parts c.args.stmt.now ≡ 1 + expression_parts c.in-Expr.e = kind_parts c.args.stmt.now _ c.in-Expr.is ∙ ap (λ (n : ℕ). 1 + n) (statements_by_kind.expression c.in-Expr.e) in omega arith

pub execute::exec_stmt-exec_assign-requires : goal.execute::exec_stmt-exec_assign-requires
execute::exec_stmt-exec_assign-requires t c =
    let e : statement_parts c.args.stmt.now ≡ 1 + (length c.in-Assign.targets.names + expression_parts c.in-Assign.e) = kind_parts c.args.stmt.now _ c.in-Assign.is ∙ ap (λ (n : ℕ). 1 + n) (statements_by_kind.assignment c.in-Assign.targets c.in-Assign.e) in
    (omega arith, holds_as c.args.on.now c.args.slots.now _ _ (assign_binds c.args.stmt.now c.in-Assign.targets c.in-Assign.e c.in-Assign.is) c.requires)

pub execute::exec_stmt-exec_augmented-requires : goal.execute::exec_stmt-exec_augmented-requires
execute::exec_stmt-exec_augmented-requires t c =
    let e : statement_parts c.args.stmt.now ≡ 1 + (1 + expression_parts c.in-Aug.e) = kind_parts c.args.stmt.now _ c.in-Aug.is ∙ ap (λ (n : ℕ). 1 + n) (statements_by_kind.augmented c.in-Aug.name c.in-Aug.op c.in-Aug.e) in
    (omega arith, holds_as c.args.on.now c.args.slots.now _ _ (augmented_binds c.args.stmt.now c.in-Aug.name c.in-Aug.op c.in-Aug.e c.in-Aug.is) c.requires)

pub execute::exec_stmt-exec_if-requires : goal.execute::exec_stmt-exec_if-requires
execute::exec_stmt-exec_if-requires t c =
    let e : statement_parts c.args.stmt.now ≡ 1 + (total (map arm_parts c.as_slice.result.now) + otherwise_parts c.in-If.otherwise) = kind_parts c.args.stmt.now _ c.in-If.is ∙ ap (λ (n : ℕ). 1 + n) (statements_by_kind.choice c.in-If.arms c.in-If.otherwise) ∙ ap (λ arms. 1 + (total (map arm_parts arms) + otherwise_parts c.in-If.otherwise)) (sym c.as_slice.ensures) in
    let h = holds_as c.args.on.now c.args.slots.now _ _ (if_binds c.args.stmt.now c.in-If.arms c.in-If.otherwise c.in-If.is) c.requires in (
      omega arith,
      (
        holds_as c.args.on.now c.args.slots.now _ _ (ap (λ arms. names_of (flat_map arm_bindings arms)) (sym c.as_slice.ensures))
            (holds_first c.args.on.now c.args.slots.now (flat_map arm_bindings c.in-If.arms) (otherwise_bindings c.in-If.otherwise) h),
        holds_second c.args.on.now c.args.slots.now (flat_map arm_bindings c.in-If.arms) (otherwise_bindings c.in-If.otherwise) h,
      ),
    )

pub execute::exec_stmt-exec_while-requires : goal.execute::exec_stmt-exec_while-requires
execute::exec_stmt-exec_while-requires t c =
    let e : statement_parts c.args.stmt.now ≡ 1 + (expression_parts c.in-While.test + block_parts c.in-While.body) = kind_parts c.args.stmt.now _ c.in-While.is ∙ ap (λ (n : ℕ). 1 + n) (statements_by_kind.while c.in-While.test c.in-While.body) in
    (omega arith, holds_as c.args.on.now c.args.slots.now _ _ (while_binds c.args.stmt.now c.in-While.test c.in-While.body c.in-While.is) c.requires)

pub execute::exec_stmt-exec_for-requires : goal.execute::exec_stmt-exec_for-requires
execute::exec_stmt-exec_for-requires t c =
    let e : statement_parts c.args.stmt.now ≡ 1 + (length c.in-For.targets.names + (expression_parts c.in-For.e + block_parts c.in-For.body)) = kind_parts c.args.stmt.now _ c.in-For.is ∙ ap (λ (n : ℕ). 1 + n) (statements_by_kind.for c.in-For.targets c.in-For.e c.in-For.body) in
    let h = holds_as c.args.on.now c.args.slots.now _ _ (for_binds c.args.stmt.now c.in-For.targets c.in-For.e c.in-For.body c.in-For.is) c.requires in (
      omega arith,
      (
        holds_as c.args.on.now c.args.slots.now _ _ (targets_names c.args.stmt.now.line c.in-For.targets)
            (holds_first c.args.on.now c.args.slots.now (map (bound_in c.args.stmt.now.line) c.in-For.targets.names) (bindings c.in-For.body) h),
        holds_second c.args.on.now c.args.slots.now (map (bound_in c.args.stmt.now.line) c.in-For.targets.names) (bindings c.in-For.body) h,
      ),
    )

pub execute::exec_stmt-exec_return-requires : goal.execute::exec_stmt-exec_return-requires
execute::exec_stmt-exec_return-requires t c =
    let e : statement_parts c.args.stmt.now ≡ 1 + maybe_parts c.in-Return.value = kind_parts c.args.stmt.now _ c.in-Return.is ∙ ap (λ (n : ℕ). 1 + n) (statements_by_kind.return c.in-Return.value) in omega arith

pub execute::exec_stmt-exec_assert-requires : goal.execute::exec_stmt-exec_assert-requires
execute::exec_stmt-exec_assert-requires t c =
    let e : statement_parts c.args.stmt.now ≡ 1 + (expression_parts c.in-Assert.test + maybe_parts c.in-Assert.message) = kind_parts c.args.stmt.now _ c.in-Assert.is ∙ ap (λ (n : ℕ). 1 + n) (statements_by_kind.assert c.in-Assert.test c.in-Assert.message) in omega arith

pub execute::exec_stmt-returns-in-Expr : goal.execute::exec_stmt-returns-in-Expr
execute::exec_stmt-returns-in-Expr t c = rw (does_kind c.args.on.now c.args.stmt.now _ c.args.slots.now c.args.out.now c.in-Expr.is) c.exec_expression.ensures.does

pub execute::exec_stmt-returns-in-Assign : goal.execute::exec_stmt-returns-in-Assign
execute::exec_stmt-returns-in-Assign t c = rw (does_kind c.args.on.now c.args.stmt.now _ c.args.slots.now c.args.out.now c.in-Assign.is) c.exec_assign.ensures

pub execute::exec_stmt-returns-in-Aug : goal.execute::exec_stmt-returns-in-Aug
execute::exec_stmt-returns-in-Aug t c = rw (does_kind c.args.on.now c.args.stmt.now _ c.args.slots.now c.args.out.now c.in-Aug.is) c.exec_augmented.ensures

pub execute::exec_stmt-returns-in-If : goal.execute::exec_stmt-returns-in-If
execute::exec_stmt-returns-in-If t c =
    rw (does_kind c.args.on.now c.args.stmt.now _ c.args.slots.now c.args.out.now c.in-If.is, if_statement) (rw c.as_slice.ensures at c.exec_if.ensures)

pub execute::exec_stmt-returns-in-While : goal.execute::exec_stmt-returns-in-While
execute::exec_stmt-returns-in-While t c = rw (does_kind c.args.on.now c.args.stmt.now _ c.args.slots.now c.args.out.now c.in-While.is) c.exec_while.ensures

pub execute::exec_stmt-returns-in-For : goal.execute::exec_stmt-returns-in-For
execute::exec_stmt-returns-in-For t c = rw (does_kind c.args.on.now c.args.stmt.now _ c.args.slots.now c.args.out.now c.in-For.is) c.exec_for.ensures

pub execute::exec_stmt-returns-in-Return : goal.execute::exec_stmt-returns-in-Return
execute::exec_stmt-returns-in-Return t c = rw (does_kind c.args.on.now c.args.stmt.now _ c.args.slots.now c.args.out.now c.in-Return.is) c.exec_return.ensures.does

pub execute::exec_stmt-returns-in-Break : goal.execute::exec_stmt-returns-in-Break
execute::exec_stmt-returns-in-Break t c =
    does_kind c.args.on.now c.args.stmt.now what.Break c.args.slots.now c.args.out.now c.in-Break.is
    ∙ rw (breaks (setting c.args.on.now) c.args.stmt.now.line (bound_names c.args.on.now c.args.slots.now)) (outcome-settled c.args.out.now _)

pub execute::exec_stmt-returns-in-Continue : goal.execute::exec_stmt-returns-in-Continue
execute::exec_stmt-returns-in-Continue t c =
    does_kind c.args.on.now c.args.stmt.now what.Continue c.args.slots.now c.args.out.now c.in-Continue.is
    ∙ rw (continue_does (setting c.args.on.now) c.args.stmt.now.line (bound_names c.args.on.now c.args.slots.now)) (outcome-settled c.args.out.now _)

pub execute::exec_stmt-returns-in-Pass : goal.execute::exec_stmt-returns-in-Pass
execute::exec_stmt-returns-in-Pass t c =
    does_kind c.args.on.now c.args.stmt.now what.Pass c.args.slots.now c.args.out.now c.in-Pass.is
    ∙ rw (passes (setting c.args.on.now) c.args.stmt.now.line (bound_names c.args.on.now c.args.slots.now)) (outcome-settled c.args.out.now _)

pub execute::exec_stmt-returns-in-Assert : goal.execute::exec_stmt-returns-in-Assert
execute::exec_stmt-returns-in-Assert t c = rw (does_kind c.args.on.now c.args.stmt.now _ c.args.slots.now c.args.out.now c.in-Assert.is) c.exec_assert.ensures.does

pub execute::exec_expression-returns-in-Ok-clause-does : goal.execute::exec_expression-returns-in-Ok-clause-does
execute::exec_expression-returns-in-Ok-clause-does t c =
    rw (expression_statement, outcome-ok _ _ _ _ _ (rw c.in-Ok.is at c.in_ok-value.ensures)) (outcome-settled _ _)

pub execute::exec_expression-returns-in-Err-clause-does : goal.execute::exec_expression-returns-in-Err-clause-does
execute::exec_expression-returns-in-Err-clause-does t c = rw expression_statement (outcome-err _ _ _ _ _ (rw c.in-Err.is at c.in_ok-value.ensures))

pub execute::exec_assign-returns-in-Ok-2 : goal.execute::exec_assign-returns-in-Ok-2
execute::exec_assign-returns-in-Ok-2 t c =
    rw (assignment, outcome-ok _ _ _ _ _ (rw (c.in-Ok.is, ← c.in_ok-value-in-Ok.ensures) at c.in_ok-value.ensures), c.in_ok-assign-in-Ok.ensures, c.in-Ok-2.is, gives-then) (outcome-settled _ _)

pub execute::exec_assign-returns-in-Err : goal.execute::exec_assign-returns-in-Err
execute::exec_assign-returns-in-Err t c = rw assignment (outcome-err _ _ _ _ _ (rw c.in-Err.is at c.in_ok-value.ensures))

pub execute::exec_assign-returns-in-Err-2 : goal.execute::exec_assign-returns-in-Err-2
execute::exec_assign-returns-in-Err-2 t c =
    rw (assignment, outcome-ok _ _ _ _ _ (rw (c.in-Ok.is, ← c.in_ok-value-in-Ok.ensures) at c.in_ok-value.ensures), c.in_ok-assign-in-Ok.ensures, c.in-Err-2.is, faults-then) (outcome-settled _ _)

pub execute::eval_augmented-returns-in_ok-into_value-in-Ok-3 : goal.execute::eval_augmented-returns-in_ok-into_value-in-Ok-3
execute::eval_augmented-returns-in_ok-into_value-in-Ok-3 t c =
    rw (c.read.ensures, c.in-Ok.is, gives-then, outcome-ok _ _ _ _ _ (rw c.in-Ok-2.is at c.in_ok-right-in-Ok.ensures), ← c.in_ok-value-in-Ok-2.ensures, c.in-Ok-3.is, c.in_ok-into_value-in-Ok-3.ensures) (outcome-settled _ _)

pub execute::eval_augmented-returns-in-Err : goal.execute::eval_augmented-returns-in-Err
execute::eval_augmented-returns-in-Err t c = rw (c.read.ensures, c.in-Err.is, faults-then) (outcome-settled _ _)

pub execute::eval_augmented-returns-in-Err-2 : goal.execute::eval_augmented-returns-in-Err-2
execute::eval_augmented-returns-in-Err-2 t c =
    rw (c.read.ensures, c.in-Ok.is, gives-then) (outcome-err _ _ _ _ _ (rw c.in-Err-2.is at c.in_ok-right-in-Ok.ensures))

pub execute::eval_augmented-returns-in-Err-3 : goal.execute::eval_augmented-returns-in-Err-3
execute::eval_augmented-returns-in-Err-3 t c =
    rw (c.read.ensures, c.in-Ok.is, gives-then, outcome-ok _ _ _ _ _ (rw c.in-Ok-2.is at c.in_ok-right-in-Ok.ensures), ← c.in_ok-value-in-Ok-2.ensures, c.in-Err-3.is) (outcome-settled _ _)

pub execute::exec_augmented-returns-in-Ok : goal.execute::exec_augmented-returns-in-Ok
execute::exec_augmented-returns-in-Ok t c = rw c.bind.ensures (augmented_ok c.args.on.now c.args.name.now c.args.op c.args.e.now c.args.line c.args.slots.now _ _ c.in-Ok.value (rw c.in-Ok.is at c.in_ok-value.ensures))

pub execute::exec_augmented-returns-in-Err : goal.execute::exec_augmented-returns-in-Err
execute::exec_augmented-returns-in-Err t c = augmented_err c.args.on.now c.args.name.now c.args.op c.args.e.now c.args.line c.args.slots.now _ _ c.in-Err.fault (rw c.in-Err.is at c.in_ok-value.ensures)

pub execute::exec_if-eval-requires : goal.execute::exec_if-eval-requires
execute::exec_if-eval-requires t c =
    let m = parts_of-member arm_parts c.args.arms.now c.loop-arm.arm-index c.arm-item.result c.loop-arm-test.true c.arm-item.is in
    let e = statements_by_kind.arm c.arm-item.result in omega arith

pub execute::exec_if-exec_block-requires : goal.execute::exec_if-exec_block-requires
execute::exec_if-exec_block-requires t c =
    let m = parts_of-member arm_parts c.args.arms.now c.loop-arm.arm-index c.arm-item.result c.loop-arm-test.true c.arm-item.is in
    let e = statements_by_kind.arm c.arm-item.result in
    (omega arith, holds_kept _ c.args.slots.now _ _ c.loop-arm.auto.slots (holds_as _ _ _ _ (ap names_of (binds_by_kind.arm c.arm-item.result)) (holds_member _ _ arm_bindings c.args.arms.now c.loop-arm.arm-index c.arm-item.result c.loop-arm-test.true c.arm-item.is c.requires.arms)))

pub execute::exec_if-exec_block-requires-in-Some : goal.execute::exec_if-exec_block-requires-in-Some
execute::exec_if-exec_block-requires-in-Some t c =
    let e : otherwise_parts c.args.otherwise.now ≡ block_parts c.in-Some.block = ap otherwise_parts c.in-Some.is in
    (omega arith, holds_kept _ c.args.slots.now _ _ c.loop-arm.auto.slots (rw c.in-Some.is at c.requires.otherwise))

pub execute::exec_if-loop-arm-preserved : goal.execute::exec_if-loop-arm-preserved
execute::exec_if-loop-arm-preserved t c =
    sym (arms_next _ _ _ _ _ _ c.arm-item.result _ c.loop-arm-test.true c.arm-item.is (value_of c.in-Ok.value) (rw c.in-Ok.is at c.in_ok-value.ensures) (sym c.if-is_true.ensures)) ∙ c.loop-arm.invariant

pub execute::exec_if-returns-then-is_true : goal.execute::exec_if-returns-then-is_true
execute::exec_if-returns-then-is_true t c =
    rw (← c.loop-arm.invariant, arms_taken _ _ _ _ _ _ c.arm-item.result _ c.loop-arm-test.true c.arm-item.is (value_of c.in-Ok.value) (rw c.in-Ok.is at c.in_ok-value.ensures) (sym c.if-is_true.ensures)) c.exec_block.ensures

pub execute::exec_if-returns-in-Err : goal.execute::exec_if-returns-in-Err
execute::exec_if-returns-in-Err t c =
    sym c.loop-arm.invariant ∙ arms_fault _ _ _ _ _ _ c.arm-item.result _ c.loop-arm-test.true c.arm-item.is _ (rw c.in-Err.is at c.in_ok-value.ensures)

pub execute::exec_if-returns-in-Some : goal.execute::exec_if-returns-in-Some
execute::exec_if-returns-in-Some t c =
    rw (← c.loop-arm.invariant, arms_done _ _ _ _ _ _ c.loop-arm-test.false, c.in-Some.is) c.exec_block-in-Some.ensures

pub execute::exec_if-returns-in-None : goal.execute::exec_if-returns-in-None
execute::exec_if-returns-in-None t c =
    rw (← c.loop-arm.invariant, arms_done _ _ _ _ _ _ c.loop-arm-test.false, c.in-None.is) (outcome-settled _ _)

pub execute::exec_return-returns-in_default-clause-does : goal.execute::exec_return-returns-in_default-clause-does
execute::exec_return-returns-in_default-clause-does t c = rw (c.in_default.is, return_statement, gives-then) (outcome-settled _ _)

pub execute::exec_return-returns-in_ok-into_value-in-Ok-clause-does : goal.execute::exec_return-returns-in_ok-into_value-in-Ok-clause-does
execute::exec_return-returns-in_ok-into_value-in-Ok-clause-does t c =
    rw (c.in-Some.is, return_statement, outcome-ok _ _ _ _ _ (rw c.in-Ok.is at c.in_ok-value.ensures), c.in_ok-into_value-in-Ok.ensures) (outcome-settled _ _)

pub execute::exec_return-returns-in-Err-clause-does : goal.execute::exec_return-returns-in-Err-clause-does
execute::exec_return-returns-in-Err-clause-does t c = rw (c.in-Some.is, return_statement) (outcome-err _ _ _ _ _ (rw c.in-Err.is at c.in_ok-value.ensures))

pub execute::exec_assert-returns-then-is_true-clause-does : goal.execute::exec_assert-returns-then-is_true-clause-does
execute::exec_assert-returns-then-is_true-clause-does t c =
    rw (assert_statement, outcome-ok _ _ _ _ _ (rw c.in-Ok.is at c.in_ok-value.ensures), ← c.if-is_true.ensures) (outcome-settled _ _)

pub execute::exec_assert-returns-clause-does : goal.execute::exec_assert-returns-clause-does
execute::exec_assert-returns-clause-does t c =
    rw (assert_statement, outcome-ok _ _ _ _ _ (rw c.in-Ok.is at c.in_ok-value.ensures), ← c.if-is_true.ensures) c.fail.ensures

pub execute::exec_assert-returns-in-Err-clause-does : goal.execute::exec_assert-returns-in-Err-clause-does
execute::exec_assert-returns-in-Err-clause-does t c = rw assert_statement (outcome-err _ _ _ _ _ (rw c.in-Err.is at c.in_ok-value.ensures))

pub execute::fail-returns-in_default : goal.execute::fail-returns-in_default
execute::fail-returns-in_default t c = rw (c.in_default.is, gives-then) (outcome-settled _ _)

pub execute::fail-returns-in-Ok : goal.execute::fail-returns-in-Ok
execute::fail-returns-in-Ok t c = rw (c.in-Some.is, outcome-ok _ _ _ _ _ (rw c.in-Ok.is at c.in_ok-value.ensures)) (outcome-settled _ _)

pub execute::fail-returns-in-Err : goal.execute::fail-returns-in-Err
execute::fail-returns-in-Err t c = rw c.in-Some.is (outcome-err _ _ _ _ _ (rw c.in-Err.is at c.in_ok-value.ensures))

pub loops::exec_while-turns-init : goal.loops::exec_while-turns-init
loops::exec_while-turns-init t c = sym (ap (outcome c.args.out.now) (while_statement (setting c.args.on.now) c.args.test.now c.args.body.now c.args.line (bound_names c.args.on.now c.args.slots.now)))

pub loops::exec_while-returns-then-not-is_true : goal.loops::exec_while-returns-then-not-is_true
loops::exec_while-returns-then-not-is_true t c =
    sym c.turns.invariant ∙ while_over (place_of c.args.line) (meaning_of (setting c.args.on.now) c.args.test.now) (block_action (setting c.args.on.now) c.args.body.now) (bound_names c.args.on.now c.turns.slots) c.turns.out c.eval.new.out c.turns.left (value_of c.in-Ok.value) (rw c.in-Ok.is at c.in_ok-value.ensures) (sym c.if-not-is_true.ensures)

pub loops::exec_while-returns-in-Err : goal.loops::exec_while-returns-in-Err
loops::exec_while-returns-in-Err t c =
    sym c.turns.invariant ∙ while_fault (place_of c.args.line) (meaning_of (setting c.args.on.now) c.args.test.now) (block_action (setting c.args.on.now) c.args.body.now) (bound_names c.args.on.now c.turns.slots) c.turns.out c.eval.new.out c.turns.left c.in-Err.fault (rw c.in-Err.is at c.in_ok-value.ensures)

pub loops::exec_while-returns-then-left-eq0 : goal.loops::exec_while-returns-then-left-eq0
loops::exec_while-returns-then-left-eq0 t c =
    sym c.turns.invariant ∙ while_limit (place_of c.args.line) (meaning_of (setting c.args.on.now) c.args.test.now) (block_action (setting c.args.on.now) c.args.body.now) (bound_names c.args.on.now c.turns.slots) c.turns.out c.eval.new.out c.turns.left (value_of c.in-Ok.value) c.if-left-eq0.true (rw c.in-Ok.is at c.in_ok-value.ensures) (sym c.if-not-is_true.ensures)

pub loops::exec_while-returns-in-Some : goal.loops::exec_while-returns-in-Some
loops::exec_while-returns-in-Some t c =
    sym c.turns.invariant
    ∙ while_more (place_of c.args.line) (meaning_of (setting c.args.on.now) c.args.test.now) (block_action (setting c.args.on.now) c.args.body.now) (bound_names c.args.on.now c.turns.slots) c.turns.out c.eval.new.out c.exec_block.new.out c.turns.left (value_of c.in-Ok.value) (bound_names c.args.on.now c.exec_block.new.slots) (completion_of c.in-Ok-2.how) c.if-left-eq0.false (rw c.in-Ok.is at c.in_ok-value.ensures) (sym c.if-not-is_true.ensures) (rw c.in-Ok-2.is at c.in_ok-how.ensures)
    ∙ ap (outcome c.exec_block.new.out) (turn_exits c.in-Ok-2.how c.in-Some.exit (bound_names c.args.on.now c.exec_block.new.slots) (λ now. while_loop (c.turns.left - 1) (place_of c.args.line) (meaning_of (setting c.args.on.now) c.args.test.now) (block_action (setting c.args.on.now) c.args.body.now) now) (sym c.in-Some.ensures)) ∙ outcome-settled _ _

pub loops::exec_while-turns-preserved : goal.loops::exec_while-turns-preserved
loops::exec_while-turns-preserved t c =
    sym (while_more (place_of c.args.line) (meaning_of (setting c.args.on.now) c.args.test.now) (block_action (setting c.args.on.now) c.args.body.now) (bound_names c.args.on.now c.turns.slots) c.turns.out c.eval.new.out c.exec_block.new.out c.turns.left (value_of c.in-Ok.value) (bound_names c.args.on.now c.exec_block.new.slots) (completion_of c.in-Ok-2.how) c.if-left-eq0.false (rw c.in-Ok.is at c.in_ok-value.ensures) (sym c.if-not-is_true.ensures) (rw c.in-Ok-2.is at c.in_ok-how.ensures)
    ∙ ap (outcome c.exec_block.new.out) (turn_goes_on c.in-Ok-2.how (bound_names c.args.on.now c.exec_block.new.slots) (λ now. while_loop (c.turns.left - 1) (place_of c.args.line) (meaning_of (setting c.args.on.now) c.args.test.now) (block_action (setting c.args.on.now) c.args.body.now) now) (sym c.in_default.ensures)))
    ∙ c.turns.invariant

pub loops::exec_while-returns-in-Err-2 : goal.loops::exec_while-returns-in-Err-2
loops::exec_while-returns-in-Err-2 t c =
    sym c.turns.invariant
    ∙ while_stops (place_of c.args.line) (meaning_of (setting c.args.on.now) c.args.test.now) (block_action (setting c.args.on.now) c.args.body.now) (bound_names c.args.on.now c.turns.slots) c.turns.out c.eval.new.out c.exec_block.new.out c.turns.left (value_of c.in-Ok.value) c.in-Err-2.fault c.if-left-eq0.false (rw c.in-Ok.is at c.in_ok-value.ensures) (sym c.if-not-is_true.ensures) (rw c.in-Err-2.is at c.in_ok-how.ensures)

pub loops::exec_for-returns-in_ok-over-in-Ok : goal.loops::exec_for-returns-in_ok-over-in-Ok
loops::exec_for-returns-in_ok-over-in-Ok t c =
    rw (for_statement, outcome-ok _ _ _ _ _ (rw c.in-Ok.is at c.in_ok-value.ensures), ← c.in_ok-over-in-Ok.ensures) c.exec_over.ensures

pub loops::exec_for-returns-in-Err : goal.loops::exec_for-returns-in-Err
loops::exec_for-returns-in-Err t c = rw for_statement (outcome-err _ _ _ _ _ (rw c.in-Err.is at c.in_ok-value.ensures))

pub loops::exec_over-returns-in-Some : goal.loops::exec_over-returns-in-Some
loops::exec_over-returns-in-Some t c =
    rw (loop_over c.args.on.now.limits.turns (place_of c.args.line) c.args.targets.now (block_action (setting c.args.on.now) c.args.body.now) (calls_range (setting c.args.on.now) c.args.e.now) c.args.over (bound_names c.args.on.now c.args.slots.now) (numbers c.in-Some.span c.in-Some.span.count) (ap (λ b. items_over b c.args.over) (sym c.if-calls_range.ensures) ∙ sym c.in-Some.ensures.value)) c.exec_numbers.ensures

pub loops::exec_over-returns-in-None : goal.loops::exec_over-returns-in-None
loops::exec_over-returns-in-None t c =
    loop_nothing c.args.on.now.limits.turns (place_of c.args.line) c.args.targets.now (block_action (setting c.args.on.now) c.args.body.now) (calls_range (setting c.args.on.now) c.args.e.now) c.args.over (bound_names c.args.on.now c.args.slots.now) c.args.out.now (ap (λ b. items_over b c.args.over) (sym c.if-calls_range.ensures) ∙ sym c.in-None.ensures.value)

pub loops::exec_over-returns-in-None-2 : goal.loops::exec_over-returns-in-None-2
loops::exec_over-returns-in-None-2 t c =
    loop_nothing c.args.on.now.limits.turns (place_of c.args.line) c.args.targets.now (block_action (setting c.args.on.now) c.args.body.now) (calls_range (setting c.args.on.now) c.args.e.now) c.args.over (bound_names c.args.on.now c.args.slots.now) c.args.out.now (ap (λ b. items_over b c.args.over) (sym c.if-calls_range.ensures) ∙ sym (rw c.in-None-2.is at c.in_ok-over.ensures))

pub loops::exec_items-returns-then-turn-on : goal.loops::exec_items-returns-then-turn-on
loops::exec_items-returns-then-turn-on t c =
    sym c.turns.invariant.1 ∙ round_limit (place_of c.args.line) c.args.targets.now (block_action (setting c.args.on.now) c.args.body.now) (item_at c.args.over.now) c.turns.turn c.args.on.now.limits.turns (bound_names c.args.on.now c.turns.slots) c.turns.out c.in-Some.item c.if-turn-on.true (sym (rw c.in-Some.is at c.in_ok-item.ensures))

pub loops::exec_items-returns-in-Some-exit : goal.loops::exec_items-returns-in-Some-exit
loops::exec_items-returns-in-Some-exit t c =
    let le = c.turns.invariant.0 in
    sym c.turns.invariant.1 ∙ round_exits (place_of c.args.line) c.args.targets.now (block_action (setting c.args.on.now) c.args.body.now) (item_at c.args.over.now) c.turns.turn c.args.on.now.limits.turns (bound_names c.args.on.now c.turns.slots) c.turns.out c.exec_turn.new.out c.in-Some.item le c.if-turn-on.false (sym (rw c.in-Some.is at c.in_ok-item.ensures)) (bound_names c.args.on.now c.exec_turn.new.slots) c.in-Ok.how (rw c.in-Ok.is at c.in_ok-how.ensures) c.in-Some-exit.exit (sym c.in-Some-exit.ensures)

pub loops::exec_items-turns-preserved : goal.loops::exec_items-turns-preserved
loops::exec_items-turns-preserved t c =
    let le = c.turns.invariant.0 in
    let ne = c.if-turn-on.false in
    (omega (arith, le, ne), sym (round_more (place_of c.args.line) c.args.targets.now (block_action (setting c.args.on.now) c.args.body.now) (item_at c.args.over.now) c.turns.turn c.args.on.now.limits.turns (bound_names c.args.on.now c.turns.slots) c.turns.out c.exec_turn.new.out c.in-Some.item le c.if-turn-on.false (sym (rw c.in-Some.is at c.in_ok-item.ensures)) (bound_names c.args.on.now c.exec_turn.new.slots) c.in-Ok.how (rw c.in-Ok.is at c.in_ok-how.ensures) (sym c.in_default-exit.ensures)) ∙ c.turns.invariant.1)

pub loops::exec_items-returns-in-Err : goal.loops::exec_items-returns-in-Err
loops::exec_items-returns-in-Err t c =
    let le = c.turns.invariant.0 in
    sym c.turns.invariant.1 ∙ round_stops (place_of c.args.line) c.args.targets.now (block_action (setting c.args.on.now) c.args.body.now) (item_at c.args.over.now) c.turns.turn c.args.on.now.limits.turns (bound_names c.args.on.now c.turns.slots) c.turns.out c.exec_turn.new.out c.in-Some.item le c.if-turn-on.false (sym (rw c.in-Some.is at c.in_ok-item.ensures)) c.in-Err.fault (rw c.in-Err.is at c.in_ok-how.ensures)

pub loops::exec_items-returns : goal.loops::exec_items-returns
loops::exec_items-returns t c =
    sym c.turns.invariant.1
    ∙ for_over (place_of c.args.line) c.args.targets.now (block_action (setting c.args.on.now) c.args.body.now) (item_at c.args.over.now) c.turns.turn (bound_names c.args.on.now c.turns.slots) c.turns.out (c.args.on.now.limits.turns - c.turns.turn) (sym (rw c.in_default.is at c.in_ok-item.ensures))

pub loops::exec_numbers-returns-then-turn-on : goal.loops::exec_numbers-returns-then-turn-on
loops::exec_numbers-returns-then-turn-on t c =
    sym c.turns.invariant.1 ∙ round_limit (place_of c.args.line) c.args.targets.now (block_action (setting c.args.on.now) c.args.body.now) (numbers c.args.span c.args.span.count) c.turns.turn c.args.on.now.limits.turns (bound_names c.args.on.now c.turns.slots) c.turns.out (Int (to_z w128 c.turns.number-bits)) c.if-turn-on.true (number_there c.args.span c.args.span.count c.turns.turn (to_z w128 c.turns.number-bits) (sym c.turns-test.ensures) (c.turns.invariant.2 (number_within c.args.span c.args.span.count c.turns.turn c.requires.range (sym c.turns-test.ensures))))

pub loops::exec_numbers-returns-in-Some : goal.loops::exec_numbers-returns-in-Some
loops::exec_numbers-returns-in-Some t c =
    let le = c.turns.invariant.0 in
    sym c.turns.invariant.1 ∙ round_exits (place_of c.args.line) c.args.targets.now (block_action (setting c.args.on.now) c.args.body.now) (numbers c.args.span c.args.span.count) c.turns.turn c.args.on.now.limits.turns (bound_names c.args.on.now c.turns.slots) c.turns.out c.exec_turn.new.out (Int (to_z w128 c.turns.number-bits)) le c.if-turn-on.false (number_there c.args.span c.args.span.count c.turns.turn (to_z w128 c.turns.number-bits) (sym c.turns-test.ensures) (c.turns.invariant.2 (number_within c.args.span c.args.span.count c.turns.turn c.requires.range (sym c.turns-test.ensures)))) (bound_names c.args.on.now c.exec_turn.new.slots) c.in-Ok.how (rw c.in-Ok.is at c.in_ok-how.ensures) c.in-Some.exit (sym c.in-Some.ensures)

pub loops::exec_numbers-turns-preserved : goal.loops::exec_numbers-turns-preserved
loops::exec_numbers-turns-preserved t c =
    let le = c.turns.invariant.0 in
    let ne = c.if-turn-on.false in
    (omega (arith, le, ne), sym (round_more (place_of c.args.line) c.args.targets.now (block_action (setting c.args.on.now) c.args.body.now) (numbers c.args.span c.args.span.count) c.turns.turn c.args.on.now.limits.turns (bound_names c.args.on.now c.turns.slots) c.turns.out c.exec_turn.new.out (Int (to_z w128 c.turns.number-bits)) le c.if-turn-on.false (number_there c.args.span c.args.span.count c.turns.turn (to_z w128 c.turns.number-bits) (sym c.turns-test.ensures) (c.turns.invariant.2 (number_within c.args.span c.args.span.count c.turns.turn c.requires.range (sym c.turns-test.ensures)))) (bound_names c.args.on.now c.exec_turn.new.slots) c.in-Ok.how (rw c.in-Ok.is at c.in_ok-how.ensures) (sym c.in_default.ensures)) ∙ c.turns.invariant.1, number_held c.args.span c.turns.turn (to_z w128 c.turns.number-bits) c.next_number-number.result (c.turns.invariant.2 (number_within c.args.span c.args.span.count c.turns.turn c.requires.range (sym c.turns-test.ensures))) c.next_number-number.ensures)

pub loops::exec_numbers-returns-in-Err : goal.loops::exec_numbers-returns-in-Err
loops::exec_numbers-returns-in-Err t c =
    let le = c.turns.invariant.0 in
    sym c.turns.invariant.1 ∙ round_stops (place_of c.args.line) c.args.targets.now (block_action (setting c.args.on.now) c.args.body.now) (numbers c.args.span c.args.span.count) c.turns.turn c.args.on.now.limits.turns (bound_names c.args.on.now c.turns.slots) c.turns.out c.exec_turn.new.out (Int (to_z w128 c.turns.number-bits)) le c.if-turn-on.false (number_there c.args.span c.args.span.count c.turns.turn (to_z w128 c.turns.number-bits) (sym c.turns-test.ensures) (c.turns.invariant.2 (number_within c.args.span c.args.span.count c.turns.turn c.requires.range (sym c.turns-test.ensures)))) c.in-Err.fault (rw c.in-Err.is at c.in_ok-how.ensures)

pub loops::exec_numbers-returns : goal.loops::exec_numbers-returns
loops::exec_numbers-returns t c =
    sym c.turns.invariant.1
    ∙ for_over (place_of c.args.line) c.args.targets.now (block_action (setting c.args.on.now) c.args.body.now) (numbers c.args.span c.args.span.count) c.turns.turn (bound_names c.args.on.now c.turns.slots) c.turns.out (c.args.on.now.limits.turns - c.turns.turn) (number_past c.args.span c.args.span.count c.turns.turn (sym c.turns-test.ensures))

pub loops::exec_turn-returns-in-Ok : goal.loops::exec_turn-returns-in-Ok
loops::exec_turn-returns-in-Ok t c =
    rw (outcome-ok _ _ _ _ _ (ap (outcome c.args.out.now) (rw c.in-Ok.is at c.in_ok-assign.ensures) ∙ outcome-settled _ _)) c.exec_block.ensures

pub loops::exec_turn-returns-in-Err : goal.loops::exec_turn-returns-in-Err
loops::exec_turn-returns-in-Err t c =
    outcome-err _ _ _ _ _ (ap (outcome c.args.out.now) (rw c.in-Err.is at c.in_ok-assign.ensures) ∙ outcome-settled _ _)
