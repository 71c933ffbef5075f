use Rattle.std.proofs.Common.{◌≡◌, ◌+◌, arith, map, sym, ◌∙◌}
use Rattle.pyd_value.specs.Size.{total}
use Rattle.pyd_value.specs.declared.operator.BinOp.{BinOp}
use Rattle.pyd_value.specs.declared.operator.CmpOp.{CmpOp}
use Rattle.pyd_value.specs.declared.operator.BinOp.TheVariants.{Pow}
use Rattle.pyd_tree.specs.declared.expression.Expr.{Expr}
use Rattle.pyd_tree.specs.declared.expression.Expr.TheOpen.{Expr-F}
use Rattle.pyd_names.specs.WellFormed.{expression_parts, suffix_parts, maybe_parts}
use Rattle.pyd_names.proofs.Parts.{by_kind}
use Rattle.pyd_translate.specs.Expressions.{chained, suffixed, compared, unfolded, unfolded_suffix}
use Rattle.pyd_translate.specs.Drafts.{context_of, file_of, unfolded_operands, unfolded_links, operation}
use Rattle.pyd_translate.proofs.Constructs as law
use Rattle.pyd_translate.proofs.Onto.{onto_pure, onto_then, onto_none}
use Rattle.pyd_translate.proofs.Parted.{front_nil, each_more, each_stopped, each_done, chained_more, chained_stopped, chained_done, suffixed_more, suffixed_stopped, suffixed_done}
use Rattle.pyd_translate.proofs.Arms.{level_made, literal_made, made_so, made_then, goes_on, unary_made, pair_made, conditional_made, conditional_stopped, members_none, members_last, members_more, links_none, links_last, links_more, members_stopped, links_stopped}
use Rattle.pyd_translate.proofs.Operands.{call_named, no_function, other_form}
use Rattle.pyd_translate.proofs.BracketForms.{index_made, slice_made, bound_none, bound_some, bound_stopped, sliced_made, sliced_high_stopped, slice_operator}
use Rattle.pyd_translate.proofs.Members.{parts_of-member, parts_of-first, no_items, emptied, nonempty}
use Rattle.pyd_translate.proofs.+build.Goals as goal

pub expressions::build-returns-in_ok-try_copy-in-Lit : goal.expressions::build-returns-in_ok-try_copy-in-Lit
expressions::build-returns-in_ok-try_copy-in-Lit t c = literal_made c.args.at.now c.args.e.now _ _ _ _ _ c.in-Lit.is c.in_ok-try_copy-in-Lit.ensures

pub expressions::build-returns-in-Name : goal.expressions::build-returns-in-Name
expressions::build-returns-in-Name t c = made_so _ _ _ _ _ _ _ (level_made c.args.at.now c.args.e.now _ (Expr-F.Name c.in-Name.name) _ _ c.in-Name.is (law.name (file_of c.args.at.now) _) c.in_ok-part.ensures) c.name_operand.ensures

pub expressions::build-returns-in-Tuple : goal.expressions::build-returns-in-Tuple
expressions::build-returns-in-Tuple t c = made_so _ _ _ _ _ _ _ (level_made c.args.at.now c.args.e.now _ (Expr-F.Tuple (map (unfolded (file_of c.args.at.now)) c.in-Tuple.es)) _ _ c.in-Tuple.is (law.tuple (file_of c.args.at.now) _) c.in_ok-part.ensures) (rw (c.as_slice.ensures) at c.build_tuple.ensures)

pub expressions::build-returns-in-Unary : goal.expressions::build-returns-in-Unary
expressions::build-returns-in-Unary t c = made_so _ _ _ _ _ _ _ (level_made c.args.at.now c.args.e.now _ (Expr-F.Unary c.in-Unary.op (unfolded (file_of c.args.at.now) c.in-Unary.e)) _ _ c.in-Unary.is (law.unary (file_of c.args.at.now) _ _) c.in_ok-part.ensures) (rw (c.get.ensures) at c.build_unary.ensures)

pub expressions::build-returns-in-Chain : goal.expressions::build-returns-in-Chain
expressions::build-returns-in-Chain t c = made_so _ _ _ _ _ _ _ (level_made c.args.at.now c.args.e.now _ (Expr-F.Chain (unfolded (file_of c.args.at.now) c.in-Chain.first) (unfolded_operands (file_of c.args.at.now) c.in-Chain.links)) _ _ c.in-Chain.is (law.chain (file_of c.args.at.now) _ _) c.in_ok-part.ensures) (rw (c.get-in-Chain.ensures, c.as_slice-in-Chain.ensures) at c.build_chain.ensures)

pub expressions::build-returns-in-Power : goal.expressions::build-returns-in-Power
expressions::build-returns-in-Power t c = made_so _ _ _ _ _ _ _ (level_made c.args.at.now c.args.e.now _ (Expr-F.Power (unfolded (file_of c.args.at.now) c.in-Power.base) (unfolded (file_of c.args.at.now) c.in-Power.exponent)) _ _ c.in-Power.is (law.power (file_of c.args.at.now) _ _) c.in_ok-part.ensures) (rw (c.get-in-Power.ensures, c.get-in-Power-2.ensures) at c.build_power.ensures)

pub expressions::build-returns-in-And : goal.expressions::build-returns-in-And
expressions::build-returns-in-And t c = made_so _ _ _ _ _ _ _ (level_made c.args.at.now c.args.e.now _ (Expr-F.And (map (unfolded (file_of c.args.at.now)) c.in-And.es)) _ _ c.in-And.is (law.conjunction (file_of c.args.at.now) _) c.in_ok-part.ensures) (rw (c.as_slice-in-And.ensures) at c.build_members.ensures)

pub expressions::build-returns-in-Or : goal.expressions::build-returns-in-Or
expressions::build-returns-in-Or t c = made_so _ _ _ _ _ _ _ (level_made c.args.at.now c.args.e.now _ (Expr-F.Or (map (unfolded (file_of c.args.at.now)) c.in-Or.es)) _ _ c.in-Or.is (law.disjunction (file_of c.args.at.now) _) c.in_ok-part.ensures) (rw (c.as_slice-in-Or.ensures) at c.build_members-in-Or.ensures)

pub expressions::build-returns-in-Compare : goal.expressions::build-returns-in-Compare
expressions::build-returns-in-Compare t c = made_so _ _ _ _ _ _ _ (level_made c.args.at.now c.args.e.now _ (Expr-F.Compare (unfolded (file_of c.args.at.now) c.in-Compare.first) (unfolded_links (file_of c.args.at.now) c.in-Compare.links)) _ _ c.in-Compare.is (law.comparison (file_of c.args.at.now) _ _) c.in_ok-part.ensures) (rw (c.get-in-Compare.ensures, c.as_slice-in-Compare.ensures) at c.build_comparison.ensures)

pub expressions::build-returns-in-If : goal.expressions::build-returns-in-If
expressions::build-returns-in-If t c = made_so _ _ _ _ _ _ _ (level_made c.args.at.now c.args.e.now _ (Expr-F.If (unfolded (file_of c.args.at.now) c.in-If.test) (unfolded (file_of c.args.at.now) c.in-If.first) (unfolded (file_of c.args.at.now) c.in-If._second)) _ _ c.in-If.is (law.conditional (file_of c.args.at.now) _ _ _) c.in_ok-part.ensures) (rw (c.get-in-If.ensures, c.get-in-If-2.ensures) at c.build_conditional.ensures)

pub expressions::build-returns-in-Call : goal.expressions::build-returns-in-Call
expressions::build-returns-in-Call t c = made_so _ _ _ _ _ _ _ (level_made c.args.at.now c.args.e.now _ (Expr-F.Call c.in-Call.name (map (unfolded (file_of c.args.at.now)) c.in-Call.args)) _ _ c.in-Call.is (law.call (file_of c.args.at.now) _ _) c.in_ok-part.ensures) (rw (c.as_slice-in-Call.ensures) at c.build_call.ensures)

pub expressions::build-returns-in-Suffixed : goal.expressions::build-returns-in-Suffixed
expressions::build-returns-in-Suffixed t c = made_so _ _ _ _ _ _ _ (level_made c.args.at.now c.args.e.now _ (Expr-F.Suffixed (unfolded (file_of c.args.at.now) c.in-Suffixed.base) (map (unfolded_suffix (file_of c.args.at.now)) c.in-Suffixed.suffixes)) _ _ c.in-Suffixed.is (law.suffixed (file_of c.args.at.now) _ _) c.in_ok-part.ensures) (rw (c.get-in-Suffixed.ensures, c.as_slice-in-Suffixed.ensures) at c.build_suffixed.ensures)

pub expressions::build_each-loop-e-init : goal.expressions::build_each-loop-e-init
expressions::build_each-loop-e-init t c = rw (c.new-args.ensures, front_nil)

pub expressions::build_each-loop-e-preserved : goal.expressions::build_each-loop-e-preserved
expressions::build_each-loop-e-preserved t c = sym (each_more _ _ _ _ _ _ _ _ c.e-item.result _ _ _ _ _ c.loop-e-test.true c.e-item.is (rw c.in-Some.is at c.in_ok-value.ensures) c.in_ok-add-in-Some.ensures.ok (c.in_ok-k.ensures _)) ∙ c.loop-e.invariant

pub expressions::build_each-returns-in-None : goal.expressions::build_each-returns-in-None
expressions::build_each-returns-in-None t c = sym c.loop-e.invariant ∙ each_stopped _ _ _ _ _ _ _ c.e-item.result _ _ _ c.loop-e-test.true c.e-item.is (rw c.in-None.is at c.in_ok-value.ensures)

pub expressions::build_each-returns : goal.expressions::build_each-returns
expressions::build_each-returns t c = sym c.loop-e.invariant ∙ each_done _ _ _ _ _ _ _ _ c.loop-e-test.false

pub expressions::build_tuple-returns-in_ok-operator-in-Some : goal.expressions::build_tuple-returns-in_ok-operator-in-Some
expressions::build_tuple-returns-in_ok-operator-in-Some t c = onto_then _ _ _ _ _ _ _ (rw c.in-Some.is at c.in_ok-args.ensures) ∙ c.in_ok-operator-in-Some.ensures

pub expressions::build_tuple-returns-in-None : goal.expressions::build_tuple-returns-in-None
expressions::build_tuple-returns-in-None t c = onto_none _ _ _ _ _ _ (rw c.in-None.is at c.in_ok-args.ensures)

pub expressions::build_unary-returns-in_ok-operator-in-Some : goal.expressions::build_unary-returns-in_ok-operator-in-Some
expressions::build_unary-returns-in_ok-operator-in-Some t c = unary_made _ _ _ _ _ _ _ _ _ _ _ _ (rw c.in-Some.is at c.in_ok-value.ensures) c.in_ok-args-in-Some.ensures c.in_ok-operator-in-Some.ensures

pub expressions::build_unary-returns-in-None : goal.expressions::build_unary-returns-in-None
expressions::build_unary-returns-in-None t c = onto_none _ _ _ _ _ _ (rw c.in-None.is at c.in_ok-value.ensures)

pub expressions::build_chain-returns-in-Some : goal.expressions::build_chain-returns-in-Some
expressions::build_chain-returns-in-Some t c = goes_on _ _ _ _ _ _ _ _ _ _ _ _ _ (c.in_ok-behind.ensures _) (rw c.in-Some.is at c.in_ok-value.ensures) (λ n a. chained (unfolded_operands (file_of c.args.at.now) c.args.links.now) n (context_of c.args.at.now) a) c.build_links.ensures

pub expressions::build_chain-returns-in-None : goal.expressions::build_chain-returns-in-None
expressions::build_chain-returns-in-None t c = onto_none _ _ _ _ _ _ (rw c.in-None.is at c.in_ok-value.ensures)

pub expressions::build_links-loop-link-preserved : goal.expressions::build_links-loop-link-preserved
expressions::build_links-loop-link-preserved t c = sym (chained_more _ _ _ _ _ _ _ _ c.link-item.result _ _ _ _ c.loop-link-test.true c.link-item.is (rw c.in-Some.is at c.in_ok-value.ensures) (c.in-Ok.ensures _)) ∙ c.loop-link.invariant

pub expressions::build_links-returns-in-None : goal.expressions::build_links-returns-in-None
expressions::build_links-returns-in-None t c = sym c.loop-link.invariant ∙ chained_stopped _ _ _ _ _ _ _ c.link-item.result _ _ _ c.loop-link-test.true c.link-item.is (rw c.in-None.is at c.in_ok-value.ensures)

pub expressions::build_links-returns : goal.expressions::build_links-returns
expressions::build_links-returns t c = sym c.loop-link.invariant ∙ chained_done _ _ _ _ _ _ _ _ c.loop-link-test.false

pub expressions::build_operation-returns-in_ok-operator-in-Some : goal.expressions::build_operation-returns-in_ok-operator-in-Some
expressions::build_operation-returns-in_ok-operator-in-Some t c = pair_made _ _ _ _ _ _ _ _ _ _ _ _ _ (rw c.in-Some.is at c.in_ok-right.ensures) c.in_ok-args-in-Some.ensures c.in_ok-operator-in-Some.ensures

pub expressions::build_operation-returns-in-None : goal.expressions::build_operation-returns-in-None
expressions::build_operation-returns-in-None t c = onto_none _ _ _ _ _ _ (rw c.in-None.is at c.in_ok-right.ensures)

pub expressions::build_power-returns-in-Some : goal.expressions::build_power-returns-in-Some
expressions::build_power-returns-in-Some t c = goes_on _ _ _ _ _ _ _ _ _ _ _ _ _ (c.in_ok-behind.ensures _) (rw c.in-Some.is at c.in_ok-left.ensures) (λ n a. operation c.args.at.now Pow a c.args.exponent.now n) c.build_operation-made.ensures

pub expressions::build_power-returns-in-None : goal.expressions::build_power-returns-in-None
expressions::build_power-returns-in-None t c = onto_none _ _ _ _ _ _ (rw c.in-None.is at c.in_ok-left.ensures)

pub choices::build_conditional-returns-in_ok-chosen-in-Some : goal.choices::build_conditional-returns-in_ok-chosen-in-Some
choices::build_conditional-returns-in_ok-chosen-in-Some t c = conditional_made _ _ _ _ _ _ _ _ _ _ _ _ _ (c.in_ok-second.ensures _) (c.in_ok-third.ensures _) (rw c.in-Some.is at c.in_ok-value.ensures) c.in_ok-chosen-in-Some.ensures

pub choices::build_conditional-returns-in-None : goal.choices::build_conditional-returns-in-None
choices::build_conditional-returns-in-None t c = conditional_stopped _ _ _ _ _ _ _ _ _ _ _ (c.in_ok-second.ensures _) (rw c.in-None.is at c.in_ok-value.ensures)

pub choices::build_comparison-returns-in-Some : goal.choices::build_comparison-returns-in-Some
choices::build_comparison-returns-in-Some t c = goes_on _ _ _ _ _ _ _ _ _ _ _ _ _ (c.in_ok-behind.ensures _) (rw c.in-Some.is at c.in_ok-left.ensures) (λ n a. compared c.args.whole 0 (unfolded_links (file_of c.args.at.now) c.args.links.now) n (context_of c.args.at.now) a) c.build_comparisons-made.ensures

pub choices::build_comparison-returns-in-None : goal.choices::build_comparison-returns-in-None
choices::build_comparison-returns-in-None t c = onto_none _ _ _ _ _ _ (rw c.in-None.is at c.in_ok-left.ensures)

pub brackets::build_suffixed-returns-in-Some : goal.brackets::build_suffixed-returns-in-Some
brackets::build_suffixed-returns-in-Some t c = goes_on _ _ _ _ _ _ _ _ _ _ _ _ _ (c.in_ok-behind.ensures _) (rw c.in-Some.is at c.in_ok-value.ensures) (λ n a. suffixed (map (unfolded_suffix (file_of c.args.at.now)) c.args.suffixes.now) n (context_of c.args.at.now) a) c.build_suffixes.ensures

pub brackets::build_suffixed-returns-in-None : goal.brackets::build_suffixed-returns-in-None
brackets::build_suffixed-returns-in-None t c = onto_none _ _ _ _ _ _ (rw c.in-None.is at c.in_ok-value.ensures)

pub brackets::build_suffixes-loop-suffix-preserved : goal.brackets::build_suffixes-loop-suffix-preserved
brackets::build_suffixes-loop-suffix-preserved t c = sym (suffixed_more _ _ _ _ _ _ _ _ c.suffix-item.result _ _ _ _ c.loop-suffix-test.true c.suffix-item.is (rw c.in-Some.is at c.in_ok-value.ensures) (c.in-Ok.ensures _)) ∙ c.loop-suffix.invariant

pub brackets::build_suffixes-returns-in-None : goal.brackets::build_suffixes-returns-in-None
brackets::build_suffixes-returns-in-None t c = sym c.loop-suffix.invariant ∙ suffixed_stopped _ _ _ _ _ _ _ c.suffix-item.result _ _ _ c.loop-suffix-test.true c.suffix-item.is (rw c.in-None.is at c.in_ok-value.ensures)

pub brackets::build_suffixes-returns : goal.brackets::build_suffixes-returns
brackets::build_suffixes-returns t c = sym c.loop-suffix.invariant ∙ suffixed_done _ _ _ _ _ _ _ _ c.loop-suffix-test.false

pub calls::build_call-returns-in-Routine : goal.calls::build_call-returns-in-Routine
calls::build_call-returns-in-Routine t c = made_so _ _ _ _ _ _ _ (call_named (file_of c.args.at.now) c.args.name.now _ _ _ _ (rw c.in-Routine.is at c.resolve.ensures.resolution)) c.build_function_call.ensures

pub calls::build_call-returns-in-Builtin : goal.calls::build_call-returns-in-Builtin
calls::build_call-returns-in-Builtin t c = made_so _ _ _ _ _ _ _ (call_named (file_of c.args.at.now) c.args.name.now _ _ _ _ (rw c.in-Builtin.is at c.resolve.ensures.resolution)) c.build_builtin_call.ensures

pub calls::build_call-returns-in-Slot : goal.calls::build_call-returns-in-Slot
calls::build_call-returns-in-Slot t c = made_so _ _ _ _ _ _ _ (no_function (file_of c.args.at.now) c.resolve.result _ _ _ c.in-Slot.is ∙ call_named (file_of c.args.at.now) c.args.name.now _ _ _ _ c.resolve.ensures.resolution) c.build_value_call.ensures

pub calls::build_function_call-returns-in-Some : goal.calls::build_function_call-returns-in-Some
calls::build_function_call-returns-in-Some t c = made_then _ _ _ _ _ _ _ _ _ _ (rw c.in-Some.is at c.in_ok-args.ensures) c.function_call.ensures

pub calls::build_function_call-returns-in-None : goal.calls::build_function_call-returns-in-None
calls::build_function_call-returns-in-None t c = onto_none _ _ _ _ _ _ (rw c.in-None.is at c.in_ok-args.ensures)

pub calls::build_builtin_call-returns-in_ok-emit_value-in-Some : goal.calls::build_builtin_call-returns-in_ok-emit_value-in-Some
calls::build_builtin_call-returns-in_ok-emit_value-in-Some t c = onto_then _ _ _ _ _ _ _ (rw c.in-Some.is at c.in_ok-args.ensures) ∙ (rw c.builtin_work.ensures at c.in_ok-emit_value-in-Some.ensures)

pub calls::build_builtin_call-returns-in-None : goal.calls::build_builtin_call-returns-in-None
calls::build_builtin_call-returns-in-None t c = onto_none _ _ _ _ _ _ (rw c.in-None.is at c.in_ok-args.ensures)

pub calls::build_value_call-returns-in_ok-stop_by-in-Some-2 : goal.calls::build_value_call-returns-in_ok-stop_by-in-Some-2
calls::build_value_call-returns-in_ok-stop_by-in-Some-2 t c = onto_then _ _ _ _ _ _ _ (rw c.in-Some.is at c.in_ok-callee.ensures) ∙ onto_then _ _ _ _ _ _ _ (rw c.in-Some-2.is at c.in_ok-args-in-Some.ensures) ∙ c.in_ok-stop_by-in-Some-2.ensures

pub calls::build_value_call-returns-in-None-2 : goal.calls::build_value_call-returns-in-None-2
calls::build_value_call-returns-in-None-2 t c = onto_then _ _ _ _ _ _ _ (rw c.in-Some.is at c.in_ok-callee.ensures) ∙ onto_none _ _ _ _ _ _ (rw c.in-None-2.is at c.in_ok-args-in-Some.ensures)

pub calls::build_value_call-returns-in-None : goal.calls::build_value_call-returns-in-None
calls::build_value_call-returns-in-None t c = onto_none _ _ _ _ _ _ (rw c.in-None.is at c.in_ok-callee.ensures)

pub brackets::build_suffix-returns-in-Index : goal.brackets::build_suffix-returns-in-Index
brackets::build_suffix-returns-in-Index t c =
    made_so _ _ _ _ _ _ _ (index_made c.args.at.now c.args.suffix.now c.in-Index.e _ _ c.in-Index.is) c.build_index.ensures

pub brackets::build_suffix-returns-in-Slice : goal.brackets::build_suffix-returns-in-Slice
brackets::build_suffix-returns-in-Slice t c =
    made_so _ _ _ _ _ _ _ (slice_made c.args.at.now c.args.suffix.now c.in-Slice.low c.in-Slice.high _ _ c.in-Slice.is) c.build_slice.ensures

pub brackets::build_index-returns-in_ok-operator-in-Some : goal.brackets::build_index-returns-in_ok-operator-in-Some
brackets::build_index-returns-in_ok-operator-in-Some t c =
    pair_made _ _ _ _ _ _ _ _ _ _ _ _ _ (rw c.in-Some.is at c.in_ok-index.ensures) c.in_ok-args-in-Some.ensures c.in_ok-operator-in-Some.ensures

pub brackets::build_index-returns-in-None : goal.brackets::build_index-returns-in-None
brackets::build_index-returns-in-None t c =
    onto_none _ _ _ _ _ _ (rw c.in-None.is at c.in_ok-index.ensures)

pub brackets::build_bound-returns-in-None : goal.brackets::build_bound-returns-in-None
brackets::build_bound-returns-in-None t c =
    bound_none (file_of c.args.at.now) (context_of c.args.at.now) _ _ _ _ _ c.in-None.is c.new.ensures

pub brackets::build_bound-returns-in_ok-one-in-Some-2 : goal.brackets::build_bound-returns-in_ok-one-in-Some-2
brackets::build_bound-returns-in_ok-one-in-Some-2 t c =
    bound_some (file_of c.args.at.now) (context_of c.args.at.now) _ _ _ _ _ _ _ _ _ c.in-Some.is (rw c.in-Some-2.is at c.in_ok-value-in-Some.ensures) c.in_ok-one-in-Some-2.ensures

pub brackets::build_bound-returns-in-None-2 : goal.brackets::build_bound-returns-in-None-2
brackets::build_bound-returns-in-None-2 t c =
    bound_stopped (file_of c.args.at.now) (context_of c.args.at.now) _ _ _ _ _ _ _ c.in-Some.is (rw c.in-None-2.is at c.in_ok-value-in-Some.ensures)

pub brackets::build_slice-returns-in_default : goal.brackets::build_slice-returns-in_default
brackets::build_slice-returns-in_default t c =
    onto_none _ _ _ _ _ _ (rw c.in_default.is at c.in_ok-lower.ensures)

pub brackets::build_slice-returns-in_default-2 : goal.brackets::build_slice-returns-in_default-2
brackets::build_slice-returns-in_default-2 t c =
    sliced_high_stopped c.args.at.now c.args.base.now c.args.low.now c.args.high.now c.args.k _ _ _ _ _ (c.in_ok-behind.ensures _) _ _ _ (rw c.in-Some.is at c.in_ok-lower.ensures) (rw c.in_default-2.is at c.in_ok-upper.ensures)

pub brackets::build_slice-returns : goal.brackets::build_slice-returns
brackets::build_slice-returns t c =
    sliced_made c.args.at.now c.args.base.now c.args.low.now c.args.high.now c.args.k _ _ _ _ _ (c.in_ok-behind.ensures _) _ _ _ _ _ _ (rw c.in-Some.is at c.in_ok-lower.ensures) (rw c.in-Some-2.is at c.in_ok-upper.ensures) c.in_ok-args.ensures (slice_operator (file_of c.args.at.now) c.args.low.now c.args.high.now _ _ _ _ _ _ _ c.is_some.ensures c.is_some-2.ensures c.in_ok-operator.ensures)

pub choices::build_comparisons-returns-in_default : goal.choices::build_comparisons-returns-in_default
choices::build_comparisons-returns-in_default t c =
    other_form _ _ _ _ _ (sym (links_none (file_of c.args.at.now) (context_of c.args.at.now) c.args.whole c.args.member c.args.k c.args.links.now c.args.left.now (no_items _ c.in_default.ensures.cases))) (onto_pure _ _ _)

pub choices::build_comparisons-returns-in_ok-compare_last-in-Some-2 : goal.choices::build_comparisons-returns-in_ok-compare_last-in-Some-2
choices::build_comparisons-returns-in_ok-compare_last-in-Some-2 t c =
    other_form _ _ _ _ _ (sym (links_last (file_of c.args.at.now) (context_of c.args.at.now) c.args.whole c.args.member c.args.k c.args.links.now c.in-Some.others.now c.in-Some.link.now c.args.left.now c.in-Some.ensures.cases.0 (emptied _ c.if-is_empty.ensures))) (onto_then _ _ _ _ _ _ _ (rw c.in-Some-2.is at c.in_ok-right.ensures) ∙ c.in_ok-compare_last-in-Some-2.ensures)

pub choices::build_comparisons-returns-in_ok-chosen-in-Some-2 : goal.choices::build_comparisons-returns-in_ok-chosen-in-Some-2
choices::build_comparisons-returns-in_ok-chosen-in-Some-2 t c =
    other_form _ _ _ _ _ (sym (links_more (file_of c.args.at.now) (context_of c.args.at.now) c.args.whole c.args.member c.args.k c.args.links.now c.in-Some.others.now c.in-Some.link.now c.args.left.now c.in-Some.ensures.cases.0 (nonempty _ c.if-is_empty.ensures))) (onto_then _ _ _ _ _ _ _ (rw c.in-Some-2.is at c.in_ok-right.ensures) ∙ (rw c.in_ok-behind.ensures at c.in_ok-chosen-in-Some-2.ensures))

pub choices::build_comparisons-returns-in-None : goal.choices::build_comparisons-returns-in-None
choices::build_comparisons-returns-in-None t c =
    links_stopped (file_of c.args.at.now) (context_of c.args.at.now) _ _ _ _ c.args.whole c.args.member c.args.k c.args.links.now c.in-Some.others.now c.in-Some.link.now c.args.left.now c.in-Some.ensures.cases.0 (rw c.in-None.is at c.in_ok-right.ensures)

pub choices::build_members-returns-in_default : goal.choices::build_members-returns-in_default
choices::build_members-returns-in_default t c =
    other_form _ _ _ _ _ (sym (members_none (file_of c.args.at.now) (context_of c.args.at.now) c.args.junction c.args.whole c.args.member c.args.k c.args.es.now (no_items _ c.in_default.ensures.cases))) (rw c.of_none.ensures (onto_pure _ _ _))

pub choices::build_members-returns-then-is_empty : goal.choices::build_members-returns-then-is_empty
choices::build_members-returns-then-is_empty t c =
    other_form _ _ _ _ _ (sym (members_last (file_of c.args.at.now) (context_of c.args.at.now) c.args.junction c.args.whole c.args.member c.args.k c.args.es.now c.in-Some.others.now c.in-Some.e.now c.in-Some.ensures.cases.0 (emptied _ c.if-is_empty.ensures))) (rw c.in-Some-2.is at c.in_ok-value.ensures)

pub choices::build_members-returns-in_ok-chosen-in-Some-2 : goal.choices::build_members-returns-in_ok-chosen-in-Some-2
choices::build_members-returns-in_ok-chosen-in-Some-2 t c =
    other_form _ _ _ _ _ (sym (members_more (file_of c.args.at.now) (context_of c.args.at.now) c.args.junction c.args.whole c.args.member c.args.k c.args.es.now c.in-Some.others.now c.in-Some.e.now c.in-Some.ensures.cases.0 (nonempty _ c.if-is_empty.ensures))) (onto_then _ _ _ _ _ _ _ (rw c.in-Some-2.is at c.in_ok-value.ensures) ∙ (rw c.in_ok-behind.ensures at c.in_ok-chosen-in-Some-2.ensures))

pub choices::build_members-returns-in-None : goal.choices::build_members-returns-in-None
choices::build_members-returns-in-None t c =
    members_stopped (file_of c.args.at.now) (context_of c.args.at.now) _ _ _ _ c.args.junction c.args.whole c.args.member c.args.k c.args.es.now c.in-Some.others.now c.in-Some.e.now c.in-Some.ensures.cases.0 (rw c.in-None.is at c.in_ok-value.ensures)

pub expressions::build-build_tuple-requires : goal.expressions::build-build_tuple-requires
expressions::build-build_tuple-requires t c =
    let e : expression_parts c.args.e.now ≡ 1 + total (map expression_parts c.as_slice.result.now) = rw (c.in-Tuple.is, by_kind.tuple, c.as_slice.ensures) in omega arith

pub expressions::build-build_unary-requires : goal.expressions::build-build_unary-requires
expressions::build-build_unary-requires t c =
    let e : expression_parts c.args.e.now ≡ 1 + expression_parts c.get.result.now = rw (c.in-Unary.is, by_kind.unary, c.get.ensures) in omega arith

pub expressions::build-build_chain-requires : goal.expressions::build-build_chain-requires
expressions::build-build_chain-requires t c =
    let e : expression_parts c.args.e.now ≡ 1 + (expression_parts c.get-in-Chain.result.now + total (map (λ (k : BinOp × Expr). expression_parts k.1) c.as_slice-in-Chain.result.now)) = rw (c.in-Chain.is, by_kind.chain, c.get-in-Chain.ensures, c.as_slice-in-Chain.ensures) in omega arith

pub expressions::build-build_power-requires : goal.expressions::build-build_power-requires
expressions::build-build_power-requires t c =
    let e : expression_parts c.args.e.now ≡ 1 + (expression_parts c.get-in-Power.result.now + expression_parts c.get-in-Power-2.result.now) = rw (c.in-Power.is, by_kind.power, c.get-in-Power.ensures, c.get-in-Power-2.ensures) in omega arith

pub expressions::build-build_members-requires : goal.expressions::build-build_members-requires
expressions::build-build_members-requires t c =
    let e : expression_parts c.args.e.now ≡ 1 + total (map expression_parts c.as_slice-in-And.result.now) = rw (c.in-And.is, by_kind.and, c.as_slice-in-And.ensures) in omega arith

pub expressions::build-build_members-requires-in-Or : goal.expressions::build-build_members-requires-in-Or
expressions::build-build_members-requires-in-Or t c =
    let e : expression_parts c.args.e.now ≡ 1 + total (map expression_parts c.as_slice-in-Or.result.now) = rw (c.in-Or.is, by_kind.or, c.as_slice-in-Or.ensures) in omega arith

pub expressions::build-build_comparison-requires : goal.expressions::build-build_comparison-requires
expressions::build-build_comparison-requires t c =
    let e : expression_parts c.args.e.now ≡ 1 + (expression_parts c.get-in-Compare.result.now + total (map (λ (k : CmpOp × Expr). expression_parts k.1) c.as_slice-in-Compare.result.now)) = rw (c.in-Compare.is, by_kind.compare, c.get-in-Compare.ensures, c.as_slice-in-Compare.ensures) in omega arith

pub expressions::build-build_conditional-requires : goal.expressions::build-build_conditional-requires
expressions::build-build_conditional-requires t c =
    let e : expression_parts c.args.e.now ≡ 1 + (expression_parts c.get-in-If.result.now + (expression_parts c.get-in-If-2.result.now + expression_parts c.in-If._second)) = rw (c.in-If.is, by_kind.choice, c.get-in-If.ensures, c.get-in-If-2.ensures) in omega arith

pub expressions::build-build_call-requires : goal.expressions::build-build_call-requires
expressions::build-build_call-requires t c =
    let e : expression_parts c.args.e.now ≡ 1 + total (map expression_parts c.as_slice-in-Call.result.now) = rw (c.in-Call.is, by_kind.call, c.as_slice-in-Call.ensures) in omega arith

pub expressions::build-build_suffixed-requires : goal.expressions::build-build_suffixed-requires
expressions::build-build_suffixed-requires t c =
    let e : expression_parts c.args.e.now ≡ 1 + (expression_parts c.get-in-Suffixed.result.now + total (map suffix_parts c.as_slice-in-Suffixed.result.now)) = rw (c.in-Suffixed.is, by_kind.suffixed, c.get-in-Suffixed.ensures, c.as_slice-in-Suffixed.ensures) in omega arith

pub expressions::build_each-build-requires : goal.expressions::build_each-build-requires
expressions::build_each-build-requires t c =
    let e = parts_of-member expression_parts c.args.es.now c.loop-e.e-index c.e-item.result c.loop-e-test.true c.e-item.is in omega arith

pub expressions::build_links-build_operation-made-requires : goal.expressions::build_links-build_operation-made-requires
expressions::build_links-build_operation-made-requires t c =
    let e = parts_of-member (λ (k : BinOp × Expr). expression_parts k.1) c.args.links.now c.loop-link.link-index c.link-item.result c.loop-link-test.true c.link-item.is in omega arith

pub brackets::build_suffixes-build_suffix-made-requires : goal.brackets::build_suffixes-build_suffix-made-requires
brackets::build_suffixes-build_suffix-made-requires t c =
    let e = parts_of-member suffix_parts c.args.suffixes.now c.loop-suffix.suffix-index c.suffix-item.result c.loop-suffix-test.true c.suffix-item.is in omega arith

pub brackets::build_suffix-build_index-requires : goal.brackets::build_suffix-build_index-requires
brackets::build_suffix-build_index-requires t c =
    let e : suffix_parts c.args.suffix.now ≡ 1 + expression_parts c.in-Index.e = rw (c.in-Index.is, by_kind.index) in omega arith

pub brackets::build_suffix-build_slice-requires : goal.brackets::build_suffix-build_slice-requires
brackets::build_suffix-build_slice-requires t c =
    let e : suffix_parts c.args.suffix.now ≡ 1 + (maybe_parts c.in-Slice.low + maybe_parts c.in-Slice.high) = rw (c.in-Slice.is, by_kind.slice) in omega arith

pub choices::build_members-build-requires : goal.choices::build_members-build-requires
choices::build_members-build-requires t c =
    let e = parts_of-first expression_parts c.args.es.now c.in-Some.others.now c.in-Some.e.now c.in-Some.ensures.cases.0 in omega arith

pub choices::build_comparisons-build-requires : goal.choices::build_comparisons-build-requires
choices::build_comparisons-build-requires t c =
    let e = parts_of-first (λ (k : CmpOp × Expr). expression_parts k.1) c.args.links.now c.in-Some.others.now c.in-Some.link.now c.in-Some.ensures.cases.0 in omega arith
