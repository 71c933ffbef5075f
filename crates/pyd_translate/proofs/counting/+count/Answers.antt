use Rattle.std.proofs.Common.{map, ap, ◌∙◌}
use Rattle.pyd_value.specs.Size.{total}
use Rattle.pyd_translate.specs.Expressions.{unfolded, unfolded_suffix, counts, operand_counts}
use Rattle.pyd_translate.specs.Drafts.{unfolded_operands, unfolded_links}
use Rattle.pyd_translate.proofs.CountedForms.{single_counted, several_counted, unary_counted, chain_counted, compare_counted, power_counted, suffixed_counted, conditional_counted, operands_all}
use Rattle.pyd_translate.proofs.BracketForms.{index_count, slice_count}
use Rattle.pyd_translate.proofs.counting.+count.Goals as goal

pub count-returns-in_ok-count_each-in-Tuple : goal.count-returns-in_ok-count_each-in-Tuple
count-returns-in_ok-count_each-in-Tuple t c =
    several_counted _ _ _ _ c.in-Tuple.is (λ file. c.in_ok-count_each-in-Tuple.ensures file ∙ ap (λ es. counts (map (unfolded file) es)) c.as_slice-in-Tuple.ensures) c.next-in-Tuple.ensures

pub count-returns-in_ok-count-in-Unary : goal.count-returns-in_ok-count-in-Unary
count-returns-in_ok-count-in-Unary t c =
    unary_counted _ _ _ _ _ c.in-Unary.is (λ file. c.in_ok-count-in-Unary.ensures file ∙ ap (λ e. (unfolded file e).count) c.get.ensures) c.next.ensures

pub count-returns-in_ok-plus-in-Chain : goal.count-returns-in_ok-plus-in-Chain
count-returns-in_ok-plus-in-Chain t c =
    chain_counted _ _ _ _ _ c.in_ok-plus-in-Chain.ensures _ _ c.in-Chain.is
    (λ file. c.in_ok-count-in-Chain.ensures file ∙ ap (λ e. (unfolded file e).count) c.get-in-Chain.ensures)
    (λ file. c.in_ok-count_operands-in-Chain.ensures file ∙ ap (λ ls. operand_counts (unfolded_operands file ls)) c.as_slice.ensures)
    c.next-in-Chain.ensures

pub count-returns-in_ok-plus-in-Power : goal.count-returns-in_ok-plus-in-Power
count-returns-in_ok-plus-in-Power t c =
    power_counted _ _ _ _ _ c.in_ok-plus-in-Power.ensures _ _ c.in-Power.is
    (λ file. c.in_ok-count-in-Power.ensures file ∙ ap (λ e. (unfolded file e).count) c.get-in-Power.ensures)
    (λ file. c.in_ok-count-in-Power-2.ensures file ∙ ap (λ e. (unfolded file e).count) c.get-in-Power-2.ensures)
    c.next-in-Power.ensures

pub count-returns-in_ok-plus-in-Compare : goal.count-returns-in_ok-plus-in-Compare
count-returns-in_ok-plus-in-Compare t c =
    compare_counted _ _ _ _ _ c.in_ok-plus-in-Compare.ensures _ _ c.in-Compare.is
    (λ file. c.in_ok-count-in-Compare.ensures file ∙ ap (λ e. (unfolded file e).count) c.get-in-Compare.ensures)
    (λ file. c.in_ok-count_compared-in-Compare.ensures file ∙ ap (λ ls. operand_counts (unfolded_links file ls)) c.as_slice-in-Compare.ensures)
    c.next-in-Compare.ensures

pub count-returns-in_ok-plus-in-If : goal.count-returns-in_ok-plus-in-If
count-returns-in_ok-plus-in-If t c =
    conditional_counted _ _ _ _ _ c.in_ok-plus-in-If.ensures _ _ c.in_ok-sides-in-If.ensures _ _ _ c.in-If.is
    (λ file. c.in_ok-count-in-If-3.ensures file ∙ ap (λ e. (unfolded file e).count) c.get-in-If-3.ensures)
    (λ file. c.in_ok-count-in-If.ensures file ∙ ap (λ e. (unfolded file e).count) c.get-in-If.ensures)
    (λ file. c.in_ok-count-in-If-2.ensures file ∙ ap (λ e. (unfolded file e).count) c.get-in-If-2.ensures)
    c.next-in-If.ensures

pub count-returns-in_ok-plus-in-Suffixed : goal.count-returns-in_ok-plus-in-Suffixed
count-returns-in_ok-plus-in-Suffixed t c =
    suffixed_counted _ _ _ _ _ c.in_ok-plus-in-Suffixed.ensures _ _ c.in-Suffixed.is
    (λ file. c.in_ok-count-in-Suffixed.ensures file ∙ ap (λ e. (unfolded file e).count) c.get-in-Suffixed.ensures)
    (λ file. c.in_ok-count_suffixes-in-Suffixed.ensures file ∙ ap (λ ss. total (map (λ s. s.count) (map (unfolded_suffix file) ss))) c.as_slice-in-Suffixed.ensures)
    c.next-in-Suffixed.ensures

pub count_operands-returns : goal.count_operands-returns
count_operands-returns t c = λ file. operands_all file _ _ _ _ c.loop-link-test.false (c.loop-link.invariant file)

pub count_compared-returns : goal.count_compared-returns
count_compared-returns t c = λ file. operands_all file _ _ _ _ c.loop-link-test.false (c.loop-link.invariant file)

pub count_suffix-returns-in-Index : goal.count_suffix-returns-in-Index
count_suffix-returns-in-Index t c = index_count _ _ _ c.in-Index.is c.count.ensures

pub count_suffix-returns-in_ok-count_bound-in-Slice-2 : goal.count_suffix-returns-in_ok-count_bound-in-Slice-2
count_suffix-returns-in_ok-count_bound-in-Slice-2 t c =
    slice_count _ _ _ _ _ _ c.in-Slice.is c.in_ok-count_bound-in-Slice.ensures c.in_ok-count_bound-in-Slice-2.ensures c.plus.ensures

pub count-returns-in-Lit : goal.count-returns-in-Lit
count-returns-in-Lit t c = single_counted c.args.e.now c.in-Lit.is

pub count-returns-in-Lit-2 : goal.count-returns-in-Lit-2
count-returns-in-Lit-2 t c = single_counted c.args.e.now c.in-Lit.is
