use Rattle.std.proofs.Common.{[], ◌++◌, ap, subst, ◌∙◌}
use Rattle.std.proofs.lemmas.Result.{IfOk-weaker}
use Rattle.pyd_lineage.specs.Ordered.{AreOrdered}
use Rattle.pyd_lineage.proofs.Ordering.{none_ordered, after_all, ordered_order}
use Rattle.pyd_lineage.proofs.tests.ordering.in_order.Goals as goal

pub returns : goal.returns
returns c =
    let past = c.args.past.now.nodes in
    let chain = c.args.chain.now.nodes in
    let first : AreOrdered c.are_ordered.new.later chain =
    subst (AreOrdered c.are_ordered.new.later) (ap (λ ys. ys ++ []) c.as_slice.ensures ∙ after_all chain)
    (c.in_ok-are_ordered.ensures c.if-not-branch.false [] (none_ordered c.new-later.result c.new-later.ensures.empty)) in
    IfOk-weaker c.are_ordered-2.result _ _
    (λ b all holds. ordered_order c.are_ordered-2.new.later past chain
    (subst (λ xs. AreOrdered c.are_ordered-2.new.later (xs ++ chain)) c.as_slice-2.ensures (all holds chain first)))
    c.are_ordered-2.ensures
