use Rattle.std.proofs.Common.{sym, ◌∙◌}
use Rattle.pyd_lineage.proofs.Sets.{adds_to_none}
use Rattle.pyd_lineage.proofs.Ordering.{one_ordered}
use Rattle.pyd_lineage.proofs.tests.ordering.is_ordered.Goals as goal

pub returns : goal.returns
returns c = λ holds behind ordered.
    one_ordered c.args.later.now c.add_number.new.set c.add_named.new.set c.args.node.now behind
    (sym c.contains.ensures ∙ c.if-contains.false) c.in_ok-add_number.ensures
    (adds_to_none c.new-named.result c.add_named.new.set _ c.new-named.ensures.empty c.in_ok-add_named.ensures)
    (c.is_disjoint.ensures.0 holds) ordered
