-- The place of the past node that is awaited first gives the node that is due.
use Rattle.std.proofs.Common.{◌≡◌, position, ap, sym, ◌∙◌}
use Rattle.std.specs.List.{flat_map}
use Rattle.pyd_ir.specs.declared.node.Node.{Node}
use Rattle.pyd_lineage.specs.Lineage.{is_among, named_by}
use Rattle.pyd_lineage.specs.Awaiting as lineage
use Rattle.pyd_runs.specs.HeadOrder.{waited_for}
use Rattle.pyd_core.specs.Cores.{plan_of, state_of}
use Rattle.pyd_core.specs.Ordering.{number_at}
use Rattle.pyd_core.specs.Placing.{recorded_numbers}
use Rattle.pyd_core.proofs.Awaited.{due_number, first_node}
use Rattle.pyd_core.proofs.Prepared.{goes_on_there}
use Rattle.pyd_core.proofs.keeper.Core.node_due.Goals as goal

pub head-requires : goal.head-requires
head-requires c =
    let d = c.args.self.now in
    let core = c.requires.core in
    goes_on_there (plan_of d) (state_of d) d.line d.desk
    (c.run_law.ensures (plan_of d) d.log.journal.items core.runnable core.legal)
    c.requires.goes_on core.tied.state

pub returns : goal.returns
returns c head rest is =
    let d = c.args.self.now in
    let core = c.requires.core in
    let graph = core.tied.state.graph in
    let first : c.head.result.now ≡ head =
    first_node _ _ (c.head.ensures) (sym graph.chain ∙ is) in
    let second : c.head-2.result.now ≡ head =
    first_node _ _ (c.head-2.ensures) (sym graph.chain ∙ is) in
    let past : c.past-past.result.now ≡ (state_of d).graph.past = c.past-past.ensures ∙ sym graph.past in
    let known : c.as_slice-2.result.now ≡ recorded_numbers d =
    c.as_slice-2.ensures.value ∙ c.in_ok-known.ensures in
    let wanted : c.as_slice.result.now ≡ flat_map named_by (waited_for head.work) =
    c.as_slice.ensures.value ∙ c.in_ok-wanted.ensures
    ∙ ap (λ (n : Node). flat_map named_by (waited_for n.work)) first in
    c.number_at.ensures
    ∙ ap (λ place. number_at c.past-past.result.now place c.head-2.result.now.id) c.in_ok-place.ensures
    ∙ (λ i. number_at (past i) (position (lineage.is_awaited (is_among (known i)) (past i) (wanted i))
    (past i)) (second i).id)
    ∙ due_number c.run_law.ensures d core head
