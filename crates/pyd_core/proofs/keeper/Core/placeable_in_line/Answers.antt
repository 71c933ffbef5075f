use Rattle.std.proofs.Common.{◌≡◌, ◌<◌, ℕ, List, length, get_or, drop, vec_items, ◌+◌, inl, inr, ap, sym, ◌∙◌, arith}
use Rattle.std.proofs.lemmas.Grind.{common_steps}
use Rattle.pyd_ir.specs.declared.node.Node.{Node}
use Rattle.pyd_lineage.specs.Marking.{numbers_where}
use Rattle.pyd_lineage.proofs.Choosing.{one_turn}
use Rattle.pyd_runs.specs.Deciding.{may_place}
use Rattle.pyd_core.specs.Cores.{state_of}
use Rattle.pyd_core.specs.Placing.{is_missing, placeable_numbers}
use Rattle.pyd_core.proofs.Openings.{turn_first, turn_left}
use Rattle.pyd_core.proofs.keeper.Core.placeable_in_line.Goals as goal
use Rattle.pyd_core.proofs.keeper.Core.placeable_in_line.Goals.{then-may_be_placed+in_ok-push, else-may_be_placed}

pub may_be_placed-requires-clause-node : goal.may_be_placed-requires-clause-node
may_be_placed-requires-clause-node c = (
  c.loop-node.node-index,
  grind (arith, common_steps, c.loop-node-test.true, c.as_slice-node-items.ensures.value),
  grind (arith, common_steps, c.node-item.is, c.as_slice-node-items.ensures.value),
)

pub may_be_placed-requires-clause-missing : goal.may_be_placed-requires-clause-missing
may_be_placed-requires-clause-missing c =
    let nodes : List Node = c.args.self.now.line.nodes.items in
    let n : Node = c.node-item.result in
    let i : ℕ = c.loop-node.node-index in
    let within : i < length nodes =
    grind (arith, common_steps, c.loop-node-test.true, c.as_slice-node-items.ensures.value) in
    let at : n ≡ get_or nodes i n =
    grind (arith, common_steps, c.node-item.is, c.as_slice-node-items.ensures.value) in
    c.is_first-is_missing.ensures
    ∙ turn_first c.run_law.ensures c.args.self.now c.requires.core i n c.loop-node.left.now within at
    (c.loop-node.invariant.left
    ∙ ap (λ ns. numbers_where (is_missing (state_of c.args.self.now)) (drop i ns))
    c.as_slice-node-items.ensures.value)

pub loop-node-preserved : goal.loop-node-preserved
loop-node-preserved c =
    let nodes : List Node = c.args.self.now.line.nodes.items in
    let n : Node = c.node-item.result in
    let i : ℕ = c.loop-node.node-index in
    let within : i < length nodes =
    grind (arith, common_steps, c.loop-node-test.true, c.as_slice-node-items.ensures.value) in
    let at : n ≡ get_or nodes i n =
    grind (arith, common_steps, c.node-item.is, c.as_slice-node-items.ensures.value) in
    record {
      left = turn_left c.run_law.ensures c.args.self.now c.requires.core i n c.loop-node.left.now
          c.behind-left.result.now c.is_first-is_missing.result within at
          (c.loop-node.invariant.left
          ∙ ap (λ ns. numbers_where (is_missing (state_of c.args.self.now)) (drop i ns))
          c.as_slice-node-items.ensures.value)
          c.is_first-is_missing.ensures c.behind-left.ensures
          ∙ sym (ap (λ ns. numbers_where (is_missing (state_of c.args.self.now)) (drop (i + 1) ns))
          c.as_slice-node-items.ensures.value);
      numbers = one_turn (λ x. may_place (state_of c.args.self.now) x.id)
          c.as_slice-node-items.result.now i n c.loop-node.numbers.items
          c.if-may_be_placed.numbers.items (placeable_numbers c.args.self.now)
          c.loop-node-test.true c.node-item.is c.loop-node.invariant.numbers
          (elim c.if-may_be_placed.branch [
            | then-may_be_placed+in_ok-push w ↦ inl (
              sym c.may_be_placed.ensures ∙ w.if-may_be_placed.true,
              ap vec_items w.numbers-is ∙ w.in_ok-push.ensures.items,
            )
            | else-may_be_placed w ↦ inr (
              sym c.may_be_placed.ensures ∙ w.if-may_be_placed.false,
              ap vec_items w.numbers-is,
            )
          ]);
    }
