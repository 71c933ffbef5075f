-- The sets have the numbers that are wanted and those that are known.
use Rattle.std.proofs.Common.{◌≡◌, ℕ, Bool, not, ◌&&◌, position, ap, ◌∙◌}
use Rattle.pyd_ir.specs.declared.node.Node.{Node}
use Rattle.pyd_lineage.specs.Lineage.{is_among}
use Rattle.pyd_lineage.specs.Marking.{has, IsSetOf, past_names}
use Rattle.pyd_lineage.specs.Awaiting.{is_awaited}
use Rattle.pyd_lineage.proofs.awaiting.first_awaited.Goals as goal

pub returns : goal.returns
returns c =
    let past = c.args.past.now in
    let wanted = c.args.wanted.now in
    let known = c.in_ok-known.known in
    let marked : IsSetOf c.mark_past.new.set (past_names (has known) past wanted) =
    c.in_ok-mark_past.ensures wanted c.in_ok-wanted.ensures in
    let is : has known ≡ is_among c.args.known.now = (λ i n. c.in_ok-known.ensures n i) in
    c.first_missing.ensures
    ∙ (λ i. position (λ (x : Node). marked x.id i && not (has known x.id)) past)
    ∙ ap (λ (f : ℕ → Bool). position (is_awaited f past wanted) past) is
