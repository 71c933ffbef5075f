use Rattle.std.proofs.Common.{ap, subst, ◌∙◌, ◌++◌, take}
use Rattle.pyd_refine.specs.Redirecting.{replaced_by}
use Rattle.pyd_desk.specs.Growing.{HasNew}
use Rattle.pyd_desk.specs.Lines.{chain_of}
use Rattle.pyd_desk.proofs.Refined.{chain_still, past_still, refined_is}
use Rattle.pyd_desk.proofs.Told.{has_still}
use Rattle.pyd_desk.proofs.desk.Desk.grow.Goals as goal

pub returns-clause-refined : goal.returns-clause-refined
returns-clause-refined c =
    let line = c.args.line.now in
    let at = c.args.at in
    let id = c.number_at-id.result in
    let piece = c.args.piece.now in
    refined_is c.piece_order_law.ensures line c.splice.new.self c.args.self.now c.add_nodes.new.self at id piece
    c.number_at-id.ensures
    (c.splice.ensures.past ∙ past_still line c.make_room.new.self c.make_room.ensures.same)
    (c.splice.ensures.chain
    ∙ ap (λ xs. take at xs ++ c.in_ok-tail.tail.items) (chain_still line c.make_room.new.self c.make_room.ensures.same)
    ∙ ap (λ xs. take at (chain_of line) ++ xs)
    (c.in_ok-tail.ensures ∙ ap (replaced_by id piece) c.behind.ensures))
    (has_still id piece.next piece.nodes c.args.self.now c.make_room-2.new.self c.add_nodes.new.self
    c.make_room-2.ensures.same
    (subst (λ ns. HasNew id piece.next ns c.make_room-2.new.self c.add_nodes.new.self) c.as_slice.ensures
    c.add_nodes.ensures))
