use Rattle.std.proofs.Common.{refl, ◌∙◌}
use Rattle.std.specs.Option.{option_copied}
use Rattle.pyd_refine.specs.Composites.{slots_of, refined}
use Rattle.pyd_refine.proofs.NodeForms.{piece_done}
use Rattle.pyd_refine.proofs.composite.refine.Goals as goal

pub returns : goal.returns
returns c =
    piece_done c.piece.result (slots_of c.args.node.now.work) _ _
    (refined c.args.program.now.file c.args.limits c.args.node.now (option_copied c.args.control)) _ _ _ c.args.ids
    c.new.ensures refl (c.in_ok-env.ensures ∙ c.slots.ensures) c.in_ok-value.ensures c.piece.ensures
