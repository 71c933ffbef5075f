use Rattle.pyd_translate.proofs.Pieces.{side_done}
use Rattle.pyd_translate.proofs.unfold.unfold_side.Goals as goal

pub returns : goal.returns
returns c =
    side_done c.args.program.now.file c.args.at.now c.args.side.now c.args.env.now _ c.args.line c.args.ids _ _ _ _ _
    c.in_ok-slots.ensures c.new.ensures c.value_or_unbound-value.ensures c.in_ok-got.ensures
