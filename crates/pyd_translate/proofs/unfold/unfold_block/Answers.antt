use Rattle.pyd_translate.proofs.Pieces.{block_done}
use Rattle.pyd_translate.proofs.unfold.unfold_block.Goals as goal

pub returns : goal.returns
returns c =
    block_done _ c.args.program.now.file c.args.at.now c.args.env.now _ _ c.args.ids _ _ _ _ _
    c.in_ok-slots.ensures c.new.ensures c.as_slice-rest.ensures c.in_ok-value.ensures c.piece.ensures
