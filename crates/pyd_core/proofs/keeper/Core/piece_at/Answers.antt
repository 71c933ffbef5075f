use Rattle.std.proofs.Common.{◌≡◌, Some, sym, subst}
use Rattle.std.specs.List.{slice_get}
use Rattle.pyd_core.proofs.Pieces.{piece_ok}
use Rattle.pyd_core.proofs.keeper.Core.piece_at.Goals as goal

pub returns : goal.returns
returns c =
    piece_ok c.args.self.now c.args.at c.piece_of.result c.node_at.result.now c.requires.core
    (λ n there. c.node_at.ensures n
    (subst (λ ns. slice_get ns c.args.at ≡ Some n) (sym c.chain.ensures) there))
    c.piece_of.ensures
