-- The piece of a composite that is ready takes its place, and keeps what the list does.
use Rattle.std.proofs.Common.{◌∷◌}
use Rattle.pyd_translate.specs.Walk.{work_ports}
use Rattle.pyd_refine.specs.Composites.{slots_of, refined}
use Rattle.pyd_refine.specs.Ordering.{and_nodes}
use Rattle.pyd_refine.specs.Laws.{PieceLaw, RefineLaw}
use Rattle.pyd_refine.proofs.Ordering.{nodes-below, ordered-left, ordered-right}
use Rattle.pyd_refine.proofs.Whole.{substitution}
use Rattle.pyd_refine.proofs.Pieces.{replaces-takes}
use Rattle.pyd_refine.proofs.Taking.{piece-takes}
use Rattle.pyd_refine.proofs.Newness.{piece-new}

-- the piece of each composite that is ready
pub pieces : PieceLaw
pieces file limits node chosen ids given ready =
    replaces-takes file limits ids given (refined file limits node chosen ids) (work_ports file limits node.work node given)
    (piece-takes file limits node chosen ids given ready)

-- refining keeps what the list does
pub refines : RefineLaw
refines file limits known ids given before node after chosen below order ready =
    let left = ordered-left known ids before (node ∷ after) order in
    let right = ordered-right known ids before (node ∷ after) order in
    substitution file limits known ids given before node after (slots_of node.work) (refined file limits node chosen ids)
    below order
    (piece-new file limits node chosen ids (and_nodes known before) (nodes-below known ids before left below) right.2)
    (λ reached e. pieces file limits node chosen ids reached (ready reached e))
