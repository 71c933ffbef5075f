use Rattle.pyd_core.proofs.Stayed.{stays_on, stays_with}
use Rattle.pyd_core.proofs.keeper.Core.make_claim_room.Goals as goal

pub returns-clause-stays : goal.returns-clause-stays
returns-clause-stays c =
    stays_on _ _ c.make_room.ensures.stays _
    (stays_with _ _ c.make_claim_room.ensures.same c.make_room.ensures.stays.core)
