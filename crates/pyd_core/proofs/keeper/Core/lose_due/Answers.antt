use Rattle.std.proofs.Common.{sym, ◌∙◌}
use Rattle.pyd_core.proofs.DueLosses.{goes_on, losses_come}
use Rattle.pyd_core.proofs.keeper.Core.lose_due.Goals as goal

pub lose_all-requires-clause-goes_on : goal.lose_all-requires-clause-goes_on
lose_all-requires-clause-goes_on c =
    goes_on c.args.seat c.args.self.now (sym c.if-has_ended.false ∙ c.has_ended.ensures)

pub returns-clause-losses : goal.returns-clause-losses
returns-clause-losses c =
    losses_come c.args.seat c.args.self.now c.lose_all.new.self
    (sym c.if-has_ended.false ∙ c.has_ended.ensures) c.lose_all.ensures.losses
