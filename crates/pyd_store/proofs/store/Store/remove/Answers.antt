use Rattle.std.proofs.Common.{◌∙◌, ap}
use Rattle.std.specs.FinMap.{remove}
use Rattle.pyd_store.proofs.Entries.{removed}
use Rattle.pyd_store.proofs.store.Store.remove.Goals as goal

pub returns : goal.returns
returns c = removed c.self.inside.outcomes.entries c.remove.new.self.entries c.args.node c.remove.ensures.updates.0 ∙ ap (λ m. remove m c.args.node) c.self.view_is
