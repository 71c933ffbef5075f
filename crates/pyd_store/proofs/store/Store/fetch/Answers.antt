use Rattle.std.proofs.Common.{◌∙◌, sym, ap}
use Rattle.std.specs.FinMap.{get}
use Rattle.pyd_store.proofs.Entries.{get_at}
use Rattle.pyd_store.proofs.store.Store.fetch.Goals as goal

pub returns : goal.returns
returns c = c.get.ensures.value ∙ sym (get_at c.self.inside.outcomes.entries c.args.node) ∙ ap (λ m. get m c.args.node) c.self.view_is
