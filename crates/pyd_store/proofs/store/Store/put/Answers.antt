use Rattle.std.proofs.Common.{◌∙◌, ap}
use Rattle.std.specs.FinMap.{insert}
use Rattle.pyd_store.proofs.Entries.{ok_then, inserted}
use Rattle.pyd_store.proofs.store.Store.put.Goals as goal

pub returns-clause-ok : goal.returns-clause-ok
returns-clause-ok c =
    ok_then c.put_in.result
    (λ updates. inserted c.self.inside.outcomes.entries c.put_in.new.outcomes.entries c.args.node c.args.outcome updates.0 ∙ ap (λ m. insert m c.args.node c.args.outcome) c.self.view_is)
    c.put_in.ensures.ok
