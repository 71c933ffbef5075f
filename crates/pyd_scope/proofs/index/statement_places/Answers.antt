use Rattle.std.proofs.Common.{◌∙◌}
use Rattle.pyd_scope.specs.Indexing.{unmarked_from}
use Rattle.pyd_scope.proofs.Indexes.{statements_unmarked}
use Rattle.pyd_scope.proofs.index.statement_places.Goals as goal

pub returns : goal.returns
returns c =
    c.in_ok-places.ensures
    ∙ (λ i. unmarked_from ((c.as_slice-2.ensures.value ∙ c.in_ok-constants.ensures) i) 0 (c.as_slice.ensures i))
    ∙ statements_unmarked c.args.file.now
