use Rattle.std.proofs.Common.{◌∙◌}
use Rattle.pyd_scope.proofs.Firsts.{rebind_is}
use Rattle.pyd_scope.proofs.refusals.rebind.Goals as goal

pub returns : goal.returns
returns c =
    rebind_is c.args.file.now c.lesser.result c.taken_line-taken.result c.rebound_line-rebound.result c.in_ok-imported.imported c.in_ok-functions.functions c.args.definitions.now c.as_slice.result.now
    c.lesser.ensures c.taken_line-taken.ensures c.rebound_line-rebound.ensures c.in_ok-imported.ensures c.in_ok-functions.ensures c.requires
    (c.as_slice.ensures ∙ c.in_ok-bindings.ensures)
