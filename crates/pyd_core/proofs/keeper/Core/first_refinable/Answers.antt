-- The front of the chain is searched by the test of a node that may be refined.
use Rattle.std.proofs.Common.{take, Some, ap, ◌∙◌}
use Rattle.pyd_ir.specs.declared.node.Node.{Node}
use Rattle.pyd_runs.specs.Deciding.{is_refinable}
use Rattle.pyd_desk.specs.Reading.{given_of}
use Rattle.pyd_core.specs.Refining.{first_place_from}
use Rattle.pyd_core.proofs.Firsts.{first_is}
use Rattle.pyd_core.proofs.Pieces.{recorded_here}
use Rattle.pyd_core.proofs.keeper.Core.first_refinable.Goals as goal

pub returns : goal.returns
returns c =
    let core = c.args.self.now in
    first_is c.run_law.ensures c.refine_test_law.ensures core c.requires
    (recorded_here core c.requires) c.first_open.result
    (c.first_open.ensures
    ∙ ap (first_place_from (λ (n : Node). is_refinable (given_of core.desk) (Some n)) 0)
    (c.front.ensures ∙ ap (take core.setup.window) c.chain.ensures))
