use Rattle.pyd_core.proofs.Openings.{sorted_among, sorted_rises}
use Rattle.pyd_core.proofs.keeper.Core.placeable.Goals as goal

pub returns-clause-rising : goal.returns-clause-rising
returns-clause-rising c =
    sorted_rises c.run_law.ensures c.args.self.now c.requires _ _ c.in_ok-numbers.ensures
    c.sort_unstable.ensures.permutation c.sort_unstable.ensures.sorted

pub returns-clause-all : goal.returns-clause-all
returns-clause-all c k =
    sorted_among c.run_law.ensures c.args.self.now c.requires _ _ c.in_ok-numbers.ensures
    c.sort_unstable.ensures.permutation k
