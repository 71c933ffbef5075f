use Rattle.pyd_here.proofs.Living.{least_by, lives_by}
use Rattle.pyd_here.proofs.seats.least_live.Goals as goal

pub returns-clause-least : goal.returns-clause-least
returns-clause-least c =
    least_by c.args.core.now c.requires c.as_slice.result.now c.as_slice.ensures.value
    c.placed_on.result c.placed_on.ensures.value

pub returns-clause-lives : goal.returns-clause-lives
returns-clause-lives c =
    lives_by c.args.core.now c.requires c.as_slice.result.now
    c.as_slice.ensures.value c.placed_on.result c.run_law.ensures c.placed_on.ensures.lives
