use Rattle.std.proofs.Common.{◌∙◌, ap}
use Rattle.pyd_board.specs.Placing as spec
use Rattle.pyd_board.proofs.Placing.{least_lives}
use Rattle.pyd_board.proofs.machines.placed_on.Goals as goal

pub returns-else-lives-clause-lives : goal.returns-else-lives-clause-lives
returns-else-lives-clause-lives c = λ some. ap (spec.lives c.args.alive.now) c.least_live.ensures ∙ least_lives c.args.alive.now some
