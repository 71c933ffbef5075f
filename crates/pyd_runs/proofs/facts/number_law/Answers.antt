use Rattle.pyd_runs.proofs.Named.{numbers_below}
use Rattle.pyd_runs.proofs.facts.number_law.Goals as goal

pub returns : goal.returns
returns c = numbers_below
