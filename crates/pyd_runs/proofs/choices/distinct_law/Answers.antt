use Rattle.pyd_runs.proofs.Distinct.{none_twice}
use Rattle.pyd_runs.proofs.choices.distinct_law.Goals as goal

pub returns : goal.returns
returns c = none_twice
