use Rattle.pyd_names.proofs.Turns.{distinct_names}
use Rattle.pyd_names.proofs.laws.distinct_names_are_the_names.Goals as goal

pub returns : goal.returns
returns c = distinct_names
