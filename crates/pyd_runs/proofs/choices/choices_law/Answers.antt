use Rattle.pyd_runs.proofs.Choosing.{have_choices}
use Rattle.pyd_runs.proofs.choices.choices_law.Goals as goal

pub returns : goal.returns
returns c = have_choices
