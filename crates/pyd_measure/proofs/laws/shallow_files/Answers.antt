use Rattle.pyd_measure.proofs.Shallow.{shallow_from}
use Rattle.pyd_measure.proofs.laws.shallow_files.Goals as goal

pub returns : goal.returns
returns c = shallow_from c.one_line.ensures
