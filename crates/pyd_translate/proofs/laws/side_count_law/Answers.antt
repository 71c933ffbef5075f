use Rattle.pyd_translate.proofs.FewInSides.{side_few}
use Rattle.pyd_translate.proofs.laws.side_count_law.Goals as goal

pub returns : goal.returns
returns c = side_few
