use Rattle.pyd_translate.proofs.NestedCount.{routine_few}
use Rattle.pyd_translate.proofs.laws.routine_count_law.Goals as goal

pub returns : goal.returns
returns c = routine_few
