use Rattle.pyd_top.proofs.Works as works
use Rattle.pyd_top.proofs.laws.one_work.Goals as goal

pub returns : goal.returns
returns c = works.one_work c.one_answer.ensures
