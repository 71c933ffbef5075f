use Rattle.pyd_refine.proofs.Spanned.{wrapped_is}
use Rattle.pyd_refine.proofs.item.number_at.Goals as goal

pub returns : goal.returns
returns c = λ within. wrapped_is c.args.from c.args.turn c.args.step c.ranges.from c.ranges.turn c.ranges.step within
