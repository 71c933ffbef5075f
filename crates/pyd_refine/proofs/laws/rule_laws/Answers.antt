use Rattle.pyd_refine.proofs.Rules.{rules}
use Rattle.pyd_refine.proofs.laws.rule_laws.Goals as goal

pub returns : goal.returns
returns c = rules
