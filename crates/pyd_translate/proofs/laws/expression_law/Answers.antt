use Rattle.pyd_translate.proofs.ExpressionsMatch.{expressions_match}
use Rattle.pyd_translate.proofs.laws.expression_law.Goals as goal

pub returns : goal.returns
returns c = expressions_match
