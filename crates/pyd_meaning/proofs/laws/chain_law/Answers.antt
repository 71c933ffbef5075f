use Rattle.pyd_meaning.proofs.Expressions.{chain}
use Rattle.pyd_meaning.proofs.laws.chain_law.Goals as goal

pub returns : goal.returns
returns c = chain
