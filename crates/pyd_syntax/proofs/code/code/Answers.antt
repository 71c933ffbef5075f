use Rattle.pyd_syntax.proofs.Codes.{code_at}
use Rattle.pyd_syntax.proofs.code.code.Goals as goal

pub returns : goal.returns
returns c = record { value = code_at c.args.production c.args.i c.requires.production c.requires.i }
