use Rattle.pyd_lex.proofs.TokenBytes.{token_bytes}
use Rattle.pyd_lex.proofs.laws.token_bytes.Goals as goal

pub returns : goal.returns
returns c = token_bytes
