use Rattle.pyd_translate.proofs.Computed.{chain_row}
use Rattle.pyd_translate.proofs.rows.chain_row.Goals as goal

pub returns : goal.returns
returns c = chain_row
