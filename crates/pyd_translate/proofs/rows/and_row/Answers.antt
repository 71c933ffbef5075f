use Rattle.pyd_translate.proofs.Computed.{and_row}
use Rattle.pyd_translate.proofs.rows.and_row.Goals as goal

pub returns : goal.returns
returns c = and_row
