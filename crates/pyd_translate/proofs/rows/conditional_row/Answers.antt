use Rattle.pyd_translate.proofs.Computed.{conditional_row}
use Rattle.pyd_translate.proofs.rows.conditional_row.Goals as goal

pub returns : goal.returns
returns c = conditional_row
