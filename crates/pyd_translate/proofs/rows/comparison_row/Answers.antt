use Rattle.pyd_translate.proofs.Computed.{comparison_row}
use Rattle.pyd_translate.proofs.rows.comparison_row.Goals as goal

pub returns : goal.returns
returns c = comparison_row
