use Rattle.pyd_translate.proofs.Computed.{slice_row}
use Rattle.pyd_translate.proofs.rows.slice_row.Goals as goal

pub returns : goal.returns
returns c = slice_row
