use Rattle.pyd_translate.proofs.FileItems.{body_kept}
use Rattle.pyd_translate.proofs.laws.file_items_law.Goals as goal

pub returns : goal.returns
returns c = body_kept
