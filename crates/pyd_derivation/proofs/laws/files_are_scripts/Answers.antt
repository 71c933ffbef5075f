use Rattle.pyd_derivation.proofs.Single.{as_scripts}
use Rattle.pyd_derivation.proofs.laws.files_are_scripts.Goals as goal

pub returns : goal.returns
returns c = as_scripts
