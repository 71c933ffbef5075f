use Rattle.pyd_text.proofs.Reprs.{str_by_kind}
use Rattle.pyd_text.proofs.laws.str_goes_by_kind.Goals as goal

pub returns : goal.returns
returns c = str_by_kind
