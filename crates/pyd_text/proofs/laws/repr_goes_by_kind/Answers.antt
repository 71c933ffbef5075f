use Rattle.pyd_text.proofs.Reprs.{repr_by_kind}
use Rattle.pyd_text.proofs.laws.repr_goes_by_kind.Goals as goal

pub returns : goal.returns
returns c = repr_by_kind
