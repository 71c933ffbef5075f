use Rattle.pyd_names.proofs.Formed.{by_kind, statements_by_kind}
use Rattle.pyd_names.proofs.laws.forms_go_by_kind.Goals as goal

pub returns : goal.returns
returns c = record { expressions = by_kind; statements = statements_by_kind }
