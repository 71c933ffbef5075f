use Rattle.std.proofs.Common.{◌∙◌, ap, is_some}
use Rattle.pyd_scope.proofs.Finding.{is_some-place}
use Rattle.pyd_scope.proofs.names.Names.contains.Goals as goal

pub returns : goal.returns
returns c = c.is_some.ensures ∙ ap is_some c.place.ensures ∙ is_some-place c.args.self.now c.args.name.now
