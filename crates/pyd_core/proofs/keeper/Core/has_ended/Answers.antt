use Rattle.std.proofs.Common.{is_some, ap, sym, ◌∙◌}
use Rattle.pyd_core.proofs.keeper.Core.has_ended.Goals as goal

pub returns : goal.returns
returns c = c.is_some.ensures ∙ ap is_some (sym c.requires.tied.end)
