use Rattle.std.proofs.Common.{map}
use Rattle.std.specs.Option.{option_copied}
use Rattle.pyd_scope.proofs.Items.{behind_first}
use Rattle.pyd_scope.proofs.parts.operand.Goals as goal

pub returns-else-at-eq0 : goal.returns-else-at-eq0
returns-else-at-eq0 c =
    behind_first c.args.first.now (map (λ l. l.1) c.args.links.now) c.args.at
    (option_copied c.right.result) c.if-at-eq0.false c.right.ensures
