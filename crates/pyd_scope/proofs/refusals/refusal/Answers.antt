use Rattle.std.proofs.Common.{◌++◌, ◌∙◌, sym}
use Rattle.pyd_scope.specs.Checks as spec
use Rattle.pyd_scope.proofs.Firsts.{both, first-append}
use Rattle.pyd_scope.proofs.refusals.refusal.Goals as goal

pub returns : goal.returns
returns c =
    both c.or_else-all.result c.in_ok-bindings.bindings (spec.first (spec.by_bindings c.args.file.now)) c.or_else-later.result (spec.first (spec.by_uses c.args.file.now ++ spec.by_statements c.args.file.now))
    c.or_else-all.ensures c.in_ok-bindings.ensures
    (both c.or_else-later.result c.in_ok-uses.uses (spec.first (spec.by_uses c.args.file.now)) c.in_ok-statements.statements (spec.first (spec.by_statements c.args.file.now))
    c.or_else-later.ensures c.in_ok-uses.ensures c.in_ok-statements.ensures
    ∙ sym (first-append (spec.by_uses c.args.file.now) (spec.by_statements c.args.file.now)))
    ∙ sym (first-append (spec.by_bindings c.args.file.now) (spec.by_uses c.args.file.now ++ spec.by_statements c.args.file.now))
