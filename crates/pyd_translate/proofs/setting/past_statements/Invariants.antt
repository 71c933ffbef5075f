use Rattle.std.proofs.Common.{◌≡◌, drop}
use Rattle.pyd_scope.specs.Numbering.{contents, past}
use Rattle.pyd_translate.specs.Flows.{StandsIn, point_of}
use Rattle.pyd_translate.proofs.setting.past_statements.Given as goal

abbrev pub invariant-loop : goal.invariant-loop
invariant-loop l =
    StandsIn l.at (contents (drop l.index l.stmts)) (point_of l.behind)
    × (past (contents (drop l.index l.stmts)) (point_of l.behind)
    ≡ past (contents l.stmts) (point_of l.fn.point))
