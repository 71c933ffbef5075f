use Rattle.std.proofs.Common.{◌≡◌, ◌+◌, length}
use Rattle.pyd_scope.proofs.Rows.{Rows}
use Rattle.pyd_scope.proofs.tables.Tables.of.Given as goal

abbrev pub invariant-loop-func : goal.invariant-loop-func
invariant-loop-func l = record { counted : length l.tables.items ≡ l.func-index + 1; right : Rows l.file 0 l.tables.items }
