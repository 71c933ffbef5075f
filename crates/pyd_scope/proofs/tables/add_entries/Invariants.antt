use Rattle.pyd_scope.specs.Tables.{AreKnown}
use Rattle.pyd_scope.proofs.tables.add_entries.Given as goal

abbrev pub invariant-loop-name : goal.invariant-loop-name
invariant-loop-name l = AreKnown l.outside l.locals l.table
