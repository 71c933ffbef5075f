-- The entry of a statement that is placed.
use Rattle.pyd_scope.specs.declared.stmts.Place.{Place}
use Rattle.pyd_scope.specs.Numbering.{Entry}

-- the statement with those that follow it, and the number of the first expression in it
abbrev pub entry_of : Place → Entry
entry_of p = record { stmts = p.stmts; expression = p.expression }
