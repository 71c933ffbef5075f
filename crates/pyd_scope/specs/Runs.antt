-- The statements that a run of them has.
use Rattle.std.specs.Prelude.{List}
use Rattle.pyd_tree.specs.declared.statement.Stmt.{Stmt}
use Rattle.pyd_scope.specs.declared.stmts.Run.{Run}
use Rattle.pyd_scope.specs.declared.stmts.Run.TheVariants.{Suite, Module}
use Rattle.pyd_scope.specs.Blocks.{placed_stmts}

-- those of a suite, or of a module at some places among its items
abbrev pub run_stmts : Run → List Stmt
run_stmts (Suite stmts) = stmts.now
run_stmts (Module items places) = placed_stmts items.now places.now
