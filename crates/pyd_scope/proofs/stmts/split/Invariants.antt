-- The places that are left have all the statements.
use Rattle.std.proofs.Common.{◌≡◌, drop}
use Rattle.pyd_scope.specs.Blocks.{placed_stmts}
use Rattle.pyd_scope.proofs.stmts.split.Given as goal

abbrev pub invariant-loop-at : goal.invariant-loop-at
invariant-loop-at l = placed_stmts l.items (drop l.at l.places) ≡ placed_stmts l.items l.places
