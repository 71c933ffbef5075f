-- The statement of a number, with those that follow it in its block.
use Rattle.std.specs.Prelude.{ℕ, List, [], Option, Some, None}
use Rattle.std.specs.List.{slice_get}
use Rattle.pyd_tree.specs.declared.statement.Stmt.{Stmt}
use Rattle.pyd_tree.specs.declared.file.File.{File}
use Rattle.pyd_scope.specs.Numbering.{Entry, Point, point, table}

-- statements of one block that begin at a place
pub record Passage : Type 0 where
  pub stmts : List Stmt
  pub point : Point

-- the statements of an entry with this number; a number that has none names no statement
abbrev pub entry_passage : Option Entry → ℕ → Passage
entry_passage (Some e) k = record { stmts = e.stmts; point = point k e.expression }
entry_passage None k = record { stmts = []; point = point k 0 }

-- statement k of a routine, with those that follow it in its block
abbrev pub passage_at : File → ℕ → ℕ → Passage
passage_at file routine k = entry_passage (slice_get (table file routine) k) k
