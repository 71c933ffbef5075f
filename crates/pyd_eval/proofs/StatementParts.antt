-- How many parts a statement has, by its kind.
use Rattle.std.proofs.Common.{◌≡◌, ◌+◌, ap, ◌∙◌}
use Rattle.pyd_tree.specs.declared.statement.Stmt.{Stmt}
use Rattle.pyd_tree.specs.declared.statement.What.{What}
use Rattle.pyd_names.specs.WellFormed.{statement_parts, what_parts}
use Rattle.pyd_names.proofs.Parts.{statements_by_kind}

-- a statement counts beside what it does
pub kind_parts : (s : Stmt) (w : What) → s.what ≡ w → statement_parts s ≡ 1 + what_parts w
kind_parts s w is = statements_by_kind.statement s ∙ ap (λ x. 1 + what_parts x) is
