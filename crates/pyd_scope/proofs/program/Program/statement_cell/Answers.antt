use Rattle.std.proofs.Common.{ap, ◌∙◌}
use Rattle.pyd_scope.specs.Indexing.{Indexed, statement_cell}
use Rattle.pyd_scope.proofs.Looking.{statement_at}
use Rattle.pyd_scope.proofs.program.Program.statement_cell.Goals as goal

pub returns : goal.returns
returns c =
    c.statement.ensures
    ∙ ap (λ (x : Indexed). statement_cell x.routines c.args.routine c.args.statement) c.args.self.now.its_index
    ∙ statement_at c.args.self.now.file c.args.routine c.args.statement
