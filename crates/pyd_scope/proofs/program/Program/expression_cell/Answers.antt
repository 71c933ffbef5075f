use Rattle.std.proofs.Common.{ap, ◌∙◌}
use Rattle.pyd_scope.specs.Indexing.{Indexed, expression_cell}
use Rattle.pyd_scope.proofs.Looking.{expression_at}
use Rattle.pyd_scope.proofs.program.Program.expression_cell.Goals as goal

pub returns : goal.returns
returns c =
    c.expression.ensures
    ∙ ap (λ (x : Indexed). expression_cell x.routines c.args.routine c.args.number) c.args.self.now.its_index
    ∙ expression_at c.args.self.now.file c.args.routine c.args.number
