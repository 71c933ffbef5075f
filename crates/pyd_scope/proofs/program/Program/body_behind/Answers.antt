use Rattle.std.proofs.Common.{ap, sym, drop, List, ℕ, ◌∙◌}
use Rattle.pyd_scope.specs.Blocks.{placed_stmts}
use Rattle.pyd_scope.specs.Indexing.{Indexed}
use Rattle.pyd_scope.specs.Numbering.{body}
use Rattle.pyd_scope.proofs.PlacesFound.{statements_found}
use Rattle.pyd_scope.proofs.program.Program.body_behind.Goals as goal

pub returns-then-routine-eq0 : goal.returns-then-routine-eq0
returns-then-routine-eq0 c =
    c.of_module.ensures
    ∙ ap (λ (places : List ℕ). placed_stmts c.args.self.now.file.items (drop c.args.count places))
    (c.statements.ensures ∙ ap (λ (x : Indexed). x.statements) c.args.self.now.its_index)
    ∙ statements_found c.args.self.now.file c.args.count
    ∙ ap (λ (r : ℕ). drop c.args.count (body c.args.self.now.file r)) (sym c.if-routine-eq0.true)
