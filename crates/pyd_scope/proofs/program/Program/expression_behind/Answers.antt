use Rattle.std.proofs.Common.{sym}
use Rattle.pyd_scope.proofs.Looking.{found_end, no_end}
use Rattle.pyd_scope.proofs.program.Program.expression_behind.Goals as goal

pub returns-in-Some : goal.returns-in-Some
returns-in-Some c =
    sym (found_end c.args.self.now.file c.args.routine c.args.number c.in-Some.cell (sym c.in-Some.ensures))

pub returns-in-None : goal.returns-in-None
returns-in-None c =
    sym (no_end c.args.self.now.file c.args.routine c.args.number (sym c.in-None.ensures))
