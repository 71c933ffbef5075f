use Rattle.pyd_scope.proofs.Known.{known_found}
use Rattle.pyd_scope.proofs.program.Program.known.Goals as goal

pub returns : goal.returns
returns c =
    known_found c.args.self.now.file c.args.routine c.args.name.now c.args.self.now.tables c.in_ok-get.field-0.now c.find.result c.args.self.now.its_tables
    c.in_ok-get.ensures c.find.ensures
