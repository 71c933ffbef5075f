use Rattle.std.proofs.Common.{sym, Some, None, arith}
use Rattle.pyd_scope.proofs.Looking.{no_statement, found_entry, found_behind, found_later}
use Rattle.pyd_scope.proofs.Measures.{block_less}
use Rattle.pyd_scope.proofs.program.Program.+places.Goals as goal

pub place-block_behind-requires : goal.place-block_behind-requires
place-block_behind-requires t c =
    let less =
    block_less c.in-Some.cell.suite c.args.statement
    (found_later c.args.self.now.file c.args.routine c.args.statement c.in-Some.cell
    (sym c.in-Some.ensures)) in
    omega (arith, less)

pub place-returns-in-None-clause-entry : goal.place-returns-in-None-clause-entry
place-returns-in-None-clause-entry t c =
    sym (no_statement c.args.self.now.file c.args.routine c.args.statement (sym c.in-None.ensures))

pub place-returns-in-None-block_behind-clause-entry : goal.place-returns-in-None-block_behind-clause-entry
place-returns-in-None-block_behind-clause-entry t c =
    found_entry c.args.self.now.file c.args.routine c.args.statement c.in-Some.cell None
    (sym c.in-Some.ensures) c.in-None-block_behind.ensures

pub place-returns-in-Some-block_behind-clause-entry : goal.place-returns-in-Some-block_behind-clause-entry
place-returns-in-Some-block_behind-clause-entry t c =
    found_entry c.args.self.now.file c.args.routine c.args.statement c.in-Some.cell
    (Some c.in-Some-block_behind.stmts) (sym c.in-Some.ensures) c.in-Some-block_behind.ensures

pub place-returns-in-Some-block_behind-clause-behind : goal.place-returns-in-Some-block_behind-clause-behind
place-returns-in-Some-block_behind-clause-behind t c =
    found_behind c.args.self.now.file c.args.routine c.args.statement c.in-Some.cell
    c.in-Some-block_behind.stmts (sym c.in-Some.ensures) c.in-Some-block_behind.ensures
