use Rattle.std.proofs.Common.{Some, sym, ap, ◌∙◌}
use Rattle.pyd_board.proofs.Extending.{extends_itself}
use Rattle.pyd_boards.proofs.tickets.run_and_finish.Goals as goal

-- a claim of the job is one of the job that was answered
pub returns-in-Ok-finish-clause-answer : goal.returns-in-Ok-finish-clause-answer
returns-in-Ok-finish-clause-answer g c held = c.in-Ok-finish.ensures.answer (record {
  claim = held.claim;
  holds = held.holds;
  has_job = held.has_job ∙ ap Some (sym c.in-Ok.ensures.ok);
})

pub returns-in-Err-clause-by : goal.returns-in-Err-clause-by
returns-in-Err-clause-by g c = (extends_itself c.args.who.seat (g.B.Kept.history c.args.board.now))
