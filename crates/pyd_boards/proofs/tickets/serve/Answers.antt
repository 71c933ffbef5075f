use Rattle.std.proofs.Common.{sym, subst}
use Rattle.pyd_boards.specs.Boards.{HoldsJob}
use Rattle.pyd_boards.specs.Calls.{Finishes}
use Rattle.pyd_board.proofs.Extending.{by_trans}
use Rattle.pyd_boards.proofs.Claiming.{claimed_is_held, completes}
use Rattle.pyd_boards.proofs.tickets.serve.Goals as goal

pub run_and_finish-requires-clause-held : goal.run_and_finish-requires-clause-held
run_and_finish-requires-clause-held g c =
    let events = (g.B.Kept.history c.claim.new.self).events in
    subst (λ name. HoldsJob (g.B.Board.facts name) c.args.who c.in-Ok-Job.job events) (sym c.in-Ok-Job.ensures.name) (claimed_is_held (rw c.in-Ok-Job.field-0-is at c.in-Ok-Job.ensures.answer))

pub returns-in_err-run_and_finish-in-Ok-Job-clause-by :
    goal.returns-in_err-run_and_finish-in-Ok-Job-clause-by
returns-in_err-run_and_finish-in-Ok-Job-clause-by g c =
    by_trans c.args.who.seat _ _ _ c.in-Ok-Job.ensures.goes_on.extends c.in_err-run_and_finish-in-Ok-Job.ensures.by

pub returns-in_ok-run_and_finish-in-Ok-Job-clause-by :
    goal.returns-in_ok-run_and_finish-in-Ok-Job-clause-by
returns-in_ok-run_and_finish-in-Ok-Job-clause-by g c =
    by_trans c.args.who.seat _ _ _ c.in-Ok-Job.ensures.goes_on.extends c.in_ok-run_and_finish-in-Ok-Job.ensures.by

-- the name stayed, so the finish is by the facts of the board as it was
pub returns-in_ok-run_and_finish-in-Ok-Job-clause-answer :
    goal.returns-in_ok-run_and_finish-in-Ok-Job-clause-answer
returns-in_ok-run_and_finish-in-Ok-Job-clause-answer g c =
    let between = g.B.Kept.history c.claim.new.self in
    let after = g.B.Kept.history c.run_and_finish.new.board in
    let answer = c.in_ok-run_and_finish-in-Ok-Job.field-0 in
    completes (rw c.in-Ok-Job.field-0-is at c.in-Ok-Job.ensures.answer)
    (subst (λ name. (held : HoldsJob (g.B.Board.facts name) c.args.who c.in-Ok-Job.job between.events) → Finishes (g.B.Board.facts name) (g.B.Board.may_come name) held.claim c.args.who between answer after)
    c.in-Ok-Job.ensures.name c.in_ok-run_and_finish-in-Ok-Job.ensures.answer)
