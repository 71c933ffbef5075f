use Rattle.std.proofs.Common.{refl}
use Rattle.pyd_boards_tests.specs.Fixed.{view}
use Rattle.pyd_boards_tests.proofs.Answering.{answers_claims, answers_go_on, if_job, stays_so}
use Rattle.pyd_boards_tests.proofs.fixed_board.FixedBoardBoard.claim.Goals as goal

pub returns-in-Ok-clause-goes_on : goal.returns-in-Ok-clause-goes_on
returns-in-Ok-clause-goes_on c =
    answers_go_on (view c.args.self.now) c.args.ticket c.args.who c.in-Ok.answer
    (view c.answer.new.self) c.in-Ok.ensures.ok

pub returns-in-Ok-clause-answer : goal.returns-in-Ok-clause-answer
returns-in-Ok-clause-answer c =
    answers_claims (view c.args.self.now) c.args.ticket c.args.who c.in-Ok.answer
    (view c.answer.new.self) c.in-Ok.ensures.ok

-- each job is of the one run
pub returns-in-Ok-clause-fits : goal.returns-in-Ok-clause-fits
returns-in-Ok-clause-fits c = if_job c.in-Ok.answer _ (λ job. (_, refl, tt))

-- nothing is appended
pub returns-in-Err-clause-goes_on : goal.returns-in-Err-clause-goes_on
returns-in-Err-clause-goes_on c =
    stays_so (view c.args.self.now) (view c.answer.new.self) c.args.who.seat c.in-Err.ensures.same
