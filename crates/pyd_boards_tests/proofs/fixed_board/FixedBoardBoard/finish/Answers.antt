use Rattle.pyd_boards_tests.specs.Fixed.{view}
use Rattle.pyd_boards_tests.proofs.Answering.{finish_finishes, finish_goes_on, loses_none, stays_so}
use Rattle.pyd_boards_tests.proofs.fixed_board.FixedBoardBoard.finish.Goals as goal

pub returns-in-Ok-clause-goes_on : goal.returns-in-Ok-clause-goes_on
returns-in-Ok-clause-goes_on c =
    finish_goes_on (view c.args.self.now) (view c.keep.new.self) c.args.who c.args.done.job
    c.requires.held c.in-Ok.ensures.ok

-- what is answered is the same of each claim with this job
pub returns-in-Ok-clause-answer : goal.returns-in-Ok-clause-answer
returns-in-Ok-clause-answer c held =
    finish_finishes (view c.args.self.now) (view c.keep.new.self) c.args.who c.args.done.job held
    c.in-Ok.ensures.ok

-- nothing is appended
pub returns-in-Err-clause-goes_on : goal.returns-in-Err-clause-goes_on
returns-in-Err-clause-goes_on c =
    stays_so (view c.args.self.now) (view c.keep.new.self) c.args.who.seat c.in-Err.ensures.same

pub returns-in-Err-clause-memory : goal.returns-in-Err-clause-memory
returns-in-Err-clause-memory c held =
    loses_none (view c.args.self.now) (view c.keep.new.self) 0 c.in-Err.ensures.same
