use Rattle.std.proofs.Common.{refl}
use Rattle.pyd_boards_tests.specs.Fixed.{view}
use Rattle.pyd_boards_tests.proofs.Answering.{stays_so, step_nothing}
use Rattle.pyd_boards_tests.proofs.fixed_board.FixedBoardBoard.step.Goals as goal

-- nothing is appended
pub returns-then-is_some-clause-goes_on : goal.returns-then-is_some-clause-goes_on
returns-then-is_some-clause-goes_on c =
    stays_so (view c.args.self.now) (view c.args.self.now) c.args.who.seat refl

pub returns-else-is_some-clause-goes_on : goal.returns-else-is_some-clause-goes_on
returns-else-is_some-clause-goes_on c =
    stays_so (view c.args.self.now) (view c.args.self.now) c.args.who.seat refl

-- and nothing can be done
pub returns-else-is_some-clause-answer : goal.returns-else-is_some-clause-answer
returns-else-is_some-clause-answer c = step_nothing (view c.args.self.now) c.args.who (cc (c.is_some.ensures, c.if-is_some.false))
