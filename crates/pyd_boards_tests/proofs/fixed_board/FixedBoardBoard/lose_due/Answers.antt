use Rattle.std.proofs.Common.{refl}
use Rattle.pyd_boards_tests.specs.Fixed.{view}
use Rattle.pyd_boards_tests.proofs.Answering.{stays_so}
use Rattle.pyd_boards_tests.proofs.fixed_board.FixedBoardBoard.lose_due.Goals as goal

-- nothing is appended
pub returns-clause-goes_on : goal.returns-clause-goes_on
returns-clause-goes_on c = stays_so (view c.args.self.now) (view c.args.self.now) c.args.who.seat refl
