use Rattle.std.proofs.Common.{refl}
use Rattle.pyd_board.proofs.Extending.{appended_by}
use Rattle.pyd_board.proofs.journal.Journal.append.Goals as goal

pub returns-clause-extends : goal.returns-clause-extends
returns-clause-extends c = appended_by c.args.by c.args.self.now.events.items c.push.new.self.items _ refl c.in_ok-push.ensures.items
