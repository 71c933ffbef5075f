use Rattle.pyd_translate.proofs.passages.again.Goals as goal

pub returns-in-Ok : goal.returns-in-Ok
returns-in-Ok c = rw c.in-Ok.ensures at c.build_last.ensures
