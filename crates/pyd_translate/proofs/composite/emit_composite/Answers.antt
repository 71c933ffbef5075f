use Rattle.pyd_translate.proofs.composite.emit_composite.Goals as goal

pub returns-in-Ok : goal.returns-in-Ok
returns-in-Ok c =
    rw (c.work-work.ensures, c.in-Ok.ensures, c.context.ensures.context) at c.emit.ensures
