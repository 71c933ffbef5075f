use Rattle.pyd_translate.proofs.statements.build_header.Goals as goal

pub returns : goal.returns
returns c = rw (c.context.ensures.context, c.context.ensures.file) at c.build.ensures
