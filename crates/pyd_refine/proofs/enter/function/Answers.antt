use Rattle.pyd_translate.proofs.RoutineParts.{routine_of_function}
use Rattle.pyd_refine.proofs.enter.function.Goals as goal

pub returns : goal.returns
returns c =
    routine_of_function c.args.program.now.file _ _ _ c.args.program.now.its_routines c.if-number-eq0.false c.get.ensures.item
