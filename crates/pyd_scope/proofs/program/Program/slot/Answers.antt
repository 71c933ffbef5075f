use Rattle.pyd_scope.proofs.Few.{few_slots}
use Rattle.pyd_scope.proofs.program.Program.slot.Goals as goal

pub place-requires : goal.place-requires
place-requires c =
    few_slots c.args.self.now.file c.args.self.now.routines c.args.routine c.in_ok-routine.routine.now c.as_slice.result.now
    c.args.self.now.well_formed c.args.self.now.its_routines c.in_ok-routine.ensures.item c.as_slice.ensures
