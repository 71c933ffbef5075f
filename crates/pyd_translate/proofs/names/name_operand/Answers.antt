use Rattle.pyd_scope.proofs.Resolved.{slots}
use Rattle.pyd_translate.specs.Drafts.{context_of, file_of}
use Rattle.pyd_translate.proofs.Arms.{made_so}
use Rattle.pyd_translate.proofs.Operands.{named_local, named_nothing, constant_made, other_form}
use Rattle.pyd_translate.proofs.names.name_operand.Goals as goal

pub returns-in-Slot : goal.returns-in-Slot
returns-in-Slot c =
    made_so _ _ _ _ _ _ _
    (named_local (file_of c.args.at.now) c.args.name.now (context_of c.args.at.now) _ c.in-Slot.slot (rw c.in-Slot.is at c.resolve.ensures.resolution)
    (slots (file_of c.args.at.now) _ _ c.args.at.now.program.now.its_routines) (c.resolve.ensures.slot _ c.in-Slot.is))
    c.slot_operand.ensures

pub returns-in_ok-try_copy-in-Constant : goal.returns-in_ok-try_copy-in-Constant
returns-in_ok-try_copy-in-Constant c =
    constant_made (file_of c.args.at.now) c.args.name.now (context_of c.args.at.now) _ _ _ _ (rw c.in-Constant.is at c.resolve.ensures.resolution) c.in_ok-try_copy-in-Constant.ensures

pub returns-in_ok-stop_by-in-Routine : goal.returns-in_ok-stop_by-in-Routine
returns-in_ok-stop_by-in-Routine c =
    other_form _ _ _ _ _ (named_nothing (file_of c.args.at.now) c.args.name.now (context_of c.args.at.now) c.resolve.result c.resolve.ensures.resolution c.in-Routine.is) c.in_ok-stop_by-in-Routine.ensures
