use Rattle.pyd_translate.proofs.BindingFlows.{operation_made, operation_stopped}
use Rattle.pyd_translate.proofs.assignments.augmented.Goals as goal

pub returns-in-Some : goal.returns-in-Some
returns-in-Some c =
    operation_made c.args.at.now c.context-context.result c.args.name.now c.args.op c.args.e.now c.args.env.now _ _ _ _ _ _ _ _
    c.context-context.ensures.context c.context-context.ensures.file
    (rw c.in-Some.is at c.in_ok-left.ensures) c.build_operation-made.ensures

pub returns-in-None : goal.returns-in-None
returns-in-None c =
    operation_stopped c.args.at.now c.context-context.result c.args.name.now c.args.op c.args.e.now c.args.env.now _ _ _ _
    c.context-context.ensures.context c.context-context.ensures.file
    (rw c.in-None.is at c.in_ok-left.ensures)
