use Rattle.pyd_translate.proofs.Onto.{onto_none}
use Rattle.pyd_translate.specs.Statements.{assigned}
use Rattle.pyd_translate.specs.Flows.{header_at, context_at, file_in}
use Rattle.pyd_translate.proofs.BindingFlows.{binds_then, binds_stopped}
use Rattle.pyd_translate.proofs.assignments.build_assign.Goals as goal

pub returns-in-Some : goal.returns-in-Some
returns-in-Some c =
    binds_then _ _ _ _ (header_at c.args.at.now c.args.e.now c.args.env.now.items)
    (λ a. assigned (file_in c.args.at.now.setting) c.args.targets.now (context_at c.args.at.now c.args.env.now.items) a) _ _ _
    (rw (c.in-Some.is, c.as_slice.ensures.value) at c.in_ok-value.ensures) c.bind_targets.ensures

pub returns-in-None : goal.returns-in-None
returns-in-None c =
    binds_stopped _ _ _ _ (onto_none _ _ _ _ _ _ (rw (c.in-None.is, c.as_slice.ensures.value) at c.in_ok-value.ensures))
