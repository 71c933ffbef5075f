use Rattle.pyd_translate.specs.Flows.{header_at, last_at}
use Rattle.pyd_translate.specs.declared.composite.Composite.TheVariants.{While}
use Rattle.pyd_translate.proofs.StatementFlows.{made_behind, then_none}
use Rattle.pyd_translate.proofs.Onto.{onto_pure}
use Rattle.std.proofs.Common.{◌∙◌}
use Rattle.pyd_translate.proofs.passages.again_while.Goals as goal

pub returns-in-Some : goal.returns-in-Some
returns-in-Some c =
    made_behind _ _ _ _ _ _ _ c.args.env.now.items _ (header_at c.args.at.now c.args.test.now c.args.env.now.items) _
    (λ control. last_at c.args.at.now (While c.args.turns) control c.args.env.now.items c.args.at.now.rest.now)
    (rw (c.in-Some.is, c.as_slice.ensures.value) at c.in_ok-control.ensures) c.again.ensures

pub returns-in-None : goal.returns-in-None
returns-in-None c =
    then_none _ _ _ _ _ _ _ (rw (c.in-None.is, c.as_slice.ensures.value) at c.in_ok-control.ensures) ∙ onto_pure _ _ _
