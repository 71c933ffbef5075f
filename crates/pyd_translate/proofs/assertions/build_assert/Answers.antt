use Rattle.pyd_translate.proofs.Onto.{onto_none}
use Rattle.pyd_translate.specs.Flows.{header_at, raised_at}
use Rattle.pyd_translate.proofs.BindingFlows.{asserted_binds, binds_stopped}
use Rattle.pyd_translate.proofs.assertions.build_assert.Goals as goal

pub returns-in_ok-build_asserted-in-Some : goal.returns-in_ok-build_asserted-in-Some
returns-in_ok-build_asserted-in-Some c =
    asserted_binds _ _ _ (header_at c.args.at.now c.args.test.now c.args.env.now)
    (λ value. raised_at c.args.at.now c.args.test.now c.args.message.now value c.args.env.now) _ _
    (rw c.in-Some.is at c.in_ok-value.ensures) c.in_ok-build_asserted-in-Some.ensures

pub returns-in-None : goal.returns-in-None
returns-in-None c =
    binds_stopped _ _ _ _ (onto_none _ _ _ _ _ _ (rw c.in-None.is at c.in_ok-value.ensures))
