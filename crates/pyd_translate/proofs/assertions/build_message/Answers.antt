use Rattle.pyd_translate.specs.Drafts.{context_of}
use Rattle.pyd_translate.proofs.BindingFlows.{message_passes, no_message}
use Rattle.pyd_translate.proofs.assertions.build_message.Goals as goal

pub returns-in_ok-choose-in-Some : goal.returns-in_ok-choose-in-Some
returns-in_ok-choose-in-Some c =
    message_passes c.args.at.now c.args.test.now c.args.message.now c.args.value.now c.args.env.now _ _ _ _ _ _ (context_of c.context.result)
    c.in-Some.is c.in_ok-copy-in-Some.ensures c.context.ensures.context c.in_ok-behind-in-Some.ensures
    c.in_ok-choose-in-Some.ensures

pub returns-in-None : goal.returns-in-None
returns-in-None c =
    no_message c.args.at.now c.args.test.now c.args.message.now c.args.value.now c.args.env.now _ c.in-None.is
