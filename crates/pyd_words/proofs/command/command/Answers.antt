use Rattle.std.proofs.Common.{◌∙◌, ap, fold}
use Rattle.std.proofs.lemmas.Result.{IfOk-weaker}
use Rattle.pyd_words.specs.Command.{app, with_choice}
use Rattle.pyd_words.specs.Options.{options}
use Rattle.pyd_words.proofs.command.command.Goals as goal

pub returns : goal.returns
unfolding app
returns c = IfOk-weaker c.with_options.result _ _ (λ command h. h ∙ ap (λ a. fold with_choice a options) c.in_ok-command.ensures) c.with_options.ensures
