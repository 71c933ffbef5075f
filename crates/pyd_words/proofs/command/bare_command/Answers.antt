use Rattle.std.proofs.Common.{rules, ◌≡◌, ◌∙◌, ap₂}
use Rattle.std.proofs.lemmas.Result.{IfOk-weaker}
use Rattle.clap.specs.Words.{rule_of, with_rule}
use Rattle.pyd_words.specs.Command.{bare_app, mode_rule}
use Rattle.pyd_words.proofs.command.bare_command.Goals as goal

pub returns : goal.returns
unfolding bare_app mode_rule
returns c =
    let mode_is : rule_of c.required.result ≡ mode_rule = search rules in
    IfOk-weaker c.arg.result _ _ (λ command h. h.shape (search rules) ∙ ap₂ with_rule c.new.ensures.app mode_is) c.arg.ensures
