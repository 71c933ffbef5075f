use Rattle.std.proofs.Common.{rules, ◌≡◌, ◌∙◌, ap}
use Rattle.std.proofs.lemmas.Result.{IfOk-weaker}
use Rattle.clap.specs.Words.{app_of, rule_of, with_rule}
use Rattle.pyd_words.specs.Command.{option_rule}
use Rattle.pyd_words.proofs.command.with_option.Goals as goal

pub returns : goal.returns
unfolding option_rule
returns c =
    let option_is : rule_of c.long.result ≡ option_rule c.args.name.now = search rules in
    IfOk-weaker c.arg.result _ _ (λ command h. h.shape (search rules) ∙ ap (with_rule (app_of c.args.command)) option_is) c.arg.ensures
