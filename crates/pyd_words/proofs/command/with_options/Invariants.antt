use Rattle.std.proofs.Common.{◌≡◌, take, fold}
use Rattle.clap.specs.Words.{app_of}
use Rattle.pyd_words.specs.Command.{with_choice}
use Rattle.pyd_words.specs.Rows.{choice_of}
use Rattle.pyd_words.proofs.command.with_options.Given as goal

abbrev pub invariant-loop-option : goal.invariant-loop-option
invariant-loop-option l = app_of l.command ≡ fold (λ app o. with_choice app (choice_of o)) (app_of l.fn.command) (take l.option-index l.options)
