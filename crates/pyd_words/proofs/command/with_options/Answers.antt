use Rattle.std.proofs.Common.{◌≡◌, ◌∙◌, ℕ, ◌+◌, ◌<◌, List, length, take, get_or, fold, ap, sym}
use Rattle.std.proofs.lemmas.List.Sums.{fold_more}
use Rattle.clap.specs.Words.{App, app_of, with_rule}
use Rattle.pyd_words.specs.declared.options.Choice.{Choice as ChoiceRow}
use Rattle.pyd_words.specs.Command.{with_choice, option_rule}
use Rattle.pyd_words.specs.Options.{Text, name_of}
use Rattle.pyd_words.specs.Rows.{choice_of}
use Rattle.pyd_words.proofs.command.with_options.Goals as goal

-- one option more
abbrev with_row : App → ChoiceRow → App
with_row app o = with_choice app (choice_of o)

-- a command with the options up to a place has one more, once the option at that place is added
one_more : (bare now after : App) (os : List ChoiceRow) (i : ℕ) (d : ChoiceRow) (name : Text) → now ≡ fold with_row bare (take i os)
    → after ≡ with_rule now (option_rule name) → name ≡ name_of (choice_of (get_or os i d)) → i < length os
    → after ≡ fold with_row bare (take (i + 1) os)
one_more bare now after os i d name so_far added named there =
    added
    ∙ ap (λ n. with_rule now (option_rule n)) named
    ∙ ap (λ app. with_row app (get_or os i d)) so_far
    ∙ sym (fold_more with_row bare os i d there)

pub loop-option-preserved : goal.loop-option-preserved
loop-option-preserved c =
    one_more (app_of c.args.command) _ _ c.args.options.now c.loop-option.option-index _ _ c.loop-option.invariant c.in_ok-command.ensures c.name.ensures c.loop-option-test.true
