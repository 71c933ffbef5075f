use Rattle.std.proofs.Common.{◌≡◌, ◌∙◌, ◌==◌, not, true, length, map, ap, sym, subst, refl}
use Rattle.clap.specs.Words.{App, HasKind, fault_of, is_simple, is_simple_and_free, matches_of}
use Rattle.clap.proofs.OnLiterals.{clap_on_literals}
use Rattle.pyd_words.specs.Command.{app, bare_app, mode_rule, option_rule}
use Rattle.pyd_words.proofs.Stops.{stops_line}
use Rattle.pyd_words.proofs.command.matches.Goals as goal

-- the command has no settings that change how words are read, and no argument has a rule on another
app_is_simple : is_simple app ≡ true
unfolding clap_on_literals app bare_app mode_rule option_rule
app_is_simple = refl

app_is_free : is_simple_and_free app ≡ true
unfolding clap_on_literals app bare_app mode_rule option_rule
app_is_free = refl

pub returns-in-Ok-clause-taken : goal.returns-in-Ok-clause-taken
returns-in-Ok-clause-taken c =
    let same = c.in_ok-command.ensures in
    let words = map (λ z. z.now) c.args.all.now in
    let none = c.in-Ok.ensures.kinds (ap is_simple_and_free same ∙ app_is_free) in
    ap (λ kinds. not (length kinds == 0)) (ap (λ a. fault_of a words) (sym same) ∙ none)

pub returns-in-Ok-clause-rows : goal.returns-in-Ok-clause-rows
returns-in-Ok-clause-rows c =
    let same = c.in_ok-command.ensures in
    (c.in-Ok.ensures.matches (ap is_simple same ∙ app_is_simple)).0 ∙ ap (λ a. matches_of a (map (λ z. z.now) c.args.all.now)) same

pub returns-in-Err-clause-err : goal.returns-in-Err-clause-err
returns-in-Err-clause-err c =
    let same = c.in_ok-command.ensures in
    let words = map (λ z. z.now) c.args.all.now in
    let kind = c.in-Err.ensures.kinds (ap is_simple_and_free same ∙ app_is_free) in
    stops_line (fault_of app words) c.in-Err.error c.stop_of.result
    (subst (λ (a : App). HasKind (fault_of a words) c.in-Err.error) same kind) c.stop_of.ensures
