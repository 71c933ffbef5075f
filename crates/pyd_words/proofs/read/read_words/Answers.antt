use Rattle.std.proofs.Common.{◌≡◌, ◌∙◌, List, Err, if◌then◌else◌, map, string_bytes, ap, sym}
use Rattle.clap.specs.Words.{matches_of}
use Rattle.pyd_words.specs.declared.fault.WordsFault.TheVariants.{Line}
use Rattle.pyd_words.specs.Options.{Text}
use Rattle.pyd_words.specs.Command.{all_words, app, given, has_fault}
use Rattle.pyd_words.specs.Words.{plan, words}
use Rattle.pyd_words.proofs.Steps.{line_stopped, otherwise, same_answer}
use Rattle.pyd_words.proofs.read.read_words.Goals as goal

pub returns-in_err-matches : goal.returns-in_err-matches
unfolding words
returns-in_err-matches c =
    let ws = map string_bytes c.args.words.now in
    let same : map (λ z. z.now) c.as_slice.result.now ≡ all_words ws = ap (map (λ z. z.now)) c.as_slice.ensures.value ∙ c.in_ok-all.ensures in
    same_answer _ _ _ (ap (λ (all : List Text). if has_fault all then Err Line else plan (given ws)) same)
    (line_stopped _ _ _ _ c.in_err-matches.ensures.err c.from_residual-in_err-matches.ensures.1)

pub returns : goal.returns
unfolding words
returns c =
    let ws = map string_bytes c.args.words.now in
    let same : map (λ z. z.now) c.as_slice.result.now ≡ all_words ws = ap (map (λ z. z.now)) c.as_slice.ensures.value ∙ c.in_ok-all.ensures in
    let taken = sym c.in_ok-matches.ensures.taken ∙ ap has_fault same in
    same_answer _ _ _ (ap plan (c.in_ok-matches.ensures.rows ∙ ap (matches_of app) same) ∙ otherwise _ _ _ taken) c.plan.ensures
