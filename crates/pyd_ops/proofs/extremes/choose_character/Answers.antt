-- The greatest or least character is the one that takes the place of all others.
use Rattle.std.proofs.Common.{◌≡◌, ◌∙◌, ap, sym, Some, map}
use Rattle.pyd_value.specs.declared.fault.Outcome.TheVariants as outcome
use Rattle.pyd_ops.specs.Answer.{outcome_of}
use Rattle.pyd_ops.specs.Sequence.{character}
use Rattle.pyd_ops.specs.Calls.{choose_item, replaces}
use Rattle.pyd_ops.proofs.Characters.{chosen, choose_greatest, choose_least}
use Rattle.pyd_ops.proofs.extremes.choose_character.Goals as goal
use Rattle.pyd_ops.proofs.extremes.choose_character.Goals.{in-Least, in-Greatest}

pub returns-in_ok-character-in-Some : goal.returns-in_ok-character-in-Some
returns-in_ok-character-in-Some c =
    let items = Some (map character c.args.s.now) in
    let e : choose_item (replaces c.args.which) items c.args.line ≡ chosen (Some c.in-Some.c) c.args.line =
    elim c.match-which.branch [
      | in-Least w ↦
          ap (λ x. choose_item (replaces x) items c.args.line) w.in-Least.is ∙ choose_least c.args.s.now c.args.line
          ∙ ap (λ o. chosen o c.args.line) (sym w.least-chosen.ensures ∙ sym w.chosen-is ∙ c.in-Some.is)
      | in-Greatest w ↦
          ap (λ x. choose_item (replaces x) items c.args.line) w.in-Greatest.is ∙ choose_greatest c.args.s.now c.args.line
          ∙ ap (λ o. chosen o c.args.line) (sym w.greatest-chosen.ensures ∙ sym w.chosen-is ∙ c.in-Some.is)
    ] in
    ap outcome.Ok c.in_ok-character-in-Some.ensures ∙ ap outcome_of (sym e)
