use Rattle.std.proofs.Common.{◌∙◌, ap, sym}
use Rattle.std.proofs.lemmas.Str.{IsUtf8-past_char, chars_past_char}
use Rattle.pyd_text.specs.Quoting.{has}
use Rattle.pyd_text.proofs.Counting.{chars_of_empty}
use Rattle.pyd_text.proofs.Quotes.{has_first, has_later}
use Rattle.pyd_text.proofs.quoting.has.Goals as goal

pub returns-then-d-c : goal.returns-then-d-c
returns-then-d-c c =
    let left = c.loop-d.invariant in
    let step = chars_past_char _ _ c.in-Some.d left.text c.in-Some.ensures.steps.0 in
    sym (has_first c.args.c c.in-Some.d _ _ step c.if-d-c.true) ∙ left.same

pub loop-d-preserved : goal.loop-d-preserved
loop-d-preserved c =
    let left = c.loop-d.invariant in
    let step = chars_past_char _ _ c.in-Some.d left.text c.in-Some.ensures.steps.0 in
    record {
      text = IsUtf8-past_char _ _ c.in-Some.d left.text c.in-Some.ensures.steps.0;
      same = has_later c.args.c c.in-Some.d _ _ step c.if-d-c.false ∙ left.same;
    }

pub returns : goal.returns
returns c =
    ap (has c.args.c) (sym (chars_of_empty _ c.in-None.ensures.steps.0.0)) ∙ c.loop-d.invariant.same
