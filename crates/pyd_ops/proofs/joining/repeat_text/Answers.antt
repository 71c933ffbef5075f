-- The length in bytes tells whether the text is within the limits, and an empty text stays empty.
use Rattle.std.proofs.Common.{◌≡◌, ◌∙◌, ap, sym, subst, arith, IfOk, eqb-true, string_bytes}
use Rattle.std.specs.Str.{chars}
use Rattle.std.proofs.lemmas.List.{nil_from_length}
use Rattle.pyd_ops.specs.Answer.{outcome_of}
use Rattle.pyd_ops.specs.Joining.{text_value, text_if_fits}
use Rattle.std.specs.List.{repeat}
use Rattle.pyd_ops.proofs.Holding.{text_within, text_past, length_repeated, chars_repeated, empty_repeated}
use Rattle.pyd_ops.proofs.joining.repeat_text.Goals as goal

pub returns-then-is_empty : goal.returns-then-is_empty
returns-then-is_empty c =
    let e = nil_from_length _ (eqb-true _ _ (sym c.is_empty.ensures ∙ c.if-is_empty.true)) in
    let n : string_bytes c.new.result ≡ c.as_str-s.result.now = c.new.ensures.bytes ∙ sym e in
    subst (λ v. IfOk c.text_value.result (λ o. o ≡ outcome_of v))
    (ap (λ bs. text_value (chars bs)) n ∙ empty_repeated c.args.n c.args.line c.args.s.now c.as_str-s.result.now e c.as_str-s.ensures.characters)
    c.text_value.ensures

pub returns-then-saturating_mul : goal.returns-then-saturating_mul
returns-then-saturating_mul c =
    let l = length_repeated c.args.n c.args.s.now c.as_str-s.result.now c.as_str-s.ensures.bytes in
    c.exceed.ensures ∙ ap outcome_of (sym (text_past (repeat c.args.n c.args.s.now) c.args.line (omega (arith, l))))

pub returns : goal.returns
returns c =
    let l = length_repeated c.args.n c.args.s.now c.as_str-s.result.now c.as_str-s.ensures.bytes in
    let e : text_value (chars (string_bytes c.in_ok-repeated.repeated)) ≡ text_if_fits (repeat c.args.n c.args.s.now) c.args.line =
    ap (λ bs. text_value (chars bs)) c.in_ok-repeated.ensures
    ∙ ap text_value (chars_repeated c.args.n c.args.s.now c.as_str-s.result.now c.as_str-s.utf8 c.as_str-s.ensures.characters)
    ∙ sym (text_within (repeat c.args.n c.args.s.now) c.args.line (omega (arith, l))) in
    subst (λ v. IfOk c.text_value-2.result (λ o. o ≡ outcome_of v)) e c.text_value-2.ensures
