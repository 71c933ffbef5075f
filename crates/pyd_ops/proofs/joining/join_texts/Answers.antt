-- The length in bytes tells whether the text is within the limits, and its characters are those of both.
use Rattle.std.proofs.Common.{◌≡◌, ◌≤◌, ◌++◌, ◌∙◌, ap, sym, arith, length, length-append, string_bytes}
use Rattle.std.specs.Str.{chars}
use Rattle.std.proofs.lemmas.Str.{length-le-encodes}
use Rattle.pyd_value.specs.declared.value.Value.{Text}
use Rattle.pyd_value.specs.declared.fault.Outcome.TheVariants as Outcome
use Rattle.pyd_ops.specs.Answer.{outcome_of}
use Rattle.pyd_ops.proofs.Holding.{text_within, text_past, length_joined, chars_joined}
use Rattle.pyd_ops.proofs.joining.join_texts.Goals as goal

pub returns-then-saturating_add-ge-LARGEST_SIZE : goal.returns-then-saturating_add-ge-LARGEST_SIZE
returns-then-saturating_add-ge-LARGEST_SIZE c =
    let l = length_joined c.args.s.now c.args.t.now c.as_str-first.result.now c.as_str-second.result.now c.as_str-first.ensures.bytes c.as_str-second.ensures.bytes in
    c.exceed.ensures ∙ ap outcome_of (sym (text_past _ _ (omega (arith, l))))

pub from_counted-requires : goal.from_counted-requires
from_counted-requires c =
    let joined : chars (string_bytes c.in_ok-joined.joined) ≡ c.args.s.now ++ c.args.t.now =
    ap chars c.in_ok-joined.ensures
    ∙ chars_joined c.args.s.now c.args.t.now c.as_str-first.result.now c.as_str-second.result.now c.as_str-first.utf8 c.as_str-first.ensures.characters c.as_str-second.ensures.characters in
    let first : length c.args.s.now ≤ length c.as_str-first.result.now =
    omega (arith, length-le-encodes c.args.s.now, ap length c.as_str-first.ensures.bytes) in
    let second : length c.args.t.now ≤ length c.as_str-second.result.now =
    omega (arith, length-le-encodes c.args.t.now, ap length c.as_str-second.ensures.bytes) in
    omega (arith, ap length joined, length-append c.args.s.now c.args.t.now, first, second)

pub returns : goal.returns
returns c =
    let joined : chars (string_bytes c.in_ok-joined.joined) ≡ c.args.s.now ++ c.args.t.now =
    ap chars c.in_ok-joined.ensures
    ∙ chars_joined c.args.s.now c.args.t.now c.as_str-first.result.now c.as_str-second.result.now c.as_str-first.utf8 c.as_str-first.ensures.characters c.as_str-second.ensures.characters in
    let l = length_joined c.args.s.now c.args.t.now c.as_str-first.result.now c.as_str-second.result.now c.as_str-first.ensures.bytes c.as_str-second.ensures.bytes in
    ap (λ s. Outcome.Ok (Text s)) (c.in_ok-text.ensures ∙ joined)
    ∙ ap outcome_of (sym (text_within (c.args.s.now ++ c.args.t.now) c.args.line (omega (arith, l))))
