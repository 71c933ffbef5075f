-- The bytes of a text of ASCII are its characters.
use Rattle.std.proofs.Common.{◌≡◌, ◌∙◌, false, sym, ap, rules}
use Rattle.std.specs.List.{list_all}
use Rattle.pyd_ops.specs.Answer.{outcome_of}
use Rattle.pyd_text.specs.Numerals.{is_readable}
use Rattle.pyd_text.proofs.Digits.{not_readable, outside}
use Rattle.pyd_text.proofs.numerals.int_of_text.Goals as goal
use Rattle.pyd_text.proofs.numerals.int_of_text.Goals.{else-is_ascii-via-then-is_ascii+else-are_readable, else-is_ascii-via-else-is_ascii}

pub returns-else-is_ascii : goal.returns-else-is_ascii
returns-else-is_ascii c =
    let s = c.args.text.now in
    let unread : list_all is_readable s ≡ false =
    elim c.else-is_ascii.branch [
      | else-is_ascii-via-then-is_ascii+else-are_readable w ↦
          ap (list_all is_readable) (sym (w.as_bytes.ensures.value ∙ w.as_str.ensures.bytes ∙ c.is_ascii.ensures.bytes (search (rules, w.if-is_ascii.true))))
          ∙ sym w.are_readable.ensures ∙ w.if-are_readable.false
      | else-is_ascii-via-else-is_ascii w ↦ not_readable s (sym c.is_ascii.ensures.value ∙ w.if-is_ascii.false)
    ] in
    c.exceed.ensures ∙ ap outcome_of (sym (outside s c.args.line unread))
