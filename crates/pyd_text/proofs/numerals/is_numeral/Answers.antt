-- What is neither a digit nor an underscore behind one makes no numeral.
use Rattle.std.proofs.Common.{◌∙◌, ◌+◌, drop, get_or, sym, ap}
use Rattle.std.proofs.lemmas.List.{drop_more}
use Rattle.pyd_text.proofs.Digits.{state, state_first, state_other}
use Rattle.pyd_text.proofs.numerals.is_numeral.Goals as goal
use Rattle.pyd_text.proofs.numerals.is_numeral.Goals.{else-c-eq95-via-then-c-eq95+else-after_digit, else-c-eq95-via-else-c-eq95}

pub returns-else-c-eq95 : goal.returns-else-c-eq95
returns-else-c-eq95 c =
    let s = c.args.s.now in
    let i = c.loop-c.c-index in
    let first = drop_more s i 0 c.loop-c-test.true in
    elim c.else-c-eq95.branch [
      | else-c-eq95-via-then-c-eq95+else-after_digit w ↦
          sym (ap (λ b. state b (drop i s)) w.if-after_digit.false
          ∙ state_first (get_or s i 0) (drop (i + 1) s) (drop i s) first w.if-c-eq95.true)
          ∙ c.loop-c.invariant
      | else-c-eq95-via-else-c-eq95 w ↦
          sym (state_other c.loop-c.after_digit (get_or s i 0) (drop (i + 1) s) (drop i s) first
          (sym c.is_ascii_digit.ensures.value ∙ c.if-is_ascii_digit.false) w.if-c-eq95.false)
          ∙ c.loop-c.invariant
    ]
