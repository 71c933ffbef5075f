use Rattle.std.proofs.Common.{◌∙◌, ◌+◌, ◌-◌, ◌*◌, ◌^◌, min, drop, get_or, sym, ap, arith}
use Rattle.std.specs.Prelude.{filter}
use Rattle.std.specs.Char.{is_ascii_digit}
use Rattle.std.specs.Str.Parse.{digits_value_after}
use Rattle.std.proofs.lemmas.List.{drop_more}
use Rattle.pyd_text.proofs.Digits.{digit_more, digit_none}
use Rattle.pyd_text.proofs.numerals.numeral_value.Goals as goal
use Rattle.pyd_text.proofs.numerals.numeral_value.Goals.{then-is_ascii_digit, else-is_ascii_digit}

pub loop-c-preserved : goal.loop-c-preserved
loop-c-preserved c =
    let s = c.args.s.now in
    let i = c.loop-c.c-index in
    let most = 2 ^ 128 - 1 in
    let first = drop_more s i 0 c.loop-c-test.true in
    let left = c.loop-c.invariant in
    elim c.if-is_ascii_digit.branch [
      | then-is_ascii_digit w ↦
          record {
            fits = omega arith;
            same = digit_more most c.loop-c.n c.if-is_ascii_digit.n (get_or s i 0) _ (drop (i + 1) s) (drop i s) first
                (sym c.is_ascii_digit.ensures.value ∙ w.if-is_ascii_digit.true)
                (w.n-is ∙ w.saturating_add-n.ensures
                ∙ ap (λ n. min (n + w.from.result) most) w.saturating_mul.ensures
                ∙ ap (λ d. min (min (c.loop-c.n * 10) most + d) most) w.from.ensures)
                left.same;
          }
      | else-is_ascii_digit w ↦
          record {
            fits = omega arith;
            same = ap (λ n. min (digits_value_after 10 n (filter is_ascii_digit (drop (i + 1) s))) most) w.n-is
                ∙ digit_none most c.loop-c.n (get_or s i 0) _ (drop (i + 1) s) (drop i s) first
                (sym c.is_ascii_digit.ensures.value ∙ w.if-is_ascii_digit.false) left.same;
          }
    ]
