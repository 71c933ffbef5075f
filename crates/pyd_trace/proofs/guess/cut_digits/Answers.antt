use Rattle.std.proofs.Common.{sym}
use Rattle.std.proofs.lemmas.List.{take-append-drop}
use Rattle.pyd_trace.proofs.Digits.{digits_take, no_digit_drop}
use Rattle.pyd_trace.proofs.guess.cut_digits.Goals as goal

pub returns : goal.returns
returns c = rw (c.split_at.ensures.front, c.split_at.ensures.back) (record {
  whole = sym (take-append-drop c.digit_count.result c.args.bytes.now);
  digits_are = digits_take c.digit_count.result c.args.bytes.now c.digit_count.ensures.within c.digit_count.ensures.digits;
  ends = no_digit_drop c.digit_count.result c.args.bytes.now c.digit_count.ensures.ends;
})
