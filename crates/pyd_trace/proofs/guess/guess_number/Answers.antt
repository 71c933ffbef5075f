use Rattle.std.proofs.Common.{sym, ◌∙◌}
use Rattle.pyd_trace.proofs.Digits.{digits_of_number}
use Rattle.pyd_trace.proofs.guess.guess_number.Goals as goal

pub returns : goal.returns
returns c number rest fits ends is =
    let cut = c.cut_digits.ensures in
    let same = digits_of_number number c.cut_digits.result.0.now c.cut_digits.result.1.now rest fits cut.digits_are cut.ends ends (sym cut.whole ∙ is) in
    (c.number_of.ensures number fits same.0, same.1)
