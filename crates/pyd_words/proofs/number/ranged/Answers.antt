use Rattle.std.proofs.Common.{sym, arith}
use Rattle.pyd_words.specs.Rows.{numeral_of}
use Rattle.pyd_words.proofs.Digits.{beyond}
use Rattle.pyd_words.proofs.number.ranged.Goals as goal

pub returns-in-Err-clause-value : goal.returns-in-Err-clause-value
returns-in-Err-clause-value c =
    beyond (numeral_of c.args.option) c.args.text.now c.in-Err.field-0 c.in-Err.ensures.value.0 (sym c.if-not-is_digits.ensures) (omega arith)
