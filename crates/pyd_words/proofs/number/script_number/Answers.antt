use Rattle.std.proofs.Common.{◌∙◌, sym}
use Rattle.pyd_words.proofs.Digits.{script_read}
use Rattle.pyd_words.proofs.number.script_number.Goals as goal

pub returns : goal.returns
returns c = c.ok.ensures.value ∙ script_read c.args.text.now c.parse.result c.parse.ensures.value.0 (sym c.if-not-is_digits.ensures)
