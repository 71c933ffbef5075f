use Rattle.pyd_trace.proofs.Digits.{guesses}
use Rattle.pyd_trace.proofs.guess.guess_fields.Goals as goal

pub returns : goal.returns
returns c numbers rest =
    guesses c.args.bytes.now c.guess_field-first.result.1.now c.guess_field-second.result.1.now c.guess_field-third.result.1.now _ _ _ numbers rest c.guess_field-first.ensures
    c.guess_field-second.ensures c.guess_field-third.ensures
