-- The text that was measured is the one that is written.
use Rattle.std.proofs.Common.{◌≡◌, subst, arith, IfOk}
use Rattle.pyd_ops.specs.Answer.{outcome_of}
use Rattle.pyd_text.specs.Texts.{printed}
use Rattle.pyd_text.proofs.Built.{built}
use Rattle.pyd_text.proofs.texts.line_of.Goals as goal

pub returns : goal.returns
returns c =
    subst (λ v. IfOk c.text_value.result (λ o. o ≡ outcome_of v))
    (built c.in_ok-text.text c.write_printed.new.out (printed c.args.args.now) c.args.line c.in_ok-text.ensures.bytes c.in_ok-write_printed.ensures (omega arith))
    c.text_value.ensures
