-- The text that was measured is the one that is written.
use Rattle.std.proofs.Common.{◌≡◌, subst, arith, IfOk}
use Rattle.pyd_ops.specs.Answer.{outcome_of}
use Rattle.pyd_text.specs.Texts.{repr}
use Rattle.pyd_text.proofs.Built.{built}
use Rattle.pyd_text.proofs.texts.repr_of.Goals as goal

pub returns : goal.returns
returns c =
    subst (λ v. IfOk c.text_value.result (λ o. o ≡ outcome_of v))
    (built c.in_ok-text.text c.write_repr.new.out (repr c.args.a.now) c.args.line c.in_ok-text.ensures.bytes c.in_ok-write_repr.ensures (omega arith))
    c.text_value.ensures
