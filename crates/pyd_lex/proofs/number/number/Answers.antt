use Rattle.std.proofs.Common.{◌∙◌, sym, ap, Err, if◌then◌else◌, true, false}
use Rattle.pyd_lex.specs.declared.fault.Flaw.TheVariants.{BadNumber}
use Rattle.pyd_lex.specs.Numbers.{sized}
use Rattle.pyd_lex.proofs.Amounts.{not_number, a_number, is_so}
use Rattle.pyd_lex.proofs.number.number.Goals as goal

pub returns-then-not-is_digits : goal.returns-then-not-is_digits
returns-then-not-is_digits c =
    sym (not_number c.args.text.now c.digits-digits.result.now c.radix-base.result c.radix-base.ensures.value c.digits-digits.ensures (sym c.is_digits.ensures ∙ search c.if-not-is_digits.true))

pub returns-then-has_leading_zero : goal.returns-then-has_leading_zero
returns-then-has_leading_zero c =
    sym (a_number c.args.text.now c.digits-digits.result.now c.radix-base.result c.amount-amount.result c.radix-base.ensures.value c.digits-digits.ensures (sym c.is_digits.ensures ∙ search c.if-not-is_digits.false) c.amount-amount.ensures ∙ ap (λ t. if t then Err BadNumber else sized c.amount-amount.result) (is_so c.has_leading_zero.result true c.has_leading_zero.ensures (search c.if-has_leading_zero.true)))

pub returns : goal.returns
returns c =
    c.sized.ensures ∙ sym (a_number c.args.text.now c.digits-digits.result.now c.radix-base.result c.amount-amount.result c.radix-base.ensures.value c.digits-digits.ensures (sym c.is_digits.ensures ∙ search c.if-not-is_digits.false) c.amount-amount.ensures ∙ ap (λ t. if t then Err BadNumber else sized c.amount-amount.result) (is_so c.has_leading_zero.result false c.has_leading_zero.ensures (search c.if-has_leading_zero.false)))
