use Rattle.std.proofs.Common.{sym}
use Rattle.pyd_refine.proofs.Spanned.{there}
use Rattle.pyd_refine.proofs.item.number.Goals as goal

pub returns-then-has_number : goal.returns-then-has_number
returns-then-has_number c =
    there c.args.span.now c.args.turn c.args.span.now.count _ c.requires (sym c.if-has_number.ensures) c.number_of.ensures
