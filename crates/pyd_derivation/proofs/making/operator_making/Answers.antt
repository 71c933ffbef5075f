use Rattle.std.proofs.Common.{◌≡◌, ap, sym, arith}
use Rattle.pyd_derivation.specs.Forms.{does}
use Rattle.pyd_derivation.specs.Productions.{grammar}
use Rattle.pyd_derivation.proofs.making.operator_making.Goals as goal

pub returns-in-65 : goal.returns-in-65
unfolding grammar
returns-in-65 c = sym (ap (does grammar) c.in-65.is)

pub returns-in-66 : goal.returns-in-66
unfolding grammar
returns-in-66 c = sym (ap (does grammar) c.in-66.is)

pub returns-in-67 : goal.returns-in-67
unfolding grammar
returns-in-67 c = sym (ap (does grammar) c.in-67.is)

pub returns-in-68 : goal.returns-in-68
unfolding grammar
returns-in-68 c = sym (ap (does grammar) c.in-68.is)

pub returns-in-69 : goal.returns-in-69
unfolding grammar
returns-in-69 c = sym (ap (does grammar) c.in-69.is)

pub returns-in-70 : goal.returns-in-70
unfolding grammar
returns-in-70 c = sym (ap (does grammar) c.in-70.is)

pub returns-in-71 : goal.returns-in-71
unfolding grammar
returns-in-71 c = sym (ap (does grammar) c.in-71.is)

pub returns-in-72 : goal.returns-in-72
unfolding grammar
returns-in-72 c = sym (ap (does grammar) c.in-72.is)

pub returns-in-73 : goal.returns-in-73
unfolding grammar
returns-in-73 c = sym (ap (does grammar) c.in-73.is)

pub returns-in-74 : goal.returns-in-74
unfolding grammar
returns-in-74 c = sym (ap (does grammar) c.in-74.is)

pub returns-in-75 : goal.returns-in-75
unfolding grammar
returns-in-75 c = sym (ap (does grammar) c.in-75.is)

pub returns-in-76 : goal.returns-in-76
unfolding grammar
returns-in-76 c = sym (ap (does grammar) c.in-76.is)

pub returns-in-77 : goal.returns-in-77
unfolding grammar
returns-in-77 c = sym (ap (does grammar) c.in-77.is)

pub returns-in-78 : goal.returns-in-78
unfolding grammar
returns-in-78 c = sym (ap (does grammar) c.in-78.is)

pub returns-in-79 : goal.returns-in-79
unfolding grammar
returns-in-79 c = sym (ap (does grammar) c.in-79.is)

pub returns-in-80 : goal.returns-in-80
unfolding grammar
returns-in-80 c = sym (ap (does grammar) c.in-80.is)

pub returns-in-81 : goal.returns-in-81
unfolding grammar
returns-in-81 c = sym (ap (does grammar) c.in-81.is)

pub returns-in_default : goal.returns-in_default
unfolding grammar
returns-in_default c = let e : c.args.production ≡ 82 = omega (arith, c.requires) in sym (ap (does grammar) e)
