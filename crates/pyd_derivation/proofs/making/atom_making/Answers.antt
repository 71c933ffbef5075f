use Rattle.std.proofs.Common.{◌≡◌, ap, sym, arith}
use Rattle.pyd_derivation.specs.Forms.{does}
use Rattle.pyd_derivation.specs.Productions.{grammar}
use Rattle.pyd_derivation.proofs.making.atom_making.Goals as goal

pub returns-in-83 : goal.returns-in-83
unfolding grammar
returns-in-83 c = sym (ap (does grammar) c.in-83.is)

pub returns-in-84 : goal.returns-in-84
unfolding grammar
returns-in-84 c = sym (ap (does grammar) c.in-84.is)

pub returns-in-85 : goal.returns-in-85
unfolding grammar
returns-in-85 c = sym (ap (does grammar) c.in-85.is)

pub returns-in-86 : goal.returns-in-86
unfolding grammar
returns-in-86 c = sym (ap (does grammar) c.in-86.is)

pub returns-in-87 : goal.returns-in-87
unfolding grammar
returns-in-87 c = sym (ap (does grammar) c.in-87.is)

pub returns-in-88 : goal.returns-in-88
unfolding grammar
returns-in-88 c = sym (ap (does grammar) c.in-88.is)

pub returns-in-89 : goal.returns-in-89
unfolding grammar
returns-in-89 c = sym (ap (does grammar) c.in-89.is)

pub returns-in-90 : goal.returns-in-90
unfolding grammar
returns-in-90 c = sym (ap (does grammar) c.in-90.is)

pub returns-in-91 : goal.returns-in-91
unfolding grammar
returns-in-91 c = sym (ap (does grammar) c.in-91.is)

pub returns-in-92 : goal.returns-in-92
unfolding grammar
returns-in-92 c = sym (ap (does grammar) c.in-92.is)

pub returns-in-93 : goal.returns-in-93
unfolding grammar
returns-in-93 c = sym (ap (does grammar) c.in-93.is)

pub returns-in-94 : goal.returns-in-94
unfolding grammar
returns-in-94 c = sym (ap (does grammar) c.in-94.is)

pub returns-in-95 : goal.returns-in-95
unfolding grammar
returns-in-95 c = sym (ap (does grammar) c.in-95.is)

pub returns-in-96 : goal.returns-in-96
unfolding grammar
returns-in-96 c = sym (ap (does grammar) c.in-96.is)

pub returns-in-97 : goal.returns-in-97
unfolding grammar
returns-in-97 c = sym (ap (does grammar) c.in-97.is)

pub returns-in-98 : goal.returns-in-98
unfolding grammar
returns-in-98 c = sym (ap (does grammar) c.in-98.is)

pub returns-in-99 : goal.returns-in-99
unfolding grammar
returns-in-99 c = sym (ap (does grammar) c.in-99.is)

pub returns-in-100 : goal.returns-in-100
unfolding grammar
returns-in-100 c = sym (ap (does grammar) c.in-100.is)

pub returns-in-101 : goal.returns-in-101
unfolding grammar
returns-in-101 c = sym (ap (does grammar) c.in-101.is)

pub returns-in-102 : goal.returns-in-102
unfolding grammar
returns-in-102 c = sym (ap (does grammar) c.in-102.is)

pub returns-in_default : goal.returns-in_default
unfolding grammar
returns-in_default c = let e : c.args.production ≡ 103 = omega (arith, c.requires) in sym (ap (does grammar) e)
