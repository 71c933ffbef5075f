use Rattle.std.proofs.Common.{◌≡◌, ap, sym, arith}
use Rattle.pyd_measure.specs.Measurings.{measuring_of, table}
use Rattle.pyd_measure.proofs.measuring.atom_measuring.Goals as goal

pub returns-in-83 : goal.returns-in-83
unfolding table
returns-in-83 c = sym (ap measuring_of c.in-83.is)

pub returns-in-84 : goal.returns-in-84
unfolding table
returns-in-84 c = sym (ap measuring_of c.in-84.is)

pub returns-in-85 : goal.returns-in-85
unfolding table
returns-in-85 c = sym (ap measuring_of c.in-85.is)

pub returns-in-86 : goal.returns-in-86
unfolding table
returns-in-86 c = sym (ap measuring_of c.in-86.is)

pub returns-in-87 : goal.returns-in-87
unfolding table
returns-in-87 c = sym (ap measuring_of c.in-87.is)

pub returns-in-88 : goal.returns-in-88
unfolding table
returns-in-88 c = sym (ap measuring_of c.in-88.is)

pub returns-in-89 : goal.returns-in-89
unfolding table
returns-in-89 c = sym (ap measuring_of c.in-89.is)

pub returns-in-90 : goal.returns-in-90
unfolding table
returns-in-90 c = sym (ap measuring_of c.in-90.is)

pub returns-in-91 : goal.returns-in-91
unfolding table
returns-in-91 c = sym (ap measuring_of c.in-91.is)

pub returns-in-92 : goal.returns-in-92
unfolding table
returns-in-92 c = sym (ap measuring_of c.in-92.is)

pub returns-in-93 : goal.returns-in-93
unfolding table
returns-in-93 c = sym (ap measuring_of c.in-93.is)

pub returns-in-94 : goal.returns-in-94
unfolding table
returns-in-94 c = sym (ap measuring_of c.in-94.is)

pub returns-in-95 : goal.returns-in-95
unfolding table
returns-in-95 c = sym (ap measuring_of c.in-95.is)

pub returns-in-96 : goal.returns-in-96
unfolding table
returns-in-96 c = sym (ap measuring_of c.in-96.is)

pub returns-in-97 : goal.returns-in-97
unfolding table
returns-in-97 c = sym (ap measuring_of c.in-97.is)

pub returns-in-98 : goal.returns-in-98
unfolding table
returns-in-98 c = sym (ap measuring_of c.in-98.is)

pub returns-in-99 : goal.returns-in-99
unfolding table
returns-in-99 c = sym (ap measuring_of c.in-99.is)

pub returns-in-100 : goal.returns-in-100
unfolding table
returns-in-100 c = sym (ap measuring_of c.in-100.is)

pub returns-in-101 : goal.returns-in-101
unfolding table
returns-in-101 c = sym (ap measuring_of c.in-101.is)

pub returns-in-102 : goal.returns-in-102
unfolding table
returns-in-102 c = sym (ap measuring_of c.in-102.is)

pub returns-in_default : goal.returns-in_default
unfolding table
returns-in_default c = let e : c.args.production ≡ 103 = omega (arith, c.requires) in sym (ap measuring_of e)
