use Rattle.std.proofs.Common.{◌≡◌, ap, sym, arith}
use Rattle.pyd_measure.specs.Measurings.{measuring_of, table}
use Rattle.pyd_measure.proofs.measuring.operator_measuring.Goals as goal

pub returns-in-65 : goal.returns-in-65
unfolding table
returns-in-65 c = sym (ap measuring_of c.in-65.is)

pub returns-in-66 : goal.returns-in-66
unfolding table
returns-in-66 c = sym (ap measuring_of c.in-66.is)

pub returns-in-67 : goal.returns-in-67
unfolding table
returns-in-67 c = sym (ap measuring_of c.in-67.is)

pub returns-in-68 : goal.returns-in-68
unfolding table
returns-in-68 c = sym (ap measuring_of c.in-68.is)

pub returns-in-69 : goal.returns-in-69
unfolding table
returns-in-69 c = sym (ap measuring_of c.in-69.is)

pub returns-in-70 : goal.returns-in-70
unfolding table
returns-in-70 c = sym (ap measuring_of c.in-70.is)

pub returns-in-71 : goal.returns-in-71
unfolding table
returns-in-71 c = sym (ap measuring_of c.in-71.is)

pub returns-in-72 : goal.returns-in-72
unfolding table
returns-in-72 c = sym (ap measuring_of c.in-72.is)

pub returns-in-73 : goal.returns-in-73
unfolding table
returns-in-73 c = sym (ap measuring_of c.in-73.is)

pub returns-in-74 : goal.returns-in-74
unfolding table
returns-in-74 c = sym (ap measuring_of c.in-74.is)

pub returns-in-75 : goal.returns-in-75
unfolding table
returns-in-75 c = sym (ap measuring_of c.in-75.is)

pub returns-in-76 : goal.returns-in-76
unfolding table
returns-in-76 c = sym (ap measuring_of c.in-76.is)

pub returns-in-77 : goal.returns-in-77
unfolding table
returns-in-77 c = sym (ap measuring_of c.in-77.is)

pub returns-in-78 : goal.returns-in-78
unfolding table
returns-in-78 c = sym (ap measuring_of c.in-78.is)

pub returns-in-79 : goal.returns-in-79
unfolding table
returns-in-79 c = sym (ap measuring_of c.in-79.is)

pub returns-in-80 : goal.returns-in-80
unfolding table
returns-in-80 c = sym (ap measuring_of c.in-80.is)

pub returns-in-81 : goal.returns-in-81
unfolding table
returns-in-81 c = sym (ap measuring_of c.in-81.is)

pub returns-in_default : goal.returns-in_default
unfolding table
returns-in_default c = let e : c.args.production ≡ 82 = omega (arith, c.requires) in sym (ap measuring_of e)
