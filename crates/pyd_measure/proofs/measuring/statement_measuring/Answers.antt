use Rattle.std.proofs.Common.{◌≡◌, ap, sym, arith}
use Rattle.pyd_measure.specs.Measurings.{measuring_of, table}
use Rattle.pyd_measure.proofs.measuring.statement_measuring.Goals as goal

pub returns-in-22 : goal.returns-in-22
unfolding table
returns-in-22 c = sym (ap measuring_of c.in-22.is)

pub returns-in-23 : goal.returns-in-23
unfolding table
returns-in-23 c = sym (ap measuring_of c.in-23.is)

pub returns-in-24 : goal.returns-in-24
unfolding table
returns-in-24 c = sym (ap measuring_of c.in-24.is)

pub returns-in-25 : goal.returns-in-25
unfolding table
returns-in-25 c = sym (ap measuring_of c.in-25.is)

pub returns-in-26 : goal.returns-in-26
unfolding table
returns-in-26 c = sym (ap measuring_of c.in-26.is)

pub returns-in-27 : goal.returns-in-27
unfolding table
returns-in-27 c = sym (ap measuring_of c.in-27.is)

pub returns-in-28 : goal.returns-in-28
unfolding table
returns-in-28 c = sym (ap measuring_of c.in-28.is)

pub returns-in-29 : goal.returns-in-29
unfolding table
returns-in-29 c = sym (ap measuring_of c.in-29.is)

pub returns-in-30 : goal.returns-in-30
unfolding table
returns-in-30 c = sym (ap measuring_of c.in-30.is)

pub returns-in-31 : goal.returns-in-31
unfolding table
returns-in-31 c = sym (ap measuring_of c.in-31.is)

pub returns-in-32 : goal.returns-in-32
unfolding table
returns-in-32 c = sym (ap measuring_of c.in-32.is)

pub returns-in-33 : goal.returns-in-33
unfolding table
returns-in-33 c = sym (ap measuring_of c.in-33.is)

pub returns-in-34 : goal.returns-in-34
unfolding table
returns-in-34 c = sym (ap measuring_of c.in-34.is)

pub returns-in-35 : goal.returns-in-35
unfolding table
returns-in-35 c = sym (ap measuring_of c.in-35.is)

pub returns-in-36 : goal.returns-in-36
unfolding table
returns-in-36 c = sym (ap measuring_of c.in-36.is)

pub returns-in-37 : goal.returns-in-37
unfolding table
returns-in-37 c = sym (ap measuring_of c.in-37.is)

pub returns-in-38 : goal.returns-in-38
unfolding table
returns-in-38 c = sym (ap measuring_of c.in-38.is)

pub returns-in-39 : goal.returns-in-39
unfolding table
returns-in-39 c = sym (ap measuring_of c.in-39.is)

pub returns-in-40 : goal.returns-in-40
unfolding table
returns-in-40 c = sym (ap measuring_of c.in-40.is)

pub returns-in-41 : goal.returns-in-41
unfolding table
returns-in-41 c = sym (ap measuring_of c.in-41.is)

pub returns-in-42 : goal.returns-in-42
unfolding table
returns-in-42 c = sym (ap measuring_of c.in-42.is)

pub returns-in_default : goal.returns-in_default
unfolding table
returns-in_default c = let e : c.args.production ≡ 43 = omega (arith, c.requires) in sym (ap measuring_of e)
