use Rattle.std.proofs.Common.{◌≡◌, ap, sym, arith}
use Rattle.pyd_derivation.specs.Forms.{does}
use Rattle.pyd_derivation.specs.Productions.{grammar}
use Rattle.pyd_derivation.proofs.making.file_making.Goals as goal

pub returns-in-0 : goal.returns-in-0
unfolding grammar
returns-in-0 c = sym (ap (does grammar) c.in-0.is)

pub returns-in-1 : goal.returns-in-1
unfolding grammar
returns-in-1 c = sym (ap (does grammar) c.in-1.is)

pub returns-in-2 : goal.returns-in-2
unfolding grammar
returns-in-2 c = sym (ap (does grammar) c.in-2.is)

pub returns-in-3 : goal.returns-in-3
unfolding grammar
returns-in-3 c = sym (ap (does grammar) c.in-3.is)

pub returns-in-4 : goal.returns-in-4
unfolding grammar
returns-in-4 c = sym (ap (does grammar) c.in-4.is)

pub returns-in-5 : goal.returns-in-5
unfolding grammar
returns-in-5 c = sym (ap (does grammar) c.in-5.is)

pub returns-in-6 : goal.returns-in-6
unfolding grammar
returns-in-6 c = sym (ap (does grammar) c.in-6.is)

pub returns-in-7 : goal.returns-in-7
unfolding grammar
returns-in-7 c = sym (ap (does grammar) c.in-7.is)

pub returns-in-8 : goal.returns-in-8
unfolding grammar
returns-in-8 c = sym (ap (does grammar) c.in-8.is)

pub returns-in-9 : goal.returns-in-9
unfolding grammar
returns-in-9 c = sym (ap (does grammar) c.in-9.is)

pub returns-in-10 : goal.returns-in-10
unfolding grammar
returns-in-10 c = sym (ap (does grammar) c.in-10.is)

pub returns-in-11 : goal.returns-in-11
unfolding grammar
returns-in-11 c = sym (ap (does grammar) c.in-11.is)

pub returns-in-12 : goal.returns-in-12
unfolding grammar
returns-in-12 c = sym (ap (does grammar) c.in-12.is)

pub returns-in-13 : goal.returns-in-13
unfolding grammar
returns-in-13 c = sym (ap (does grammar) c.in-13.is)

pub returns-in-14 : goal.returns-in-14
unfolding grammar
returns-in-14 c = sym (ap (does grammar) c.in-14.is)

pub returns-in-15 : goal.returns-in-15
unfolding grammar
returns-in-15 c = sym (ap (does grammar) c.in-15.is)

pub returns-in-16 : goal.returns-in-16
unfolding grammar
returns-in-16 c = sym (ap (does grammar) c.in-16.is)

pub returns-in-17 : goal.returns-in-17
unfolding grammar
returns-in-17 c = sym (ap (does grammar) c.in-17.is)

pub returns-in-18 : goal.returns-in-18
unfolding grammar
returns-in-18 c = sym (ap (does grammar) c.in-18.is)

pub returns-in-19 : goal.returns-in-19
unfolding grammar
returns-in-19 c = sym (ap (does grammar) c.in-19.is)

pub returns-in-20 : goal.returns-in-20
unfolding grammar
returns-in-20 c = sym (ap (does grammar) c.in-20.is)

pub returns-in_default : goal.returns-in_default
unfolding grammar
returns-in_default c = let e : c.args.production ≡ 21 = omega (arith, c.requires) in sym (ap (does grammar) e)
