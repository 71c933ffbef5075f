use Rattle.std.proofs.Common.{◌≡◌, ap, sym, arith}
use Rattle.pyd_derivation.specs.Forms.{does}
use Rattle.pyd_derivation.specs.Productions.{grammar}
use Rattle.pyd_derivation.proofs.making.statement_making.Goals as goal

pub returns-in-22 : goal.returns-in-22
unfolding grammar
returns-in-22 c = sym (ap (does grammar) c.in-22.is)

pub returns-in-23 : goal.returns-in-23
unfolding grammar
returns-in-23 c = sym (ap (does grammar) c.in-23.is)

pub returns-in-24 : goal.returns-in-24
unfolding grammar
returns-in-24 c = sym (ap (does grammar) c.in-24.is)

pub returns-in-25 : goal.returns-in-25
unfolding grammar
returns-in-25 c = sym (ap (does grammar) c.in-25.is)

pub returns-in-26 : goal.returns-in-26
unfolding grammar
returns-in-26 c = sym (ap (does grammar) c.in-26.is)

pub returns-in-27 : goal.returns-in-27
unfolding grammar
returns-in-27 c = sym (ap (does grammar) c.in-27.is)

pub returns-in-28 : goal.returns-in-28
unfolding grammar
returns-in-28 c = sym (ap (does grammar) c.in-28.is)

pub returns-in-29 : goal.returns-in-29
unfolding grammar
returns-in-29 c = sym (ap (does grammar) c.in-29.is)

pub returns-in-30 : goal.returns-in-30
unfolding grammar
returns-in-30 c = sym (ap (does grammar) c.in-30.is)

pub returns-in-31 : goal.returns-in-31
unfolding grammar
returns-in-31 c = sym (ap (does grammar) c.in-31.is)

pub returns-in-32 : goal.returns-in-32
unfolding grammar
returns-in-32 c = sym (ap (does grammar) c.in-32.is)

pub returns-in-33 : goal.returns-in-33
unfolding grammar
returns-in-33 c = sym (ap (does grammar) c.in-33.is)

pub returns-in-34 : goal.returns-in-34
unfolding grammar
returns-in-34 c = sym (ap (does grammar) c.in-34.is)

pub returns-in-35 : goal.returns-in-35
unfolding grammar
returns-in-35 c = sym (ap (does grammar) c.in-35.is)

pub returns-in-36 : goal.returns-in-36
unfolding grammar
returns-in-36 c = sym (ap (does grammar) c.in-36.is)

pub returns-in-37 : goal.returns-in-37
unfolding grammar
returns-in-37 c = sym (ap (does grammar) c.in-37.is)

pub returns-in-38 : goal.returns-in-38
unfolding grammar
returns-in-38 c = sym (ap (does grammar) c.in-38.is)

pub returns-in-39 : goal.returns-in-39
unfolding grammar
returns-in-39 c = sym (ap (does grammar) c.in-39.is)

pub returns-in-40 : goal.returns-in-40
unfolding grammar
returns-in-40 c = sym (ap (does grammar) c.in-40.is)

pub returns-in-41 : goal.returns-in-41
unfolding grammar
returns-in-41 c = sym (ap (does grammar) c.in-41.is)

pub returns-in-42 : goal.returns-in-42
unfolding grammar
returns-in-42 c = sym (ap (does grammar) c.in-42.is)

pub returns-in_default : goal.returns-in_default
unfolding grammar
returns-in_default c = let e : c.args.production ≡ 43 = omega (arith, c.requires) in sym (ap (does grammar) e)
