use Rattle.std.proofs.Common.{◌≡◌, ap, sym, arith}
use Rattle.pyd_derivation.specs.Forms.{does}
use Rattle.pyd_derivation.specs.Productions.{grammar}
use Rattle.pyd_derivation.proofs.making.test_making.Goals as goal

pub returns-in-44 : goal.returns-in-44
unfolding grammar
returns-in-44 c = sym (ap (does grammar) c.in-44.is)

pub returns-in-45 : goal.returns-in-45
unfolding grammar
returns-in-45 c = sym (ap (does grammar) c.in-45.is)

pub returns-in-46 : goal.returns-in-46
unfolding grammar
returns-in-46 c = sym (ap (does grammar) c.in-46.is)

pub returns-in-47 : goal.returns-in-47
unfolding grammar
returns-in-47 c = sym (ap (does grammar) c.in-47.is)

pub returns-in-48 : goal.returns-in-48
unfolding grammar
returns-in-48 c = sym (ap (does grammar) c.in-48.is)

pub returns-in-49 : goal.returns-in-49
unfolding grammar
returns-in-49 c = sym (ap (does grammar) c.in-49.is)

pub returns-in-50 : goal.returns-in-50
unfolding grammar
returns-in-50 c = sym (ap (does grammar) c.in-50.is)

pub returns-in-51 : goal.returns-in-51
unfolding grammar
returns-in-51 c = sym (ap (does grammar) c.in-51.is)

pub returns-in-52 : goal.returns-in-52
unfolding grammar
returns-in-52 c = sym (ap (does grammar) c.in-52.is)

pub returns-in-53 : goal.returns-in-53
unfolding grammar
returns-in-53 c = sym (ap (does grammar) c.in-53.is)

pub returns-in-54 : goal.returns-in-54
unfolding grammar
returns-in-54 c = sym (ap (does grammar) c.in-54.is)

pub returns-in-55 : goal.returns-in-55
unfolding grammar
returns-in-55 c = sym (ap (does grammar) c.in-55.is)

pub returns-in-56 : goal.returns-in-56
unfolding grammar
returns-in-56 c = sym (ap (does grammar) c.in-56.is)

pub returns-in-57 : goal.returns-in-57
unfolding grammar
returns-in-57 c = sym (ap (does grammar) c.in-57.is)

pub returns-in-58 : goal.returns-in-58
unfolding grammar
returns-in-58 c = sym (ap (does grammar) c.in-58.is)

pub returns-in-59 : goal.returns-in-59
unfolding grammar
returns-in-59 c = sym (ap (does grammar) c.in-59.is)

pub returns-in-60 : goal.returns-in-60
unfolding grammar
returns-in-60 c = sym (ap (does grammar) c.in-60.is)

pub returns-in-61 : goal.returns-in-61
unfolding grammar
returns-in-61 c = sym (ap (does grammar) c.in-61.is)

pub returns-in-62 : goal.returns-in-62
unfolding grammar
returns-in-62 c = sym (ap (does grammar) c.in-62.is)

pub returns-in-63 : goal.returns-in-63
unfolding grammar
returns-in-63 c = sym (ap (does grammar) c.in-63.is)

pub returns-in_default : goal.returns-in_default
unfolding grammar
returns-in_default c = let e : c.args.production ≡ 64 = omega (arith, c.requires) in sym (ap (does grammar) e)
