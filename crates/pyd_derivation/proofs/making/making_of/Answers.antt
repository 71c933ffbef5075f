use Rattle.std.proofs.Common.{arith}
use Rattle.pyd_derivation.specs.Productions.{grammar}
use Rattle.pyd_derivation.proofs.making.making_of.Goals as goal

pub atom_making-requires-clause-last : goal.atom_making-requires-clause-last
unfolding grammar
atom_making-requires-clause-last c = omega (arith, c.requires)
