use Rattle.std.proofs.Common.{arith}
use Rattle.pyd_derivation.specs.Productions.{grammar}
use Rattle.pyd_measure.proofs.measuring.measuring_of.Goals as goal

pub atom_measuring-requires-clause-last : goal.atom_measuring-requires-clause-last
unfolding grammar
atom_measuring-requires-clause-last c = omega (arith, c.requires)
