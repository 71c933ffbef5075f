-- What the arguments that are left name and what the set has are all.
use Rattle.pyd_lineage.specs.Lineage.{named_by}
use Rattle.pyd_lineage.proofs.Sets.{IsOnTheWay}
use Rattle.pyd_lineage.proofs.naming.add_arguments.Given as goal

abbrev pub invariant-loop-arg : goal.invariant-loop-arg
invariant-loop-arg l = IsOnTheWay named_by l.args l.arg-index l.initial.set l.set
