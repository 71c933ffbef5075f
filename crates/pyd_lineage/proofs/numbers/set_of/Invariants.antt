-- The numbers that are left and those in the set are all.
use Rattle.std.proofs.Common.{[], ◌∷◌}
use Rattle.pyd_lineage.proofs.Sets.{IsOnTheWay}
use Rattle.pyd_lineage.proofs.numbers.set_of.Given as goal

abbrev pub invariant-loop-number : goal.invariant-loop-number
invariant-loop-number l = IsOnTheWay (λ n. n ∷ []) l.numbers l.number-index l.initial.set l.set
