-- The numbers so far, and then those that the other arguments name, are all.
use Rattle.std.proofs.Common.{◌≡◌, ◌++◌, drop}
use Rattle.std.specs.List.{flat_map}
use Rattle.pyd_lineage.specs.Lineage.{named_by}
use Rattle.pyd_core.proofs.ordering.named.Given as goal

abbrev pub invariant-loop-arg : goal.invariant-loop-arg
invariant-loop-arg l =
    l.numbers.items ++ flat_map named_by (drop l.arg-index l.args) ≡ flat_map named_by l.args
