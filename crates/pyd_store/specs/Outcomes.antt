-- A store as its callers see it.
use Rattle.std.specs.Ordering.{nat_cmp}
use Rattle.std.specs.FinMap as map
use Rattle.pyd_value.specs.declared.fault.Outcome.{Outcome}

-- a finite map from nodes to outcomes
abbrev pub Outcomes : Type 0
Outcomes = map.FinMap nat_cmp Outcome
