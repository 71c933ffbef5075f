-- What is there are the members, as often as there were turns.
use Rattle.std.proofs.Common.{◌≡◌}
use Rattle.std.specs.List.{repeat}
use Rattle.pyd_ops.proofs.joining.repeat_members.Given as goal

abbrev pub invariant-loop : goal.invariant-loop
invariant-loop l = l.members ≡ repeat l.counter l.xs
