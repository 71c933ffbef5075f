-- There is a text for each character so far.
use Rattle.std.proofs.Common.{◌≡◌, map, take}
use Rattle.pyd_ops.specs.Sequence.{character}
use Rattle.pyd_ops.proofs.sequence.character_values.Given as goal

abbrev pub invariant-loop-c : goal.invariant-loop-c
invariant-loop-c l = l.values ≡ map character (take l.c-index l.characters)
