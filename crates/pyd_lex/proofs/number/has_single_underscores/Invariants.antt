use Rattle.std.proofs.Common.{◌≡◌, length}
use Rattle.pyd_lex.specs.Numbers.{has_single_underscores}
use Rattle.pyd_lex.proofs.number.has_single_underscores.Given as goal

abbrev pub invariant-loop-text : goal.invariant-loop-text
invariant-loop-text l = has_single_underscores l.base l.text ≡ has_single_underscores l.base l.initial.text

abbrev pub decreases-loop-text : goal.decreases-loop-text
decreases-loop-text l = length l.text
