use Rattle.std.proofs.Common.{◌≡◌, ◌<◌, length}
use Rattle.pyd_value.specs.Limits.{integer_bound}
use Rattle.pyd_lex.specs.Numbers.{amount}
use Rattle.pyd_lex.proofs.number.amount.Given as goal

abbrev pub invariant-loop-text : goal.invariant-loop-text
invariant-loop-text l = (amount l.base l.n l.text ≡ amount l.base 0 l.initial.text) × (l.n < integer_bound)

abbrev pub decreases-loop-text : goal.decreases-loop-text
decreases-loop-text l = length l.text
