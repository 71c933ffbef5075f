-- All are literals exactly where those that are left are.
use Rattle.std.proofs.Common.{◌≡◌, map, drop, is_some}
use Rattle.pyd_names.specs.Literal.{form_of, values_in}
use Rattle.pyd_names.proofs.literals.+tests.Given as goal

abbrev pub invariant-are_literals-loop-member : goal.invariant-are_literals-loop-member
invariant-are_literals-loop-member l =
    is_some (values_in (map form_of (drop l.member-index l.members))) ≡ is_some (values_in (map form_of l.members))
