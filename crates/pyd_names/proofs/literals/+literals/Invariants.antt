-- The values so far, and then those that are left, are the values of all, if all are literals.
use Rattle.std.proofs.Common.{◌≡◌, map, drop}
use Rattle.pyd_names.specs.Literal.{form_of, values_in}
use Rattle.pyd_names.proofs.Values.{behind}
use Rattle.pyd_names.proofs.literals.+literals.Given as goal

abbrev pub invariant-literals-loop-member : goal.invariant-literals-loop-member
invariant-literals-loop-member l =
    behind l.values (values_in (map form_of (drop l.member-index l.members))) ≡ values_in (map form_of l.members)
