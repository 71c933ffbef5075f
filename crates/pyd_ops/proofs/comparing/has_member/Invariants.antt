-- The members that are left decide as all of them do.
use Rattle.std.proofs.Common.{◌≡◌, drop}
use Rattle.std.specs.List.{list_any}
use Rattle.pyd_value.specs.Equality.{is_equal}
use Rattle.pyd_ops.proofs.comparing.has_member.Given as goal

abbrev pub invariant-loop-member : goal.invariant-loop-member
invariant-loop-member l =
    list_any (is_equal l.a) (drop l.member-index l.members) ≡ list_any (is_equal l.a) l.members
