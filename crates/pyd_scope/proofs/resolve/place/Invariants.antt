use Rattle.std.proofs.Common.{◌≡◌, drop}
use Rattle.std.specs.List.{position_from}
use Rattle.pyd_names.specs.Binding.{same_name}
use Rattle.pyd_scope.specs.Places as places
use Rattle.pyd_scope.proofs.resolve.place.Given as goal

abbrev pub invariant-loop-other : goal.invariant-loop-other
invariant-loop-other l = record {
  counted : l.at ≡ l.other-index;
  onward : places.place l.names l.name ≡ position_from (same_name l.name) l.at (drop l.other-index l.names);
}
