use Rattle.std.proofs.Common.{◌≡◌, take}
use Rattle.pyd_translate.specs.Slots.{unbound_slots}
use Rattle.pyd_translate.proofs.script.unbound_slots.Given as goal

abbrev pub invariant-loop-i : goal.invariant-loop-i
invariant-loop-i l = l.args ≡ unbound_slots (take l.i l.names)
