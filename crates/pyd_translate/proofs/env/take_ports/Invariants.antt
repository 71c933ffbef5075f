use Rattle.std.proofs.Common.{◌≡◌, take}
use Rattle.pyd_translate.specs.Flows.{slots_in}
use Rattle.pyd_translate.specs.Slots.{slot_ports}
use Rattle.pyd_translate.proofs.env.take_ports.Given as goal

abbrev pub invariant-loop-port : goal.invariant-loop-port
invariant-loop-port l = l.env.items ≡ take l.port (slot_ports l.id 0 (slots_in l.at))
