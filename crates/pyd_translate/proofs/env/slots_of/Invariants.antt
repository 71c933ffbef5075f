use Rattle.std.proofs.Common.{◌≡◌, take}
use Rattle.pyd_translate.proofs.env.slots_of.Given as goal

abbrev pub invariant-loop-a : goal.invariant-loop-a
invariant-loop-a l = l.slots.items ≡ take l.a-index l.args
