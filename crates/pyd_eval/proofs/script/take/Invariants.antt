use Rattle.std.proofs.Common.{◌≡◌, map, take, Some}
use Rattle.pyd_eval.proofs.script.take.Given as goal

abbrev pub invariant-loop-arg : goal.invariant-loop-arg
invariant-loop-arg l = l.taken.items ≡ map Some (take l.arg-index l.args)
