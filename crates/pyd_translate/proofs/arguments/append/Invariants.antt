use Rattle.std.proofs.Common.{◌≡◌, ◌++◌, take}
use Rattle.pyd_translate.proofs.arguments.append.Given as goal

abbrev pub invariant-loop-a : goal.invariant-loop-a
invariant-loop-a l = l.args ≡ l.initial.args ++ take l.a-index l.more
