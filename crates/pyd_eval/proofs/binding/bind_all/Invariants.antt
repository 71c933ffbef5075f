use Rattle.std.proofs.Common.{◌≡◌, drop}
use Rattle.pyd_meaning.specs.Names.{bind_all}
use Rattle.pyd_eval.specs.Frames.{names_of}
use Rattle.pyd_eval.proofs.binding.bind_all.Given as goal

abbrev pub invariant-loop-at : goal.invariant-loop-at
invariant-loop-at l =
    bind_all (names_of l.on l.slots) (drop l.at l.names) (drop l.at l.values)
    ≡ bind_all (names_of l.on l.initial.slots) l.names l.values
