-- The placer was told of the entries so far.
use Rattle.std.proofs.Common.{option_map}
use Rattle.pyd_steps.proofs.Asking.{TellsFirst}
use Rattle.pyd_steps.proofs.placers.tell.Given as goal

abbrev pub invariant-loop-entry : goal.invariant-loop-entry
invariant-loop-entry g l =
    TellsFirst l.entry-index l.entries
    (option_map (λ b. (goal.Placer-dyn g (b.vtable, b.value)).calls b.value) l.fn.placer)
    (option_map (λ b. (goal.Placer-dyn g (b.vtable, b.value)).calls b.value) l.placer)
