-- The nodes so far are placed, or no longer ready.
use Rattle.std.proofs.Common.{option_map, vec_capacity, vec_len}
use Rattle.pyd_steps.proofs.InTurn.{IsInTurn}
use Rattle.pyd_steps.proofs.placing.place_all.Given as goal

abbrev pub invariant-loop-node : goal.invariant-loop-node
invariant-loop-node g l =
    IsInTurn l.fn.seat l.node-items l.node-index l.fn.core l.core l.tickets.items
    (vec_len l.tickets) (vec_capacity l.tickets)
    (option_map (λ b. (goal.Placer-dyn g (b.vtable, b.value)).calls b.value) l.fn.placer)
    (option_map (λ b. (goal.Placer-dyn g (b.vtable, b.value)).calls b.value) l.placer)
