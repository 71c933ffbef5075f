use Rattle.std.proofs.Common.{◌≡◌}
use Rattle.pyd_turn.specs.Seats.{IsFree, IsSame, joined, made}
use Rattle.pyd_thread_tests.proofs.turn.take_turns.Given as goal

abbrev pub invariant-loop-nth : goal.invariant-loop-nth
invariant-loop-nth g l = IsSame l.fn.seat l.seat × IsFree l.seat × (made l.seat ≡ made l.fn.seat) × (joined l.seat ≡ joined l.fn.seat)
