use Rattle.std.proofs.Common.{◌≡◌}
use Rattle.crossbeam_deque.specs.Handles.{IsPassOf, stealer_deque, stealer_flavor, view}
use Rattle.pyd_pool.proofs.places.OtherDeque.steal.Given as goal

abbrev pub invariant-loop : goal.invariant-loop
invariant-loop g l = (stealer_deque l.self.stealer ≡ stealer_deque l.fn.self.stealer) × (stealer_flavor l.self.stealer ≡ 0) × IsPassOf (stealer_deque l.self.stealer) l.self.pass
    × (l.self.pass.id ≡ l.fn.self.pass.id) × (view l.self.pass ≡ view l.fn.self.pass) × ((view l.self.pass).parts ≡ 1)
