-- How far down a search for a place still goes.
use Rattle.std.proofs.Common.{◌<◌, ℕ, ◌+◌, ◌*◌, arith}
use Rattle.pyd_scope.specs.declared.cells.Suite.{Suite}
use Rattle.pyd_scope.specs.declared.cells.Suite.TheVariants.{Body, Arm, Otherwise, LoopBody}
use Rattle.pyd_scope.proofs.StatementsStand.{IsLater}

-- the measure of the search for a block
abbrev pub block_measure : Suite → ℕ
block_measure Body = 0
block_measure (Arm stmt arm) = 3 * stmt + 4
block_measure (Otherwise stmt) = 3 * stmt + 4
block_measure (LoopBody stmt) = 3 * stmt + 4

-- it is less than that of a statement in the block
pub block_less : (b : Suite) (k : ℕ) → IsLater b k → block_measure b < 3 * k + 2
block_less Body k q = omega arith
block_less (Arm stmt arm) k q = omega (arith, q)
block_less (Otherwise stmt) k q = omega (arith, q)
block_less (LoopBody stmt) k q = omega (arith, q)
