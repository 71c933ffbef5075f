use Rattle.std.proofs.Common.{◌≡◌, ◌<◌, ap, sym, ◌∙◌, arith}
use Rattle.pyd_pool.proofs.Steps.{begins}
use Rattle.pyd_pool.proofs.making.new_owner.Goals as goal

pub fifo_as-requires : goal.fifo_as-requires
fifo_as-requires c = begins
