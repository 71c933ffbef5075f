use Rattle.std.proofs.Common.{◌≡◌, ◌<◌, ap, sym, ◌∙◌, arith}
use Rattle.pyd_pool.proofs.Steps.{forks}
use Rattle.pyd_pool.proofs.making.new_deque.Goals as goal

pub another-pass-requires : goal.another-pass-requires
another-pass-requires c = forks _ _ c.requires.more
