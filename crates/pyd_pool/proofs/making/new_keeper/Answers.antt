use Rattle.std.proofs.Common.{◌≡◌, ◌<◌, ap, sym, ◌∙◌, arith}
use Rattle.pyd_pool.proofs.Steps.{begins}
use Rattle.pyd_pool.proofs.making.new_keeper.Goals as goal

pub with_rule-requires : goal.with_rule-requires
with_rule-requires c = begins
