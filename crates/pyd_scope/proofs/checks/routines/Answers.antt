use Rattle.pyd_scope.proofs.Firsts.{few_parts}
use Rattle.pyd_scope.proofs.checks.routines.Goals as goal

pub add_item-requires : goal.add_item-requires
add_item-requires c =
    few_parts c.as_slice-item-items.result.now c.args.file.now.items c.loop-item.item-index c.item-item.result
    c.as_slice-item-items.ensures c.item-item.is c.loop-item-test.true c.requires.few
