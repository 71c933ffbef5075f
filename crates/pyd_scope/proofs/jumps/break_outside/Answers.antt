use Rattle.std.proofs.Common.{◌∙◌, ap}
use Rattle.std.specs.List.{flat_map}
use Rattle.pyd_scope.specs.Least.{least, lesser}
use Rattle.pyd_scope.specs.Rules as rule
use Rattle.pyd_scope.proofs.Leasts.{least_more, least_whole}
use Rattle.pyd_scope.proofs.jumps.break_outside.Goals as goal

pub loop-item-preserved : goal.loop-item-preserved
loop-item-preserved c =
    least_more rule.breaks_outside c.as_slice-item-items.result.now c.loop-item.item-index c.item-item.result c.loop-item.line c.lesser-line.result
    c.item-item.is c.loop-item-test.true c.loop-item.invariant (c.lesser-line.ensures ∙ ap (lesser c.loop-item.line) c.breaks_in_item.ensures)

pub returns : goal.returns
returns c =
    least_whole rule.breaks_outside c.as_slice-item-items.result.now c.loop-item.item-index c.loop-item.line c.loop-item-test.false c.loop-item.invariant
    ∙ ap (λ items. least (flat_map rule.breaks_outside items)) c.as_slice-item-items.ensures
