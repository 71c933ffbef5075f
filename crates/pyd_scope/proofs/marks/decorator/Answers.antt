use Rattle.std.proofs.Common.{ℕ, List, ◌++◌, ◌+◌, drop, ◌∙◌, ap, sym}
use Rattle.pyd_tree.specs.declared.file.Item.{Item}
use Rattle.pyd_names.specs.Binding.{imports_in}
use Rattle.pyd_scope.specs.Least.{least, lesser}
use Rattle.pyd_scope.specs.Rules as rule
use Rattle.pyd_scope.proofs.Leasts.{drop_at, least_onward}
use Rattle.pyd_scope.proofs.marks.decorator.Goals as goal

pub loop-item-preserved : goal.loop-item-preserved
loop-item-preserved c =
    let rest : List Item = drop (c.loop-item.item-index + 1) c.as_slice-item-items.result.now in
    least_onward _ c.loop-item.line c.lesser-line.result (rule.bad_in c.loop-item.above c.item-item.result) (rule.bad_from (c.loop-item.above ++ imports_in c.item-item.result) rest)
    (c.loop-item.invariant ∙ ap (λ (items : List Item). lesser c.loop-item.line (least (rule.bad_from c.loop-item.above items)))
    (drop_at c.as_slice-item-items.result.now c.loop-item.item-index c.item-item.result c.item-item.is c.loop-item-test.true))
    (c.lesser-line.ensures ∙ ap (lesser c.loop-item.line) c.in_ok-bad_in.ensures)
    ∙ ap (λ (above : List (List ℕ)). lesser c.lesser-line.result (least (rule.bad_from above rest))) (sym c.in_ok-add_imports.ensures)
