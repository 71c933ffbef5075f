use Rattle.std.proofs.Common.{◌≡◌, ◌++◌, List, length, refl, ap, sym, ◌∙◌, arith}
use Rattle.pyd_tree.specs.declared.expression.Suffix.{Suffix}
use Rattle.pyd_scope.specs.declared.cells.Origin.TheVariants.{Part}
use Rattle.pyd_scope.specs.Parting.{direct_of}
use Rattle.pyd_scope.specs.Cells.{expression_cells, part_cells, bounds_from, suffix_parts, placed_from}
use Rattle.pyd_scope.specs.Closing.{IsClosed}
use Rattle.pyd_scope.proofs.Expressions.{all_bracketed}
use Rattle.pyd_scope.proofs.Walking.{when_ok, expression_closed, expression_size, member_size, suffix_size, part_more, parts_done}
use Rattle.pyd_scope.proofs.numbering.+number_parts.Goals as goal

pub add_expression-add_parts-requires : goal.add_expression-add_parts-requires
add_expression-add_parts-requires t c =
    let size = expression_size c.args.e.now in
    omega (arith, size)

pub add_expression-add_suffixes-requires : goal.add_expression-add_suffixes-requires
add_expression-add_suffixes-requires t c =
    let size = expression_size c.args.e.now in
    let same = ap (λ (ss : List Suffix). length (all_bracketed ss)) c.suffixes.ensures in
    omega (arith, size, same)

pub add_expression-returns : goal.add_expression-returns
add_expression-returns t c =
    when_ok c.close.result
    (IsClosed c.in_ok-of.of c.args.origin c.add_suffixes.new.out.items c.close.new.out.items)
    (c.close.new.out.items
    ≡ c.args.out.now.items ++ expression_cells c.args.e.now c.args.origin (length c.args.out.now.items))
    (λ closed. expression_closed c.args.e.now c.args.origin c.args.out.now.items c.push.new.self.items
    c.add_parts.new.out.items c.add_suffixes.new.out.items c.close.new.out.items
    c.in_ok-of.of c.in_ok-of.of (c.in_ok-of.ensures ∙ ap length c.as_slice.ensures.value) refl
    c.in_ok-push.ensures.items c.in_ok-add_parts.ensures
    (c.in_ok-add_suffixes.ensures
    ∙ ap (λ (ss : List Suffix). c.add_parts.new.out.items
    ++ part_cells (bounds_from suffix_parts c.in_ok-of.of 0 ss) (length c.add_parts.new.out.items))
    c.suffixes.ensures) closed)
    c.close.ensures

pub add_parts-add_expression-requires : goal.add_parts-add_expression-requires
add_parts-add_expression-requires t c =
    let less = member_size (direct_of c.args.e.now) c.loop-at.at c.in-Some.part.now (sym c.in-Some.ensures) in
    omega (arith, less)

pub add_parts-returns-in-None : goal.add_parts-returns-in-None
add_parts-returns-in-None t c =
    parts_done c.args.of c.loop-at.at (direct_of c.args.e.now) c.loop-at.out.items
    (c.args.out.now.items
    ++ part_cells (placed_from (Part c.args.of) 0 (direct_of c.args.e.now)) (length c.args.out.now.items))
    (sym c.in-None.ensures) c.loop-at.invariant

pub add_parts-loop-at-preserved : goal.add_parts-loop-at-preserved
add_parts-loop-at-preserved t c =
    part_more c.args.of c.loop-at.at (direct_of c.args.e.now) c.in-Some.part.now c.loop-at.out.items
    c.add_expression.new.out.items
    (c.args.out.now.items
    ++ part_cells (placed_from (Part c.args.of) 0 (direct_of c.args.e.now)) (length c.args.out.now.items))
    (sym c.in-Some.ensures) c.loop-at.invariant
    c.in_ok-add_expression-in-Some.ensures

pub add_suffixes-add_suffix-requires : goal.add_suffixes-add_suffix-requires
add_suffixes-add_suffix-requires t c =
    let less = suffix_size c.args.suffixes.now c.loop-at.at c.index-suffixes-at.result c.loop-at-test.true
    c.index-suffixes-at.is in
    omega (arith, less)
