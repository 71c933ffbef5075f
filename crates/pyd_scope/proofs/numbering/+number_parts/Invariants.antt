-- What was put at the end, and then what is left, is all that is to be put there.
use Rattle.std.proofs.Common.{◌≡◌, ◌+◌, ◌*◌, ◌++◌, length, drop}
use Rattle.std.specs.Option.{option_copied}
use Rattle.pyd_scope.specs.declared.cells.Origin.TheVariants.{Part}
use Rattle.pyd_scope.specs.Numbering.{expressions}
use Rattle.pyd_scope.specs.Parting.{direct_of}
use Rattle.pyd_scope.specs.Cells.{part_cells, placed_from, bounds_from, suffix_parts}
use Rattle.pyd_scope.proofs.Expressions.{suffix_expressions, member_expressions, all_bracketed}
use Rattle.pyd_scope.proofs.Walking.{maybe_size}
use Rattle.pyd_scope.proofs.numbering.+number_parts.Given as goal

abbrev pub decreases-add_expression : goal.decreases-add_expression
decreases-add_expression l = 4 * length (expressions l.e.now)

abbrev pub decreases-add_parts : goal.decreases-add_parts
decreases-add_parts l = 4 * length (member_expressions (direct_of l.e.now)) + 1

abbrev pub decreases-add_suffixes : goal.decreases-add_suffixes
decreases-add_suffixes l = 4 * length (all_bracketed l.suffixes.now) + 3

abbrev pub decreases-add_suffix : goal.decreases-add_suffix
decreases-add_suffix l = 4 * length (suffix_expressions l.suffix.now) + 2

abbrev pub decreases-add_placed : goal.decreases-add_placed
decreases-add_placed l = 4 * maybe_size (option_copied l.e) + 1

abbrev pub invariant-add_parts-loop-at : goal.invariant-add_parts-loop-at
invariant-add_parts-loop-at l =
    l.out.items ++ part_cells (placed_from (Part l.of) l.at (drop l.at (direct_of l.e))) (length l.out.items)
    ≡ l.initial.out.items ++ part_cells (placed_from (Part l.of) 0 (direct_of l.e)) (length l.initial.out.items)

abbrev pub invariant-add_suffixes-loop-at : goal.invariant-add_suffixes-loop-at
invariant-add_suffixes-loop-at l =
    l.out.items ++ part_cells (bounds_from suffix_parts l.of l.at (drop l.at l.suffixes)) (length l.out.items)
    ≡ l.initial.out.items ++ part_cells (bounds_from suffix_parts l.of 0 l.suffixes) (length l.initial.out.items)
