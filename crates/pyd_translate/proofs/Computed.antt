-- The nodes of small expressions.
use Rattle.pyd_translate.specs.Making.{pure, emit, ◌>>>◌}
use Rattle.pyd_translate.specs.Expressions.{chained, conjunction, compared, suffixed}
use Rattle.pyd_translate.specs.Rows.{ChainRow, ComparisonRow, ConditionalRow, AndRow, SliceRow}
use Rattle.pyd_translate.proofs.Constructs.{literal, chain, comparison, conditional, conjunction as and_nodes, suffixed as suffixed_nodes, slice_to}

-- `1 + 2 - 3`
pub chain_row : ChainRow
unfolding ◌>>>◌ pure emit chained
chain_row file = simp (chain, literal)

-- `1 < 2 < 3`
pub comparison_row : ComparisonRow
unfolding ◌>>>◌ pure emit compared
comparison_row file = simp (comparison, literal)

-- `1 if 2 else 3`
pub conditional_row : ConditionalRow
unfolding ◌>>>◌ pure emit
conditional_row file = simp (conditional, literal)

-- `1 and 2 and 3`
pub and_row : AndRow
unfolding ◌>>>◌ pure emit conjunction
and_row file = simp (and_nodes, literal)

-- `1[:2]`
pub slice_row : SliceRow
unfolding ◌>>>◌ pure emit suffixed
slice_row file = simp (suffixed_nodes, slice_to, literal)
