use Rattle.std.proofs.Common.{refl}
use Rattle.pyd_meaning.specs.Evaluation.{settled, step, prints, ◌>>=◌}
use Rattle.pyd_meaning.specs.Expression.{each, chained, conjunction, disjunction, compared, suffixed}
use Rattle.pyd_meaning.proofs.Rules.{expressions, values}
use Rattle.pyd_meaning.proofs.rows.conditional_row.Goals as goal

pub returns : goal.returns
unfolding ◌>>=◌ settled step prints each chained conjunction disjunction compared suffixed
returns c = simp (expressions, values) refl
