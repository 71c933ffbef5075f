use Rattle.std.proofs.Common.{refl}
use Rattle.std.specs.Fmt.{digits}
use Rattle.pyd_meaning.specs.Evaluation.{settled, step, prints, ◌>>=◌}
use Rattle.pyd_meaning.specs.Expression.{each, chained, conjunction, disjunction, compared, suffixed}
use Rattle.pyd_meaning.proofs.Rules.{expressions, values, lines}
use Rattle.pyd_meaning.proofs.rows.print_row.Goals as goal

pub returns : goal.returns
unfolding ◌>>=◌ settled step prints digits each chained conjunction disjunction compared suffixed
returns c = simp (lines, expressions, values) refl
