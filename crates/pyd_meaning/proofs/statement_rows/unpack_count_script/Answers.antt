use Rattle.std.proofs.Common.{refl, ap, ◌∙◌}
use Rattle.std.specs.Fmt.{digits}
use Rattle.pyd_meaning.specs.Defaults.{default_limits}
use Rattle.pyd_meaning.specs.Evaluation.{settled, step, prints, ◌>>=◌}
use Rattle.pyd_meaning.specs.Expression.{each, chained, conjunction, disjunction, compared, suffixed}
use Rattle.pyd_meaning.specs.Completion.{in_turn}
use Rattle.pyd_meaning.specs.Loops.{while_from, for_from}
use Rattle.pyd_meaning.specs.Statement.{arms}
use Rattle.pyd_meaning.specs.Rows.{seen}
use Rattle.pyd_meaning.proofs.Running.{script_means, calls_in}
use Rattle.pyd_meaning.proofs.Rules.{lines, statements, expressions, values}
use Rattle.pyd_meaning.proofs.statement_rows.unpack_count_script.Goals as goal

pub returns : goal.returns
unfolding ◌>>=◌ settled step prints digits each chained conjunction disjunction compared suffixed in_turn while_from for_from arms calls_in
returns c file is =
    ap seen (script_means file _ is default_limits) ∙ simp (lines, statements, expressions, values) refl
