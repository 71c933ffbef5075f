use Rattle.std.proofs.Common.{◌∙◌}
use Rattle.pyd_lex.proofs.Words.{begins_same}
use Rattle.pyd_lex.proofs.run.same.Goals as goal

pub returns-then-spelling-text : goal.returns-then-spelling-text
returns-then-spelling-text c = c.begins.ensures ∙ begins_same c.args.spelling.now c.args.text.now (search c.if-spelling-text.true)
