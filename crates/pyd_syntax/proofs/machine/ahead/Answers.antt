use Rattle.std.proofs.Common.{◌∙◌}
use Rattle.pyd_syntax.proofs.Ahead.{ahead_at}
use Rattle.pyd_syntax.proofs.machine.ahead.Goals as goal

pub returns-then-at-tokens-clause-value : goal.returns-then-at-tokens-clause-value
returns-then-at-tokens-clause-value c = c.terminal.ensures.value ∙ ahead_at c.args.tokens.now c.args.at _ c.if-at-tokens.true
