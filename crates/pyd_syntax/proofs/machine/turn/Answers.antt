use Rattle.pyd_syntax.specs.declared.step.Step.TheVariants.{Expand}
use Rattle.pyd_syntax.specs.Terminals.{terminals}
use Rattle.pyd_syntax.proofs.Entries.{rule_known, expanded, no_entry}
use Rattle.pyd_syntax.proofs.machine.turn.Goals as goal

pub entry-production-requires-clause-rule : goal.entry-production-requires-clause-rule
entry-production-requires-clause-rule c = rule_known c.args.symbol c.in-Rule.rule c.in-Rule.is c.requires.symbol

pub returns-in_ok-expand-in-Rule : goal.returns-in_ok-expand-in-Rule
returns-in_ok-expand-in-Rule c = (
  Expand c.entry-production.result,
  c.in_ok-push-in-Rule.ensures.items,
  expanded c.args.symbol c.in-Rule.rule (terminals c.args.tokens.now) _ _ c.args.at c.ahead.result c.entry-production.result c.in-Rule.is c.ahead.ensures.value
      c.entry-production.ensures.value c.if-production-lt-PRODUCTIONS.true c.in_ok-expand-in-Rule.ensures.ok,
)

pub returns-else-production-lt-PRODUCTIONS : goal.returns-else-production-lt-PRODUCTIONS
returns-else-production-lt-PRODUCTIONS c =
    no_entry c.args.symbol c.in-Rule.rule (terminals c.args.tokens.now) c.args.at c.ahead.result c.entry-production.result c.in-Rule.is c.ahead.ensures.value
    c.entry-production.ensures.value c.if-production-lt-PRODUCTIONS.false
