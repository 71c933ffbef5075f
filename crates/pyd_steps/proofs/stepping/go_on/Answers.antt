use Rattle.pyd_steps.proofs.StepAsked.{asks_itself}
use Rattle.pyd_steps.proofs.stepping.go_on.Goals as goal

pub returns-then-has_ended-clause-asks : goal.returns-then-has_ended-clause-asks
returns-then-has_ended-clause-asks g c = asks_itself c.args.core.now _ c.requires.core

pub returns-then-is_lost-clause-asks : goal.returns-then-is_lost-clause-asks
returns-then-is_lost-clause-asks g c = asks_itself c.args.core.now _ c.requires.core
