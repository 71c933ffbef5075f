use Rattle.std.proofs.Common.{ap}
use Rattle.pyd_derivation.proofs.Whole.{may_read}
use Rattle.pyd_measure.specs.declared.state.State.{State}
use Rattle.pyd_measure.proofs.Single.{deep_by, target_by}
use Rattle.pyd_measure.proofs.measured.measure.Goals as goal

pub read-requires-clause-shifts : goal.read-requires-clause-shifts
read-requires-clause-shifts c = (may_read c.args.steps.now c.args.tokens.now c.requires).1

pub read-requires-clause-known : goal.read-requires-clause-known
read-requires-clause-known c = (may_read c.args.steps.now c.args.tokens.now c.requires).0

pub returns-clause-deep : goal.returns-clause-deep
returns-clause-deep c = deep_by c.args.steps.now c.args.tokens.now c.in_ok-read.field-0.found.deep c.requires (ap (λ (s : State). s.found.deep) c.in_ok-read.ensures)

pub returns-clause-target : goal.returns-clause-target
returns-clause-target c = target_by c.args.steps.now c.args.tokens.now c.in_ok-read.field-0.found.target c.requires (ap (λ (s : State). s.found.target) c.in_ok-read.ensures)
