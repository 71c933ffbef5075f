use Rattle.std.proofs.Common.{sym, subst, ◌∙◌}
use Rattle.pyd_runs.specs.Plans.{IsSeat}
use Rattle.pyd_core.proofs.DueLosses.{all_lost, may_lose, none_lost, one_more}
use Rattle.pyd_core.proofs.Lost.{is_nearer, next_within}
use Rattle.pyd_core.proofs.keeper.Core.lose_all.Goals as goal

pub loop-machine-init : goal.loop-machine-init
loop-machine-init c =
    none_lost c.args.seat c.args.self.now c.requires.core c.requires.goes_on

pub due_machine-requires : goal.due_machine-requires
due_machine-requires c = c.loop-machine.invariant.core

pub lose-requires-clause-core : goal.lose-requires-clause-core
lose-requires-clause-core c = c.loop-machine.invariant.core

pub lose-requires-clause-seat : goal.lose-requires-clause-seat
lose-requires-clause-seat c =
    subst (λ p. IsSeat p c.args.seat) (sym c.loop-machine.invariant.plan) c.requires.seat

pub lose-requires-clause-can : goal.lose-requires-clause-can
lose-requires-clause-can c =
    may_lose c.args.seat c.args.self.now c.loop-machine.self c.loop-machine.invariant
    c.journal_law.ensures c.in-Some.machine c.requires.driver
    (sym c.due_machine.ensures ∙ c.in-Some.is)

pub loop-machine-preserved : goal.loop-machine-preserved
loop-machine-preserved c =
    one_more c.args.seat c.args.self.now c.loop-machine.self c.loop-machine.invariant
    c.step_law.ensures c.desk_law.ensures c.in-Some.machine c.lose.new.self c.lose.ensures.makes
    c.lose.ensures.room

pub loop-machine-smaller : goal.loop-machine-smaller
loop-machine-smaller c =
    is_nearer c.loop-machine.self c.lose.new.self c.lose.ensures.makes.plan c.lose.ensures.lost
    (next_within c.loop-machine.self c.in-Some.machine c.loop-machine.invariant.core
    (sym c.due_machine.ensures ∙ c.in-Some.is))

pub returns-clause-losses : goal.returns-clause-losses
returns-clause-losses c =
    all_lost c.args.seat c.args.self.now c.loop-machine.self c.loop-machine.invariant
    c.beginning_law.ensures c.only_due_law.ensures (sym c.due_machine.ensures ∙ c.in_default.is)
