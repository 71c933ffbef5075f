use Rattle.std.proofs.Common.{sym, subst, ◌∙◌}
use Rattle.std.proofs.lemmas.Result.{IfOk-weaker}
use Rattle.pyd_core.specs.Cores.{plan_of, state_of}
use Rattle.pyd_core.specs.Trimmings.{PassesHead}
use Rattle.pyd_core.proofs.Lost.{is_sound}
use Rattle.pyd_steps.proofs.HeadLines.{ended_unreached, passed_unreached, passes_head, pure_same}
use Rattle.pyd_steps.proofs.settling.unreached.Goals as goal

pub unreached_behind_head-requires-clause-order : goal.unreached_behind_head-requires-clause-order
unreached_behind_head-requires-clause-order c =
    let d = c.args.core.now in
    let passes = subst (PassesHead (plan_of d) (state_of d))
    (pure_same d c.args.settling.now c.requires.is c.requires.core c.head.result.now c.head.ensures
    ∙ sym c.is_pure.ensures)
    (passes_head (plan_of d) (state_of d) c.args.settling.now c.requires.is _ c.in-Passed.is) in
    c.behind_head_law.ensures (plan_of d) (state_of d) c.is_pure.result passes
    (is_sound c.run_law.ensures d c.requires.core) c.requires.goes_on

pub returns-in-Passed : goal.returns-in-Passed
returns-in-Passed c =
    let d = c.args.core.now in
    let passes = subst (PassesHead (plan_of d) (state_of d))
    (pure_same d c.args.settling.now c.requires.is c.requires.core c.head.result.now c.head.ensures
    ∙ sym c.is_pure.ensures)
    (passes_head (plan_of d) (state_of d) c.args.settling.now c.requires.is _ c.in-Passed.is) in
    IfOk-weaker c.unreached_behind_head.result _ _
    (λ nodes are. passed_unreached (plan_of d) (state_of d) c.is_pure.result passes nodes are)
    c.unreached_behind_head.ensures

pub returns-in-Ended : goal.returns-in-Ended
returns-in-Ended c =
    let d = c.args.core.now in
    ended_unreached (plan_of d) (state_of d) c.args.settling.now c.requires.is _ c.in-Ended.is
    c.new.result
