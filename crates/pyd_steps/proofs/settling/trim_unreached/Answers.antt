use Rattle.std.proofs.Common.{sym, ◌∙◌}
use Rattle.pyd_core.specs.Cores.{plan_of, state_of}
use Rattle.pyd_core.proofs.DueLosses.{goes_on}
use Rattle.pyd_core.proofs.Lost.{is_sound}
use Rattle.pyd_steps.proofs.LastTrims.{trims_made}
use Rattle.pyd_steps.proofs.settling.trim_unreached.Goals as goal

pub trim_all-requires-clause-may : goal.trim_all-requires-clause-may
trim_all-requires-clause-may c =
    let d = c.args.core.now in
    c.unreached_law.ensures (plan_of d) (state_of d) c.args.nodes.now
    (is_sound c.run_law.ensures d c.requires.core)
    (c.requires.unreached (goes_on c.args.seat d (sym c.if-has_ended.false ∙ c.has_ended.ensures)))

pub returns : goal.returns
returns c =
    let d = c.args.core.now in
    let those = c.requires.unreached
    (goes_on c.args.seat d (sym c.if-has_ended.false ∙ c.has_ended.ensures)) in
    trims_made c.beginning_law.ensures c.reach_law.ensures d c.trim_all.new.self c.args.seat
    c.args.nodes.now those
    (c.unreached_law.ensures (plan_of d) (state_of d) c.args.nodes.now
    (is_sound c.run_law.ensures d c.requires.core) those)
    c.trim_all.ensures.trims
