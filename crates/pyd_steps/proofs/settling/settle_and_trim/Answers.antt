use Rattle.std.proofs.Common.{MatchOption, length, ap, sym, subst}
use Rattle.pyd_core.specs.Cores.{HasRoom, plan_of, state_of}
use Rattle.pyd_core.specs.Settling.{NoneSettles}
use Rattle.pyd_steps.specs.Settling.{HasUnreached, IsPrepared}
use Rattle.pyd_steps.proofs.SettledHeads.{fails_same, settles_and_trims, settles_then, unreached_still, unreached_then}
use Rattle.pyd_steps.proofs.settling.settle_and_trim.Goals as goal

pub trim_unreached-requires-clause-unreached : goal.trim_unreached-requires-clause-unreached
trim_unreached-requires-clause-unreached g c =
    subst (HasUnreached (state_of c.settle.new.core).graph) (sym c.as_slice.ensures)
    (unreached_then c.step_law.ensures c.make_ready.new.core c.settle.new.core c.args.seat _ _
    c.in-Ok-settle.ensures.ok c.in-Ok.nodes
    (unreached_still c.args.core.now c.make_ready.new.core c.in-Ok.ensures.stays c.in-Ok.nodes
    c.in-Ok.ensures.unreached))

pub trim_unreached-requires-clause-room : goal.trim_unreached-requires-clause-room
trim_unreached-requires-clause-room g c =
    subst (λ n. HasRoom n c.settle.new.core) (ap length (sym c.as_slice.ensures))
    (c.in-Ok-settle.ensures.room (length c.in-Ok.nodes) c.in-Ok.ensures.room)

pub returns-in-Ok-settle-clause-moves : goal.returns-in-Ok-settle-clause-moves
returns-in-Ok-settle-clause-moves g c =
    settles_and_trims c.beginning_law.ensures c.args.core.now c.settle.new.core
    c.trim_unreached.new.core c.args.seat _ _
    (settles_then c.args.core.now c.make_ready.new.core c.in-Ok.ensures.stays c.settle.new.core
    c.args.seat _ _ c.in-Ok-settle.ensures.ok)
    c.trim_unreached.ensures

pub returns-clause-moves : goal.returns-clause-moves
returns-clause-moves g c =
    let b = c.args.core.now in
    let prepared : IsPrepared (plan_of b) (state_of b) c.in-Some.prepared
    = subst (λ o. MatchOption o (NoneSettles (state_of b))
    (IsPrepared (plan_of b) (state_of b))) c.in-Some.is c.in_ok-prepared.ensures in
    fails_same c.prefix_law.ensures c.step_law.ensures c.journal_law.ensures b
    c.make_ready.new.core c.settle.new.core c.args.seat _ _ c.in-Ok.ensures.stays c.requires.core
    c.requires.seat c.requires.quiet prepared.settles.head.id prepared.settles.can
    c.in-Err-settle.ensures.err c.in-Err-settle.ensures.same
