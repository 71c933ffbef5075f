use Rattle.std.proofs.Common.{ap, sym, ◌∙◌, option_map}
use Rattle.pyd_desk.specs.Desks.{mark_at, placed_of}
use Rattle.pyd_core.specs.Claiming.{is_for}
use Rattle.pyd_core.specs.Cores.{state_of}
use Rattle.pyd_core.proofs.Claimed.{answers_ready}
use Rattle.pyd_core.proofs.keeper.Core.live_job.Goals as goal

pub returns-then-has_ticket-clause-live : goal.returns-then-has_ticket-clause-live
returns-then-has_ticket-clause-live c =
    let old = c.args.self.now in
    answers_ready c.run_law.ensures c.ticket_law.ensures old c.args.node c.args.attempt
    c.ready.result c.requires
    (ap (λ marks. is_for c.args.attempt (option_map placed_of (mark_at marks c.args.node).ticket))
    (sym c.as_slice.ensures.value)
    ∙ sym c.has_ticket.ensures ∙ c.if-has_ticket.true)
    (c.ready.ensures (state_of old).graph c.requires.tied.state.graph)
