use Rattle.std.proofs.Common.{subst}
use Rattle.pyd_board.specs.declared.event.Act.TheVariants.{Trim}
use Rattle.pyd_core.specs.Steps.{Makes}
use Rattle.pyd_here.proofs.acting.trim.Goals as goal

pub returns : goal.returns
returns c =
    subst (λ seat. Makes c.args.core.now c.trim.new.self seat (Trim c.args.node))
    c.own_seat-seat.ensures.seat c.trim.ensures.makes
