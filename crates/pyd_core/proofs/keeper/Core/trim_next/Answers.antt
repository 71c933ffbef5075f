use Rattle.std.proofs.Common.{suc, sym, subst}
use Rattle.pyd_runs.specs.Plans.{IsSeat}
use Rattle.pyd_core.proofs.InRow.{comes_by_trim, leaves_trims, quiet_then, still_trimmable}
use Rattle.pyd_core.proofs.keeper.Core.trim_next.Goals as goal

pub trim-requires : goal.trim-requires
trim-requires c =
    let losses = c.lose_due.ensures.losses in
    record {
      core = losses.core;
      quiet = quiet_then c.trimmed_law.ensures c.beginning_law.ensures c.args.self.now
          c.lose_due.new.self c.args.seat c.args.node losses c.requires.goes_on
          c.lose_due.ensures.none_due;
      seat = subst (λ p. IsSeat p c.args.seat) (sym losses.plan) c.requires.seat;
      room = c.lose_due.ensures.room 1 c.requires.room;
      may = still_trimmable c.trimmed_law.ensures c.beginning_law.ensures c.args.self.now
          c.lose_due.new.self c.args.seat c.args.node losses c.requires.may;
    }

pub returns-clause-trims : goal.returns-clause-trims
returns-clause-trims c =
    comes_by_trim c.trimmed_law.ensures c.beginning_law.ensures c.args.self.now
    c.lose_due.new.self c.args.seat c.args.node c.lose_due.ensures.losses
    c.journal_law.ensures _ c.trim.ensures.makes

pub returns-clause-leaves : goal.returns-clause-leaves
returns-clause-leaves c =
    leaves_trims c.trimmed_law.ensures c.beginning_law.ensures c.args.self.now
    c.lose_due.new.self c.args.seat c.args.node c.lose_due.ensures.losses
    c.journal_law.ensures _ c.trim.ensures.makes

pub returns-clause-room : goal.returns-clause-room
returns-clause-room c n room =
    c.trim.ensures.room n (c.lose_due.ensures.room (suc n) room)
