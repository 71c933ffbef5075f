use Rattle.std.proofs.Common.{◌≡◌, Some, refl, ap, sym, subst, ◌∙◌}
use Rattle.std.specs.List.{slice_get}
use Rattle.pyd_ir.specs.declared.node.Node.{Node}
use Rattle.pyd_runs.specs.Graphs.{end_at}
use Rattle.pyd_core.proofs.Pieces.{at_error, refines_at, stays_reserved}
use Rattle.pyd_core.proofs.keeper.Core.refine_reserved.Goals as goal

pub returns-in_err-grown-clause-memory : goal.returns-in_err-grown-clause-memory
returns-in_err-grown-clause-memory c =
    at_error c.from_residual-in_err-grown.result _
    (stays_reserved c.args.self.now c.grow-grown.new.line c.grow-grown.new.self c.requires.core
    c.in_err-grown.ensures.line c.in_err-grown.ensures.desk c.in_err-grown.ensures.machines)

pub returns-clause-ok : goal.returns-clause-ok
returns-clause-ok c =
    refines_at c.run_law.ensures c.step_law.ensures c.journal_law.ensures c.args.self.now _
    c.args.seat c.args.at c.node_at.result.now.id c.in_ok-piece.piece (record {
      core = c.requires.core;
      room = c.requires.room;
      quiet = c.requires.quiet;
      seat = c.requires.seat;
      may = c.requires.may;
    }) (record {
      program = refl;
      setup = refl;
      lost = refl;
      end = c.end_of-self.ensures ∙ ap end_at c.chain-2.ensures;
      number = λ n there. ap (λ (x : Node). x.id) (c.node_at.ensures n
          (subst (λ ns. slice_get ns c.args.at ≡ Some n) (sym c.chain.ensures) there));
      piece = c.in_ok-piece.ensures;
      refined = c.in_ok-grown.ensures.refined;
      settled = c.in_ok-grown.ensures.within;
      machines = c.in_ok-grown.ensures.machines;
      journal = c.note.ensures.journal;
      counted = c.note.ensures.counted;
      seats = c.note.ensures.seats;
      capacity = c.note.ensures.capacity;
    })
