use Rattle.std.proofs.Common.{refl, ap, ◌∙◌}
use Rattle.pyd_runs.specs.Graphs.{end_at}
use Rattle.pyd_core.proofs.Begun.{begins}
use Rattle.pyd_core.proofs.keeper.Core.start.Goals as goal

pub returns-in-Ok-clause-core : goal.returns-in-Ok-clause-core
returns-in-Ok-clause-core c = begins c.block_order_law.ensures _ (record {
  runnable = c.requires.runnable;
  few = c.requires.few;
  parts = c.in-Ok.ensures;
  lost = refl;
  end = c.end_of-end.ensures ∙ ap end_at c.as_slice.ensures.value;
})
