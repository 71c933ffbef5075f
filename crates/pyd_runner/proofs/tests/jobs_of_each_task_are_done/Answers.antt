use Rattle.std.proofs.Common.{refl}
use Rattle.pyd_runner.specs.Bases.{basis_under}
use Rattle.pyd_runner.proofs.tests.jobs_of_each_task_are_done.Goals as goal

pub done-requires : goal.done-requires
done-requires g c =
    let runner = c.new-runner.result in (
      basis_under runner.program.file runner.limits,
      refl,
      c.in_ok-task.ensures runner.program.file c.loop-doing.invariant,
    )
