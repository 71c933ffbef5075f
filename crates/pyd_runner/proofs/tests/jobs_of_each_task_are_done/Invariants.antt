use Rattle.std.proofs.Common.{IsSome}
use Rattle.pyd_names.specs.Binding.{function}
use Rattle.pyd_runner.proofs.tests.jobs_of_each_task_are_done.Given as goal

abbrev pub invariant-loop-doing : goal.invariant-loop-doing
invariant-loop-doing g l = IsSome (function l.runner.program.file 1)
