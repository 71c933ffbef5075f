use Rattle.std.proofs.Common.{refl}
use Rattle.pyd_run_tests.proofs.board.serving.a_runner_answers_the_job_it_is_given.Goals as goal

pub run_here-requires : goal.run_here-requires
run_here-requires g c = record { serves = (_, refl, tt) }
