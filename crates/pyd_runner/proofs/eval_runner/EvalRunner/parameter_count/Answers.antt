use Rattle.std.proofs.Common.{sym, ap, ◌∙◌}
use Rattle.std.specs.Option.{option_copied}
use Rattle.pyd_runner.proofs.Functions.{count_is, has_routine}
use Rattle.pyd_runner.proofs.eval_runner.EvalRunner.parameter_count.Goals as goal

pub unreachable-requires : goal.unreachable-requires
unreachable-requires c =
    let program = c.args.self.now.program in
    has_routine program.file program.routines c.args.func program.its_routines c.requires
    (sym (ap option_copied c.in-None.is) ∙ c.get.ensures.item)

pub returns : goal.returns
returns c =
    let program = c.args.self.now.program in
    count_is program.file program.routines c.args.func c.in-Some.routine.now program.its_routines c.requires
    (sym (ap option_copied c.in-Some.is) ∙ c.get.ensures.item)
