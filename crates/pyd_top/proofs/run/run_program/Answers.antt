use Rattle.pyd_top.proofs.Concluding.{evaluated}
use Rattle.pyd_top.proofs.run.run_program.Goals as goal

pub returns-clause-concludes : goal.returns-clause-concludes
returns-clause-concludes g c =
    evaluated c.args.bytes.now c.args.program.now _ c.evaluate.result c.requires.fits c.requires.accepted c.evaluate.ensures.evaluated
