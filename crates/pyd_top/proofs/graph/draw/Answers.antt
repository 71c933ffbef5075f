use Rattle.std.proofs.Common.{ap, Err}
use Rattle.pyd_top.proofs.Concluding.{drawn, drawn_off, drawn_part}
use Rattle.pyd_top.proofs.graph.draw.Goals as goal

pub returns-in-Ok-clause-concludes : goal.returns-in-Ok-clause-concludes
returns-in-Ok-clause-concludes g c =
    drawn c.args.bytes.now c.args.program.now _ c.requires.fits c.requires.accepted c.in-Ok.ensures.ok

pub returns-in-Err-SinkFault-clause-concludes : goal.returns-in-Err-SinkFault-clause-concludes
returns-in-Err-SinkFault-clause-concludes g c =
    drawn_off c.args.bytes.now c.args.program.now _ c.requires.fits c.requires.accepted c.in-Err-SinkFault.ensures.err (c.in-Err-SinkFault.ensures.cause.cause (ap Err c.in-Err-SinkFault.field-0-is))

pub returns-in-Err-NoMemory-clause-concludes : goal.returns-in-Err-NoMemory-clause-concludes
returns-in-Err-NoMemory-clause-concludes g c =
    drawn_part c.args.bytes.now c.args.program.now _ c.requires.fits c.requires.accepted c.in-Err-NoMemory.ensures.err
