use Rattle.std.proofs.Common.{refl}
use Rattle.pyd_top.proofs.Concluding.{approved, broken_off}
use Rattle.pyd_top.proofs.check.approve.Goals as goal

pub returns-in-Ok-clause-concludes : goal.returns-in-Ok-clause-concludes
returns-in-Ok-clause-concludes g c =
    approved c.args.bytes.now c.args.program.now _ c.requires.fits c.requires.accepted c.in-Ok.ensures.ok

pub returns-in-Err-clause-concludes : goal.returns-in-Err-clause-concludes
returns-in-Err-clause-concludes g c =
    broken_off c.args.bytes.now c.args.program.now _ c.requires.fits c.requires.accepted c.in-Err.ensures.err (c.in-Err.ensures.cause.cause refl)
