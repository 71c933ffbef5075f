use Rattle.pyd_derivation.proofs.Utf8.{from_good, from_bad}
use Rattle.pyd_derivation.proofs.spelling.characters.Goals as goal

pub returns-in-Ok : goal.returns-in-Ok
returns-in-Ok c = from_good c.args.bytes.now c.in-Ok.text.now c.of.result c.in-Ok.ensures.cases.0 c.in-Ok.ensures.cases.1 c.of.ensures

pub returns-in-Err : goal.returns-in-Err
returns-in-Err c = from_bad c.args.bytes.now c.empty.result c.in-Err.ensures.cases.0 c.empty.ensures
