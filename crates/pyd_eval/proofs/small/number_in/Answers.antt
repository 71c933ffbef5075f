use Rattle.pyd_eval.proofs.Numbers.{literal-number, name-number}
use Rattle.pyd_eval.proofs.small.number_in.Goals as goal

pub returns-in-Lit : goal.returns-in-Lit
returns-in-Lit c = literal-number c.args.on.now c.args.line c.args.slots.now _ _ c.narrow.result c.in-Lit.is c.narrow.ensures

pub returns-in-Ok : goal.returns-in-Ok
returns-in-Ok c =
    name-number c.args.on.now c.args.line c.args.slots.now _ _ _ c.narrow-number.result c.in-Name.is (rw c.in-Ok.is at c.read.ensures) (rw c.value.ensures at c.narrow-number.ensures)
