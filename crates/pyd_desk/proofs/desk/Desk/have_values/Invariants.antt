-- Whether all have values is whether those that are left have.
use Rattle.std.proofs.Common.{◌≡◌, drop}
use Rattle.pyd_ir.specs.Inputs.{have_values}
use Rattle.pyd_desk.specs.Reading.{given_of}
use Rattle.pyd_desk.proofs.desk.Desk.have_values.Given as goal

abbrev pub invariant-loop-arg : goal.invariant-loop-arg
invariant-loop-arg l =
    have_values (given_of l.self) (drop l.arg-index l.args) ≡ have_values (given_of l.self) l.args
