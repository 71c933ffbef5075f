-- All arguments keep their values where those that are left do.
use Rattle.std.proofs.Common.{◌≡◌, drop}
use Rattle.pyd_steps.specs.Placing as spec
use Rattle.pyd_steps.proofs.placing.keep_values.Given as goal

abbrev pub invariant-loop-arg : goal.invariant-loop-arg
invariant-loop-arg l =
    spec.keep_values (spec.outlasts l.core (spec.machines_due l.core)) l.args
    ≡ spec.keep_values (spec.outlasts l.core (spec.machines_due l.core)) (drop l.arg-index l.args)
