-- The values so far, and then those of the arguments that are left, are all.
use Rattle.std.proofs.Common.{◌≡◌, ◌++◌, drop, option_map}
use Rattle.pyd_ir.specs.Inputs.{values_of}
use Rattle.pyd_desk.specs.Reading.{given_of}
use Rattle.pyd_desk.proofs.desk.Desk.values.Given as goal

abbrev pub invariant-loop-arg : goal.invariant-loop-arg
invariant-loop-arg l =
    option_map (λ vs. l.values ++ vs) (values_of (given_of l.self) (drop l.arg-index l.args))
    ≡ values_of (given_of l.self) l.args
