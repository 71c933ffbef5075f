-- The values so far, and then those of the arguments that are left, are all.
use Rattle.std.proofs.Common.{◌≡◌, ◌++◌, drop, map}
use Rattle.pyd_ir.specs.Inputs.{value_of}
use Rattle.pyd_desk.specs.Reading.{given_of}
use Rattle.pyd_core.proofs.preparing.values.Given as goal

abbrev pub invariant-loop-arg : goal.invariant-loop-arg
invariant-loop-arg l =
    l.values ++ map (value_of (given_of l.desk)) (drop l.arg-index l.args)
    ≡ map (value_of (given_of l.desk)) l.args
