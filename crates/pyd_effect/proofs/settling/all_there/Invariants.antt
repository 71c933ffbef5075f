-- The values so far, and then those of the inputs that are left, are all.
use Rattle.std.proofs.Common.{◌≡◌, ◌++◌, drop, option_map}
use Rattle.pyd_effect.specs.Settling.{all_there}
use Rattle.pyd_effect.proofs.settling.all_there.Given as goal

abbrev pub invariant-loop-input : goal.invariant-loop-input
invariant-loop-input l =
    option_map (λ vs. l.values ++ vs) (all_there (drop l.input-index l.inputs)) ≡ all_there l.inputs
