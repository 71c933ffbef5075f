-- How much an activation has left to do, by which it is shown to end.
use Rattle.std.specs.Prelude.{ℕ, suc, ◌+◌, ◌*◌, ◌-◌}
use Rattle.pyd_names.specs.WellFormed.{parts}
use Rattle.pyd_eval.specs.declared.activation.Activation.{Activation}

-- more than the parts of any routine
abbrev pub room : Activation → ℕ
room on = suc (parts on.program.now.file)

-- what is left for a piece of so many parts: the calls that may still be nested, and then its parts, each with eight stages
abbrev pub left_for : Activation → ℕ → ℕ → ℕ
left_for on parts stage = (on.limits.depth - on.depth) * (8 * room on) + (8 * parts + stage)
