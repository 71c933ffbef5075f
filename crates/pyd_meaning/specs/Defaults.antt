-- The limits of a run where nothing else is asked for.
use Rattle.std.specs.Prelude.{ℕ}
use Rattle.pyd_meaning.specs.declared.limits.Limits.{Limits}

-- so many turns of a loop
abbrev pub default_turns : ℕ
default_turns = 100000

-- calls so deep
abbrev pub default_depth : ℕ
default_depth = 64

-- both
abbrev pub default_limits : Limits
default_limits = record { turns = default_turns; depth = default_depth }
