-- What is left of a claim that is let go.
use Rattle.std.specs.Prelude.{ℕ, List, Bool, if◌then◌else◌, Option, None}
use Rattle.pyd_desk.specs.declared.desk.Held.{Held}
use Rattle.pyd_desk.specs.Desks.{goes_with}

-- a claim, once an attempt, or what is claimed on a machine, is let go
abbrev pub released : List Bool → ℕ → ℕ → Option Held → Option Held
released alive attempt machine claim =
    if goes_with alive attempt machine claim then None else claim
