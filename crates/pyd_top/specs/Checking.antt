-- Mode `check`: what it makes of an input.
use Rattle.std.specs.Prelude.{◌≡◌, ◌⊎◌, ℕ, ◌-◌, List, ◌++◌, length, codes, decimal}
use Rattle.pyd_scope.specs.declared.program.Program.{Program}
use Rattle.pyd_top.specs.declared.conclusion.Conclusion.{Conclusion}
use Rattle.pyd_top.specs.declared.conclusion.Conclusion.TheVariants as conclusion
use Rattle.pyd_top.specs.Accepts.{Fits, Accepted}
use Rattle.pyd_top.specs.Refusals.{Refuses}

-- the line that tells a number of functions and of constants
abbrev pub counts : ℕ → ℕ → List ℕ
counts functions constants =
    codes "ok: " ++ ((decimal functions ++ codes " functions, ") ++ (decimal constants ++ codes " constants\n"))

-- how many functions and constants a program has: neither the module nor `__name__` counts
abbrev pub summary : Program → List ℕ
summary p = counts (length p.routines - 1) (length p.constants - 1)

-- an accepted source gives its summary
pub record Approves (input output : List ℕ) (c : Conclusion) : Type 0 where
  pub program : Program
  pub fits : Fits input
  pub accepted : Accepted input program
  pub output_is : output ≡ summary program
  pub conclusion_is : c ≡ conclusion.Done

-- what `check` makes of an input
abbrev pub Checks : List ℕ → List ℕ → Conclusion → Type 0
Checks input output c = Approves input output c ⊎ Refuses input output c
