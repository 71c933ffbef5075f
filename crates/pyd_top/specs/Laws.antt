-- What a source and a mode determine.
use Rattle.std.specs.Prelude.{◌≡◌, ◌⊎◌, ℕ, List}
use Rattle.pyd_scope.specs.declared.program.Program.{Program}
use Rattle.pyd_top.specs.declared.mode.Mode.{Mode}
use Rattle.pyd_top.specs.declared.conclusion.Conclusion.{Conclusion}
use Rattle.pyd_top.specs.declared.source_stop.SourceStop.{SourceStop}
use Rattle.pyd_top.specs.Accepts.{Fits, Accepted, IsRefused}
use Rattle.pyd_top.specs.Modes.{Makes}

-- two programs have the same file, routines and constants
pub record Same (p q : Program) : Type 0 where
  pub file : p.file ≡ q.file
  pub routines : p.routines ≡ q.routines
  pub constants : p.constants ≡ q.constants

-- a source has one program or one refusal, and not both
pub record OneAnswer : Type 0 where
  pub some : (bytes : List ℕ) → ((p : Program) × Fits bytes × Accepted bytes p) ⊎ ((s : SourceStop) × IsRefused bytes s)
  pub program : (bytes : List ℕ) (p q : Program) → Accepted bytes p → Accepted bytes q → Same p q
  pub refusal : (bytes : List ℕ) (s t : SourceStop) → IsRefused bytes s → IsRefused bytes t → s ≡ t
  pub either : (bytes : List ℕ) (p : Program) (s : SourceStop) → Fits bytes → Accepted bytes p → ¬ IsRefused bytes s

-- a mode makes one thing of each input: an output and a conclusion
pub record OneWork : Type 0 where
  pub some : (m : Mode) (input : List ℕ) → (output : List ℕ) × (c : Conclusion) × Makes m input output c
  pub same : (m : Mode) (input output other : List ℕ) (c d : Conclusion) → Makes m input output c → Makes m input other d → (output ≡ other) × (c ≡ d)
