-- Which sources are accepted, as which program, and why any other is refused.
use Rattle.std.specs.Prelude.{◌≡◌, ℕ, ◌<◌, ◌≤◌, List, length, Ok, Err}
use Rattle.pyd_lex.specs.declared.token.Token.{Token}
use Rattle.pyd_lex.specs.Reads.{Reads}
use Rattle.pyd_tree.specs.declared.file.File.{File}
use Rattle.pyd_grammar.specs.declared.fault.ParseFault.{ParseFault}
use Rattle.pyd_grammar.specs.Limits.{longest_source}
use Rattle.pyd_grammar.specs.Parses.{Parses}
use Rattle.pyd_scope.specs.declared.program.Program.{Program}
use Rattle.pyd_scope.specs.declared.refusal.Refusal.{Refusal}
use Rattle.pyd_scope.specs.Checks.{answer}
use Rattle.pyd_top.specs.declared.source_stop.SourceStop.{SourceStop}
use Rattle.pyd_top.specs.declared.source_stop.SourceStop.TheVariants as stop

-- the bytes are no more than a source may have
abbrev pub Fits : List ℕ → Type 0
Fits bytes = length bytes ≤ longest_source

-- the tokens of the bytes are read as this file
pub record IsReadAs (bytes : List ℕ) (file : File) : Type 0 where
  pub tokens : List Token
  pub reads : Reads bytes (Ok tokens)
  pub parses : Parses bytes tokens (Ok file)

-- the bytes are accepted as this program: they are read as its file, which breaks no rule and has its routines and constants
pub record Accepted (bytes : List ℕ) (p : Program) : Type 0 where
  pub file : IsReadAs bytes p.file
  pub checks : answer p.file ≡ Ok (record { routines = p.routines; constants = p.constants })

-- the tokens of the bytes are read as no file, for this fault
pub record Misparses (bytes : List ℕ) (f : ParseFault) : Type 0 where
  pub tokens : List Token
  pub reads : Reads bytes (Ok tokens)
  pub parses : Parses bytes tokens (Err f)

-- the bytes are read as a file that breaks a rule of scope
pub record Breaks (bytes : List ℕ) (r : Refusal) : Type 0 where
  pub file : File
  pub read : IsReadAs bytes file
  pub checks : answer file ≡ Err r

-- why a source is refused: the first cause that it has
abbrev pub IsRefused : List ℕ → SourceStop → Type 0
IsRefused bytes stop.TooLong = longest_source < length bytes
IsRefused bytes (stop.Lex f) = Fits bytes × Reads bytes (Err f)
IsRefused bytes (stop.Parse f) = Fits bytes × Misparses bytes f
IsRefused bytes (stop.Scope r) = Fits bytes × Breaks bytes r
IsRefused bytes stop.NoMemory = ⊥
