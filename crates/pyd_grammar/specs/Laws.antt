-- Laws of the answers of `parse`.
use Rattle.std.specs.Prelude.{◌≡◌, ℕ, ◌≤◌, List, length, Result, Ok, Err}
use Rattle.pyd_lex.specs.declared.token.Token.{Token}
use Rattle.pyd_lex.specs.Reads.{Reads}
use Rattle.pyd_syntax.specs.Script.{EndsAtEnd, IsScript}
use Rattle.pyd_tree.specs.declared.file.File.{File}
use Rattle.pyd_derivation.specs.Files.{IsFile}
use Rattle.pyd_names.specs.WellFormed.{IsWellFormed}
use Rattle.pyd_grammar.specs.declared.fault.ParseFault.{ParseFault}
use Rattle.pyd_grammar.specs.declared.fault.ParseFault.TheVariants.{Syntax, Deep, Target}
use Rattle.pyd_grammar.specs.Limits.{longest_source}
use Rattle.pyd_grammar.specs.Parses.{Parses}

-- a file, or a fault with its line
abbrev pub Answer : Type 0
Answer = Result File ParseFault

-- tokens have no two answers
abbrev pub OneAnswer : Type 0
OneAnswer = (bytes : List ℕ) (tokens : List Token) (a b : Answer) → Parses bytes tokens a → Parses bytes tokens b → a ≡ b

-- tokens that end with the end of a source have an answer, and the tokens of bytes do
pub record AnAnswer : Type 0 where
  pub ended : (bytes : List ℕ) (tokens : List Token) → EndsAtEnd tokens → (a : Answer) × Parses bytes tokens a
  pub tokens : (bytes : List ℕ) (tokens : List Token) → Reads bytes (Ok tokens) → EndsAtEnd tokens

-- `Syntax` is the answer exactly where tokens that end with the end of a source have no derivation, and each other answer
-- comes only where they have one
pub record FaultsByCause : Type 0 where
  pub syntax : (bytes : List ℕ) (tokens : List Token) → EndsAtEnd tokens → (IsScript tokens → ⊥) → (line : ℕ) × Parses bytes tokens (Err (Syntax line))
  pub none : (bytes : List ℕ) (tokens : List Token) (line : ℕ) → Parses bytes tokens (Err (Syntax line)) → IsScript tokens → ⊥
  pub deep : (bytes : List ℕ) (tokens : List Token) (line : ℕ) → Parses bytes tokens (Err (Deep line)) → IsScript tokens
  pub target : (bytes : List ℕ) (tokens : List Token) (line : ℕ) → Parses bytes tokens (Err (Target line)) → IsScript tokens
  pub file : (bytes : List ℕ) (tokens : List Token) (file : File) → Parses bytes tokens (Ok file) → IsScript tokens

-- a file that the tokens of a source are read as meets the condition under which it is checked, where the source is
-- no longer than the limit
abbrev pub FilesAreWellFormed : Type 0
FilesAreWellFormed =
    (bytes : List ℕ) (tokens : List Token) (file : File) →
    Reads bytes (Ok tokens) → length bytes ≤ longest_source → IsFile bytes tokens file → IsWellFormed file
