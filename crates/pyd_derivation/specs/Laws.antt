-- Laws of files and the tokens that they are read from.
use Rattle.std.specs.Prelude.{◌≡◌, ℕ, List}
use Rattle.pyd_lex.specs.declared.token.Token.{Token}
use Rattle.pyd_syntax.specs.Script.{IsScript}
use Rattle.pyd_tree.specs.declared.file.File.{File}
use Rattle.pyd_derivation.specs.Files.{IsFile}

-- tokens are read as one file at most
abbrev pub OneFile : Type 0
OneFile = (bytes : List ℕ) (ts : List Token) (f g : File) → IsFile bytes ts f → IsFile bytes ts g → f ≡ g

-- tokens are read as a file exactly where they have a derivation
pub record FilesAreScripts : Type 0 where
  pub file : (bytes : List ℕ) (ts : List Token) → IsScript ts → (f : File) × IsFile bytes ts f
  pub script : (bytes : List ℕ) (ts : List Token) (f : File) → IsFile bytes ts f → IsScript ts
