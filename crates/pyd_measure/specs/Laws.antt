-- Laws of the lines that tokens are refused with.
use Rattle.std.specs.Prelude.{◌≡◌, ℕ, ◌≤◌, List, Option, None}
use Rattle.pyd_lex.specs.declared.token.Token.{Token}
use Rattle.pyd_syntax.specs.Script.{IsScript}
use Rattle.pyd_tree.specs.declared.file.File.{File}
use Rattle.pyd_derivation.specs.Files.{IsFile}
use Rattle.pyd_measure.specs.Limit.{deepest}
use Rattle.pyd_measure.specs.Lines.{IsDeepLine, IsTargetLine}
use Rattle.pyd_measure.specs.Depth.{file_nesting}

-- tokens have one line of each kind at most
pub record OneLine : Type 0 where
  pub deep : (tokens : List Token) (a b : Option ℕ) → IsDeepLine tokens a → IsDeepLine tokens b → a ≡ b
  pub target : (tokens : List Token) (a b : Option ℕ) → IsTargetLine tokens a → IsTargetLine tokens b → a ≡ b

-- tokens that have a derivation have a line of each kind, or none such line
pub record ALine : Type 0 where
  pub deep : (tokens : List Token) → IsScript tokens → (line : Option ℕ) × IsDeepLine tokens line
  pub target : (tokens : List Token) → IsScript tokens → (line : Option ℕ) × IsTargetLine tokens line

-- where nothing nests too deep, the file that the tokens are read as doesn't, with its suites and expressions
abbrev pub ShallowFiles : Type 0
ShallowFiles =
    (bytes : List ℕ) (tokens : List Token) (f : File) → IsDeepLine tokens None → IsFile bytes tokens f → file_nesting f ≤ deepest
