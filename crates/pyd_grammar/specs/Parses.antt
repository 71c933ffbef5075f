-- The file that the tokens of a source are read as, or their first fault.
use Rattle.std.specs.Prelude.{◌≡◌, ℕ, List, drop, Some, None, Result, Ok, Err}
use Rattle.pyd_lex.specs.declared.token.Token.{Token}
use Rattle.pyd_syntax.specs.Script.{IsFirstHopeless}
use Rattle.pyd_tree.specs.declared.file.File.{File}
use Rattle.pyd_derivation.specs.Derivation.{line_of}
use Rattle.pyd_derivation.specs.Files.{IsFile}
use Rattle.pyd_measure.specs.Lines.{IsDeepLine, IsTargetLine}
use Rattle.pyd_grammar.specs.declared.fault.ParseFault.{ParseFault}
use Rattle.pyd_grammar.specs.declared.fault.ParseFault.TheVariants.{Syntax, Deep, Target}
use Rattle.pyd_grammar.specs.declared.fault.ParseStop.{ParseStop}
use Rattle.pyd_grammar.specs.declared.fault.ParseStop.TheVariants as stop

-- the first hopeless token is in this line
abbrev pub IsHopelessLine : List Token → ℕ → Type 0
IsHopelessLine tokens line = (i : ℕ) × IsFirstHopeless tokens i × (line ≡ line_of (drop i tokens))

-- the file that the tokens of these bytes are read as, where no statement or header nests too deep and each target fits;
-- else the line of the first hopeless token, of the first statement or header that nests too deep, or of the first
-- statement whose target doesn't fit, in this order
abbrev pub Parses : List ℕ → List Token → Result File ParseFault → Type 0
Parses bytes tokens (Ok file) = IsFile bytes tokens file × IsDeepLine tokens None × IsTargetLine tokens None
Parses bytes tokens (Err (Syntax line)) = IsHopelessLine tokens line
Parses bytes tokens (Err (Deep line)) = IsDeepLine tokens (Some line)
Parses bytes tokens (Err (Target line)) = IsDeepLine tokens None × IsTargetLine tokens (Some line)

-- where the stop is a fault, this holds of it
abbrev pub IfFault : ParseStop → (ParseFault → Type 0) → Type 0
IfFault (stop.Fault fault) P = P fault
IfFault stop.NoMemory P = Unit {0}
