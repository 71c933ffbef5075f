-- The machine as the scanner runs it, with the tokens so far.
use Rattle.std.specs.Prelude.{◌≡◌, ℕ, ◌≤◌, List, [], ◌++◌, Result, Ok, OnOk, IfErr, reverse}
use Rattle.pyd_lex.specs.declared.fault.Flaw.{Flaw}
use Rattle.pyd_lex.specs.declared.fault.LexStop.{LexStop}
use Rattle.pyd_lex.specs.declared.fault.LexStop.TheVariants.{NoMemory}
use Rattle.pyd_lex.specs.declared.fault.Stop.{Stop}
use Rattle.pyd_lex.specs.declared.mode.Mode.{Mode}
use Rattle.pyd_lex.specs.declared.piece.Piece.{Piece as Scanned}
use Rattle.pyd_lex.specs.declared.place.Place.{Place}
use Rattle.pyd_lex.specs.declared.scanner.Scanner.{Scanner}
use Rattle.pyd_lex.specs.declared.token.Shape.TheVariants.{Token as Spelled}
use Rattle.pyd_lex.specs.declared.token.Token.{Token}
use Rattle.pyd_lex.specs.declared.token.TokenKind.{TokenKind}
use Rattle.pyd_lex.specs.Lines.{Piece, Answer, ahead, closing}
use Rattle.pyd_lex.specs.Machine.{count, run}
use Rattle.pyd_lex.specs.Steps.{Begins, Halts, Refuses, Takes, bad}
use Rattle.pyd_lex.specs.Stops.{IfFault, IsFlaw}

-- the widths of the lines that are begun, the innermost first
abbrev pub begun : Scanner → List ℕ
begun s = reverse s.widths.items

-- the definition's piece that this one is
abbrev pub as_piece : Scanned → Piece
as_piece x = record { means = Ok x.shape; from = x.from; to = x.to; line = x.line }

-- the same as a token of this kind
abbrev pub spelled : TokenKind → Scanned → Piece
spelled k x = record { means = Ok (Spelled k); from = x.from; to = x.to; line = x.line }

-- from this mode the scanner has taken the piece
abbrev pub Took : Mode → Scanner → Scanner → Piece → Type 0
Took m s t x = Takes s.tokens.items m (begun s) x t.tokens.items t.mode (begun t)

-- from this mode the piece ends all with the fault that stops the scanner
abbrev pub Halted : Mode → Scanner → Piece → LexStop → Type 0
Halted m s x e = IfFault e (Halts m (begun s) x)

-- what a step from this mode over a piece answers and leaves
pub record IsStep {T : Type 0} (m : Mode) (s t : Scanner) (x : Piece) (r : Result T LexStop) : Type 0 where
  pub ok : OnOk r (Took m s t x)
  pub fault : IfErr r (Halted m s x)
  pub within : OnOk r (count t.mode ≤ x.to)

-- the same of a piece that is a token of this kind
abbrev pub IsTokenStep : {T : Type 0} → Mode → Scanner → Scanner → TokenKind → Scanned → Result T LexStop → Type 0
IsTokenStep m s t k x r = IsStep m s t (spelled k x) r

-- the scanner has begun what was to be begun
abbrev pub HasBegun : Scanner → ((List ℕ → Answer) → Answer) → Scanner → Type 0
HasBegun s before t = Begins s.tokens.items before t.tokens.items (begun t)

-- the line has the fault that stops the scanner
abbrev pub IsRefused : ((List ℕ → Answer) → Answer) → LexStop → Type 0
IsRefused before e = IfFault e (Refuses before)

-- what the beginning of a line answers and leaves
pub record IsBegun {T : Type 0} (before : (List ℕ → Answer) → Answer) (s t : Scanner) (r : Result T LexStop) : Type 0 where
  pub ok : OnOk r (HasBegun s before t)
  pub fault : IfErr r (IsRefused before)
  pub mode : t.mode ≡ s.mode

-- the flaw ends all with the fault that stops the scanner
abbrev pub IsStopped : Scanner → Flaw → Place → LexStop → Type 0
IsStopped s x p e = IfFault e (λ f. (to : ℕ) → Halts s.mode (begun s) (bad x p to) f)

-- the same of the flaw that this is
abbrev pub StopsBy : Scanner → Stop → Place → LexStop → Type 0
StopsBy s x p e = IfFault e (λ f. IsFlaw x (λ y. (to : ℕ) → Halts s.mode (begun s) (bad y p to) f))

-- these tokens were put behind the others
abbrev pub Adds : Scanner → Scanner → List Token → Type 0
Adds s t ts = t.tokens.items ≡ s.tokens.items ++ ts

-- these tokens were put behind the others, unless there is no memory
pub record Puts {T : Type 0} (s t : Scanner) (ts : List Token) (r : Result T LexStop) : Type 0 where
  pub ok : OnOk r (Adds s t ts)
  pub err : IfErr r (λ e. e ≡ NoMemory)
  pub mode : t.mode ≡ s.mode

-- these are all tokens, where the text ends here
abbrev pub AreAll : Scanner → Place → List Token → Type 0
AreAll s end ts = ahead s.tokens.items (run end [] s.mode (begun s)) ≡ Ok ts

-- the lines that are begun are closed, and the tokens ended
abbrev pub IsClosed : Scanner → Place → List Token → Type 0
IsClosed s end ts = ahead s.tokens.items (Ok (closing end (begun s))) ≡ Ok ts
