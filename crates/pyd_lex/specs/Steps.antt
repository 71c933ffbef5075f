-- The machine's steps: what one piece does, whatever pieces follow.
use Rattle.std.specs.Prelude.{◌≡◌, ℕ, List, ◌∷◌, Ok, Err}
use Rattle.pyd_lex.specs.declared.fault.Flaw.{Flaw}
use Rattle.pyd_lex.specs.declared.fault.LexFault.{LexFault}
use Rattle.pyd_lex.specs.declared.mode.Mode.{Mode}
use Rattle.pyd_lex.specs.declared.place.Place.{Place}
use Rattle.pyd_lex.specs.declared.token.Shape.{Shape}
use Rattle.pyd_lex.specs.declared.token.Token.{Token}
use Rattle.pyd_lex.specs.Words.{Text}
use Rattle.pyd_lex.specs.Spelling.{IsCut}
use Rattle.pyd_lex.specs.Lines.{Piece, Answer, ahead, end_of, placed}
use Rattle.pyd_lex.specs.Machine.{run}

-- a line that begins here with this width is begun: what comes next is the same as before
abbrev pub Begins : List Token → ((List ℕ → Answer) → Answer) → List Token → List ℕ → Type 0
Begins ts before us vs = (next : List ℕ → Answer) → ahead ts (before next) ≡ ahead us (next vs)

-- a line that begins here has this fault
abbrev pub Refuses : ((List ℕ → Answer) → Answer) → LexFault → Type 0
Refuses before f = (next : List ℕ → Answer) → before next ≡ Err f

-- whatever pieces follow, all is the same after this one
abbrev pub Takes : List Token → Mode → List ℕ → Piece → List Token → Mode → List ℕ → Type 0
Takes ts m ws p us n vs = (end : Place) (ps : List Piece) → ahead ts (run end (p ∷ ps) m ws) ≡ ahead us (run end ps n vs)

-- whatever pieces follow, this one ends all with a fault
abbrev pub Halts : Mode → List ℕ → Piece → LexFault → Type 0
Halts m ws p f = (end : Place) (ps : List Piece) → run end (p ∷ ps) m ws ≡ Err f

-- a good piece from a place to a byte
abbrev pub good : Shape → Place → ℕ → Piece
good s p to = record { means = Ok s; from = p.at; to = to; line = p.line }

-- a flawed piece from a place to a byte
abbrev pub bad : Flaw → Place → ℕ → Piece
bad f p to = record { means = Err f; from = p.at; to = to; line = p.line }

-- what is left of the text has this answer, behind these tokens
abbrev pub ReadsFrom : Place → Text → List Token → Mode → List ℕ → Answer → Type 0
ReadsFrom p text ts m ws answer =
    (pieces : List Text) × IsCut text pieces × (ahead ts (run (end_of p pieces) (placed p pieces) m ws) ≡ answer)
