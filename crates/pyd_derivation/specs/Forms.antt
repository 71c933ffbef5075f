-- Productions with what they make of their parts.
use Rattle.std.specs.Prelude.{ℕ, List, [], map, get_or, Option, Some, None}
use Rattle.pyd_syntax.specs.declared.symbol.Symbol.{Symbol}
use Rattle.pyd_syntax.specs.Grammar.{Production}
use Rattle.pyd_derivation.specs.declared.piece.Piece.{Piece}
use Rattle.pyd_derivation.specs.declared.piece.Piece.TheVariants as piece
use Rattle.pyd_derivation.specs.Pieces.{part}

infix 2 ◌makes◌
infix 1 ◌counts◌
-- what so many parts make together; one that begins with At is given the bytes of the source and the line of the
-- production's first token too
pub data Action : Type 0 where
  Of0 : Piece → Action
  Of1 : (Piece → Piece) → Action
  Of2 : (Piece → Piece → Piece) → Action
  Of3 : (Piece → Piece → Piece → Piece) → Action
  Of4 : (Piece → Piece → Piece → Piece → Piece) → Action
  Of6 : (Piece → Piece → Piece → Piece → Piece → Piece → Piece) → Action
  At1 : (List ℕ → ℕ → Piece → Piece) → Action
  At2 : (List ℕ → ℕ → Piece → Piece → Piece) → Action
  At3 : (List ℕ → ℕ → Piece → Piece → Piece → Piece) → Action
  At4 : (List ℕ → ℕ → Piece → Piece → Piece → Piece → Piece) → Action
  At5 : (List ℕ → ℕ → Piece → Piece → Piece → Piece → Piece → Piece) → Action
  At6 : (List ℕ → ℕ → Piece → Piece → Piece → Piece → Piece → Piece → Piece) → Action

-- what an action makes of the parts in front
abbrev pub apply : Action → List ℕ → ℕ → List Piece → Piece
apply (Of0 v) bytes line vs = v
apply (Of1 f) bytes line vs = f (part vs 0)
apply (Of2 f) bytes line vs = f (part vs 0) (part vs 1)
apply (Of3 f) bytes line vs = f (part vs 0) (part vs 1) (part vs 2)
apply (Of4 f) bytes line vs = f (part vs 0) (part vs 1) (part vs 2) (part vs 3)
apply (Of6 f) bytes line vs = f (part vs 0) (part vs 1) (part vs 2) (part vs 3) (part vs 4) (part vs 5)
apply (At1 f) bytes line vs = f bytes line (part vs 0)
apply (At2 f) bytes line vs = f bytes line (part vs 0) (part vs 1)
apply (At3 f) bytes line vs = f bytes line (part vs 0) (part vs 1) (part vs 2)
apply (At4 f) bytes line vs = f bytes line (part vs 0) (part vs 1) (part vs 2) (part vs 3)
apply (At5 f) bytes line vs = f bytes line (part vs 0) (part vs 1) (part vs 2) (part vs 3) (part vs 4)
apply (At6 f) bytes line vs = f bytes line (part vs 0) (part vs 1) (part vs 2) (part vs 3) (part vs 4) (part vs 5)

-- how many parts an action takes
abbrev pub arity : Action → ℕ
arity (Of0 v) = 0
arity (Of1 f) = 1
arity (Of2 f) = 2
arity (Of3 f) = 3
arity (Of4 f) = 4
arity (Of6 f) = 6
arity (At1 f) = 1
arity (At2 f) = 2
arity (At3 f) = 3
arity (At4 f) = 4
arity (At5 f) = 5
arity (At6 f) = 6

-- a production, what it makes of its parts, and, of a statement or a header, the places of the parts whose nesting counts
pub record Form : Type 0 where
  pub production : Production
  pub does : Action
  pub header : Option (List ℕ)

-- a production that is neither a statement nor a header
abbrev pub ◌makes◌ : Production → Action → Form
p makes a = record { production = p; does = a; header = None }

-- a statement or a header, with the places of the parts whose nesting counts
abbrev pub ◌counts◌ : Form → List ℕ → Form
f counts places = record { production = f.production; does = f.does; header = Some places }

-- the productions alone
abbrev pub productions : List Form → List Production
productions g = map (λ f. f.production) g

-- no form
abbrev pub none : Form
none = record { of = 0; to = [] } makes Of0 piece.Nothing

-- the rule that a production is of
abbrev pub of_production : List Form → ℕ → ℕ
of_production g p = (get_or g p none).production.of

-- the symbols of a production
abbrev pub symbols : List Form → ℕ → List Symbol
symbols g p = (get_or g p none).production.to

-- what a production makes of its parts
abbrev pub does : List Form → ℕ → Action
does g p = (get_or g p none).does

-- the places of the parts whose nesting counts, where a production is a statement or a header
abbrev pub header : List Form → ℕ → Option (List ℕ)
header g p = (get_or g p none).header
