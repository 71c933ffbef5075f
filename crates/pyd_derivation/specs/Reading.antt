-- The steps of a derivation read from the last to the first.
use Rattle.std.specs.Prelude.{◌≡◌, ℕ, ◌+◌, ◌<◌, ◌≤◌, suc, List, [], ◌∷◌, get_or, drop, length}
use Rattle.pyd_lex.specs.declared.token.Token.{Token}
use Rattle.pyd_syntax.specs.declared.step.Step.{Step}
use Rattle.pyd_syntax.specs.declared.step.Step.TheVariants.{Shift, Expand}
use Rattle.pyd_derivation.specs.declared.piece.Piece.{Piece}
use Rattle.pyd_derivation.specs.declared.piece.Piece.TheVariants as piece
use Rattle.pyd_derivation.specs.Forms.{Form, symbols, does, apply}
use Rattle.pyd_derivation.specs.Pieces.{no_token}
use Rattle.pyd_derivation.specs.Derivation.{line_of}

-- an expansion takes its parts off and puts what they make in their place
abbrev pub expanded : List Form → List ℕ → ℕ → ℕ → List Piece → List Piece
expanded g bytes p line vs = apply (does g p) bytes line vs ∷ drop (length (symbols g p)) vs

-- what steps make of tokens from the back
abbrev pub read_back : List Form → List ℕ → List Step → List Token → List Piece
read_back g bytes [] ts = []
read_back g bytes (Shift ∷ steps) [] = piece.Leaf no_token ∷ read_back g bytes steps []
read_back g bytes (Shift ∷ steps) (t ∷ ts) = piece.Leaf t ∷ read_back g bytes steps ts
read_back g bytes (Expand p ∷ steps) ts = expanded g bytes p (line_of ts) (read_back g bytes steps ts)

-- how many tokens steps take
abbrev pub shifts : List Step → ℕ
shifts [] = 0
shifts (Shift ∷ steps) = suc (shifts steps)
shifts (Expand p ∷ steps) = shifts steps

-- one step back, from a place among the tokens to one
abbrev pub Back : List Form → List ℕ → List Token → Step → List Piece → ℕ → List Piece → ℕ → Type 0
Back g bytes ts Shift vs i us j = (j + 1 ≡ i) × (us ≡ piece.Leaf (get_or ts j no_token) ∷ vs)
Back g bytes ts (Expand p) vs i us j = (j ≡ i) × (us ≡ expanded g bytes p (line_of (drop i ts)) vs)

-- a step may be made back from this place
abbrev pub MayBack : List Form → List Token → Step → ℕ → Type 0
MayBack g ts Shift i = (0 < i) × (i ≤ length ts)
MayBack g ts (Expand p) i = p < length g

-- a step names one of the productions
abbrev pub IsKnown : List Form → Step → Type 0
IsKnown g Shift = Unit {0}
IsKnown g (Expand p) = p < length g
