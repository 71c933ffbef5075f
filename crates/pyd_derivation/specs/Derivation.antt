-- Derivations as trees, and what they are read as.
use Rattle.std.specs.Prelude.{◌≡◌, ℕ, ◌<◌, List, [], ◌∷◌, ◌++◌, length}
use Rattle.pyd_lex.specs.declared.token.Token.{Token}
use Rattle.pyd_syntax.specs.declared.symbol.Symbol.{Symbol}
use Rattle.pyd_syntax.specs.declared.symbol.Symbol.TheVariants.{Terminal, Rule}
use Rattle.pyd_syntax.specs.declared.step.Step.{Step}
use Rattle.pyd_syntax.specs.declared.step.Step.TheVariants.{Shift, Expand}
use Rattle.pyd_syntax.specs.Terminals.{terminal}
use Rattle.pyd_derivation.specs.declared.piece.Piece.{Piece}
use Rattle.pyd_derivation.specs.declared.piece.Piece.TheVariants as piece
use Rattle.pyd_derivation.specs.Forms.{Form, of_production, symbols, does, apply}

-- trees side by side: a token, or a production over the trees of its symbols, and then the trees to its right
pub data Trees : Type 0 where
  End : Trees
  Token_then : Token → Trees → Trees
  Production_then : ℕ → Trees → Trees → Trees

-- the tokens of trees, from the left
abbrev pub leaves : Trees → List Token
leaves End = []
leaves (Token_then t ds) = t ∷ leaves ds
leaves (Production_then p cs ds) = leaves cs ++ leaves ds

-- the trees are derivations of these symbols, one for each: a token of its kind, or a production of its rule over
-- derivations of the production's symbols
abbrev pub Derive : List Form → List Symbol → Trees → Type 0
Derive g [] End = Unit {0}
Derive g (Terminal k ∷ ss) (Token_then t ds) = (k ≡ terminal t.kind) × Derive g ss ds
Derive g (Rule n ∷ ss) (Production_then p cs ds) =
    (p < length g) × (of_production g p ≡ n) × Derive g (symbols g p) cs × Derive g ss ds
Derive g _ _ = ⊥

-- the line of the first of these tokens
abbrev pub line_of : List Token → ℕ
line_of [] = 0
line_of (t ∷ ts) = t.line

-- a token is read as itself, and a production as what it makes of what its symbols are read as
abbrev pub values : List Form → List ℕ → Trees → List Piece
values g bytes End = []
values g bytes (Token_then t ds) = piece.Leaf t ∷ values g bytes ds
values g bytes (Production_then p cs ds) =
    apply (does g p) bytes (line_of (leaves cs)) (values g bytes cs) ∷ values g bytes ds

-- the steps of derivations from the left
abbrev pub steps_of : Trees → List Step
steps_of End = []
steps_of (Token_then t ds) = Shift ∷ steps_of ds
steps_of (Production_then p cs ds) = Expand p ∷ steps_of cs ++ steps_of ds
