-- The tokens that stand for a symbol, and what they are read as.
use Rattle.std.specs.Prelude.{◌≡◌, ℕ, List, [], ◌∷◌}
use Rattle.pyd_lex.specs.declared.token.Token.{Token}
use Rattle.pyd_syntax.specs.declared.symbol.Symbol.{Symbol}
use Rattle.pyd_syntax.specs.declared.symbol.Symbol.TheVariants.{Rule}
use Rattle.pyd_syntax.specs.Rules.{file}
use Rattle.pyd_tree.specs.declared.file.File.{File}
use Rattle.pyd_derivation.specs.declared.piece.Piece.{Piece}
use Rattle.pyd_derivation.specs.Pieces.{items_of}
use Rattle.pyd_derivation.specs.Productions.{grammar}
use Rattle.pyd_derivation.specs.Derivation.{Trees, Derive, leaves, values}

-- the tokens of these bytes derive from the symbol, and the derivation is read as this piece
abbrev pub IsReadAs : List ℕ → Symbol → List Token → Piece → Type 0
IsReadAs bytes s ts v = (ds : Trees) × Derive grammar (s ∷ []) ds × (leaves ds ≡ ts) × (values grammar bytes ds ≡ v ∷ [])

-- the file of the items that a piece has
abbrev pub file_of : Piece → File
file_of v = record { items = items_of v }

-- the tokens of these bytes derive from `file`, and the derivation is read as this file
abbrev pub IsFile : List ℕ → List Token → File → Type 0
IsFile bytes ts f = (v : Piece) × IsReadAs bytes (Rule file) ts v × (f ≡ file_of v)
