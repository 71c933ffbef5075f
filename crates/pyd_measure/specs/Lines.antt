-- The lines that tokens are refused with.
use Rattle.std.specs.Prelude.{◌≡◌, ℕ, List, [], ◌∷◌, Option}
use Rattle.pyd_lex.specs.declared.token.Token.{Token}
use Rattle.pyd_syntax.specs.declared.symbol.Symbol.TheVariants.{Rule}
use Rattle.pyd_syntax.specs.Rules.{file}
use Rattle.pyd_derivation.specs.Productions.{grammar}
use Rattle.pyd_derivation.specs.Derivation.{Trees, Derive, leaves}
use Rattle.pyd_measure.specs.Marks.{marks, deep_line, target_line}

-- the tokens derive from `file`, and this is the line of the first statement or header that nests too deep, if one does,
-- whatever the bytes of the source
abbrev pub IsDeepLine : List Token → Option ℕ → Type 0
IsDeepLine tokens line =
    (ds : Trees) × Derive grammar (Rule file ∷ []) ds × (leaves ds ≡ tokens) × ((bytes : List ℕ) → line ≡ deep_line (marks bytes 0 ds))

-- the tokens derive from `file`, and this is the line of the first statement whose target doesn't fit, if there is one,
-- whatever the bytes of the source
abbrev pub IsTargetLine : List Token → Option ℕ → Type 0
IsTargetLine tokens line =
    (ds : Trees) × Derive grammar (Rule file ∷ []) ds × (leaves ds ≡ tokens) × ((bytes : List ℕ) → line ≡ target_line (marks bytes 0 ds))
