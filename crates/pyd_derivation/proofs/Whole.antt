-- A derivation by steps is read as the file that is read back from them.
use Rattle.std.proofs.Common.{◌≡◌, ℕ, List, [], ◌∷◌, ◌++◌, length, refl, sym, ap, ap₂, subst, ◌∙◌, arith, All, append-nil}
use Rattle.pyd_lex.specs.declared.token.Token.{Token}
use Rattle.pyd_syntax.specs.declared.step.Step.{Step}
use Rattle.pyd_syntax.specs.Grammar.{Production, start, grammar as syntax_grammar}
use Rattle.pyd_syntax.specs.Terminals.{terminals}
use Rattle.pyd_syntax.specs.Derivation.{Derives}
use Rattle.pyd_syntax.specs.Script.{IsDerivation}
use Rattle.pyd_tree.specs.declared.file.File.{File}
use Rattle.pyd_derivation.specs.declared.piece.Piece.{Piece}
use Rattle.pyd_derivation.specs.Pieces.{part}
use Rattle.pyd_derivation.specs.Forms.{productions}
use Rattle.pyd_derivation.specs.Productions.{grammar}
use Rattle.pyd_derivation.specs.Derivation.{Trees, Derive, leaves, values, steps_of}
use Rattle.pyd_derivation.specs.Reading.{read_back, shifts, IsKnown}
use Rattle.pyd_derivation.specs.Files.{IsFile, file_of}
use Rattle.pyd_derivation.proofs.Law.{read_law, trees_from, all_known, counted, grammar_fits}

-- the productions are those of the recogniser
pub tie : productions grammar ≡ syntax_grammar
unfolding grammar syntax_grammar
tie = refl

single : (vs : List Piece) → length vs ≡ 1 → vs ≡ part vs 0 ∷ []
single (v ∷ []) h = refl
single [] h = absurd (omega arith)
single (v ∷ w ∷ vs) h = absurd (omega arith)

-- the trees of the steps that derive a script
pub trees_by : (steps : List Step) (ts : List Token) → IsDerivation steps ts → (ds : Trees) × Derive grammar start ds × (steps_of ds ≡ steps) × (leaves ds ≡ ts)
trees_by steps ts d = trees_from grammar steps start ts (subst (λ (g : List Production). Derives g steps start (terminals ts)) (sym tie) d)

pub file_read : (bytes : List ℕ) (steps : List Step) (ts : List Token) (vs : List Piece) (f : File) → IsDerivation steps ts → vs ≡ read_back grammar bytes steps ts → f ≡ file_of (part vs 0) →
    IsFile bytes ts f
file_read bytes steps ts vs f d e h =
    let r = trees_by steps ts d in
    let law : read_back grammar bytes (steps_of r.0 ++ []) (leaves r.0 ++ []) ≡ values grammar bytes r.0 ++ [] = read_law grammar bytes grammar_fits start r.0 r.1 [] [] in
    let same : read_back grammar bytes (steps_of r.0 ++ []) (leaves r.0 ++ []) ≡ read_back grammar bytes steps ts =
    ap₂ (read_back grammar bytes) (append-nil (steps_of r.0) ∙ r.2) (append-nil (leaves r.0) ∙ r.3) in
    let all : vs ≡ values grammar bytes r.0 = e ∙ sym same ∙ law ∙ append-nil (values grammar bytes r.0) in
    (part (values grammar bytes r.0) 0, (r.0, r.1, r.3, single (values grammar bytes r.0) (counted grammar bytes start r.0 r.1)), h ∙ ap (λ (z : List Piece). file_of (part z 0)) all)

pub may_read : (steps : List Step) (ts : List Token) → IsDerivation steps ts → All (IsKnown grammar) steps × (shifts steps ≡ length ts)
may_read steps ts d = all_known grammar steps start ts (subst (λ (g : List Production). Derives g steps start (terminals ts)) (sym tie) d)
