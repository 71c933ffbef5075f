-- Tokens are read as one file, and only those that have a derivation.
use Rattle.std.proofs.Common.{◌≡◌, ℕ, List, [], ◌∷◌, ◌++◌, refl, sym, ap, ap₂, subst, ◌∙◌, append-nil}
use Rattle.pyd_lex.specs.declared.token.Token.{Token}
use Rattle.pyd_syntax.specs.declared.step.Step.{Step}
use Rattle.pyd_syntax.specs.Grammar.{Production, start}
use Rattle.pyd_syntax.specs.Terminals.{terminals}
use Rattle.pyd_syntax.specs.Derivation.{Derives}
use Rattle.pyd_syntax.specs.Script.{IsDerivation}
use Rattle.pyd_syntax.specs.Laws.{OneDerivation}
use Rattle.pyd_derivation.specs.declared.piece.Piece.{Piece}
use Rattle.pyd_derivation.specs.Pieces.{part}
use Rattle.pyd_derivation.specs.Forms.{productions}
use Rattle.pyd_derivation.specs.Productions.{grammar}
use Rattle.pyd_derivation.specs.Derivation.{Trees, Derive, leaves, values, steps_of}
use Rattle.pyd_derivation.specs.Reading.{read_back}
use Rattle.pyd_derivation.specs.Files.{file_of}
use Rattle.pyd_derivation.specs.Laws.{OneFile, FilesAreScripts}
use Rattle.pyd_derivation.proofs.Law.{read_law, steps_derive, grammar_fits}
use Rattle.pyd_derivation.proofs.Whole.{tie, file_read}

derived : (ts : List Token) (ds : Trees) → Derive grammar start ds → leaves ds ≡ ts → IsDerivation (steps_of ds) ts
derived ts ds d l =
    let long : Derives (productions grammar) (steps_of ds ++ []) start (terminals (leaves ds ++ [])) = steps_derive grammar start [] ds [] [] d tt in
    let short : Derives (productions grammar) (steps_of ds) start (terminals ts) =
    subst (λ (z : List Token). Derives (productions grammar) (steps_of ds) start (terminals z)) (append-nil (leaves ds) ∙ l)
    (subst (λ (z : List Step). Derives (productions grammar) z start (terminals (leaves ds ++ []))) (append-nil (steps_of ds)) long) in
    subst (λ (g : List Production). Derives g (steps_of ds) start (terminals ts)) tie short

valued : (bytes : List ℕ) (ts : List Token) (ds : Trees) → Derive grammar start ds → leaves ds ≡ ts → values grammar bytes ds ≡ read_back grammar bytes (steps_of ds) ts
valued bytes ts ds d l =
    sym (ap₂ (read_back grammar bytes) (sym (append-nil (steps_of ds))) (sym l ∙ sym (append-nil (leaves ds)))
    ∙ read_law grammar bytes grammar_fits start ds d [] [] ∙ append-nil (values grammar bytes ds))

front : (v w : Piece) → (v ∷ []) ≡ (w ∷ []) → v ≡ w
front v w e = ap (λ (z : List Piece). part z 0) e

pub one_from : OneDerivation → OneFile
one_from one bytes ts f g a b =
    let same : steps_of a.1.0 ≡ steps_of b.1.0 = one ts (steps_of a.1.0) (steps_of b.1.0) (derived ts a.1.0 a.1.1 a.1.2) (derived ts b.1.0 b.1.1 b.1.2) in
    let all : values grammar bytes a.1.0 ≡ values grammar bytes b.1.0 =
    valued bytes ts a.1.0 a.1.1 a.1.2 ∙ ap (λ (z : List Step). read_back grammar bytes z ts) same ∙ sym (valued bytes ts b.1.0 b.1.1 b.1.2) in
    a.2 ∙ ap file_of (front a.0 b.0 (sym a.1.3 ∙ all ∙ b.1.3)) ∙ sym b.2

pub as_scripts : FilesAreScripts
as_scripts =
    record {
      file = λ bytes ts s. (file_of (part (read_back grammar bytes s.0 ts) 0), file_read bytes s.0 ts (read_back grammar bytes s.0 ts) (file_of (part (read_back grammar bytes s.0 ts) 0)) s.1 refl refl);
      script = λ bytes ts f r. (steps_of r.1.0, derived ts r.1.0 r.1.1 r.1.2);
    }
