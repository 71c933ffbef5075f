-- An expansion made by its action is one step back.
use Rattle.std.proofs.Common.{◌≡◌, ℕ, ◌<◌, List, ◌∷◌, length, drop, refl, sym, ap, ap₂, subst, ◌∙◌}
use Rattle.std.proofs.lemmas.Bool.{and_parts, eqb-true}
use Rattle.pyd_lex.specs.declared.token.Token.{Token}
use Rattle.pyd_syntax.specs.declared.step.Step.{Step}
use Rattle.pyd_syntax.specs.declared.step.Step.TheVariants.{Expand}
use Rattle.pyd_derivation.specs.declared.piece.Piece.{Piece}
use Rattle.pyd_derivation.specs.Forms.{Action, apply, arity, does, symbols}
use Rattle.pyd_derivation.specs.Productions.{grammar}
use Rattle.pyd_derivation.specs.Derivation.{line_of}
use Rattle.pyd_derivation.specs.Reading.{Back, MayBack, expanded}
use Rattle.pyd_derivation.proofs.Forms.{fit_at}
use Rattle.pyd_derivation.proofs.Law.{grammar_fits}

pub parts_of : (p : ℕ) → p < length grammar → length (symbols grammar p) ≡ arity (does grammar p)
parts_of p l = eqb-true _ _ (and_parts _ _ (fit_at grammar p grammar_fits l)).0

made : (bytes : List ℕ) (p line l : ℕ) (a : Action) (vs new : List Piece) → p < length grammar → a ≡ does grammar p → line ≡ l →
    new ≡ apply a bytes line vs ∷ drop (arity a) vs → new ≡ expanded grammar bytes p l vs
made bytes p line l a vs new w e f n =
    n ∙ ap₂ (λ (x : Piece) (y : List Piece). x ∷ y) (ap₂ (λ (x : Action) (y : ℕ). apply x bytes y vs) e f) (ap (λ (z : ℕ). drop z vs) (ap arity e ∙ sym (parts_of p w)))

pub expanding : (bytes : List ℕ) (ts : List Token) (step : Step) (p at line : ℕ) (a : Action) (vs new : List Piece) → step ≡ Expand p → MayBack grammar ts step at → a ≡ does grammar p →
    line ≡ line_of (drop at ts) → new ≡ apply a bytes line vs ∷ drop (arity a) vs → Back grammar bytes ts step vs at new at
expanding bytes ts step p at line a vs new s m e f n =
    let w : p < length grammar = subst (λ (z : Step). MayBack grammar ts z at) s m in
    let done : Back grammar bytes ts (Expand p) vs at new at = (refl, made bytes p line (line_of (drop at ts)) a vs new w e f n) in
    subst (λ (z : Step). Back grammar bytes ts z vs at new at) (sym s) done
