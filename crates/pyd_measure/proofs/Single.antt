-- Tokens have one line of each kind.
use Rattle.std.proofs.Common.{◌≡◌, ℕ, List, [], ◌++◌, Option, refl, sym, ap, ap₂, subst, ◌∙◌, append-nil}
use Rattle.pyd_lex.specs.declared.token.Token.{Token}
use Rattle.pyd_syntax.specs.declared.step.Step.{Step}
use Rattle.pyd_syntax.specs.Grammar.{Production, start as from_file}
use Rattle.pyd_syntax.specs.Terminals.{terminals}
use Rattle.pyd_syntax.specs.Derivation.{Derives}
use Rattle.pyd_syntax.specs.Script.{IsDerivation}
use Rattle.pyd_syntax.specs.Laws.{OneDerivation}
use Rattle.pyd_derivation.specs.Forms.{productions}
use Rattle.pyd_derivation.specs.Productions.{grammar}
use Rattle.pyd_derivation.specs.Derivation.{Trees, Derive, leaves, steps_of}
use Rattle.pyd_derivation.proofs.Law.{steps_derive}
use Rattle.pyd_derivation.proofs.Whole.{tie, trees_by}
use Rattle.pyd_measure.specs.declared.found.Measured.{Measured}
use Rattle.pyd_measure.specs.Marks.{marks, deep_line}
use Rattle.pyd_measure.specs.Lines.{IsDeepLine, IsTargetLine}
use Rattle.pyd_measure.specs.Laws.{OneLine, ALine}
use Rattle.pyd_measure.specs.States.{start, state}
use Rattle.pyd_measure.proofs.Finding.{with, deep_with, target_with, state_law}

-- the steps of a derivation of tokens derive them
pub derived : (ts : List Token) (ds : Trees) → Derive grammar from_file ds → leaves ds ≡ ts → IsDerivation (steps_of ds) ts
derived ts ds d l =
    let long : Derives (productions grammar) (steps_of ds ++ []) from_file (terminals (leaves ds ++ [])) = steps_derive grammar from_file [] ds [] [] d tt in
    let short : Derives (productions grammar) (steps_of ds) from_file (terminals ts) =
    subst (λ (z : List Token). Derives (productions grammar) (steps_of ds) from_file (terminals z)) (append-nil (leaves ds) ∙ l)
    (subst (λ (z : List Step). Derives (productions grammar) z from_file (terminals (leaves ds ++ []))) (append-nil (steps_of ds)) long) in
    subst (λ (g : List Production). Derives g (steps_of ds) from_file (terminals ts)) tie short

-- what is found by the steps of a derivation is what its marks say
pub found_by : (bytes : List ℕ) (steps : List Step) (ts : List Token) (ds : Trees) → Derive grammar from_file ds → steps_of ds ≡ steps → leaves ds ≡ ts →
    (state steps ts).found ≡ with (marks bytes 0 ds) start.found
found_by bytes steps ts ds d s l =
    ap₂ (λ (z : List Step) (w : List Token). (state z w).found) (sym s ∙ sym (append-nil (steps_of ds))) (sym l ∙ sym (append-nil (leaves ds)))
    ∙ (state_law bytes from_file ds d [] [] 0 (refl, tt)).1

pub deep_by : (steps : List Step) (ts : List Token) (line : Option ℕ) → IsDerivation steps ts → line ≡ (state steps ts).found.deep → IsDeepLine ts line
deep_by steps ts line d e =
    let r = trees_by steps ts d in
    (r.0, r.1, r.3, λ bytes. e ∙ ap (λ (f : Measured). f.deep) (found_by bytes steps ts r.0 r.1 r.2 r.3) ∙ deep_with (marks bytes 0 r.0))

pub target_by : (steps : List Step) (ts : List Token) (line : Option ℕ) → IsDerivation steps ts → line ≡ (state steps ts).found.target → IsTargetLine ts line
target_by steps ts line d e =
    let r = trees_by steps ts d in
    (r.0, r.1, r.3, λ bytes. e ∙ ap (λ (f : Measured). f.target) (found_by bytes steps ts r.0 r.1 r.2 r.3) ∙ target_with (marks bytes 0 r.0))

-- a derivation's line is what is found by its steps
pub line_by : (bytes : List ℕ) (ts : List Token) (ds : Trees) → Derive grammar from_file ds → leaves ds ≡ ts → deep_line (marks bytes 0 ds) ≡ (state (steps_of ds) ts).found.deep
line_by bytes ts ds d l = sym (ap (λ (f : Measured). f.deep) (found_by bytes (steps_of ds) ts ds d refl l) ∙ deep_with (marks bytes 0 ds))

-- a line is that of the steps of its derivation
deep_of : (ts : List Token) (line : Option ℕ) → (h : IsDeepLine ts line) → line ≡ (state (steps_of h.0) ts).found.deep
deep_of ts line h = h.3 [] ∙ sym (ap (λ (f : Measured). f.deep) (found_by [] (steps_of h.0) ts h.0 h.1 refl h.2) ∙ deep_with (marks [] 0 h.0))

target_of : (ts : List Token) (line : Option ℕ) → (h : IsTargetLine ts line) → line ≡ (state (steps_of h.0) ts).found.target
target_of ts line h = h.3 [] ∙ sym (ap (λ (f : Measured). f.target) (found_by [] (steps_of h.0) ts h.0 h.1 refl h.2) ∙ target_with (marks [] 0 h.0))

pub one_from : OneDerivation → OneLine
one_from one =
    record {
      deep = λ ts a b g h. deep_of ts a g ∙ ap (λ (z : List Step). (state z ts).found.deep) (one ts (steps_of g.0) (steps_of h.0) (derived ts g.0 g.1 g.2) (derived ts h.0 h.1 h.2)) ∙ sym (deep_of ts b h);
      target = λ ts a b g h. target_of ts a g ∙ ap (λ (z : List Step). (state z ts).found.target) (one ts (steps_of g.0) (steps_of h.0) (derived ts g.0 g.1 g.2) (derived ts h.0 h.1 h.2)) ∙ sym (target_of ts b h);
    }

pub some_line : ALine
some_line =
    record {
      deep = λ ts s. ((state s.0 ts).found.deep, deep_by s.0 ts (state s.0 ts).found.deep s.1 refl);
      target = λ ts s. ((state s.0 ts).found.target, target_by s.0 ts (state s.0 ts).found.target s.1 refl);
    }
