-- One step back, and all of them.
use Rattle.std.proofs.Common.{◌≡◌, ℕ, ◌+◌, ◌<◌, ◌≤◌, ◌-◌, suc, List, [], ◌∷◌, ◌++◌, length, get_or, take, drop, arith, ap, ap₂, sym, ◌∙◌, refl, length-drop}
use Rattle.std.proofs.lemmas.List.{take_more, drop_more}
use Rattle.pyd_lex.specs.declared.token.Token.{Token}
use Rattle.pyd_lex.specs.declared.token.TokenKind.{TokenKind}
use Rattle.pyd_lex.specs.declared.token.TokenKind.TheVariants as kind
use Rattle.pyd_syntax.specs.declared.step.Step.{Step}
use Rattle.pyd_syntax.specs.declared.step.Step.TheVariants.{Shift, Expand}
use Rattle.pyd_derivation.specs.Pieces.{no_token}
use Rattle.pyd_derivation.specs.Derivation.{line_of}
use Rattle.pyd_derivation.specs.Reading.{shifts}
use Rattle.pyd_measure.specs.declared.state.State.{State}
use Rattle.pyd_measure.specs.Measurings.{measuring_of}
use Rattle.pyd_measure.specs.States.{suites_before, shifted, expanded, state, Back}

shifts-append : (xs ys : List Step) → shifts (xs ++ ys) ≡ shifts xs + shifts ys
shifts-append [] ys = omega arith
shifts-append (Shift ∷ xs) ys = let h = shifts-append xs ys in omega arith
shifts-append (Expand p ∷ xs) ys = shifts-append xs ys

before : (steps : List Step) (i : ℕ) (d : Step) → i < length steps → shifts (take (i + 1) steps) ≡ shifts (take i steps) + shifts (get_or steps i d ∷ [])
before steps i d l = ap shifts (take_more steps i d l) ∙ shifts-append (take i steps) (get_or steps i d ∷ [])

on_back : (steps : List Step) (ts : List Token) (i at next : ℕ) (d step : Step) (s u : State) → i < length steps → step ≡ get_or steps i d →
    shifts (take (i + 1) steps) ≡ at → at ≤ length ts → s ≡ state (drop (i + 1) steps) (drop at ts) → Back ts step s at u next →
    (next ≤ length ts) × (shifts (take i steps) ≡ next) × (u ≡ state (drop i steps) (drop next ts))
on_back steps ts i at next d Shift s u l e h w r b =
    let n = before steps i d l ∙ ap (λ (z : Step). shifts (take i steps) + shifts (z ∷ [])) (sym e) in
    let after : drop i steps ≡ Shift ∷ drop (i + 1) steps = drop_more steps i d l ∙ ap (λ (z : Step). z ∷ drop (i + 1) steps) (sym e) in
    let m : next < length ts = let x = b.0 in omega arith in
    let tokens : drop next ts ≡ get_or ts next no_token ∷ drop at ts = drop_more ts next no_token m ∙ ap (λ (z : ℕ). get_or ts next no_token ∷ drop z ts) b.0 in (
      let x = b.0 in omega arith,
      let x = b.0 in omega arith,
      b.1 ∙ ap (shifted (get_or ts next no_token).kind) r ∙ sym (ap₂ state after tokens),
    )
on_back steps ts i at next d (Expand p) s u l e h w r b =
    let n = before steps i d l ∙ ap (λ (z : Step). shifts (take i steps) + shifts (z ∷ [])) (sym e) in
    let after : drop i steps ≡ Expand p ∷ drop (i + 1) steps = drop_more steps i d l ∙ ap (λ (z : Step). z ∷ drop (i + 1) steps) (sym e) in (
      let x = b.0 in omega arith,
      let x = b.0 in omega arith,
      b.1 ∙ ap₂ (λ (z : ℕ) (w : State). expanded (measuring_of p) (line_of (drop z ts)) w) (sym b.0) (r ∙ ap (λ (z : ℕ). state (drop (i + 1) steps) (drop z ts)) (sym b.0))
          ∙ sym (ap (λ (z : List Step). state z (drop next ts)) after),
    )

pub on_back_from : (steps : List Step) (ts : List Token) (i at next : ℕ) (s u : State) → 0 < i → i ≤ length steps →
    shifts (take i steps) ≡ at → at ≤ length ts → s ≡ state (drop i steps) (drop at ts) → Back ts (get_or steps (i - 1) Shift) s at u next →
    (next ≤ length ts) × (shifts (take (i - 1) steps) ≡ next) × (u ≡ state (drop (i - 1) steps) (drop next ts))
on_back_from steps ts i at next s u p w h l r b =
    let e : i - 1 + 1 ≡ i = omega arith in
    on_back steps ts (i - 1) at next Shift (get_or steps (i - 1) Shift) s u (omega arith) refl
    (ap (λ (z : ℕ). shifts (take z steps)) e ∙ h) l (r ∙ ap (λ (z : ℕ). state (drop z steps) (drop at ts)) (sym e)) b

one_more : (k : TokenKind) (n m : ℕ) → n ≤ m → suites_before k n ≤ suc m
one_more kind.Dedent n m l = omega arith
one_more kind.Indent n m l = omega arith
one_more k n m l = omega arith

-- there are no more suites than tokens
suites_within : (steps : List Step) (ts : List Token) → (state steps ts).suites ≤ length ts
suites_within [] ts = omega arith
suites_within (Shift ∷ steps) [] = suites_within steps []
suites_within (Shift ∷ steps) (t ∷ ts) = one_more t.kind (state steps ts).suites (length ts) (suites_within steps ts)
suites_within (Expand p ∷ steps) ts = suites_within steps ts

pub suites_left : (steps : List Step) (ts : List Token) (at : ℕ) (s : State) → s ≡ state steps (drop at ts) → s.suites ≤ length ts - at
suites_left steps ts at s e =
    let h : (state steps (drop at ts)).suites ≤ length (drop at ts) = suites_within steps (drop at ts) in
    let d = length-drop at ts in
    let f : s.suites ≡ (state steps (drop at ts)).suites = ap (λ (z : State). z.suites) e in
    omega arith
