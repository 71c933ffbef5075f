-- One step back, and all of them.
use Rattle.std.proofs.Common.{◌≡◌, ℕ, ◌+◌, ◌<◌, ◌≤◌, List, [], ◌∷◌, ◌++◌, length, get_or, take, drop, arith, ap, ap₂, sym, ◌∙◌, ◌-◌, refl, subst, All}
use Rattle.std.proofs.lemmas.List.{take_more, drop_more}
use Rattle.std.proofs.lemmas.List.Elements.{All-get_or}
use Rattle.pyd_lex.specs.declared.token.Token.{Token}
use Rattle.pyd_syntax.specs.declared.step.Step.{Step}
use Rattle.pyd_syntax.specs.declared.step.Step.TheVariants.{Shift, Expand}
use Rattle.pyd_derivation.specs.declared.piece.Piece.{Piece}
use Rattle.pyd_derivation.specs.declared.piece.Piece.TheVariants as piece
use Rattle.pyd_derivation.specs.Forms.{Form}
use Rattle.pyd_derivation.specs.Pieces.{no_token}
use Rattle.pyd_derivation.specs.Derivation.{line_of}
use Rattle.pyd_derivation.specs.Reading.{expanded, read_back, shifts, Back, MayBack, IsKnown}

shifts-append : (xs ys : List Step) → shifts (xs ++ ys) ≡ shifts xs + shifts ys
shifts-append [] ys = omega arith
shifts-append (Shift ∷ xs) ys = let h = shifts-append xs ys in omega arith
shifts-append (Expand p ∷ xs) ys = shifts-append xs ys

before : (steps : List Step) (i : ℕ) (d : Step) → i < length steps → shifts (take (i + 1) steps) ≡ shifts (take i steps) + shifts (get_or steps i d ∷ [])
before steps i d l = ap shifts (take_more steps i d l) ∙ shifts-append (take i steps) (get_or steps i d ∷ [])

may_back : (g : List Form) (steps : List Step) (ts : List Token) (i : ℕ) (d step : Step) → i < length steps → step ≡ get_or steps i d → IsKnown g step → shifts (take (i + 1) steps) ≤ length ts →
    MayBack g ts step (shifts (take (i + 1) steps))
may_back g steps ts i d Shift l e k h = let b = before steps i d l ∙ ap (λ (z : Step). shifts (take i steps) + shifts (z ∷ [])) (sym e) in (omega arith, h)
may_back g steps ts i d (Expand p) l e k h = k

on_back : (g : List Form) (bytes : List ℕ) (steps : List Step) (ts : List Token) (i at next : ℕ) (d step : Step) (vs us : List Piece) → i < length steps → step ≡ get_or steps i d →
    shifts (take (i + 1) steps) ≡ at → at ≤ length ts → vs ≡ read_back g bytes (drop (i + 1) steps) (drop at ts) → Back g bytes ts step vs at us next →
    (next ≤ length ts) × (shifts (take i steps) ≡ next) × (us ≡ read_back g bytes (drop i steps) (drop next ts))
on_back g bytes steps ts i at next d Shift vs us l e s w r b =
    let n = before steps i d l ∙ ap (λ (z : Step). shifts (take i steps) + shifts (z ∷ [])) (sym e) in
    let after : drop i steps ≡ Shift ∷ drop (i + 1) steps = drop_more steps i d l ∙ ap (λ (z : Step). z ∷ drop (i + 1) steps) (sym e) in
    let m : next < length ts = let x = b.0 in omega arith in
    let tokens : drop next ts ≡ get_or ts next no_token ∷ drop at ts = drop_more ts next no_token m ∙ ap (λ (z : ℕ). get_or ts next no_token ∷ drop z ts) b.0 in (
      let x = b.0 in omega arith,
      let x = b.0 in omega arith,
      b.1 ∙ ap (λ (z : List Piece). piece.Leaf (get_or ts next no_token) ∷ z) r ∙ sym (ap₂ (read_back g bytes) after tokens),
    )
on_back g bytes steps ts i at next d (Expand p) vs us l e s w r b =
    let n = before steps i d l ∙ ap (λ (z : Step). shifts (take i steps) + shifts (z ∷ [])) (sym e) in
    let after : drop i steps ≡ Expand p ∷ drop (i + 1) steps = drop_more steps i d l ∙ ap (λ (z : Step). z ∷ drop (i + 1) steps) (sym e) in (
      let x = b.0 in omega arith,
      let x = b.0 in omega arith,
      b.1 ∙ ap₂ (λ (z : ℕ) (w : List Piece). expanded g bytes p (line_of (drop z ts)) w) (sym b.0) (r ∙ ap (λ (z : ℕ). read_back g bytes (drop (i + 1) steps) (drop z ts)) (sym b.0))
          ∙ sym (ap (λ (z : List Step). read_back g bytes z (drop next ts)) after),
    )

pub may_back_from : (g : List Form) (steps : List Step) (ts : List Token) (i at : ℕ) → 0 < i → i ≤ length steps → All (IsKnown g) steps → shifts (take i steps) ≡ at → at ≤ length ts →
    MayBack g ts (get_or steps (i - 1) Shift) at
may_back_from g steps ts i at p w k s l =
    let e : i - 1 + 1 ≡ i = omega arith in
    let q : MayBack g ts (get_or steps (i - 1) Shift) (shifts (take (i - 1 + 1) steps)) = may_back g steps ts (i - 1) Shift (get_or steps (i - 1) Shift) (omega arith) refl (All-get_or (IsKnown g) steps (i - 1) Shift (omega arith) k)
    (subst (λ (z : ℕ). shifts (take z steps) ≤ length ts) (sym e) (omega arith)) in
    subst (λ (z : ℕ). MayBack g ts (get_or steps (i - 1) Shift) z) (ap (λ (z : ℕ). shifts (take z steps)) e ∙ s) q

pub on_back_from : (g : List Form) (bytes : List ℕ) (steps : List Step) (ts : List Token) (i at next : ℕ) (vs us : List Piece) → 0 < i → i ≤ length steps →
    shifts (take i steps) ≡ at → at ≤ length ts → vs ≡ read_back g bytes (drop i steps) (drop at ts) → Back g bytes ts (get_or steps (i - 1) Shift) vs at us next →
    (next ≤ length ts) × (shifts (take (i - 1) steps) ≡ next) × (us ≡ read_back g bytes (drop (i - 1) steps) (drop next ts))
on_back_from g bytes steps ts i at next vs us p w s l r b =
    let e : i - 1 + 1 ≡ i = omega arith in
    on_back g bytes steps ts (i - 1) at next Shift (get_or steps (i - 1) Shift) vs us (omega arith) refl
    (ap (λ (z : ℕ). shifts (take z steps)) e ∙ s) l (r ∙ ap (λ (z : ℕ). read_back g bytes (drop z steps) (drop at ts)) (sym e)) b
