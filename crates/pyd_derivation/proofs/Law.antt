-- What the steps are read as from the back is what their derivation is read as.
use Rattle.std.proofs.Common.{◌≡◌, ℕ, ◌+◌, ◌<◌, suc, zero, List, [], ◌∷◌, ◌++◌, get_or, length, Bool, true, false, cond, refl, sym, ap, ap₂, subst, ◌∙◌, arith, All}
use Rattle.std.proofs.lemmas.Bool.{and_parts, eqb-true}
use Rattle.std.proofs.lemmas.List.Elements.{All-nil, All-cons}
use Rattle.pyd_lex.specs.declared.token.Token.{Token}
use Rattle.pyd_syntax.specs.declared.symbol.Symbol.{Symbol}
use Rattle.pyd_syntax.specs.declared.symbol.Symbol.TheVariants.{Terminal, Rule}
use Rattle.pyd_syntax.specs.declared.step.Step.{Step}
use Rattle.pyd_syntax.specs.declared.step.Step.TheVariants.{Shift, Expand}
use Rattle.pyd_syntax.specs.Terminals.{terminals}
use Rattle.pyd_syntax.specs.Grammar.{Production}
use Rattle.pyd_syntax.specs.Derivation.{Derives, symbols as syntax_symbols, none as no_production}
use Rattle.pyd_derivation.specs.declared.piece.Piece.{Piece}
use Rattle.pyd_derivation.specs.declared.piece.Piece.TheVariants as piece
use Rattle.pyd_derivation.specs.Forms.{Form, none, apply, symbols, does, productions}
use Rattle.pyd_derivation.specs.Productions.{grammar}
use Rattle.pyd_derivation.specs.Derivation.{Trees, End, Token_then, Production_then, leaves, Derive, line_of, values, steps_of}
use Rattle.pyd_derivation.specs.Reading.{expanded, read_back, shifts, IsKnown}
use Rattle.pyd_derivation.proofs.Forms.{append_assoc, drop_front, apply_front, apply_line, has_token, all_fit, fit_at}

-- the production of a form
production_at : (g : List Form) (p : ℕ) → get_or (productions g) p no_production ≡ (get_or g p none).production
production_at [] p = refl
production_at (f ∷ g) zero = refl
production_at (f ∷ g) (suc p) = production_at g p

length_map : (g : List Form) → length (productions g) ≡ length g
length_map [] = refl
length_map (f ∷ g) = ap suc (length_map g)

pub counted : (g : List Form) (bytes : List ℕ) (ss : List Symbol) (ds : Trees) → Derive g ss ds → length (values g bytes ds) ≡ length ss
counted g bytes [] End d = refl
counted g bytes (Terminal k ∷ ss) (Token_then t ds) d = ap suc (counted g bytes ss ds d.1)
counted g bytes (Rule n ∷ ss) (Production_then p cs ds) d = ap suc (counted g bytes ss ds d.3)
counted g bytes [] (Token_then t ds) d = absurd d
counted g bytes [] (Production_then p cs ds) d = absurd d
counted g bytes (Terminal k ∷ ss) End d = absurd d
counted g bytes (Terminal k ∷ ss) (Production_then p cs ds) d = absurd d
counted g bytes (Rule n ∷ ss) End d = absurd d
counted g bytes (Rule n ∷ ss) (Token_then t ds) d = absurd d

pub line_front : (xs ys : List Token) → 0 < length xs → line_of (xs ++ ys) ≡ line_of xs
line_front [] ys l = absurd (omega arith)
line_front (x ∷ xs) ys l = refl

length_both : (xs ys : List Token) → length (xs ++ ys) ≡ length xs + length ys
length_both [] ys = omega arith
length_both (x ∷ xs) ys = let h = length_both xs ys in omega arith

pub grown : (g : List Form) (ss : List Symbol) (ds : Trees) → Derive g ss ds → has_token ss ≡ true → 0 < length (leaves ds)
grown g [] End d h = cc
grown g (Terminal k ∷ ss) (Token_then t ds) d h = omega arith
grown g (Rule n ∷ ss) (Production_then p cs ds) d h =
    let b = length_both (leaves cs) (leaves ds) in
    let r = grown g ss ds d.3 h in omega arith
grown g [] (Token_then t ds) d h = absurd d
grown g [] (Production_then p cs ds) d h = absurd d
grown g (Terminal k ∷ ss) End d h = absurd d
grown g (Terminal k ∷ ss) (Production_then p cs ds) d h = absurd d
grown g (Rule n ∷ ss) End d h = absurd d
grown g (Rule n ∷ ss) (Token_then t ds) d h = absurd d

when : (b c : Bool) → cond b c true ≡ true → b ≡ true → c ≡ true
when true c h e = h
when false c h e = cc

-- one expansion puts the value of its production in the place of the values of its symbols
one : (g : List Form) (bytes : List ℕ) (p : ℕ) (cs : Trees) (more : List Token) (rest : List Piece) → all_fit g ≡ true → p < length g → Derive g (symbols g p) cs →
    expanded g bytes p (line_of (leaves cs ++ more)) (values g bytes cs ++ rest) ≡ apply (does g p) bytes (line_of (leaves cs)) (values g bytes cs) ∷ rest
one g bytes p cs more rest h l d =
    let f = and_parts _ _ (fit_at g p h l) in
    let n = counted g bytes (symbols g p) cs d in
    ap₂ (λ (x : Piece) (y : List Piece). x ∷ y)
    (apply_front (does g p) bytes (line_of (leaves cs ++ more)) (values g bytes cs) rest (n ∙ eqb-true _ _ f.0)
    ∙ apply_line (does g p) bytes (line_of (leaves cs ++ more)) (line_of (leaves cs)) (values g bytes cs) (λ e. line_front (leaves cs) more (grown g (symbols g p) cs d (when _ _ f.1 e))))
    (drop_front (values g bytes cs) rest (length (symbols g p)) n)

pub read_law : (g : List Form) (bytes : List ℕ) → all_fit g ≡ true → (ss : List Symbol) (ds : Trees) → Derive g ss ds → (steps : List Step) (ts : List Token) →
    read_back g bytes (steps_of ds ++ steps) (leaves ds ++ ts) ≡ values g bytes ds ++ read_back g bytes steps ts
read_law g bytes h [] End d steps ts = refl
read_law g bytes h (Terminal k ∷ ss) (Token_then t ds) d steps ts = ap (λ (z : List Piece). piece.Leaf t ∷ z) (read_law g bytes h ss ds d.1 steps ts)
read_law g bytes h (Rule n ∷ ss) (Production_then p cs ds) d steps ts =
    let both : read_back g bytes ((steps_of cs ++ steps_of ds) ++ steps) ((leaves cs ++ leaves ds) ++ ts) ≡ values g bytes cs ++ (values g bytes ds ++ read_back g bytes steps ts) =
    ap₂ (read_back g bytes) (append_assoc (steps_of cs) (steps_of ds) steps) (append_assoc (leaves cs) (leaves ds) ts)
    ∙ read_law g bytes h (symbols g p) cs d.2 (steps_of ds ++ steps) (leaves ds ++ ts)
    ∙ ap (λ (z : List Piece). values g bytes cs ++ z) (read_law g bytes h ss ds d.3 steps ts) in
    ap₂ (λ (x : List Token) (y : List Piece). expanded g bytes p (line_of x) y) (append_assoc (leaves cs) (leaves ds) ts) both
    ∙ one g bytes p cs (leaves ds ++ ts) (values g bytes ds ++ read_back g bytes steps ts) h d.0 d.2
read_law g bytes h [] (Token_then t ds) d steps ts = absurd d
read_law g bytes h [] (Production_then p cs ds) d steps ts = absurd d
read_law g bytes h (Terminal k ∷ ss) End d steps ts = absurd d
read_law g bytes h (Terminal k ∷ ss) (Production_then p cs ds) d steps ts = absurd d
read_law g bytes h (Rule n ∷ ss) End d steps ts = absurd d
read_law g bytes h (Rule n ∷ ss) (Token_then t ds) d steps ts = absurd d

-- trees beside trees
split : (g : List Form) (us ss : List Symbol) (ds : Trees) → Derive g (us ++ ss) ds →
    (cs : Trees) × (es : Trees) × Derive g us cs × Derive g ss es × (steps_of ds ≡ steps_of cs ++ steps_of es) × (leaves ds ≡ leaves cs ++ leaves es)
split g [] ss ds d = (End, ds, tt, d, refl, refl)
split g (Terminal k ∷ us) ss (Token_then t ds) d =
    let r = split g us ss ds d.1 in
    (Token_then t r.0, r.1, (d.0, r.2), r.3, ap (λ (z : List Step). Shift ∷ z) r.4, ap (λ (z : List Token). t ∷ z) r.5)
split g (Rule n ∷ us) ss (Production_then p cs ds) d =
    let r = split g us ss ds d.3 in (
      Production_then p cs r.0,
      r.1,
      (d.0, d.1, d.2, r.2),
      r.3,
      ap (λ (z : List Step). Expand p ∷ steps_of cs ++ z) r.4 ∙ ap (λ (z : List Step). Expand p ∷ z) (sym (append_assoc (steps_of cs) (steps_of r.0) (steps_of r.1))),
      ap (λ (z : List Token). leaves cs ++ z) r.5 ∙ sym (append_assoc (leaves cs) (leaves r.0) (leaves r.1)),
    )
split g (Terminal k ∷ us) ss End d = absurd d
split g (Terminal k ∷ us) ss (Production_then p cs ds) d = absurd d
split g (Rule n ∷ us) ss End d = absurd d
split g (Rule n ∷ us) ss (Token_then t ds) d = absurd d

-- steps that derive are those of trees
pub trees_from : (g : List Form) (steps : List Step) (ss : List Symbol) (ts : List Token) → Derives (productions g) steps ss (terminals ts) →
    (ds : Trees) × Derive g ss ds × (steps_of ds ≡ steps) × (leaves ds ≡ ts)
trees_from g [] [] [] d = (End, tt, refl, refl)
trees_from g (Shift ∷ steps) (Terminal k ∷ ss) (t ∷ ts) d =
    let r = trees_from g steps ss ts d.1 in
    (Token_then t r.0, (d.0, r.1), ap (λ (z : List Step). Shift ∷ z) r.2, ap (λ (z : List Token). t ∷ z) r.3)
trees_from g (Expand p ∷ steps) (Rule n ∷ ss) ts d =
    let same = production_at g p in
    let r = trees_from g steps (symbols g p ++ ss) ts (subst (λ (z : List Symbol). Derives (productions g) steps (z ++ ss) (terminals ts)) (ap (λ (z : Production). z.to) same) d.2) in
    let s = split g (symbols g p) ss r.0 r.1 in
    let within : p < length g = subst (λ (z : ℕ). p < z) (length_map g) d.0 in
    (Production_then p s.0 s.1, (within, sym (ap (λ (z : Production). z.of) same) ∙ d.1, s.2, s.3), ap (λ (z : List Step). Expand p ∷ z) (sym s.4 ∙ r.2), sym s.5 ∙ r.3)
trees_from g [] [] (t ∷ ts) d = absurd d
trees_from g [] (s ∷ ss) ts d = absurd d
trees_from g (Shift ∷ steps) [] ts d = absurd d
trees_from g (Shift ∷ steps) (Terminal k ∷ ss) [] d = absurd d
trees_from g (Shift ∷ steps) (Rule n ∷ ss) ts d = absurd d
trees_from g (Expand p ∷ steps) [] ts d = absurd d
trees_from g (Expand p ∷ steps) (Terminal k ∷ ss) ts d = absurd d

-- and the steps of trees derive
pub steps_derive : (g : List Form) (ss us : List Symbol) (ds : Trees) (steps : List Step) (ts : List Token) → Derive g ss ds → Derives (productions g) steps us (terminals ts) →
    Derives (productions g) (steps_of ds ++ steps) (ss ++ us) (terminals (leaves ds ++ ts))
steps_derive g [] us End steps ts d e = e
steps_derive g (Terminal k ∷ ss) us (Token_then t ds) steps ts d e = (d.0, steps_derive g ss us ds steps ts d.1 e)
steps_derive g (Rule n ∷ ss) us (Production_then p cs ds) steps ts d e =
    let same = production_at g p in
    let rest : Derives (productions g) (steps_of ds ++ steps) (ss ++ us) (terminals (leaves ds ++ ts)) = steps_derive g ss us ds steps ts d.3 e in
    let all : Derives (productions g) (steps_of cs ++ (steps_of ds ++ steps)) (symbols g p ++ (ss ++ us)) (terminals (leaves cs ++ (leaves ds ++ ts))) = steps_derive g (symbols g p) (ss ++ us) cs (steps_of ds ++ steps) (leaves ds ++ ts) d.2 rest in
    let there : Derives (productions g) (steps_of cs ++ (steps_of ds ++ steps)) (syntax_symbols (productions g) p ++ (ss ++ us)) (terminals (leaves cs ++ (leaves ds ++ ts))) =
    subst (λ (z : List Symbol). Derives (productions g) (steps_of cs ++ (steps_of ds ++ steps)) (z ++ (ss ++ us)) (terminals (leaves cs ++ (leaves ds ++ ts)))) (sym (ap (λ (z : Production). z.to) same)) all in
    let of : Derives (productions g) ((steps_of cs ++ steps_of ds) ++ steps) (syntax_symbols (productions g) p ++ (ss ++ us)) (terminals ((leaves cs ++ leaves ds) ++ ts)) =
    subst (λ (z : List Token). Derives (productions g) ((steps_of cs ++ steps_of ds) ++ steps) (syntax_symbols (productions g) p ++ (ss ++ us)) (terminals z)) (sym (append_assoc (leaves cs) (leaves ds) ts))
    (subst (λ (z : List Step). Derives (productions g) z (syntax_symbols (productions g) p ++ (ss ++ us)) (terminals (leaves cs ++ (leaves ds ++ ts)))) (sym (append_assoc (steps_of cs) (steps_of ds) steps)) there) in
    (subst (λ (z : ℕ). p < z) (sym (length_map g)) d.0, ap (λ (z : Production). z.of) same ∙ d.1, of)
steps_derive g [] us (Token_then t ds) steps ts d e = absurd d
steps_derive g [] us (Production_then p cs ds) steps ts d e = absurd d
steps_derive g (Terminal k ∷ ss) us End steps ts d e = absurd d
steps_derive g (Terminal k ∷ ss) us (Production_then p cs ds) steps ts d e = absurd d
steps_derive g (Rule n ∷ ss) us End steps ts d e = absurd d
steps_derive g (Rule n ∷ ss) us (Token_then t ds) steps ts d e = absurd d

pub all_known : (g : List Form) (steps : List Step) (ss : List Symbol) (ts : List Token) → Derives (productions g) steps ss (terminals ts) → All (IsKnown g) steps × (shifts steps ≡ length ts)
all_known g [] [] [] d = (All-nil (IsKnown g), refl)
all_known g (Shift ∷ steps) (Terminal k ∷ ss) (t ∷ ts) d = let r = all_known g steps ss ts d.1 in (All-cons (IsKnown g) Shift steps tt r.0, ap suc r.1)
all_known g (Expand p ∷ steps) (Rule n ∷ ss) ts d = let r = all_known g steps (syntax_symbols (productions g) p ++ ss) ts d.2 in (All-cons (IsKnown g) (Expand p) steps (subst (λ (z : ℕ). p < z) (length_map g) d.0) r.0, r.1)
all_known g [] [] (t ∷ ts) d = absurd d
all_known g [] (s ∷ ss) ts d = absurd d
all_known g (Shift ∷ steps) [] ts d = absurd d
all_known g (Shift ∷ steps) (Terminal k ∷ ss) [] d = absurd d
all_known g (Shift ∷ steps) (Rule n ∷ ss) ts d = absurd d
all_known g (Expand p ∷ steps) [] ts d = absurd d
all_known g (Expand p ∷ steps) (Terminal k ∷ ss) ts d = absurd d

-- every form of the grammar fits
pub grammar_fits : all_fit grammar ≡ true
unfolding grammar
grammar_fits = refl
