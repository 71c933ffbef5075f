-- A derivation whose marks are below a bound is read as pieces that nest below it.
use Rattle.std.proofs.Common.{◌≡◌, ℕ, ◌+◌, ◌-◌, ◌<◌, ◌≤◌, suc, zero, List, [], ◌∷◌, ◌++◌, map, length, get_or, Bool, true, false, cond, eqb, ◌&&◌, ◌||◌, Option, Some, None, refl, sym, ap, subst, ◌∙◌, arith}
use Rattle.std.specs.Option.{is_some}
use Rattle.std.proofs.lemmas.Bool.{and_parts, eqb-true, eq-eqb}
use Rattle.pyd_value.specs.Size.{greatest}
use Rattle.pyd_syntax.specs.declared.symbol.Symbol.{Symbol}
use Rattle.pyd_syntax.specs.declared.symbol.Symbol.TheVariants.{Terminal, Rule}
use Rattle.pyd_syntax.specs.Rules as rule
use Rattle.pyd_derivation.specs.declared.piece.Piece.{Piece}
use Rattle.pyd_derivation.specs.declared.piece.Piece.TheVariants as piece
use Rattle.pyd_derivation.specs.Pieces.{part, items_of}
use Rattle.pyd_derivation.specs.Actions as action
use Rattle.pyd_derivation.specs.Forms.{Form, none, apply, symbols, does, header, of_production}
use Rattle.pyd_derivation.specs.Productions.{grammar}
use Rattle.pyd_derivation.specs.Derivation.{Trees, End, Token_then, Production_then, leaves, Derive, line_of, values}
use Rattle.pyd_measure.specs.Marks.{Mark, own, inside, marks}
use Rattle.pyd_measure.specs.Depth.{item_nesting}
use Rattle.pyd_measure.proofs.Depths.{depth, items_part, is_there}
use Rattle.pyd_measure.proofs.Keeping.{has_rule, is_statement, is_deeper, is_tests, Own, keep_in, all_keep}

abbrev pub AllBelow : ℕ → List Mark → Type 0
AllBelow b [] = Unit {0}
AllBelow b (m ∷ ms) = (m.nesting ≤ b) × AllBelow b ms

apart : (b : ℕ) (xs ys : List Mark) → AllBelow b (xs ++ ys) → AllBelow b xs × AllBelow b ys
apart b [] ys h = (tt, h)
apart b (m ∷ xs) ys h = let r = apart b xs ys h.1 in ((h.0, r.0), r.1)

-- what a production has in it, by its rule: a statement is a header or has one, a suite has a statement, a function a suite
abbrev reaching : Form → Bool
reaching f =
    cond (is_statement f.production.of) (is_some f.header || has_rule is_statement f.production.to) true
    && (cond (eqb f.production.of rule.suite) (has_rule is_statement f.production.to) true
    && cond (eqb f.production.of rule.def) (has_rule is_deeper f.production.to) true)

abbrev all_reach : List Form → Bool
all_reach [] = true
all_reach (f ∷ fs) = reaching f && all_reach fs

reach_in : (g : List Form) (p : ℕ) → all_reach g ≡ true → p < length g → reaching (get_or g p none) ≡ true
reach_in [] p a l = absurd (omega arith)
reach_in (f ∷ g) zero a l = (and_parts _ _ a).0
reach_in (f ∷ g) (suc p) a l = reach_in g p (and_parts _ _ a).1 (omega arith)

grammar_reaches : all_reach grammar ≡ true
unfolding grammar
grammar_reaches = refl

when : (b c : Bool) → cond b c true ≡ true → b ≡ true → c ≡ true
when true c h e = h
when false c h e = cc

either : (x y : Bool) (P : Type 0) → (x || y) ≡ true → (x ≡ true → P) → (y ≡ true → P) → P
either true y P h f g = f refl
either false y P h f g = g h

own_reach : (h : Option (List ℕ)) (k line b : ℕ) (vs : List Piece) → AllBelow b (own h k line vs) → is_some h ≡ true → k ≤ b
own_reach None k line b vs a e = cc
own_reach (Some is) k line b vs a e = let l = a.0 in omega arith

-- the number of suites round the parts of a suite, of no suite
in_suite : (p k : ℕ) → eqb (of_production grammar p) rule.suite ≡ true → inside p k ≡ suc k
in_suite p k e = ap (λ (z : Bool). cond z (suc k) k) e

by_test : (z : Bool) (k : ℕ) → k ≤ cond z (suc k) k
by_test true k = omega arith
by_test false k = omega arith

not_less : (p k : ℕ) → k ≤ inside p k
not_less p k = by_test (eqb (of_production grammar p) rule.suite) k

-- where there is a statement, a mark reaches the suites round it
reach : (bytes : List ℕ) (ss : List Symbol) (ds : Trees) → Derive grammar ss ds → (k b : ℕ) → AllBelow b (marks bytes k ds) →
    (has_rule is_statement ss ≡ true → k ≤ b) × (has_rule is_deeper ss ≡ true → k < b)
reach bytes [] End d k b a = (λ e. cc, λ e. cc)
reach bytes (Terminal t ∷ ss) (Token_then u ds) d k b a = reach bytes ss ds d.1 k b a
reach bytes (Rule n ∷ ss) (Production_then p cs ds) d k b a =
    let o = apart b (own (header grammar p) k (line_of (leaves cs)) (values grammar bytes cs)) (marks bytes (inside p k) cs ++ marks bytes k ds) a in
    let q = apart b (marks bytes (inside p k) cs) (marks bytes k ds) o.1 in
    let within = reach bytes (symbols grammar p) cs d.2 (inside p k) b q.0 in
    let behind = reach bytes ss ds d.3 k b q.1 in
    let t = and_parts _ _ (reach_in grammar p grammar_reaches d.0) in
    let u = and_parts _ _ t.1 in
    let up = not_less p k in
    let of : of_production grammar p ≡ n = d.1 in
    let stmt : is_statement n ≡ true → k ≤ b = λ e.
    either (is_some (header grammar p)) (has_rule is_statement (symbols grammar p)) (k ≤ b)
    (when (is_statement (of_production grammar p)) _ t.0 (ap is_statement of ∙ e))
    (own_reach (header grammar p) k (line_of (leaves cs)) b (values grammar bytes cs) o.0)
    (λ f. let l : inside p k ≤ b = within.0 f in omega arith) in
    let suite : eqb n rule.suite ≡ true → k < b = λ e.
    let s : eqb (of_production grammar p) rule.suite ≡ true = ap (λ (z : ℕ). eqb z rule.suite) of ∙ e in
    let l : inside p k ≤ b = within.0 (when (eqb (of_production grammar p) rule.suite) _ u.0 s) in
    let i : inside p k ≡ suc k = in_suite p k s in omega arith in
    let def : eqb n rule.def ≡ true → k < b = λ e.
    let s : eqb (of_production grammar p) rule.def ≡ true = ap (λ (z : ℕ). eqb z rule.def) of ∙ e in
    let l : inside p k < b = within.1 (when (eqb (of_production grammar p) rule.def) _ u.1 s) in omega arith in (
      λ e. either (is_statement n) (has_rule is_statement ss) (k ≤ b) e stmt behind.0,
      λ e. either (is_deeper n) (has_rule is_deeper ss) (k < b) e (λ f. either (eqb n rule.suite) (eqb n rule.def) (k < b) f suite def) behind.1,
    )
reach bytes [] (Token_then t ds) d k b a = absurd d
reach bytes [] (Production_then p cs ds) d k b a = absurd d
reach bytes (Terminal t ∷ ss) End d k b a = absurd d
reach bytes (Terminal t ∷ ss) (Production_then p cs ds) d k b a = absurd d
reach bytes (Rule n ∷ ss) End d k b a = absurd d
reach bytes (Rule n ∷ ss) (Token_then t ds) d k b a = absurd d

-- the place of a production of this rule is this one
abbrev only_at : ℕ → ℕ → List Form → ℕ → Bool
only_at n q [] i = true
only_at n q (f ∷ fs) i = cond (eqb f.production.of n) (eqb i q) true && only_at n q fs (suc i)

found_only : (n q : ℕ) (g : List Form) (i p : ℕ) → only_at n q g i ≡ true → p < length g → (get_or g p none).production.of ≡ n → i + p ≡ q
found_only n q [] i p h l e = absurd (omega arith)
found_only n q (f ∷ g) i zero h l e =
    let s : i ≡ q = eqb-true i q (when (eqb f.production.of n) (eqb i q) (and_parts _ _ h).0 (eq-eqb f.production.of n e)) in omega arith
found_only n q (f ∷ g) i (suc p) h l e = let s = found_only n q g (suc i) p (and_parts _ _ h).1 (omega arith) e in omega arith

-- the number of the production of tests
abbrev tests_production : ℕ
tests_production = 46

-- tests have one production
tests_only : only_at rule.tests tests_production grammar 0 ≡ true
unfolding grammar
tests_only = refl

tests_there : (p q : Piece) → is_there (action.as_tests p q) ≡ true
tests_there p (piece.Many es) = refl
tests_there p q = refl

made_there : (bytes : List ℕ) (line : ℕ) (vs : List Piece) → is_there (apply (does grammar tests_production) bytes line vs) ≡ true
unfolding grammar
made_there bytes line vs = tests_there (part vs 0) (part vs 1)

all_there : (bytes : List ℕ) (ss : List Symbol) (ds : Trees) → Derive grammar ss ds → (i : ℕ) → is_tests ss i ≡ true → is_there (part (values grammar bytes ds) i) ≡ true
all_there bytes [] End d i e = cc
all_there bytes (Terminal k ∷ ss) (Token_then t ds) d zero e = cc
all_there bytes (Terminal k ∷ ss) (Token_then t ds) d (suc i) e = all_there bytes ss ds d.1 i e
all_there bytes (Rule n ∷ ss) (Production_then p cs ds) d zero e =
    let same : 0 + p ≡ tests_production = found_only rule.tests tests_production grammar 0 p tests_only d.0 (d.1 ∙ eqb-true n rule.tests e) in
    let at : p ≡ tests_production = omega arith in
    subst (λ (z : ℕ). is_there (apply (does grammar z) bytes (line_of (leaves cs)) (values grammar bytes cs)) ≡ true) (sym at) (made_there bytes (line_of (leaves cs)) (values grammar bytes cs))
all_there bytes (Rule n ∷ ss) (Production_then p cs ds) d (suc i) e = all_there bytes ss ds d.3 i e
all_there bytes [] (Token_then t ds) d i e = absurd d
all_there bytes [] (Production_then p cs ds) d i e = absurd d
all_there bytes (Terminal k ∷ ss) End d i e = absurd d
all_there bytes (Terminal k ∷ ss) (Production_then p cs ds) d i e = absurd d
all_there bytes (Rule n ∷ ss) End d i e = absurd d
all_there bytes (Rule n ∷ ss) (Token_then t ds) d i e = absurd d

own_below : (h : Option (List ℕ)) (k line b : ℕ) (vs : List Piece) → AllBelow b (own h k line vs) → Own (b - k) h vs
own_below None k line b vs a = tt
own_below (Some is) k line b vs a = let l = a.0 in omega arith

room : (z : Bool) (k b : ℕ) → b - cond z (suc k) k ≡ cond z (b - k - 1) (b - k)
room true k b = omega arith
room false k b = omega arith

-- what a derivation is read as nests below its marks
pub below : (bytes : List ℕ) (ss : List Symbol) (ds : Trees) → Derive grammar ss ds → (k b : ℕ) → AllBelow b (marks bytes k ds) → (i : ℕ) → depth (part (values grammar bytes ds) i) ≤ b - k
below bytes [] End d k b a i = omega arith
below bytes (Terminal t ∷ ss) (Token_then u ds) d k b a zero = omega arith
below bytes (Terminal t ∷ ss) (Token_then u ds) d k b a (suc i) = below bytes ss ds d.1 k b a i
below bytes (Rule n ∷ ss) (Production_then p cs ds) d k b a zero =
    let vs : List Piece = values grammar bytes cs in
    let o = apart b (own (header grammar p) k (line_of (leaves cs)) vs) (marks bytes (inside p k) cs ++ marks bytes k ds) a in
    let q = apart b (marks bytes (inside p k) cs) (marks bytes k ds) o.1 in
    let within = reach bytes (symbols grammar p) cs d.2 (inside p k) b q.0 in
    let up = not_less p k in
    let u = and_parts _ _ (and_parts _ _ (reach_in grammar p grammar_reaches d.0)).1 in
    let z : Bool = eqb (of_production grammar p) rule.suite in
    keep_in grammar p all_keep d.0 bytes (line_of (leaves cs)) vs (b - k)
    (record {
      parts = λ i. subst (λ (m : ℕ). depth (part vs i) ≤ m) (room z k b) (below bytes (symbols grammar p) cs d.2 (inside p k) b q.0 i);
      counts = own_below (header grammar p) k (line_of (leaves cs)) b vs o.0;
      deeper = λ e. let l : inside p k < b = within.1 e in omega arith;
      suite = λ e. let l : inside p k ≤ b = within.0 (when z _ u.0 e) in let i : inside p k ≡ suc k = in_suite p k e in omega arith;
      tests = λ i e. all_there bytes (symbols grammar p) cs d.2 i e;
    })
below bytes (Rule n ∷ ss) (Production_then p cs ds) d k b a (suc i) =
    let o = apart b (own (header grammar p) k (line_of (leaves cs)) (values grammar bytes cs)) (marks bytes (inside p k) cs ++ marks bytes k ds) a in
    let q = apart b (marks bytes (inside p k) cs) (marks bytes k ds) o.1 in
    below bytes ss ds d.3 k b q.1 i
below bytes [] (Token_then t ds) d k b a i = absurd d
below bytes [] (Production_then p cs ds) d k b a i = absurd d
below bytes (Terminal t ∷ ss) End d k b a i = absurd d
below bytes (Terminal t ∷ ss) (Production_then p cs ds) d k b a i = absurd d
below bytes (Rule n ∷ ss) End d k b a i = absurd d
below bytes (Rule n ∷ ss) (Token_then t ds) d k b a i = absurd d

-- the file nests below the marks
pub items_below : (p : Piece) (b : ℕ) → depth p ≤ b → greatest (map item_nesting (items_of p)) ≤ b
items_below p b h = let z = items_part p in omega arith
