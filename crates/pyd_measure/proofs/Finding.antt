-- The lines that are found from the last step to the first are those of the marks.
use Rattle.std.proofs.Common.{◌≡◌, ℕ, ◌+◌, ◌<◌, ◌≤◌, suc, zero, max, List, [], ◌∷◌, ◌++◌, map, length, Bool, true, false, cond, leb, ltb, ◌&&◌, Option, Some, None, refl, sym, ap, ap₂, subst, ◌∙◌, arith}
use Rattle.std.specs.Prelude.{option_map}
use Rattle.std.proofs.lemmas.Bool.{and_parts, leb-true, ltb-true, lt-ltb}
use Rattle.pyd_value.specs.Size.{greatest}
use Rattle.pyd_lex.specs.declared.token.Token.{Token}
use Rattle.pyd_syntax.specs.declared.symbol.Symbol.{Symbol}
use Rattle.pyd_syntax.specs.declared.symbol.Symbol.TheVariants.{Terminal, Rule}
use Rattle.pyd_syntax.specs.declared.step.Step.{Step}
use Rattle.pyd_syntax.specs.declared.step.Step.TheVariants.{Expand}
use Rattle.pyd_derivation.specs.declared.piece.Piece.{Piece}
use Rattle.pyd_derivation.specs.Pieces.{part, tuple_of}
use Rattle.pyd_derivation.specs.Forms.{Form, symbols, header}
use Rattle.pyd_derivation.specs.Productions.{grammar}
use Rattle.pyd_derivation.specs.Derivation.{Trees, End, Token_then, Production_then, leaves, Derive, line_of, values, steps_of}
use Rattle.pyd_derivation.specs.Reading.{read_back}
use Rattle.pyd_derivation.proofs.Forms.{append_assoc, part_front, has_token}
use Rattle.pyd_derivation.proofs.Law.{read_law, counted as counted_values, line_front, grown, grammar_fits}
use Rattle.pyd_measure.specs.declared.found.Measured.{Measured}
use Rattle.pyd_measure.specs.declared.measures.Measure.{Measure}
use Rattle.pyd_measure.specs.declared.state.State.{State}
use Rattle.pyd_measure.specs.Limit.{deepest}
use Rattle.pyd_measure.specs.Marks.{Mark, part_nesting, fits, own, inside, marks, deep_line, target_line}
use Rattle.pyd_measure.specs.Measures.{cut, measure_of}
use Rattle.pyd_measure.specs.Parts.{counted, fits_in}
use Rattle.pyd_measure.specs.Measurings.{at, header_nesting, measuring_of}
use Rattle.pyd_measure.specs.States.{noted, start, state}
use Rattle.pyd_measure.proofs.Shapes.{counted_part, fits_part}
use Rattle.pyd_measure.proofs.Suites.{moved, moved_by, before, Level, before_at, level_at}
use Rattle.pyd_measure.proofs.Table.{at_part, counts_at, measures_read}

-- the line of the first deep mark, or what was found behind
abbrev first_deep : List Mark → Option ℕ → Option ℕ
first_deep [] o = o
first_deep (m ∷ ms) o = cond (ltb deepest m.nesting) (Some m.line) (first_deep ms o)

-- the line of the first mark that doesn't fit, or what was found behind
abbrev first_unfit : List Mark → Option ℕ → Option ℕ
first_unfit [] o = o
first_unfit (m ∷ ms) o = cond m.fits (first_unfit ms o) (Some m.line)

-- the lines of marks before what was found
abbrev pub with : List Mark → Measured → Measured
with ms f = record { deep = first_deep ms f.deep; target = first_unfit ms f.target }

deep_both : (xs ys : List Mark) (o : Option ℕ) → first_deep (xs ++ ys) o ≡ first_deep xs (first_deep ys o)
deep_both [] ys o = refl
deep_both (m ∷ xs) ys o = ap (λ (z : Option ℕ). cond (ltb deepest m.nesting) (Some m.line) z) (deep_both xs ys o)

unfit_both : (xs ys : List Mark) (o : Option ℕ) → first_unfit (xs ++ ys) o ≡ first_unfit xs (first_unfit ys o)
unfit_both [] ys o = refl
unfit_both (m ∷ xs) ys o = ap (λ (z : Option ℕ). cond m.fits z (Some m.line)) (unfit_both xs ys o)

pair : (f g : Measured) → f.deep ≡ g.deep → f.target ≡ g.target → f ≡ g
pair f g d t = ap₂ (λ (x y : Option ℕ). let r : Measured = record { deep = x; target = y } in r) d t

with_both : (xs ys : List Mark) (f : Measured) → with (xs ++ ys) f ≡ with xs (with ys f)
with_both xs ys f = pair (with (xs ++ ys) f) (with xs (with ys f)) (deep_both xs ys f.deep) (unfit_both xs ys f.target)

pub deep_with : (ms : List Mark) → (with ms start.found).deep ≡ deep_line ms
deep_with [] = refl
deep_with (m ∷ ms) = ap (λ (z : Option ℕ). cond (ltb deepest m.nesting) (Some m.line) z) (deep_with ms)

pub target_with : (ms : List Mark) → (with ms start.found).target ≡ target_line ms
target_with [] = refl
target_with (m ∷ ms) = ap (λ (z : Option ℕ). cond m.fits z (Some m.line)) (target_with ms)

-- the test of a nesting sees nothing of the cut
both_ways : (b c : Bool) → (b ≡ true → c ≡ true) → (c ≡ true → b ≡ true) → b ≡ c
both_ways true c f g = sym (f refl)
both_ways false true f g = g refl
both_ways false false f g = refl

tested : (k n x : ℕ) → cut n ≡ x → ltb deepest (k + x) ≡ ltb deepest (k + n)
tested k n x e =
    both_ways (ltb deepest (k + x)) (ltb deepest (k + n))
    (λ h. let l : deepest < k + x = ltb-true deepest (k + x) h in lt-ltb deepest (k + n) (omega arith))
    (λ h. let l : deepest < k + n = ltb-true deepest (k + n) h in lt-ltb deepest (k + x) (omega arith))

max_cut : (a b x y : ℕ) → cut a ≡ x → cut b ≡ y → cut (max a b) ≡ max x y
max_cut a b x y e f = omega arith

-- the greatest nesting of the parts at these places, by their measures
counted_at : (vs : List Piece) (is : List ℕ) → cut (greatest (map (λ i. part_nesting (part vs i)) is)) ≡ greatest (map (λ i. counted (at (map measure_of vs) i)) is)
counted_at vs [] = refl
counted_at vs (i ∷ is) =
    max_cut (part_nesting (part vs i)) (greatest (map (λ j. part_nesting (part vs j)) is)) _ _
    (counted_part (part vs i) ∙ ap counted (at_part vs i)) (counted_at vs is)

-- whether each of these places is below this one
abbrev all_below : List ℕ → ℕ → Bool
all_below [] n = true
all_below (i ∷ is) n = ltb i n && all_below is n

-- whether a statement or a header has a token of its own, and the parts that are read
abbrev head_ok : Option (List ℕ) → List Symbol → Bool
head_ok None ss = true
head_ok (Some is) ss = has_token ss && (leb 2 (length ss) && all_below is (length ss))

abbrev heads_ok : List Form → Bool
heads_ok [] = true
heads_ok (f ∷ fs) = head_ok f.header f.production.to && heads_ok fs

head_in : (g : List Form) (p : ℕ) → heads_ok g ≡ true → p < length g → head_ok (header g p) (symbols g p) ≡ true
head_in [] p a l = absurd (omega arith)
head_in (f ∷ g) zero a l = (and_parts _ _ a).0
head_in (f ∷ g) (suc p) a l = head_in g p (and_parts _ _ a).1 (omega arith)

grammar_heads : heads_ok grammar ≡ true
unfolding grammar
grammar_heads = refl

nestings_front : (vs rest : List Piece) (is : List ℕ) (n : ℕ) → length vs ≡ n → all_below is n ≡ true →
    map (λ i. part_nesting (part (vs ++ rest) i)) is ≡ map (λ i. part_nesting (part vs i)) is
nestings_front vs rest [] n e h = refl
nestings_front vs rest (i ∷ is) n e h =
    let b = and_parts _ _ h in
    let l : i < n = ltb-true i n b.0 in
    ap₂ (λ (x : ℕ) (xs : List ℕ). x ∷ xs) (ap part_nesting (part_front vs rest i (omega arith))) (nestings_front vs rest is n e b.1)

-- a mark is that of the production's own parts, in the line of its own first token
own_front : (h : Option (List ℕ)) (k l m : ℕ) (ss : List Symbol) (vs rest : List Piece) → head_ok h ss ≡ true → length vs ≡ length ss →
    (has_token ss ≡ true → l ≡ m) → own h k l (vs ++ rest) ≡ own h k m vs
own_front None k l m ss vs rest h n e = refl
own_front (Some is) k l m ss vs rest h n e =
    let a = and_parts _ _ h in
    let b = and_parts _ _ a.1 in
    let w : 2 ≤ length ss = leb-true 2 (length ss) b.0 in
    let line : l ≡ m = e a.0 in
    let nest : k + greatest (map (λ i. part_nesting (part (vs ++ rest) i)) is) ≡ k + greatest (map (λ i. part_nesting (part vs i)) is) =
    ap (λ (z : List ℕ). k + greatest z) (nestings_front vs rest is (length ss) n b.1) in
    let fit : fits (tuple_of (part (vs ++ rest) 0)) (part (vs ++ rest) 1) ≡ fits (tuple_of (part vs 0)) (part vs 1) =
    ap₂ (λ (x y : Piece). fits (tuple_of x) y) (part_front vs rest 0 (omega arith)) (part_front vs rest 1 (omega arith)) in
    ap₂ (λ (x : ℕ) (y : Mark). let r : List Mark = record { line = x; nesting = y.nesting; fits = y.fits } ∷ [] in r) line
    (ap₂ (λ (x : ℕ) (y : Bool). let r : Mark = record { line = 0; nesting = x; fits = y } in r) nest fit)

-- what is noted of a production is its mark
noted_at : (h : Option (List ℕ)) (k line : ℕ) (vs : List Piece) (s : State) → s.measures ≡ map measure_of vs → s.suites ≡ k →
    noted (option_map (λ is. greatest (map (λ i. counted (at s.measures i)) is)) h) line s ≡ with (own h k line vs) s.found
noted_at None k line vs s e f = refl
noted_at (Some is) k line vs s e f =
    let deep : ltb deepest (s.suites + greatest (map (λ i. counted (at s.measures i)) is)) ≡ ltb deepest (k + greatest (map (λ i. part_nesting (part vs i)) is)) =
    ap₂ (λ (a : ℕ) (ms : List Measure). ltb deepest (a + greatest (map (λ i. counted (at ms i)) is))) f e
    ∙ tested k (greatest (map (λ i. part_nesting (part vs i)) is)) _ (counted_at vs is) in
    let fit : fits_in (at s.measures 0) (at s.measures 1) ≡ fits (tuple_of (part vs 0)) (part vs 1) =
    ap (λ (ms : List Measure). fits_in (at ms 0) (at ms 1)) e
    ∙ ap₂ fits_in (sym (at_part vs 0)) (sym (at_part vs 1))
    ∙ sym (fits_part (part vs 0) (part vs 1)) in
    ap₂ (λ (x y : Bool). let r : Measured = record { deep = cond x (Some line) s.found.deep; target = cond y s.found.target (Some line) } in r) deep fit

-- what is found by the steps of derivations is what their marks say
pub state_law : (bytes : List ℕ) (ss : List Symbol) (ds : Trees) → Derive grammar ss ds → (steps : List Step) (ts : List Token) (k : ℕ) →
    Level ss (state steps ts).suites k →
    ((state (steps_of ds ++ steps) (leaves ds ++ ts)).suites ≡ before ss (state steps ts).suites)
    × ((state (steps_of ds ++ steps) (leaves ds ++ ts)).found ≡ with (marks bytes k ds) (state steps ts).found)
state_law bytes [] End d steps ts k l = (refl, refl)
state_law bytes (Terminal t ∷ ss) (Token_then u ds) d steps ts k l =
    let r = state_law bytes ss ds d.1 steps ts k l in
    let n : ℕ = (state (steps_of ds ++ steps) (leaves ds ++ ts)).suites in
    (moved_by u.kind n ∙ ap₂ moved (sym d.0) r.0, r.1)
state_law bytes (Rule n ∷ ss) (Production_then p cs ds) d steps ts k l =
    let more : List Token = leaves ds ++ ts in
    let then : List Step = steps_of ds ++ steps in
    let behind = state_law bytes ss ds d.3 steps ts k l.1 in
    let open_behind : (state then more).suites ≡ k = behind.0 ∙ l.0 in
    let level : Level (symbols grammar p) (state then more).suites (inside p k) =
    subst (λ (z : ℕ). Level (symbols grammar p) (state then more).suites (inside p z)) open_behind (level_at p (state then more).suites d.0) in
    let within = state_law bytes (symbols grammar p) cs d.2 then more (inside p k) level in
    let s : State = state (steps_of cs ++ then) (leaves cs ++ more) in
    let same : s.suites ≡ (state then more).suites = within.0 ∙ before_at p (state then more).suites d.0 in
    let read : read_back grammar bytes (steps_of cs ++ then) (leaves cs ++ more) ≡ values grammar bytes cs ++ read_back grammar bytes then more =
    read_law grammar bytes grammar_fits (symbols grammar p) cs d.2 then more in
    let kept : s.measures ≡ map measure_of (values grammar bytes cs ++ read_back grammar bytes then more) =
    measures_read bytes (steps_of cs ++ then) (leaves cs ++ more) ∙ ap (λ (z : List Piece). map measure_of z) read in
    let here : noted (header_nesting (measuring_of p) s.measures) (line_of (leaves cs ++ more)) s ≡ with (own (header grammar p) k (line_of (leaves cs)) (values grammar bytes cs)) s.found =
    ap (λ (h : Option (List ℕ)). noted (option_map (λ is. greatest (map (λ i. counted (at s.measures i)) is)) h) (line_of (leaves cs ++ more)) s) (sym (counts_at p))
    ∙ noted_at (header grammar p) k (line_of (leaves cs ++ more)) (values grammar bytes cs ++ read_back grammar bytes then more) s kept (same ∙ open_behind)
    ∙ ap (λ (z : List Mark). with z s.found)
    (own_front (header grammar p) k (line_of (leaves cs ++ more)) (line_of (leaves cs)) (symbols grammar p) (values grammar bytes cs) (read_back grammar bytes then more)
    (head_in grammar p grammar_heads d.0) (counted_values grammar bytes (symbols grammar p) cs d.2) (λ e. line_front (leaves cs) more (grown grammar (symbols grammar p) cs d.2 e))) in
    let found : s.found ≡ with (marks bytes (inside p k) cs) (with (marks bytes k ds) (state steps ts).found) =
    within.1 ∙ ap (λ (f : Measured). with (marks bytes (inside p k) cs) f) behind.1 in
    let x = append_assoc (steps_of cs) (steps_of ds) steps in
    let y = append_assoc (leaves cs) (leaves ds) ts in
    let own_marks : List Mark = own (header grammar p) k (line_of (leaves cs)) (values grammar bytes cs) in (
      ap₂ (λ (z : List Step) (w : List Token). (state z w).suites) x y ∙ same ∙ behind.0,
      ap₂ (λ (z : List Step) (w : List Token). (state (Expand p ∷ z) w).found) x y
          ∙ here
          ∙ ap (λ (f : Measured). with own_marks f) (found ∙ sym (with_both (marks bytes (inside p k) cs) (marks bytes k ds) (state steps ts).found))
          ∙ sym (with_both own_marks (marks bytes (inside p k) cs ++ marks bytes k ds) (state steps ts).found),
    )
state_law bytes [] (Token_then t ds) d steps ts k l = absurd d
state_law bytes [] (Production_then p cs ds) d steps ts k l = absurd d
state_law bytes (Terminal t ∷ ss) End d steps ts k l = absurd d
state_law bytes (Terminal t ∷ ss) (Production_then p cs ds) d steps ts k l = absurd d
state_law bytes (Rule n ∷ ss) End d steps ts k l = absurd d
state_law bytes (Rule n ∷ ss) (Token_then t ds) d steps ts k l = absurd d
