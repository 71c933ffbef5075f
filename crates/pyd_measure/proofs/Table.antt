-- The measures of productions are those of what they make.
use Rattle.std.proofs.Common.{◌≡◌, ℕ, suc, zero, List, [], ◌∷◌, map, length, get_or, drop, refl, sym, ap, ap₂, ◌∙◌}
use Rattle.std.proofs.lemmas.List.{drop-map}
use Rattle.pyd_lex.specs.declared.token.Token.{Token}
use Rattle.pyd_syntax.specs.declared.step.Step.{Step}
use Rattle.pyd_syntax.specs.declared.step.Step.TheVariants.{Shift, Expand}
use Rattle.pyd_derivation.specs.declared.piece.Piece.{Piece}
use Rattle.pyd_derivation.specs.Pieces.{part, token_of, kind_of, text_in}
use Rattle.pyd_derivation.specs.Operators.{sign}
use Rattle.pyd_value.specs.declared.value.Value.TheVariants as value
use Rattle.pyd_value.specs.declared.operator.UnOp.TheVariants as un
use Rattle.pyd_derivation.specs.Actions as action
use Rattle.pyd_derivation.specs.Forms.{Form, Of1, Of2, Of3, Of4, At1, At2, none, apply, symbols, does, header}
use Rattle.pyd_derivation.specs.Productions.{grammar}
use Rattle.pyd_derivation.specs.Derivation.{line_of}
use Rattle.pyd_derivation.specs.Reading.{read_back}
use Rattle.pyd_measure.specs.declared.measures.Measure.{Measure}
use Rattle.pyd_measure.specs.declared.measures.Measure.TheVariants as measure
use Rattle.pyd_measure.specs.declared.measuring.Measuring.{Measuring}
use Rattle.pyd_measure.specs.declared.measuring.Measuring.TheVariants as way
use Rattle.pyd_measure.specs.Measures.{measure_of}
use Rattle.pyd_measure.specs.Combining as combining
use Rattle.pyd_measure.specs.Measurings.{places, arity, at, measured, table, measuring_of}
use Rattle.pyd_measure.specs.States.{state}
use Rattle.pyd_measure.proofs.Actions.{tests_law, comma_law, test_law, condition_law, or_law, and_law, member_law, unary_law, compare_law, compared_law, not_in_law, chain_law, link_law, power_law, suffixed_law, suffix_law, sub_law, upper_law, bound_law, name_law, literal_law, group_law, arguments_law, assign_law, augment_law}

infixr 1 ◌and◌
-- two facts, the first before others
abbrev pub ◌and◌ : {A B : Type 0} → A → B → A × B
x and y = (x, y)

-- what a form makes is measured so
record Suits (f : Form) (w : Measuring) : Type 0 where
  size : length f.production.to ≡ arity w
  counts : f.header ≡ places w
  value : (bytes : List ℕ) (line : ℕ) (vs : List Piece) → measure_of (apply f.does bytes line vs) ≡ measured w (map measure_of vs)

abbrev AllSuit : List Form → List Measuring → Type 0
AllSuit [] [] = Unit {0}
AllSuit (f ∷ fs) (w ∷ ws) = Suits f w × AllSuit fs ws
AllSuit [] (w ∷ ws) = ⊥
AllSuit (f ∷ fs) [] = ⊥

suit_at : (g : List Form) (ws : List Measuring) (p : ℕ) → AllSuit g ws → Suits (get_or g p none) (get_or ws p way.Nothing)
suit_at [] [] p a = record { size = refl; counts = refl; value = λ bytes line vs. refl }
suit_at (f ∷ g) (w ∷ ws) zero a = a.0
suit_at (f ∷ g) (w ∷ ws) (suc p) a = suit_at g ws p a.1
suit_at [] (w ∷ ws) p a = absurd a
suit_at (f ∷ g) [] p a = absurd a

-- the measure of a part
pub at_part : (vs : List Piece) (i : ℕ) → measure_of (part vs i) ≡ at (map measure_of vs) i
at_part [] i = refl
at_part (v ∷ vs) zero = refl
at_part (v ∷ vs) (suc i) = at_part vs i

by_one : (f : Piece → Piece) (h : Measure → Measure) → ((p : Piece) → measure_of (f p) ≡ h (measure_of p)) → (vs : List Piece) (i : ℕ) →
    measure_of (f (part vs i)) ≡ h (at (map measure_of vs) i)
by_one f h law vs i = law (part vs i) ∙ ap h (at_part vs i)

by_two : (f : Piece → Piece → Piece) (h : Measure → Measure → Measure) → ((p q : Piece) → measure_of (f p q) ≡ h (measure_of p) (measure_of q)) → (vs : List Piece) (i j : ℕ) →
    measure_of (f (part vs i) (part vs j)) ≡ h (at (map measure_of vs) i) (at (map measure_of vs) j)
by_two f h law vs i j = law (part vs i) (part vs j) ∙ ap₂ h (at_part vs i) (at_part vs j)

-- a form by what it makes
suits : (f : Form) (w : Measuring) → length f.production.to ≡ arity w → f.header ≡ places w →
    ((bytes : List ℕ) (line : ℕ) (vs : List Piece) → measure_of (apply f.does bytes line vs) ≡ measured w (map measure_of vs)) → Suits f w
suits f w s c v = record { size = s; counts = c; value = v }

same_value : (bytes : List ℕ) (line : ℕ) (vs : List Piece) → measure_of (apply (Of1 action.same) bytes line vs) ≡ measured way.Same (map measure_of vs)
same_value bytes line vs = at_part vs 0

second_value : (bytes : List ℕ) (line : ℕ) (vs : List Piece) → measure_of (apply (Of2 action.second) bytes line vs) ≡ measured way.Second (map measure_of vs)
second_value bytes line vs = at_part vs 1

assign_value : (bytes : List ℕ) (line : ℕ) (vs : List Piece) → measure_of (apply (Of2 action.as_assign) bytes line vs) ≡ measured way.Assign (map measure_of vs)
assign_value bytes line vs = by_one (action.as_assign (part vs 0)) combining.assign (assign_law (part vs 0)) vs 1

augment_value : (bytes : List ℕ) (line : ℕ) (vs : List Piece) → measure_of (apply (Of2 action.as_augment) bytes line vs) ≡ measured way.Augment (map measure_of vs)
augment_value bytes line vs = by_one (action.as_augment (part vs 0)) combining.augment (augment_law (part vs 0)) vs 1

tests_value : (bytes : List ℕ) (line : ℕ) (vs : List Piece) → measure_of (apply (Of2 action.as_tests) bytes line vs) ≡ measured way.Tests (map measure_of vs)
tests_value bytes line vs = by_two action.as_tests combining.tests tests_law vs 0 1

comma_value : (bytes : List ℕ) (line : ℕ) (vs : List Piece) → measure_of (apply (Of2 action.as_comma) bytes line vs) ≡ measured way.Comma (map measure_of vs)
comma_value bytes line vs = by_one (action.as_comma (part vs 0)) combining.comma (comma_law (part vs 0)) vs 1

test_value : (bytes : List ℕ) (line : ℕ) (vs : List Piece) → measure_of (apply (Of2 action.as_test) bytes line vs) ≡ measured way.Test (map measure_of vs)
test_value bytes line vs = by_two action.as_test combining.test test_law vs 0 1

condition_value : (bytes : List ℕ) (line : ℕ) (vs : List Piece) → measure_of (apply (Of4 action.as_condition) bytes line vs) ≡ measured way.Condition (map measure_of vs)
condition_value bytes line vs = by_two (λ p r. action.as_condition (part vs 0) p (part vs 2) r) combining.condition (λ p r. condition_law (part vs 0) p (part vs 2) r) vs 1 3

or_value : (bytes : List ℕ) (line : ℕ) (vs : List Piece) → measure_of (apply (Of2 action.as_or) bytes line vs) ≡ measured way.Junction (map measure_of vs)
or_value bytes line vs = by_two action.as_or combining.junction or_law vs 0 1

member_value : (bytes : List ℕ) (line : ℕ) (vs : List Piece) → measure_of (apply (Of3 action.as_member) bytes line vs) ≡ measured way.Member (map measure_of vs)
member_value bytes line vs = by_two (action.as_member (part vs 0)) combining.member (member_law (part vs 0)) vs 1 2

and_value : (bytes : List ℕ) (line : ℕ) (vs : List Piece) → measure_of (apply (Of2 action.as_and) bytes line vs) ≡ measured way.Junction (map measure_of vs)
and_value bytes line vs = by_two action.as_and combining.junction and_law vs 0 1

not_value : (bytes : List ℕ) (line : ℕ) (vs : List Piece) → measure_of (apply (Of2 action.as_not) bytes line vs) ≡ measured way.Unary (map measure_of vs)
not_value bytes line vs = by_one (action.as_not (part vs 0)) combining.unary (λ p. unary_law un.Not p) vs 1

compare_value : (bytes : List ℕ) (line : ℕ) (vs : List Piece) → measure_of (apply (Of2 action.as_compare) bytes line vs) ≡ measured way.Compare (map measure_of vs)
compare_value bytes line vs = by_two action.as_compare combining.compare compare_law vs 0 1

compared_value : (bytes : List ℕ) (line : ℕ) (vs : List Piece) → measure_of (apply (Of3 action.as_compared) bytes line vs) ≡ measured way.Compared (map measure_of vs)
compared_value bytes line vs = by_two (action.as_compared (part vs 0)) combining.compared (compared_law (part vs 0)) vs 1 2

not_in_value : (bytes : List ℕ) (line : ℕ) (vs : List Piece) → measure_of (apply (Of4 action.as_not_in) bytes line vs) ≡ measured way.NotIn (map measure_of vs)
not_in_value bytes line vs = by_two (action.as_not_in (part vs 0) (part vs 1)) combining.compared (not_in_law (part vs 0) (part vs 1)) vs 2 3

chain_value : (bytes : List ℕ) (line : ℕ) (vs : List Piece) → measure_of (apply (Of2 action.as_chain) bytes line vs) ≡ measured way.Chain (map measure_of vs)
chain_value bytes line vs = by_two action.as_chain combining.chain chain_law vs 0 1

link_value : (bytes : List ℕ) (line : ℕ) (vs : List Piece) → measure_of (apply (Of3 action.as_link) bytes line vs) ≡ measured way.Link (map measure_of vs)
link_value bytes line vs = by_two (action.as_link (part vs 0)) combining.link (link_law (part vs 0)) vs 1 2

unary_value : (bytes : List ℕ) (line : ℕ) (vs : List Piece) → measure_of (apply (Of2 action.as_unary) bytes line vs) ≡ measured way.Unary (map measure_of vs)
unary_value bytes line vs = by_one (action.as_unary (part vs 0)) combining.unary (λ p. unary_law (sign (kind_of (part vs 0))) p) vs 1

power_value : (bytes : List ℕ) (line : ℕ) (vs : List Piece) → measure_of (apply (Of2 action.as_power) bytes line vs) ≡ measured way.Power (map measure_of vs)
power_value bytes line vs = by_two action.as_power combining.power power_law vs 0 1

suffixed_value : (bytes : List ℕ) (line : ℕ) (vs : List Piece) → measure_of (apply (Of2 action.as_suffixed) bytes line vs) ≡ measured way.Suffixed (map measure_of vs)
suffixed_value bytes line vs = by_two action.as_suffixed combining.suffixed suffixed_law vs 0 1

suffix_value : (bytes : List ℕ) (line : ℕ) (vs : List Piece) → measure_of (apply (Of4 action.as_suffix) bytes line vs) ≡ measured way.Suffix (map measure_of vs)
suffix_value bytes line vs = by_two (λ p r. action.as_suffix (part vs 0) p (part vs 2) r) combining.suffix (λ p r. suffix_law (part vs 0) p (part vs 2) r) vs 1 3

sub_value : (bytes : List ℕ) (line : ℕ) (vs : List Piece) → measure_of (apply (Of2 action.as_sub) bytes line vs) ≡ measured way.Sub (map measure_of vs)
sub_value bytes line vs = by_two action.as_sub combining.sub sub_law vs 0 1

upper_value : (bytes : List ℕ) (line : ℕ) (vs : List Piece) → measure_of (apply (Of2 action.as_upper) bytes line vs) ≡ measured way.Upper (map measure_of vs)
upper_value bytes line vs = by_one (action.as_upper (part vs 0)) combining.upper (upper_law (part vs 0)) vs 1

bound_value : (bytes : List ℕ) (line : ℕ) (vs : List Piece) → measure_of (apply (Of2 action.as_bound) bytes line vs) ≡ measured way.Bound (map measure_of vs)
bound_value bytes line vs = by_one (action.as_bound (part vs 0)) combining.bound (bound_law (part vs 0)) vs 1

name_value : (bytes : List ℕ) (line : ℕ) (vs : List Piece) → measure_of (apply (At2 action.as_name) bytes line vs) ≡ measured way.Name (map measure_of vs)
name_value bytes line vs = by_one (action.as_name bytes line (part vs 0)) combining.name (name_law bytes line (part vs 0)) vs 1

int_value : (bytes : List ℕ) (line : ℕ) (vs : List Piece) → measure_of (apply (Of1 action.as_int) bytes line vs) ≡ measured way.Literal (map measure_of vs)
int_value bytes line vs = literal_law (action.number (kind_of (part vs 0)))

text_value : (bytes : List ℕ) (line : ℕ) (vs : List Piece) → measure_of (apply (At1 action.as_text) bytes line vs) ≡ measured way.Literal (map measure_of vs)
text_value bytes line vs = literal_law (value.Text (text_in bytes (token_of (part vs 0))))

constant_value : (bytes : List ℕ) (line : ℕ) (vs : List Piece) → measure_of (apply (Of1 action.as_constant) bytes line vs) ≡ measured way.Literal (map measure_of vs)
constant_value bytes line vs = literal_law (action.constant (kind_of (part vs 0)))

group_value : (bytes : List ℕ) (line : ℕ) (vs : List Piece) → measure_of (apply (Of3 action.as_group) bytes line vs) ≡ measured way.Group (map measure_of vs)
group_value bytes line vs = by_one (λ p. action.as_group (part vs 0) p (part vs 2)) combining.group (λ p. group_law (part vs 0) p (part vs 2)) vs 1

arguments_value : (bytes : List ℕ) (line : ℕ) (vs : List Piece) → measure_of (apply (Of3 action.as_arguments) bytes line vs) ≡ measured way.Arguments (map measure_of vs)
arguments_value bytes line vs = by_one (λ p. action.as_arguments (part vs 0) p (part vs 2)) combining.arguments (λ p. arguments_law (part vs 0) p (part vs 2)) vs 1

-- each production of the grammar is measured as the table says
all_suit : AllSuit grammar table
unfolding grammar table
all_suit =
    record { size = refl; counts = refl; value = same_value } and
    record { size = refl; counts = refl; value = λ bytes line vs. refl } and
    record { size = refl; counts = refl; value = λ bytes line vs. refl } and
    record { size = refl; counts = refl; value = same_value } and
    record { size = refl; counts = refl; value = λ bytes line vs. refl } and
    record { size = refl; counts = refl; value = λ bytes line vs. refl } and
    record { size = refl; counts = refl; value = λ bytes line vs. refl } and
    record { size = refl; counts = refl; value = λ bytes line vs. refl } and
    record { size = refl; counts = refl; value = λ bytes line vs. refl } and
    record { size = refl; counts = refl; value = λ bytes line vs. refl } and
    record { size = refl; counts = refl; value = λ bytes line vs. refl } and
    record { size = refl; counts = refl; value = λ bytes line vs. refl } and
    record { size = refl; counts = refl; value = λ bytes line vs. refl } and
    record { size = refl; counts = refl; value = second_value } and
    record { size = refl; counts = refl; value = λ bytes line vs. refl } and
    record { size = refl; counts = refl; value = λ bytes line vs. refl } and
    record { size = refl; counts = refl; value = λ bytes line vs. refl } and
    record { size = refl; counts = refl; value = λ bytes line vs. refl } and
    record { size = refl; counts = refl; value = same_value } and
    record { size = refl; counts = refl; value = same_value } and
    record { size = refl; counts = refl; value = same_value } and
    record { size = refl; counts = refl; value = same_value } and
    record { size = refl; counts = refl; value = λ bytes line vs. refl } and
    record { size = refl; counts = refl; value = λ bytes line vs. refl } and
    record { size = refl; counts = refl; value = λ bytes line vs. refl } and
    record { size = refl; counts = refl; value = second_value } and
    record { size = refl; counts = refl; value = λ bytes line vs. refl } and
    record { size = refl; counts = refl; value = λ bytes line vs. refl } and
    record { size = refl; counts = refl; value = λ bytes line vs. refl } and
    record { size = refl; counts = refl; value = λ bytes line vs. refl } and
    record { size = refl; counts = refl; value = λ bytes line vs. refl } and
    record { size = refl; counts = refl; value = λ bytes line vs. refl } and
    record { size = refl; counts = refl; value = λ bytes line vs. refl } and
    record { size = refl; counts = refl; value = λ bytes line vs. refl } and
    record { size = refl; counts = refl; value = λ bytes line vs. refl } and
    record { size = refl; counts = refl; value = λ bytes line vs. refl } and
    record { size = refl; counts = refl; value = λ bytes line vs. refl } and
    record { size = refl; counts = refl; value = λ bytes line vs. refl } and
    record { size = refl; counts = refl; value = λ bytes line vs. refl } and
    record { size = refl; counts = refl; value = assign_value } and
    record { size = refl; counts = refl; value = augment_value } and
    record { size = refl; counts = refl; value = λ bytes line vs. refl } and
    record { size = refl; counts = refl; value = second_value } and
    record { size = refl; counts = refl; value = λ bytes line vs. refl } and
    record { size = refl; counts = refl; value = same_value } and
    record { size = refl; counts = refl; value = λ bytes line vs. refl } and
    record { size = refl; counts = refl; value = tests_value } and
    record { size = refl; counts = refl; value = comma_value } and
    record { size = refl; counts = refl; value = λ bytes line vs. refl } and
    record { size = refl; counts = refl; value = test_value } and
    record { size = refl; counts = refl; value = condition_value } and
    record { size = refl; counts = refl; value = λ bytes line vs. refl } and
    record { size = refl; counts = refl; value = or_value } and
    record { size = refl; counts = refl; value = member_value } and
    record { size = refl; counts = refl; value = λ bytes line vs. refl } and
    record { size = refl; counts = refl; value = and_value } and
    record { size = refl; counts = refl; value = member_value } and
    record { size = refl; counts = refl; value = λ bytes line vs. refl } and
    record { size = refl; counts = refl; value = not_value } and
    record { size = refl; counts = refl; value = same_value } and
    record { size = refl; counts = refl; value = compare_value } and
    record { size = refl; counts = refl; value = compared_value } and
    record { size = refl; counts = refl; value = compared_value } and
    record { size = refl; counts = refl; value = not_in_value } and
    record { size = refl; counts = refl; value = λ bytes line vs. refl } and
    record { size = refl; counts = refl; value = chain_value } and
    record { size = refl; counts = refl; value = link_value } and
    record { size = refl; counts = refl; value = λ bytes line vs. refl } and
    record { size = refl; counts = refl; value = chain_value } and
    record { size = refl; counts = refl; value = link_value } and
    record { size = refl; counts = refl; value = λ bytes line vs. refl } and
    record { size = refl; counts = refl; value = chain_value } and
    record { size = refl; counts = refl; value = link_value } and
    record { size = refl; counts = refl; value = λ bytes line vs. refl } and
    record { size = refl; counts = refl; value = chain_value } and
    record { size = refl; counts = refl; value = link_value } and
    record { size = refl; counts = refl; value = λ bytes line vs. refl } and
    record { size = refl; counts = refl; value = chain_value } and
    record { size = refl; counts = refl; value = link_value } and
    record { size = refl; counts = refl; value = λ bytes line vs. refl } and
    record { size = refl; counts = refl; value = chain_value } and
    record { size = refl; counts = refl; value = link_value } and
    record { size = refl; counts = refl; value = λ bytes line vs. refl } and
    record { size = refl; counts = refl; value = unary_value } and
    record { size = refl; counts = refl; value = same_value } and
    record { size = refl; counts = refl; value = power_value } and
    record { size = refl; counts = refl; value = second_value } and
    record { size = refl; counts = refl; value = λ bytes line vs. refl } and
    record { size = refl; counts = refl; value = suffixed_value } and
    record { size = refl; counts = refl; value = suffix_value } and
    record { size = refl; counts = refl; value = λ bytes line vs. refl } and
    record { size = refl; counts = refl; value = sub_value } and
    record { size = refl; counts = refl; value = upper_value } and
    record { size = refl; counts = refl; value = bound_value } and
    record { size = refl; counts = refl; value = λ bytes line vs. refl } and
    record { size = refl; counts = refl; value = same_value } and
    record { size = refl; counts = refl; value = λ bytes line vs. refl } and
    record { size = refl; counts = refl; value = name_value } and
    record { size = refl; counts = refl; value = int_value } and
    record { size = refl; counts = refl; value = text_value } and
    record { size = refl; counts = refl; value = constant_value } and
    record { size = refl; counts = refl; value = group_value } and
    record { size = refl; counts = refl; value = arguments_value } and
    record { size = refl; counts = refl; value = λ bytes line vs. refl } and
    tt

pub size_at : (p : ℕ) → length (symbols grammar p) ≡ arity (measuring_of p)
size_at p = (suit_at grammar table p all_suit).size

pub counts_at : (p : ℕ) → header grammar p ≡ places (measuring_of p)
counts_at p = (suit_at grammar table p all_suit).counts

pub value_at : (p : ℕ) (bytes : List ℕ) (line : ℕ) (vs : List Piece) → measure_of (apply (does grammar p) bytes line vs) ≡ measured (measuring_of p) (map measure_of vs)
value_at p = (suit_at grammar table p all_suit).value

-- the measures that are read are those of the pieces that are read
pub measures_read : (bytes : List ℕ) (steps : List Step) (ts : List Token) → (state steps ts).measures ≡ map measure_of (read_back grammar bytes steps ts)
measures_read bytes [] ts = refl
measures_read bytes (Shift ∷ steps) [] = ap (λ (z : List Measure). measure.Other ∷ z) (measures_read bytes steps [])
measures_read bytes (Shift ∷ steps) (t ∷ ts) = ap (λ (z : List Measure). measure.Other ∷ z) (measures_read bytes steps ts)
measures_read bytes (Expand p ∷ steps) ts =
    let vs : List Piece = read_back grammar bytes steps ts in
    ap (λ (z : List Measure). measured (measuring_of p) z ∷ drop (arity (measuring_of p)) z) (measures_read bytes steps ts)
    ∙ ap₂ (λ (x : Measure) (y : List Measure). x ∷ y) (sym (value_at p bytes (line_of ts) vs))
    (ap (λ (n : ℕ). drop n (map measure_of vs)) (sym (size_at p)) ∙ drop-map measure_of (length (symbols grammar p)) vs)
