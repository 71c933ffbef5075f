-- What each production makes of parts that nest below a bound nests below it.
use Rattle.std.proofs.Common.{◌≡◌, ℕ, ◌-◌, ◌<◌, ◌≤◌, suc, zero, max, List, [], ◌∷◌, map, length, get_or, Bool, true, false, cond, eqb, ◌||◌, Option, Some, None, refl, arith}
use Rattle.pyd_value.specs.Size.{greatest}
use Rattle.pyd_syntax.specs.declared.symbol.Symbol.{Symbol}
use Rattle.pyd_syntax.specs.declared.symbol.Symbol.TheVariants.{Terminal, Rule}
use Rattle.pyd_syntax.specs.Rules as rule
use Rattle.pyd_derivation.specs.declared.piece.Piece.{Piece}
use Rattle.pyd_derivation.specs.Pieces.{part}
use Rattle.pyd_derivation.specs.Forms.{Form, none, apply}
use Rattle.pyd_derivation.specs.Productions.{grammar}
use Rattle.pyd_measure.specs.Marks.{part_nesting}
use Rattle.pyd_measure.proofs.Statements.{in_pass, in_break, in_continue}
use Rattle.pyd_measure.proofs.Table.{◌and◌}
use Rattle.pyd_measure.proofs.Depths.{depth, from_zero, suite_part, func_part, is_there}
use Rattle.pyd_measure.proofs.Deepening.{tests_depth, test_depth, or_depth, and_depth, compare_depth, chain_depth, power_depth, suffixed_depth, sub_depth, name_depth, suite_depth, elifs_depth, if_depth, while_depth, for_depth, simple_depth, return_depth, assert_depth, stmts_depth, items_depth, item_depth}

-- whether these symbols have a rule of this kind
abbrev pub has_rule : (ℕ → Bool) → List Symbol → Bool
has_rule test [] = false
has_rule test (Terminal k ∷ ss) = has_rule test ss
has_rule test (Rule n ∷ ss) = test n || has_rule test ss

-- whether a rule has a statement in it
abbrev pub is_statement : ℕ → Bool
is_statement n = eqb n rule.stmt || (eqb n rule.simple || (eqb n rule.if || (eqb n rule.while || eqb n rule.for)))

-- whether a rule has a suite in it
abbrev pub is_deeper : ℕ → Bool
is_deeper n = eqb n rule.suite || eqb n rule.def

-- whether the symbol at this place is tests
abbrev pub is_tests : List Symbol → ℕ → Bool
is_tests [] i = false
is_tests (Terminal k ∷ ss) zero = false
is_tests (Rule n ∷ ss) zero = eqb n rule.tests
is_tests (s ∷ ss) (suc i) = is_tests ss i

-- the nesting that counts for a mark is below this
abbrev pub Own : ℕ → Option (List ℕ) → List Piece → Type 0
Own r None vs = Unit {0}
Own r (Some is) vs = greatest (map (λ i. part_nesting (part vs i)) is) ≤ r

-- what a production makes of parts that nest below a bound nests below it
pub record Below (f : Form) (bytes : List ℕ) (line : ℕ) (vs : List Piece) (r : ℕ) : Type 0 where
  pub parts : (i : ℕ) → depth (part vs i) ≤ cond (eqb f.production.of rule.suite) (r - 1) r
  pub counts : Own r f.header vs
  pub deeper : has_rule is_deeper f.production.to ≡ true → 1 ≤ r
  pub suite : eqb f.production.of rule.suite ≡ true → 1 ≤ r
  pub tests : (i : ℕ) → is_tests f.production.to i ≡ true → is_there (part vs i) ≡ true

abbrev pub Keeps : Form → Type 0
Keeps f = (bytes : List ℕ) (line : ℕ) (vs : List Piece) (r : ℕ) → Below f bytes line vs r → depth (apply f.does bytes line vs) ≤ r

abbrev pub AllKeep : List Form → Type 0
AllKeep [] = Unit {0}
AllKeep (f ∷ fs) = Keeps f × AllKeep fs

pub keep_in : (g : List Form) (p : ℕ) → AllKeep g → p < length g → Keeps (get_or g p none)
keep_in [] p a l = absurd (omega arith)
keep_in (f ∷ g) zero a l = a.0
keep_in (f ∷ g) (suc p) a l = keep_in g p a.1 (omega arith)

pub first_of_two : (a b r : ℕ) → max a (max b 0) ≤ r → a ≤ r
first_of_two a b r h = omega arith

pub second_of_two : (a b r : ℕ) → max a (max b 0) ≤ r → b ≤ r
second_of_two a b r h = omega arith

pub only : (a r : ℕ) → max a 0 ≤ r → a ≤ r
only a r h = omega arith

-- what each production makes nests below its bound
pub all_keep : AllKeep grammar
unfolding grammar
all_keep =
    (λ bytes line vs r b. b.parts 0) and
    (λ bytes line vs r b. items_depth (part vs 0) (part vs 1) r (b.parts 0) (b.parts 1)) and
    (λ bytes line vs r b. from_zero 0 r refl) and
    (λ bytes line vs r b. b.parts 0) and
    (λ bytes line vs r b. func_part (part vs 0) r (b.deeper refl) (b.parts 0)) and
    (λ bytes line vs r b. item_depth (part vs 0) r (b.parts 0)) and
    (λ bytes line vs r b. from_zero 0 r refl) and
    (λ bytes line vs r b. from_zero 0 r refl) and
    (λ bytes line vs r b. from_zero 0 r refl) and
    (λ bytes line vs r b. func_part (part vs 3) r (b.deeper refl) (b.parts 3)) and
    (λ bytes line vs r b. suite_part (part vs 5) r (b.deeper refl) (b.parts 5)) and
    (λ bytes line vs r b. from_zero 0 r refl) and
    (λ bytes line vs r b. from_zero 0 r refl) and
    (λ bytes line vs r b. b.parts 1) and
    (λ bytes line vs r b. from_zero 0 r refl) and
    (λ bytes line vs r b. suite_depth (part vs 0) (part vs 1) (part vs 2) (part vs 3) (part vs 4) (part vs 5) r (b.suite refl) (b.parts 3) (b.parts 4)) and
    (λ bytes line vs r b. stmts_depth (part vs 0) (part vs 1) r (b.parts 0) (b.parts 1)) and
    (λ bytes line vs r b. from_zero 0 r refl) and
    (λ bytes line vs r b. b.parts 0) and
    (λ bytes line vs r b. b.parts 0) and
    (λ bytes line vs r b. b.parts 0) and
    (λ bytes line vs r b. b.parts 0) and
    (λ bytes line vs r b. if_depth bytes line (part vs 0) (part vs 1) (part vs 2) (part vs 3) (part vs 4) r (only (part_nesting (part vs 1)) r b.counts) (b.deeper refl) (b.parts 2) (b.parts 3) (b.parts 4)) and
    (λ bytes line vs r b. elifs_depth bytes line (part vs 0) (part vs 1) (part vs 2) (part vs 3) r (only (part_nesting (part vs 1)) r b.counts) (b.deeper refl) (b.parts 2) (b.parts 3)) and
    (λ bytes line vs r b. from_zero 0 r refl) and
    (λ bytes line vs r b. b.parts 1) and
    (λ bytes line vs r b. from_zero 0 r refl) and
    (λ bytes line vs r b. while_depth bytes line (part vs 0) (part vs 1) (part vs 2) r (only (part_nesting (part vs 1)) r b.counts) (b.deeper refl) (b.parts 2)) and
    (λ bytes line vs r b. for_depth bytes line (part vs 0) (part vs 1) (part vs 2) (part vs 3) (part vs 4) (part vs 5) r (only (part_nesting (part vs 4)) r b.counts) (b.tests 4 refl) (b.deeper refl) (b.parts 5)) and
    (λ bytes line vs r b. from_zero 0 r refl) and
    (λ bytes line vs r b. from_zero 0 r refl) and
    (λ bytes line vs r b. from_zero 0 r refl) and
    (λ bytes line vs r b. from_zero 0 r refl) and
    (λ bytes line vs r b. simple_depth bytes line (part vs 0) (part vs 1) (part vs 2) r (first_of_two (part_nesting (part vs 0)) (part_nesting (part vs 1)) r b.counts) (second_of_two (part_nesting (part vs 0)) (part_nesting (part vs 1)) r b.counts) (b.tests 0 refl)) and
    (λ bytes line vs r b. from_zero _ r (in_pass line)) and
    (λ bytes line vs r b. from_zero _ r (in_break line)) and
    (λ bytes line vs r b. from_zero _ r (in_continue line)) and
    (λ bytes line vs r b. return_depth bytes line (part vs 0) (part vs 1) (part vs 2) r (only (part_nesting (part vs 1)) r b.counts)) and
    (λ bytes line vs r b. assert_depth bytes line (part vs 0) (part vs 1) (part vs 2) (part vs 3) r (first_of_two (part_nesting (part vs 1)) (part_nesting (part vs 2)) r b.counts) (second_of_two (part_nesting (part vs 1)) (part_nesting (part vs 2)) r b.counts)) and
    (λ bytes line vs r b. from_zero 0 r refl) and
    (λ bytes line vs r b. from_zero 0 r refl) and
    (λ bytes line vs r b. from_zero 0 r refl) and
    (λ bytes line vs r b. b.parts 1) and
    (λ bytes line vs r b. from_zero 0 r refl) and
    (λ bytes line vs r b. b.parts 0) and
    (λ bytes line vs r b. from_zero 0 r refl) and
    (λ bytes line vs r b. from_zero _ r (tests_depth (part vs 0) (part vs 1))) and
    (λ bytes line vs r b. from_zero 0 r refl) and
    (λ bytes line vs r b. from_zero 0 r refl) and
    (λ bytes line vs r b. from_zero _ r (test_depth (part vs 0) (part vs 1))) and
    (λ bytes line vs r b. from_zero 0 r refl) and
    (λ bytes line vs r b. from_zero 0 r refl) and
    (λ bytes line vs r b. from_zero _ r (or_depth (part vs 0) (part vs 1))) and
    (λ bytes line vs r b. from_zero 0 r refl) and
    (λ bytes line vs r b. from_zero 0 r refl) and
    (λ bytes line vs r b. from_zero _ r (and_depth (part vs 0) (part vs 1))) and
    (λ bytes line vs r b. from_zero 0 r refl) and
    (λ bytes line vs r b. from_zero 0 r refl) and
    (λ bytes line vs r b. from_zero 0 r refl) and
    (λ bytes line vs r b. b.parts 0) and
    (λ bytes line vs r b. from_zero _ r (compare_depth (part vs 0) (part vs 1))) and
    (λ bytes line vs r b. from_zero 0 r refl) and
    (λ bytes line vs r b. from_zero 0 r refl) and
    (λ bytes line vs r b. from_zero 0 r refl) and
    (λ bytes line vs r b. from_zero 0 r refl) and
    (λ bytes line vs r b. from_zero _ r (chain_depth (part vs 0) (part vs 1))) and
    (λ bytes line vs r b. from_zero 0 r refl) and
    (λ bytes line vs r b. from_zero 0 r refl) and
    (λ bytes line vs r b. from_zero _ r (chain_depth (part vs 0) (part vs 1))) and
    (λ bytes line vs r b. from_zero 0 r refl) and
    (λ bytes line vs r b. from_zero 0 r refl) and
    (λ bytes line vs r b. from_zero _ r (chain_depth (part vs 0) (part vs 1))) and
    (λ bytes line vs r b. from_zero 0 r refl) and
    (λ bytes line vs r b. from_zero 0 r refl) and
    (λ bytes line vs r b. from_zero _ r (chain_depth (part vs 0) (part vs 1))) and
    (λ bytes line vs r b. from_zero 0 r refl) and
    (λ bytes line vs r b. from_zero 0 r refl) and
    (λ bytes line vs r b. from_zero _ r (chain_depth (part vs 0) (part vs 1))) and
    (λ bytes line vs r b. from_zero 0 r refl) and
    (λ bytes line vs r b. from_zero 0 r refl) and
    (λ bytes line vs r b. from_zero _ r (chain_depth (part vs 0) (part vs 1))) and
    (λ bytes line vs r b. from_zero 0 r refl) and
    (λ bytes line vs r b. from_zero 0 r refl) and
    (λ bytes line vs r b. from_zero 0 r refl) and
    (λ bytes line vs r b. b.parts 0) and
    (λ bytes line vs r b. from_zero _ r (power_depth (part vs 0) (part vs 1))) and
    (λ bytes line vs r b. b.parts 1) and
    (λ bytes line vs r b. from_zero 0 r refl) and
    (λ bytes line vs r b. from_zero _ r (suffixed_depth (part vs 0) (part vs 1))) and
    (λ bytes line vs r b. from_zero 0 r refl) and
    (λ bytes line vs r b. from_zero 0 r refl) and
    (λ bytes line vs r b. from_zero _ r (sub_depth (part vs 0) (part vs 1))) and
    (λ bytes line vs r b. from_zero 0 r refl) and
    (λ bytes line vs r b. from_zero 0 r refl) and
    (λ bytes line vs r b. from_zero 0 r refl) and
    (λ bytes line vs r b. b.parts 0) and
    (λ bytes line vs r b. from_zero 0 r refl) and
    (λ bytes line vs r b. from_zero _ r (name_depth bytes line (part vs 0) (part vs 1))) and
    (λ bytes line vs r b. from_zero 0 r refl) and
    (λ bytes line vs r b. from_zero 0 r refl) and
    (λ bytes line vs r b. from_zero 0 r refl) and
    (λ bytes line vs r b. from_zero 0 r refl) and
    (λ bytes line vs r b. from_zero 0 r refl) and
    (λ bytes line vs r b. from_zero 0 r refl) and
    tt
