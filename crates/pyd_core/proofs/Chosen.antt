-- The numbers of the nodes of a list that pass a test.
use Rattle.std.proofs.Common.{◌≡◌, ◌==◌, ℕ, List, [], ◌∷◌, nat_eq, map, drop, Bool, true, false, cond, not, ◌&&◌, ◌||◌, if◌then◌else◌, Contains, ◌⊎◌, inl, inr, refl, ap, sym, subst, ◌∙◌}
use Rattle.std.specs.List.{AllByRecursion, IsDistinct, filter}
use Rattle.pyd_ir.specs.declared.node.Node.{Node}
use Rattle.pyd_lineage.specs.Lineage.{AreThose, is_among}
use Rattle.pyd_lineage.specs.Marking.{numbers_where}
use Rattle.pyd_runs.specs.Sound.{IsFresh, stands}
use Rattle.pyd_runs.proofs.InOrder.{true_or_false}
use Rattle.pyd_runs.proofs.Putting.{at_cases, other_test, same_test}
use Rattle.pyd_runs.proofs.Standing.{AreApart}
use Rattle.pyd_runs.proofs.Without.{here, behind}
use Rattle.pyd_core.specs.Placing.{is_first}

-- the numbers where the first node passes or doesn't
mapped_cond : (x : Node) (xs : List Node) (b : Bool)
    → map (λ n. n.id) (cond b (x ∷ xs) xs)
    ≡ cond b (x.id ∷ map (λ n. n.id) xs) (map (λ n. n.id) xs)
mapped_cond x xs true = refl
mapped_cond x xs false = refl

pub where_first : (test : Node → Bool) (x : Node) (xs : List Node)
    → numbers_where test (x ∷ xs)
    ≡ cond (test x) (x.id ∷ numbers_where test xs) (numbers_where test xs)
where_first test x xs = mapped_cond x (filter test xs) (test x)

where_met : (test : Node → Bool) (x : Node) (xs : List Node) → test x ≡ true
    → numbers_where test (x ∷ xs) ≡ x.id ∷ numbers_where test xs
where_met test x xs is =
    where_first test x xs
    ∙ ap (λ b. cond b (x.id ∷ numbers_where test xs) (numbers_where test xs)) is

where_missed : (test : Node → Bool) (x : Node) (xs : List Node) → test x ≡ false
    → numbers_where test (x ∷ xs) ≡ numbers_where test xs
where_missed test x xs is =
    where_first test x xs
    ∙ ap (λ b. cond b (x.id ∷ numbers_where test xs) (numbers_where test xs)) is

-- truth values
pub and_false : (b : Bool) → (b && false) ≡ false
and_false true = refl
and_false false = refl

pub and_true : (b : Bool) → (b && true) ≡ b
and_true true = refl
and_true false = refl

apart_or : (a b c : Bool) → ((a && c) || (b && c)) ≡ ((a || b) && c)
apart_or true true c = or_twice c
  where
    or_twice : (c : Bool) → (c || c) ≡ c
    or_twice true = refl
    or_twice false = refl
apart_or true false c = or_false c
  where
    or_false : (c : Bool) → (c || false) ≡ c
    or_false true = refl
    or_false false = refl
apart_or false b c = refl

-- a number among some where the first is there or isn't
cond_among : (b : Bool) (m : ℕ) (ms : List ℕ) (k : ℕ)
    → is_among (cond b (m ∷ ms) ms) k ≡ ((nat_eq k m && b) || is_among ms k)
cond_among true m ms k = ap (λ b. b || is_among ms k) (sym (and_true (nat_eq k m)))
cond_among false m ms k = ap (λ b. b || is_among ms k) (sym (and_false (nat_eq k m)))

-- a test at a number that is that of a node
own_test : (test : ℕ → Bool) (m k : ℕ) → (nat_eq k m && test m) ≡ ((m == k) && test k)
own_test test m k = elim (at_cases m k) [
  | inl same ↦
      ap (λ b. b && test m) (same_test k m (sym same)) ∙ ap test same
      ∙ sym (ap (λ b. b && test k) (same_test m k same))
  | inr other ↦
      ap (λ b. b && test m) (other_test k m (λ z. other (sym z)))
      ∙ sym (ap (λ b. b && test k) (other_test m k other))
]

-- by a test of numbers alone, a number is among them where it stands in the list and passes
pub among_own : (test : ℕ → Bool) (ns : List Node) (k : ℕ)
    → is_among (numbers_where (λ n. test n.id) ns) k ≡ (stands k ns && test k)
among_own test [] k = refl
among_own test (x ∷ ns) k =
    let more = numbers_where (λ n. test n.id) ns in
    ap (λ ms. is_among ms k) (where_first (λ n. test n.id) x ns)
    ∙ cond_among (test x.id) x.id more k
    ∙ ap (λ b. b || is_among more k) (own_test test x.id k)
    ∙ ap (λ b. ((x.id == k) && test k) || b) (among_own test ns k)
    ∙ apart_or (x.id == k) (stands k ns) (test k)

-- those that are so are those that pass a test that tells
pub those_where : (IsSo : Node → Type 0) (test : Node → Bool) (xs : List Node) (ns : List ℕ)
    → ((x : Node) → Contains xs x → IsSo x → test x ≡ true)
    → ((x : Node) → Contains xs x → test x ≡ true → IsSo x)
    → AreThose IsSo xs ns → ns ≡ numbers_where test xs
those_where IsSo test [] ns met so those = those
those_where IsSo test (x ∷ xs) ns met so (inl taken) =
    let more = taken.1 in
    more.1
    ∙ ap (λ ms. x.id ∷ ms) (those_where IsSo test xs more.0 (λ y at. met y (behind x xs y at))
    (λ y at. so y (behind x xs y at)) more.2)
    ∙ sym (where_met test x xs (met x (here x xs) taken.0))
those_where IsSo test (x ∷ xs) ns met so (inr left) =
    those_where IsSo test xs ns (λ y at. met y (behind x xs y at))
    (λ y at. so y (behind x xs y at)) left.1
    ∙ sym (where_missed test x xs (missed (true_or_false (test x))))
  where
    missed : (test x ≡ true) ⊎ (test x ≡ false) → test x ≡ false
    missed (inl is) = absurd (left.0 (so x (here x xs) is))
    missed (inr not) = not

-- numbers that don't have one of no node of the list
fresh_first : (test : Node → Bool) (k : ℕ) (xs : List Node) → IsFresh k xs
    → is_first k (numbers_where test xs) ≡ false
fresh_first test k [] fresh = refl
fresh_first test k (x ∷ xs) fresh = elim (true_or_false (test x)) [
  | inl is ↦ ap (is_first k) (where_met test x xs is) ∙ other_test x.id k fresh.0
  | inr not ↦ ap (is_first k) (where_missed test x xs not) ∙ fresh_first test k xs fresh.1
]

-- where numbers differ, the number of the first node comes first where it passes
pub first_where : (test : Node → Bool) (x : Node) (xs : List Node) → IsFresh x.id xs
    → is_first x.id (numbers_where test (x ∷ xs)) ≡ test x
first_where test x xs fresh = elim (true_or_false (test x)) [
  | inl is ↦ ap (is_first x.id) (where_met test x xs is) ∙ same_test x.id x.id refl ∙ sym is
  | inr not ↦
      ap (is_first x.id) (where_missed test x xs not) ∙ fresh_first test x.id xs fresh ∙ sym not
]

-- what is left behind it
pub left_where : (test : Node → Bool) (x : Node) (xs : List Node)
    → (if test x then drop 1 (numbers_where test (x ∷ xs)) else numbers_where test (x ∷ xs))
    ≡ numbers_where test xs
left_where test x xs =
    let all = numbers_where test (x ∷ xs) in
    elim (true_or_false (test x)) [
      | inl is ↦
          ap (λ b. if b then drop 1 all else all) is ∙ ap (drop 1) (where_met test x xs is)
      | inr not ↦
          ap (λ b. if b then drop 1 all else all) not ∙ where_missed test x xs not
    ]

-- numbers of nodes that differ
fresh_apart : (test : Node → Bool) (k : ℕ) (xs : List Node) → IsFresh k xs
    → AllByRecursion (λ m. nat_eq k m ≡ false) (numbers_where test xs)
fresh_apart test k [] fresh = tt
fresh_apart test k (x ∷ xs) fresh = elim (true_or_false (test x)) [
  | inl is ↦ subst (AllByRecursion (λ m. nat_eq k m ≡ false)) (sym (where_met test x xs is))
      (other_test k x.id (λ z. fresh.0 (sym z)), fresh_apart test k xs fresh.1)
  | inr not ↦ subst (AllByRecursion (λ m. nat_eq k m ≡ false)) (sym (where_missed test x xs not))
      (fresh_apart test k xs fresh.1)
]

pub distinct_where : (test : Node → Bool) (xs : List Node) → AreApart xs
    → IsDistinct nat_eq (numbers_where test xs)
unfolding IsDistinct
distinct_where test [] apart = tt
distinct_where test (x ∷ xs) apart = elim (true_or_false (test x)) [
  | inl is ↦ subst (IsDistinct nat_eq) (sym (where_met test x xs is))
      (fresh_apart test x.id xs apart.0, distinct_where test xs apart.1)
  | inr not ↦ subst (IsDistinct nat_eq) (sym (where_missed test x xs not))
      (distinct_where test xs apart.1)
]
