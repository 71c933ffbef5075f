-- The numbers of the nodes that pass a test, as those of the nodes that are so.
use Rattle.std.proofs.Common.{◌≡◌, ℕ, ◌+◌, ◌<◌, nat_eq, List, [], ◌∷◌, ◌++◌, map, length, get_or, drop, Bool, true, false, cond, not, ◌&&◌, ◌⊎◌, inl, inr, Contains, refl, sym, ap, subst, ◌∙◌, append_assoc, arith}
use Rattle.std.specs.List.{filter, IsDistinct, AllByRecursion}
use Rattle.std.specs.BTreeSet.{BTreeSet}
use Rattle.std.proofs.lemmas.List.{drop_more}
use Rattle.std.proofs.lemmas.Bool.{eq-eqb}
use Rattle.std.proofs.lemmas.List.Elements.{Contains-append_right}
use Rattle.pyd_ir.specs.declared.node.Node.{Node}
use Rattle.pyd_ir.specs.Arguments.{is_pure}
use Rattle.pyd_lineage.specs.Lineage.{is_among, Reaches, IsInOrder, AreThose, IsNeeded, AreNeeded, AreUnreached}
use Rattle.pyd_lineage.specs.Marking.{has, IsSetOf, reached_names, numbers_where, is_missing, is_missed, is_left_out}
use Rattle.pyd_lineage.proofs.Reaching.{here, behind, both_of, two_of, first_or_behind, marked_is_reached, reached_is_marked}

-- those of the first nodes and those of the others
pub those_then : (IsSo : Node → Type 0) (xs ys : List Node) (ns ms : List ℕ)
    → AreThose IsSo xs ns → AreThose IsSo ys ms → AreThose IsSo (xs ++ ys) (ns ++ ms)
those_then IsSo [] ys ns ms none those = subst (AreThose IsSo ys) (sym (ap (λ ks. ks ++ ms) none)) those
those_then IsSo (x ∷ xs) ys ns ms (inl taken) those =
    let more = taken.1 in
    inl (taken.0, (more.0 ++ ms, ap (λ ks. ks ++ ms) more.1, those_then IsSo xs ys more.0 ms more.2 those))
those_then IsSo (x ∷ xs) ys ns ms (inr left) those =
    inr (left.0, those_then IsSo xs ys ns ms left.1 those)

-- one node by a test that tells
by_test : (IsSo : Node → Type 0) (x : Node) (xs : List Node) (ns : List ℕ) (b : Bool)
    → (b ≡ true → IsSo x) → (b ≡ false → IsSo x → ⊥) → AreThose IsSo xs ns
    → AreThose IsSo (x ∷ xs) (cond b (x.id ∷ ns) ns)
by_test IsSo x xs ns true so other those = inl (so refl, (ns, refl, those))
by_test IsSo x xs ns false so other those = inr (other refl, those)

-- the numbers where the first node passes or doesn't
where_first : (test : Node → Bool) (x : Node) (xs : List Node) (b : Bool)
    → map (λ y. y.id) (cond b (x ∷ filter test xs) (filter test xs))
    ≡ cond b (x.id ∷ numbers_where test xs) (numbers_where test xs)
where_first test x xs true = refl
where_first test x xs false = refl

-- the nodes that pass a test that tells of each whether it is so
pub those_by_test : (IsSo : Node → Type 0) (test : Node → Bool) (xs : List Node)
    → ((x : Node) → Contains xs x → test x ≡ true → IsSo x)
    → ((x : Node) → Contains xs x → test x ≡ false → IsSo x → ⊥)
    → AreThose IsSo xs (numbers_where test xs)
those_by_test IsSo test [] so other = refl
those_by_test IsSo test (x ∷ xs) so other =
    subst (AreThose IsSo (x ∷ xs)) (sym (where_first test x xs (test x)))
    (by_test IsSo x xs (numbers_where test xs) (test x) (so x (here x xs)) (other x (here x xs))
    (those_by_test IsSo test xs (λ y c. so y (behind x xs y c)) (λ y c. other y (behind x xs y c))))

-- a walk that puts the numbers of those that pass at the end, one turn on
pub one_turn : (test : Node → Bool) (xs : List Node) (i : ℕ) (x : Node) (out next whole : List ℕ)
    → i < length xs → x ≡ get_or xs i x → out ++ numbers_where test (drop i xs) ≡ whole
    → ((test x ≡ true) × (next ≡ out ++ x.id ∷ [])) ⊎ ((test x ≡ false) × (next ≡ out))
    → next ++ numbers_where test (drop (i + 1) xs) ≡ whole
one_turn test xs i x out next whole within is so_far turn =
    let left = drop (i + 1) xs in
    let opened : drop i xs ≡ x ∷ left = drop_more xs i x within ∙ ap (λ y. y ∷ left) (sym is) in
    let first : out ++ cond (test x) (x.id ∷ numbers_where test left) (numbers_where test left) ≡ whole =
    ap (λ ns. out ++ ns) (sym (where_first test x left (test x)))
    ∙ ap (λ ys. out ++ numbers_where test ys) (sym opened) ∙ so_far in
    elim turn [
      | inl t ↦
          ap (λ ns. ns ++ numbers_where test left) t.1
          ∙ append_assoc out (x.id ∷ []) (numbers_where test left)
          ∙ ap (λ b. out ++ cond b (x.id ∷ numbers_where test left) (numbers_where test left)) (sym t.0) ∙ first
      | inr t ↦
          ap (λ ns. ns ++ numbers_where test left) t.1
          ∙ ap (λ b. out ++ cond b (x.id ∷ numbers_where test left) (numbers_where test left)) (sym t.0) ∙ first
    ]

-- a number is that of no node behind
numbers_apart : (n : ℕ) (xs : List Node) (x : Node) → AllByRecursion (λ m. nat_eq n m ≡ false) (map (λ y. y.id) xs)
    → Contains xs x → n ≡ x.id → ⊥
numbers_apart n [] x apart (k, within, is) same = omega (arith, within)
numbers_apart n (y ∷ ys) x apart stands same = elim (first_or_behind y ys x stands) [
  | inl is ↦
      let e : nat_eq n y.id ≡ true = eq-eqb n y.id (same ∙ ap (λ z. z.id) (sym is)) in
      let f : nat_eq n y.id ≡ false = apart.0 in
      let k : ⊥ = cc in k
  | inr c ↦ numbers_apart n ys x apart.1 c same
]

-- no past node stands in the chain
apart : (past chain : List Node) (x : Node) → IsDistinct nat_eq (map (λ y. y.id) (past ++ chain))
    → Contains past x → Contains chain x → ⊥
unfolding IsDistinct
apart [] chain x differ (k, within, is) there = omega (arith, within)
apart (y ∷ ys) chain x differ stands there = elim (first_or_behind y ys x stands) [
  | inl is ↦
      numbers_apart y.id (ys ++ chain) x differ.0 (Contains-append_right ys chain x there) (ap (λ z. z.id) is)
  | inr c ↦ apart ys chain x differ.1 c there
]

-- truth values
of_both : (a b : Bool) → (a && b) ≡ true → (a ≡ true) × (b ≡ true)
of_both true b e = (refl, e)
of_both false b e = cc

not_both : (a b : Bool) → (a && b) ≡ false → a ≡ true → b ≡ true → ⊥
not_both true true none first second = let k : ⊥ = cc in k
not_both true false none first second = let k : ⊥ = cc in k
not_both false b none first second = let k : ⊥ = cc in k

module _ (past chain : List Node) (known : List ℕ) (seen reached : BTreeSet ℕ)
    (order : IsInOrder past chain) (tells : IsSetOf seen known)
    (marks : IsSetOf reached (reached_names past chain (has seen))) where
  -- the set of those reached has what the chain reaches, and nothing else
  has_reached : (n : ℕ) → Reaches past chain known n → has reached n ≡ true
  has_reached n r = marks n ∙ reached_is_marked past chain known (has seen) tells order.earlier n r

  is_reached : (n : ℕ) → has reached n ≡ true → Reaches past chain known n
  is_reached n e = marked_is_reached past chain known (has seen) tells n (sym (marks n) ∙ e)

  -- a pure leaf that isn't known
  missing : (x : Node) → is_pure x.work ≡ true → is_among known x.id ≡ false → is_missing seen x ≡ true
  missing x leaf unknown = two_of (is_pure x.work) (has seen x.id) leaf (tells x.id ∙ unknown)

  needed_in : (x : Node) → is_missing seen x ≡ true → Contains chain x ⊎ Reaches past chain known x.id
      → IsNeeded past chain known x
  needed_in x e asked =
      let both = both_of (is_pure x.work) (has seen x.id) e in
      record { leaf = both.0; unknown = sym (tells x.id) ∙ both.1; asked = asked }

  past_needed : (x : Node) → is_missed seen reached x ≡ true → IsNeeded past chain known x
  past_needed x e =
      let both = of_both (is_missing seen x) (has reached x.id) e in
      needed_in x both.0 (inr (is_reached x.id both.1))

  past_unneeded : (x : Node) → Contains past x → is_missed seen reached x ≡ false
      → IsNeeded past chain known x → ⊥
  past_unneeded x stands e needed = elim needed.asked [
    | inl there ↦ apart past chain x order.differ stands there
    | inr r ↦
        not_both (is_missing seen x) (has reached x.id) e (missing x needed.leaf needed.unknown) (has_reached x.id r)
  ]

  chain_unneeded : (x : Node) → is_missing seen x ≡ false → IsNeeded past chain known x → ⊥
  chain_unneeded x e needed =
      let f : is_missing seen x ≡ true = missing x needed.leaf needed.unknown in
      let k : ⊥ = cc in k

  -- what has to be run
  pub are_needed : AreNeeded past chain known
      (numbers_where (is_missed seen reached) past ++ numbers_where (is_missing seen) chain)
  are_needed =
      those_then (IsNeeded past chain known) past chain _ _
      (those_by_test (IsNeeded past chain known) (is_missed seen reached) past
      (λ x c. past_needed x) past_unneeded)
      (those_by_test (IsNeeded past chain known) (is_missing seen) chain
      (λ x c e. needed_in x e (inl c)) (λ x c. chain_unneeded x))

-- truth values that are turned round
not_true : (b : Bool) → not b ≡ true → b ≡ true → ⊥
not_true true e f = let k : ⊥ = cc in k
not_true false e f = let k : ⊥ = cc in k

not_false : (b : Bool) → not b ≡ false → b ≡ true
not_false true e = refl
not_false false e = cc

-- what may be dropped
pub are_unreached : (past chain : List Node) (none reached : BTreeSet ℕ) → IsInOrder past chain
    → IsSetOf none [] → IsSetOf reached (reached_names past chain (has none))
    → AreUnreached past chain (numbers_where (is_left_out reached) past)
are_unreached past chain none reached order empty marks =
    those_by_test (λ x. Reaches past chain [] x.id → ⊥) (is_left_out reached) past
    (λ x c e r. not_true (has reached x.id) e (has_reached past chain [] none reached order empty marks x.id r))
    (λ x c e away. away (is_reached past chain [] none reached order empty marks x.id (not_false (has reached x.id) e)))
