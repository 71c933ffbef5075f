-- How often a name occurs, told by the names and those that repeat one before them.
use Rattle.std.proofs.Common.{◌≡◌, ℕ, ◌+◌, Bool, true, false, not, cond, ◌&&◌, ◌||◌, ◌==◌, nat_le, List, [], ◌∷◌, ◌++◌, count_by, refl, sym, ◌∙◌, ap, arith, inl, inr}
use Rattle.std.proofs.lemmas.Grind.{common_steps}
use Rattle.std.proofs.lemmas.List.Sums.{sum_by-cons}
use Rattle.std.proofs.lemmas.List.Folds.{list_any-append}
use Rattle.pyd_names.specs.Binding.{same_name, is_among, is_once}
use Rattle.pyd_scope.specs.Once.{if_among, repeated}
use Rattle.pyd_scope.proofs.Finding.{truth_cases, same_is}

-- one name more at the front
count-cons : {X : Type 0} (p : X → Bool) (x : X) (xs : List X) → count_by p (x ∷ xs) ≡ cond (p x) 1 0 + count_by p xs
count-cons p x xs = sum_by-cons (λ y. cond (p y) 1 0) x xs

at_least_one : (b c : Bool) (n : ℕ) → c ≡ nat_le 1 n → (b || c) ≡ nat_le 1 (cond b 1 0 + n)
at_least_one true c n h = grind (arith, common_steps)
at_least_one false c n h = grind (arith, common_steps)

-- a name is among others where they have it once at least
among-count : (q : List ℕ) (ns : List (List ℕ)) → is_among ns q ≡ nat_le 1 (count_by (same_name q) ns)
among-count q [] = refl
among-count q (n ∷ ns) =
    at_least_one (same_name q n) (is_among ns q) (count_by (same_name q) ns) (among-count q ns)
    ∙ ap (nat_le 1) (sym (count-cons (same_name q) n ns))

-- one or two names at least, where one more was before
abbrev enough : Bool → ℕ → Bool
enough true n = nat_le 1 n
enough false n = nat_le 2 n

enough_more : (b : Bool) (n : ℕ) → (b || nat_le 1 n) ≡ enough b (1 + n)
enough_more true n = grind (arith, common_steps)
enough_more false n = grind (arith, common_steps)

enough_same : (b : Bool) (n : ℕ) → enough b n ≡ enough b (0 + n)
enough_same true n = grind (arith, common_steps)
enough_same false n = grind (arith, common_steps)

-- whether a name that is kept by a test is another
kept : (q n : List ℕ) (b : Bool) → is_among (cond b (n ∷ []) []) q ≡ (b && same_name q n)
kept q n true = elim (same_name q n) as (λ s. (s || false) ≡ s) [ true ↦ refl | false ↦ refl ]
kept q n false = refl

pushed : (before : List (List ℕ)) (q n : List ℕ) → is_among (before ++ n ∷ []) q ≡ (is_among before q || (same_name q n || false))
pushed before q n = list_any-append (same_name q) before (n ∷ [])

-- a name is repeated where it occurs once more
tells : (q : List ℕ) (before ns : List (List ℕ)) (b : Bool) → is_among before q ≡ b → is_among (repeated before ns) q ≡ enough b (count_by (same_name q) ns)
tells q before [] b is = elim b as (λ v. false ≡ enough v 0) [ true ↦ refl | false ↦ refl ]
tells q before (n ∷ ns) b is =
    list_any-append (same_name q) (if_among before n) (repeated (before ++ n ∷ []) ns)
    ∙ ap (λ (v : Bool). v || is_among (repeated (before ++ n ∷ []) ns) q) (kept q n (is_among before n))
    ∙ elim (truth_cases (same_name q n)) [
      | inl same ↦
          let there : is_among (before ++ n ∷ []) q ≡ true = pushed before q n ∙ ap (λ (v : Bool). is_among before q || (v || false)) same ∙ or_true (is_among before q) in
          let found : (is_among before n && same_name q n) ≡ b =
          ap (λ (v : Bool). is_among before n && v) same ∙ and_true (is_among before n) ∙ ap (is_among before) (sym (same_is q n same)) ∙ is in
          ap (λ (v : Bool). v || is_among (repeated (before ++ n ∷ []) ns) q) found
          ∙ ap (λ (v : Bool). b || v) (tells q (before ++ n ∷ []) ns true there)
          ∙ enough_more b (count_by (same_name q) ns)
          ∙ ap (λ (v : Bool). enough b (cond v 1 0 + count_by (same_name q) ns)) (sym same)
          ∙ ap (enough b) (sym (count-cons (same_name q) n ns))
      | inr apart ↦
          let there : is_among (before ++ n ∷ []) q ≡ b = pushed before q n ∙ ap (λ (v : Bool). is_among before q || (v || false)) apart ∙ or_false (is_among before q) ∙ is in
          ap (λ (v : Bool). (is_among before n && v) || is_among (repeated (before ++ n ∷ []) ns) q) apart
          ∙ ap (λ (v : Bool). v || is_among (repeated (before ++ n ∷ []) ns) q) (and_false (is_among before n))
          ∙ tells q (before ++ n ∷ []) ns b there
          ∙ enough_same b (count_by (same_name q) ns)
          ∙ ap (λ (v : Bool). enough b (cond v 1 0 + count_by (same_name q) ns)) (sym apart)
          ∙ ap (enough b) (sym (count-cons (same_name q) n ns))
    ]
  where
    or_true : (v : Bool) → (v || (true || false)) ≡ true
    or_true true = refl
    or_true false = refl

    or_false : (v : Bool) → (v || (false || false)) ≡ v
    or_false true = refl
    or_false false = refl

    and_true : (v : Bool) → (v && true) ≡ v
    and_true true = refl
    and_true false = refl

    and_false : (v : Bool) → (v && false) ≡ false
    and_false true = refl
    and_false false = refl

one_exactly : (n : ℕ) → (nat_le 1 n && not (nat_le 2 n)) ≡ (n == 1)
one_exactly n = grind (arith, common_steps)

-- a name is bound once where it is bound and not repeated
pub once_tells : (q : List ℕ) (ns : List (List ℕ)) → (is_among ns q && not (is_among (repeated [] ns) q)) ≡ is_once q ns
once_tells q ns =
    ap (λ (v : Bool). v && not (is_among (repeated [] ns) q)) (among-count q ns)
    ∙ ap (λ (v : Bool). nat_le 1 (count_by (same_name q) ns) && not v) (tells q [] ns false refl)
    ∙ one_exactly (count_by (same_name q) ns)
