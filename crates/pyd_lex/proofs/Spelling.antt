-- Longest pieces and cuts: each text has one.
use Rattle.std.proofs.Common.{◌≡◌, ℕ, zero, suc, ◌<◌, ◌≤◌, Bool, true, false, List, [], ◌∷◌, length, take, drop, refl, sym, ap, subst, ◌∙◌, arith, inl, inr, length-take-le, length-drop}
use Rattle.std.proofs.lemmas.Bool.{cases_Bool, cases_eq, cases_order}
use Rattle.pyd_lex.specs.declared.run.Class.{Class}
use Rattle.pyd_lex.specs.declared.run.Class.TheVariants.{Return, Hash, Quote, Digit, Letter, Other}
use Rattle.pyd_lex.specs.Words.{Text}
use Rattle.pyd_lex.specs.Strings.{inside}
use Rattle.pyd_lex.specs.Spelling.{class_of, belong, is_piece, IsLast, Extends, IsLongest, IsCut}

pub last_exists : (test : ℕ → Bool) (bound : ℕ) → test 0 ≡ true → (n : ℕ) × IsLast test bound n
last_exists test zero h = (0, record { within = omega arith; here = h; beyond = λ j lt le. absurd (omega arith) })
last_exists test (suc bound) h =
    elim (cases_Bool (test (suc bound))) [
      | inl t ↦ (suc bound, record { within = omega arith; here = t; beyond = λ j lt le. absurd (omega arith) })
      | inr f ↦
          let r = last_exists test bound h in
          let last = r.1 in (
            r.0,
            record {
              within = let w = last.within in omega arith;
              here = last.here;
              beyond = λ j lt le. elim (cases_eq j (suc bound)) [
                | inl e ↦ ap test e ∙ f
                | inr n ↦ last.beyond j lt (omega arith)
              ];
            },
          )
    ]

pub last_unique : (test : ℕ → Bool) (bound n m : ℕ) → IsLast test bound n → IsLast test bound m → n ≡ m
last_unique test bound n m a b =
    elim (cases_order n m) [
      | inl e ↦ e
      | inr o ↦ elim o [
        | inl lt ↦ absurd (let f = a.beyond m lt b.within in let t = b.here in cc)
        | inr lt ↦ absurd (let f = b.beyond n lt a.within in let t = a.here in cc)
      ]
    ]

-- a first character, and the longest part after it that belongs to it, are the longest piece
pub longest_from : (k : Class) (c : ℕ) (z : Text) (n : ℕ) → class_of c ≡ k → Extends k c z n → IsLongest (c ∷ z) (suc n)
unfolding is_piece
longest_from k c z n e x =
    record {
      within = let w = x.within in omega arith;
      here = ap (λ t. belong t c (take n z)) e ∙ x.here;
      beyond = λ j lt le. elim j as (λ i. suc n < i → i ≤ suc (length z) → is_piece (take i (c ∷ z)) ≡ false) [
        | zero ↦ λ l m. absurd (omega arith)
        | suc i ↦ λ l m. ap (λ t. belong t c (take i z)) e ∙ x.beyond i (omega arith) (omega arith)
      ] lt le;
    }

alone : (k : Class) (c : ℕ) → belong k c [] ≡ true
unfolding belong inside
alone Return c = refl
alone Hash c = refl
alone Quote c = refl
alone Digit c = refl
alone Letter c = refl
alone Other c = refl

pub longest_exists : (c : ℕ) (z : Text) → (n : ℕ) × IsLongest (c ∷ z) (suc n)
longest_exists c z =
    let r = last_exists (λ j. belong (class_of c) c (take j z)) (length z) (alone (class_of c) c) in
    (r.0, longest_from (class_of c) c z r.0 refl r.1)

-- a text that isn't empty has a longest piece
pub some_longest : (text : Text) → 0 < length text → (n : ℕ) × IsLongest text n
some_longest [] h = absurd (omega arith)
some_longest (c ∷ z) h = let r = longest_exists c z in (suc r.0, r.1)

cut_within : (fuel : ℕ) (text : Text) → length text ≤ fuel → (pieces : List Text) × IsCut text pieces
cut_within fuel [] h = ([], refl)
cut_within zero (c ∷ z) h = absurd (omega arith)
cut_within (suc fuel) (c ∷ z) h =
    let r = longest_exists c z in
    let n = r.0 in
    let longest = r.1 in
    let len : length (take (suc n) (c ∷ z)) ≡ suc n = length-take-le (suc n) (c ∷ z) longest.within in
    let rest = cut_within fuel (drop n z) (let d = length-drop n z in omega arith) in
    (take (suc n) (c ∷ z) ∷ rest.0, subst (λ m. (take (suc n) (c ∷ z) ≡ take m (c ∷ z)) × IsLongest (c ∷ z) m × IsCut (drop m (c ∷ z)) rest.0) (sym len) (refl, longest, rest.1))

pub cut_exists : (text : Text) → (pieces : List Text) × IsCut text pieces
cut_exists text = cut_within (length text) text (omega arith)

no_piece : (u : Text) (P : Type 0) → IsLongest [] (length u) → P
unfolding is_piece
no_piece [] P l = absurd (let h = l.here in cc)
no_piece (a ∷ u) P l = absurd (let w = l.within in omega arith)

pub cut_unique : (text : Text) (us vs : List Text) → IsCut text us → IsCut text vs → us ≡ vs
cut_unique text [] [] a b = refl
cut_unique text [] (v ∷ vs) a b = no_piece v ([] ≡ v ∷ vs) (subst (λ t. IsLongest t (length v)) a b.1)
cut_unique text (u ∷ us) [] a b = no_piece u (u ∷ us ≡ []) (subst (λ t. IsLongest t (length u)) b a.1)
cut_unique text (u ∷ us) (v ∷ vs) a b =
    let e : length u ≡ length v = last_unique (λ j. is_piece (take j text)) (length text) (length u) (length v) a.1 b.1 in
    let p : u ≡ v = a.0 ∙ ap (λ n. take n text) e ∙ sym b.0 in
    let r = cut_unique (drop (length u) text) us vs a.2 (subst (λ n. IsCut (drop n text) vs) (sym e) b.2) in
    λ i. p i ∷ r i
