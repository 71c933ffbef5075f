-- Names that are the same, and names that come once.
use Rattle.std.proofs.Common.{◌≡◌, ℕ, Bool, true, false, not, cond, ◌||◌, List, refl, sym, ◌∙◌, ap}
use Rattle.std.specs.Ordering.{nat_cmp, eq_by_cmp}
use Rattle.std.specs.Cmp.Lexicographic.{slice_cmp, bytes_decides, texts_ties}
use Rattle.pyd_names.specs.Binding.{same_name}

pub same_is : (a b : List ℕ) → same_name a b ≡ true → a ≡ b
same_is a b h = (bytes_decides a b).0 h

pub is_same : (a b : List ℕ) → a ≡ b → same_name a b ≡ true
is_same a b e = (bytes_decides a b).1 e

-- the order of texts tells the same
pub same_by_order : (a b : List ℕ) → eq_by_cmp (slice_cmp nat_cmp) a b ≡ same_name a b
same_by_order a b = sym (texts_ties a b)

-- a truth value that follows from the other, both ways
pub both_ways : (a b : Bool) → (a ≡ true → b ≡ true) → (b ≡ true → a ≡ true) → a ≡ b
both_ways true b f g = sym (f refl)
both_ways false true f g = g refl
both_ways false false f g = refl

-- the names are the same from both sides
pub same-flip : (a b : List ℕ) → same_name a b ≡ same_name b a
same-flip a b = both_ways (same_name a b) (same_name b a) (λ h. is_same b a (sym (same_is a b h))) (λ h. is_same a b (sym (same_is b a h)))

either : (a b : Bool) → cond a true b ≡ (a || b)
either true b = refl
either false b = refl

-- what a set has once a name is put into it
pub added_here : (key name : List ℕ) (seen seen' : List ℕ → Bool) → key ≡ name
    → ((q : List ℕ) → seen' q ≡ cond (eq_by_cmp (slice_cmp nat_cmp) key q) true (seen q)) → (q : List ℕ) → seen' q ≡ (same_name name q || seen q)
added_here key name seen seen' is puts q =
    puts q ∙ ap (λ b. cond b true (seen q)) (same_by_order key q) ∙ ap (λ k. cond (same_name k q) true (seen q)) is ∙ either (same_name name q) (seen q)

pub not_true : (b : Bool) → not b ≡ true → b ≡ false
not_true true h = sym h
not_true false h = refl

pub not_false : (b : Bool) → not b ≡ false → b ≡ true
not_false true h = refl
not_false false h = sym h
