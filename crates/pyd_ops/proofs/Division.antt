-- The quotient and remainder by a negative divisor, from those whose remainder is never negative.
use Rattle.std.proofs.Common.{◌≡◌, ◌≢◌, ℕ, zero, suc, ◌+◌, ◌-◌, ◌*◌, ◌/◌, ◌%◌, ◌<◌, ◌≤◌, ◌^◌, min, ℤ, pos, negsuc, neg_ℤ, ◌+ℤ◌, ◌-ℤ◌, int_lt, nat_lt, true, false, Some, to_z, of_z, Bool, refl, sym, ap, subst, ◌∙◌, arith, rules, FitsSigned, ◌⊎◌, inl, inr}
use Rattle.std.specs.Int.{w128, int_div_euclid, int_rem_euclid, div_ceil}
use Rattle.std.specs.Int.Signed.{shr_z}
use Rattle.std.proofs.lemmas.Int.{ints, to_z-of_z}
use Rattle.std.proofs.lemmas.Nat.{div-add-mod', div-mul-add, mod-mul-add, mod_below}
use Rattle.std.proofs.Math.Nat.{div-le_self, div-eq_of_lt}
use Rattle.std.proofs.Math.Pow.{pow_mono}
use Rattle.pyd_value.specs.Limits.{integer_bound}
use Rattle.pyd_ops.specs.Integer.{within}
use Rattle.pyd_ops.specs.Arithmetic.{floor_div, floor_rem}
use Rattle.pyd_ops.proofs.Limits.{holds}

-- one more, where no new multiple is reached
pub grow : (a d : ℕ) → a % d + 1 < d → (suc a / d ≡ a / d) × (suc a % d ≡ a % d + 1)
grow a d h =
    let e : suc a ≡ a / d * d + (a % d + 1) = omega (arith, div-add-mod' a d) in
    (ap (λ x. x / d) e ∙ div-mul-add (a / d) d (a % d + 1) h, ap (λ x. x % d) e ∙ mod-mul-add (a / d) d (a % d + 1) h)

-- one more, where one is
pub carry : (a d : ℕ) → 0 < d → a % d + 1 ≡ d → (suc a / d ≡ a / d + 1) × (suc a % d ≡ 0)
carry a d p h =
    let e : suc a ≡ (a / d + 1) * d + 0 = omega (arith, div-add-mod' a d) in
    (ap (λ x. x / d) e ∙ div-mul-add (a / d + 1) d 0 p, ap (λ x. x % d) e ∙ mod-mul-add (a / d + 1) d 0 p)

pub nothing : (d : ℕ) → 0 < d → 0 % d ≡ 0
nothing d p =
    let e : 0 ≡ 0 * d + 0 = omega arith in
    ap (λ x. x % d) e ∙ mod-mul-add 0 d 0 p

pub either : (a n : ℕ) → (a % suc n + 1 < suc n) ⊎ (a % suc n + 1 ≡ suc n)
either a n = by_order (a % suc n) n (mod_below a (suc n) (omega arith))
  where
    by_order : (r n : ℕ) → r < suc n → (r + 1 < suc n) ⊎ (r + 1 ≡ suc n)
    by_order r n h = grind arith

positive : (k : ℕ) → nat_lt k 0 ≡ true → ⊥
positive k h = grind arith

ceil_more : (m d : ℕ) → pos (m % d) ≢ pos 0 → div_ceil m d ≡ suc (m / d)
ceil_more m d h = grind arith

ceil_same : (m d : ℕ) → pos (m % d) ≡ pos 0 → div_ceil m d ≡ m / d
ceil_same m d h = grind arith

less_one : (q : ℕ) → neg_ℤ (pos q) -ℤ pos 1 ≡ negsuc q
less_one q = omega (arith, ints)

more_less : (q : ℕ) → pos (suc q) -ℤ pos 1 ≡ pos q
more_less q = omega (arith, ints)

room : (m n : ℕ) → pos (suc n - 1 - m % suc n) ≢ pos 0 → m % suc n + 1 < suc n
room m n h = grind arith

no_room : (m n : ℕ) → pos (suc n - 1 - m % suc n) ≡ pos 0 → m % suc n < suc n → m % suc n + 1 ≡ suc n
no_room m n e h = grind arith

-- the quotient where something remains, and its size
quotient_neg : (m n : ℕ) → pos (m % suc n) ≢ pos 0 → floor_div (pos m) (negsuc n) ≡ negsuc (m / suc n)
quotient_neg m n h = ap (λ k. neg_ℤ (pos k)) (ceil_more m (suc n) h)

quotient_pos : (m n : ℕ) → pos (suc n - 1 - m % suc n) ≢ pos 0 → floor_div (negsuc m) (negsuc n) ≡ pos (m / suc n)
quotient_pos m n h = ap pos (grow m (suc n) (room m n h)).0

pub less_by_one : (m n : ℤ) → int_lt n (pos 0) ≡ true → int_rem_euclid m n ≢ pos 0 → int_div_euclid m n -ℤ pos 1 ≡ floor_div m n
less_by_one m (pos n) l h = absurd (positive n l)
less_by_one (pos m) (negsuc n) l h = less_one (m / suc n) ∙ sym (quotient_neg m n h)
less_by_one (negsuc m) (negsuc n) l h = more_less (m / suc n) ∙ sym (quotient_pos m n h)

below_bound : (m k : ℕ) → m < integer_bound → m / k < integer_bound
below_bound m k h = omega (arith, div-le_self m k)

pub quotient_fits : (m n : ℤ) → FitsSigned w128 m → int_lt n (pos 0) ≡ true → int_rem_euclid m n ≢ pos 0 → FitsSigned w128 (floor_div m n)
quotient_fits m (pos n) f l h = absurd (positive n l)
quotient_fits (pos m) (negsuc n) f l h = subst (FitsSigned w128) (sym (quotient_neg m n h)) (record { sfits = below_bound m (suc n) f.sfits })
quotient_fits (negsuc m) (negsuc n) f l h = subst (FitsSigned w128) (sym (quotient_pos m n h)) (record { sfits = below_bound m (suc n) f.sfits })

pub exact : (m n : ℤ) → int_rem_euclid m n ≡ pos 0 → n ≢ pos 0 → int_div_euclid m n ≡ floor_div m n
exact (pos m) (pos n) h k = refl
exact (negsuc m) (pos n) h k = refl
exact (pos m) (negsuc n) h k = ap (λ q. neg_ℤ (pos q)) (sym (ceil_same m (suc n) h))
exact (negsuc m) (negsuc n) h k =
    ap pos (omega (arith, (carry m (suc n) (omega arith) (no_room m n h (mod_below m (suc n) (omega arith)))).0))

pub same_sign : (m n : ℤ) → int_lt n (pos 0) ≡ false → int_div_euclid m n ≡ floor_div m n
same_sign (pos m) (pos n) l = refl
same_sign (negsuc m) (pos n) l = refl
same_sign m (negsuc n) l = cc

-- remainders
pub rest_same_sign : (m n : ℤ) → int_lt n (pos 0) ≡ false → int_rem_euclid m n ≡ floor_rem m n
rest_same_sign m (pos n) l = refl
rest_same_sign m (negsuc n) l = cc

of_pos : (a n : ℕ) → suc a % suc n ≡ a % suc n + 1 → a % suc n < suc n → pos (suc a % suc n) +ℤ negsuc n ≡ neg_ℤ (pos (suc n - 1 - a % suc n))
of_pos a n e h = omega (arith, ints)

of_neg : (a n : ℕ) → suc a % suc n ≡ a % suc n + 1 → a % suc n + 1 < suc n → pos (suc n - 1 - a % suc n) +ℤ negsuc n ≡ neg_ℤ (pos (suc a % suc n))
of_neg a n e h = omega (arith, ints)

grows : (a n : ℕ) → pos (suc a % suc n) ≢ pos 0 → a % suc n + 1 < suc n
grows a n h = elim (either a n) [ inl l ↦ l | inr e ↦ absurd (h (ap pos (carry a (suc n) (omega arith) e).1)) ]

pub rest_with_sign : (m n : ℤ) → int_lt n (pos 0) ≡ true → int_rem_euclid m n ≢ pos 0 → int_rem_euclid m n +ℤ n ≡ floor_rem m n
rest_with_sign m (pos n) l h = absurd (positive n l)
rest_with_sign (pos zero) (negsuc n) l h = absurd (h (ap pos (nothing (suc n) (omega arith))))
rest_with_sign (pos (suc a)) (negsuc n) l h =
    of_pos a n (grow a (suc n) (grows a n h)).1 (mod_below a (suc n) (omega arith))
rest_with_sign (negsuc a) (negsuc n) l h = of_neg a n (grow a (suc n) (room a n h)).1 (room a n h)

none_left : (a n : ℕ) → pos (suc a % suc n) ≡ pos 0 → pos (suc a % suc n) ≡ neg_ℤ (pos (suc n - 1 - a % suc n))
none_left a n h =
    elim (either a n) [
      | inl l ↦ absurd (impossible (suc a % suc n) (a % suc n) (grow a (suc n) l).1 h)
      | inr e ↦ h ∙ nothing_left (a % suc n) n e
    ]
  where
    impossible : (x r : ℕ) → x ≡ r + 1 → pos x ≡ pos 0 → ⊥
    impossible x r e h = grind arith

    nothing_left : (r n : ℕ) → r + 1 ≡ suc n → pos 0 ≡ neg_ℤ (pos (suc n - 1 - r))
    nothing_left r n e = omega (arith, ints)

pub rest_none : (m n : ℤ) → int_rem_euclid m n ≡ pos 0 → int_lt n (pos 0) ≡ true → int_rem_euclid m n ≡ floor_rem m n
rest_none m (pos n) h l = absurd (positive n l)
rest_none (pos zero) (negsuc n) h l = h ∙ ap (λ k. neg_ℤ (pos k)) (sym (nothing (suc n) (omega arith)))
rest_none (pos (suc a)) (negsuc n) h l = none_left a n h
rest_none (negsuc a) (negsuc n) h l =
    h ∙ ap (λ k. neg_ℤ (pos k)) (sym (carry a (suc n) (omega arith) (no_room a n h (mod_below a (suc n) (omega arith)))).1)

-- shifts to the right, of which no more than 127 places matter
few : (a n : ℕ) → a < integer_bound → a / 2 ^ min n 127 ≡ a / 2 ^ n
few a n h = by_size (choice n)
  where
    choice : (n : ℕ) → (n ≤ 127) ⊎ (127 ≤ n)
    choice n = grind arith

    by_size : (n ≤ 127) ⊎ (127 ≤ n) → a / 2 ^ min n 127 ≡ a / 2 ^ n
    by_size (inl l) = let e : min n 127 ≡ n = omega arith in ap (λ k. a / 2 ^ k) e
    by_size (inr l) =
        let e : min n 127 ≡ 127 = omega arith in
        let f : a < 2 ^ n = omega (arith, h, pow_mono l) in
        ap (λ k. a / 2 ^ k) e ∙ div-eq_of_lt h ∙ sym (div-eq_of_lt f)

pub shifted : (m : ℤ) (n : ℕ) → FitsSigned w128 m → shr_z m (2 ^ min n 127) ≡ floor_div m (pos (2 ^ n))
shifted (pos a) n f = ap pos (few a n f.sfits)
shifted (negsuc a) n f = ap negsuc (few a n f.sfits)

-- as the calls read their arguments: through 128 bits and back

seen : {A : Type 0} (f : ℤ → ℤ → A) (m n : ℤ) → FitsSigned w128 m → FitsSigned w128 n → f (to_z w128 (of_z w128 m)) (to_z w128 (of_z w128 n)) ≡ f m n
seen f m n g h = ap (λ x. f x (to_z w128 (of_z w128 n))) (to_z-of_z w128 m g) ∙ ap (f m) (to_z-of_z w128 n h)

negative_seen : (n : ℤ) → FitsSigned w128 n → {b : Bool} → int_lt (to_z w128 (of_z w128 n)) (pos 0) ≡ b → int_lt n (pos 0) ≡ b
negative_seen n g l = ap (λ z. int_lt z (pos 0)) (sym (to_z-of_z w128 n g)) ∙ l

pub zero_seen : (r : ℤ) → FitsSigned w128 r → of_z w128 r ≡ 0 → r ≡ pos 0
zero_seen (pos n) f e = ap pos e
zero_seen (negsuc n) f e = absurd (wide n f.sfits e)
  where
    wide : (n : ℕ) → n < integer_bound → 2 ^ 128 - suc n ≡ 0 → ⊥
    wide n h e = omega arith

-- a remainder that the calls answer
abbrev Rest : ℤ → ℤ → ℤ → Type 0
Rest r m n = r ≡ int_rem_euclid (to_z w128 (of_z w128 m)) (to_z w128 (of_z w128 n))

rest_is : (r m n : ℤ) → FitsSigned w128 m → FitsSigned w128 n → Rest r m n → r ≡ int_rem_euclid m n
rest_is r m n f g e = e ∙ seen int_rem_euclid m n f g

pub record Numbers (m n : ℤ) : Type 0 where
  pub first : FitsSigned w128 m
  pub second : FitsSigned w128 n

remains : (r m n : ℤ) → r ≡ int_rem_euclid m n → (of_z w128 r ≡ 0 → ⊥) → int_rem_euclid m n ≢ pos 0
remains r m n e k h = k (ap (of_z w128) (e ∙ h))

pub quotient_lower : (m n x r : ℤ) → Numbers m n → FitsSigned w128 x → x ≡ int_div_euclid m n → r ≡ int_rem_euclid (to_z w128 (of_z w128 m)) (to_z w128 (of_z w128 n))
    → int_lt (to_z w128 (of_z w128 n)) (pos 0) ≡ true → (of_z w128 r ≡ 0 → ⊥)
    → Some (to_z w128 (of_z w128 (to_z w128 (of_z w128 x) -ℤ pos 1))) ≡ within (floor_div m n)
quotient_lower m n x r f g e d l k =
    let s = negative_seen n f.second l in
    let h = remains r m n (rest_is r m n f.first f.second d) k in
    holds (to_z w128 (of_z w128 x) -ℤ pos 1) (floor_div m n)
    (ap (λ z. z -ℤ pos 1) (to_z-of_z w128 x g ∙ e) ∙ less_by_one m n s h)
    (quotient_fits m n f.first s h)

pub quotient_kept : (m n x : ℤ) → FitsSigned w128 x → x ≡ int_div_euclid m n → int_div_euclid m n ≡ floor_div m n
    → Some (to_z w128 (of_z w128 x)) ≡ within (floor_div m n)
quotient_kept m n x g e d = holds x (floor_div m n) (e ∙ d) (subst (FitsSigned w128) (e ∙ d) g)

pub quotient_exact : (m n r : ℤ) → Numbers m n → n ≢ pos 0 → FitsSigned w128 r → r ≡ int_rem_euclid (to_z w128 (of_z w128 m)) (to_z w128 (of_z w128 n))
    → of_z w128 r ≡ 0 → int_div_euclid m n ≡ floor_div m n
quotient_exact m n r f k g d e = exact m n (sym (rest_is r m n f.first f.second d) ∙ zero_seen r g e) k

pub quotient_upper : (m n : ℤ) → Numbers m n → int_lt (to_z w128 (of_z w128 n)) (pos 0) ≡ false → int_div_euclid m n ≡ floor_div m n
quotient_upper m n f l = same_sign m n (negative_seen n f.second l)

sum_fits : (r k : ℕ) → r < integer_bound → k < integer_bound → FitsSigned w128 (pos r +ℤ negsuc k)
sum_fits r k f g = search (rules, arith)

mixed : (m n : ℤ) → FitsSigned w128 n → int_lt n (pos 0) ≡ true → FitsSigned w128 (int_rem_euclid m n) → FitsSigned w128 (int_rem_euclid m n +ℤ n)
mixed m (pos n) g l h = absurd (positive n l)
mixed (pos m) (negsuc n) g l h = sum_fits (m % suc n) n h.sfits g.sfits
mixed (negsuc m) (negsuc n) g l h = sum_fits (suc n - 1 - m % suc n) n h.sfits g.sfits

pub rest_lower : (m n r : ℤ) → Numbers m n → FitsSigned w128 r → r ≡ int_rem_euclid (to_z w128 (of_z w128 m)) (to_z w128 (of_z w128 n))
    → int_lt (to_z w128 (of_z w128 n)) (pos 0) ≡ true → (of_z w128 r ≡ 0 → ⊥)
    → to_z w128 (of_z w128 (to_z w128 (of_z w128 r) +ℤ to_z w128 (of_z w128 n))) ≡ floor_rem m n
rest_lower m n r f g d l k =
    let s = negative_seen n f.second l in
    let e = rest_is r m n f.first f.second d in
    let h = remains r m n e k in
    ap (λ z. to_z w128 (of_z w128 z)) (seen (λ x y. x +ℤ y) r n g f.second ∙ ap (λ z. z +ℤ n) e)
    ∙ to_z-of_z w128 (int_rem_euclid m n +ℤ n) (mixed m n f.second s (subst (FitsSigned w128) e g))
    ∙ rest_with_sign m n s h

pub rest_upper : (m n r : ℤ) → Numbers m n → FitsSigned w128 r → r ≡ int_rem_euclid (to_z w128 (of_z w128 m)) (to_z w128 (of_z w128 n))
    → ((int_lt (to_z w128 (of_z w128 n)) (pos 0) ≡ true) × (of_z w128 r ≡ 0)) ⊎ (int_lt (to_z w128 (of_z w128 n)) (pos 0) ≡ false)
    → to_z w128 (of_z w128 r) ≡ floor_rem m n
rest_upper m n r f g d (inl h) =
    let e = rest_is r m n f.first f.second d in
    to_z-of_z w128 r g ∙ e ∙ rest_none m n (sym e ∙ zero_seen r g h.1) (negative_seen n f.second h.0)
rest_upper m n r f g d (inr h) =
    to_z-of_z w128 r g ∙ rest_is r m n f.first f.second d ∙ rest_same_sign m n (negative_seen n f.second h)

pub shifts_down : (m : ℤ) (n k : ℕ) → FitsSigned w128 m → k ≡ min n 127 → to_z w128 (of_z w128 (shr_z (to_z w128 (of_z w128 m)) (2 ^ k))) ≡ floor_div m (pos (2 ^ n))
shifts_down m n k f e =
    ap (λ x. to_z w128 (of_z w128 (shr_z x (2 ^ k)))) (to_z-of_z w128 m f)
    ∙ to_z-of_z w128 (shr_z m (2 ^ k)) (shifted_fits m (2 ^ k) f)
    ∙ ap (λ x. shr_z m (2 ^ x)) e ∙ shifted m n f
  where
    shifted_fits : (m : ℤ) (k : ℕ) → FitsSigned w128 m → FitsSigned w128 (shr_z m k)
    shifted_fits (pos a) k f = record { sfits = below_bound a k f.sfits }
    shifted_fits (negsuc a) k f = record { sfits = below_bound a k f.sfits }
