-- The bits of numbers without a width are those of their 128 bits.
use Rattle.std.proofs.Common.{◌≡◌, ℕ, ◌+◌, ◌-◌, ◌<◌, ◌^◌, ◌%◌, ℤ, pos, negsuc, bit_and, bit_or, sym, ap, ◌∙◌, arith, FitsSigned, to_z, of_z}
use Rattle.std.specs.Prelude.{bit_xor}
use Rattle.std.specs.Int.{w128, bit_at, bit_not}
use Rattle.std.proofs.lemmas.Int.{to_z-of_z, to_z_pos}
use Rattle.std.proofs.lemmas.Nat.{and_le_l, and_comm, or_comm, xor_comm, and-not, or_lt, xor_lt}
use Rattle.std.proofs.lemmas.Nat.Bits.{bit_at_and, bit_at_or, bit_at_xor, bit_at_not, bit_at-lt, same_from_bits_below}
use Rattle.pyd_value.specs.Limits.{integer_bound}
use Rattle.pyd_ops.specs.Bits.{bits_and_not, bits_and, bits_or, bits_xor}

-- what is set in m and not in n, by the bits of n turned round
less_is : (m n : ℕ) → m < integer_bound → n < integer_bound → bits_and_not m n ≡ bit_and m (bit_not w128 n)
less_is m n f g =
    let a : bit_and (2 ^ 128 - 1 - n) m + bit_and n m ≡ m = and-not 128 n m (omega arith) (omega arith) in
    omega (arith, a, and_comm m (2 ^ 128 - 1 - n), and_comm m n)

wide : (n : ℕ) → n < integer_bound → n < 2 ^ 128
wide n h = omega arith

turned : (n : ℕ) → of_z w128 (negsuc n) ≡ bit_not w128 n
turned n = omega arith

turned_below : (n : ℕ) → bit_not w128 n < 2 ^ 128
turned_below n = omega arith

kept : (n : ℕ) → n < integer_bound → to_z w128 n ≡ pos n
kept n h = to_z_pos w128 n h

turned_back : (n : ℕ) → n < integer_bound → to_z w128 (bit_not w128 n) ≡ negsuc n
turned_back n h = ap (to_z w128) (sym (turned n)) ∙ to_z-of_z w128 (negsuc n) (record { sfits = h })

less_below : (m n : ℕ) → m < integer_bound → bits_and_not m n < integer_bound
less_below m n h = omega arith

and_below : (m n : ℕ) → m < integer_bound → bit_and m n < integer_bound
and_below m n h = omega (arith, and_le_l m n)

-- the bits of both sides, at each place
and_of_turned : (m n : ℕ) → m < integer_bound → n < integer_bound → bit_and (bit_not w128 m) (bit_not w128 n) ≡ bit_not w128 (bit_or m n)
and_of_turned m n f g =
    same_from_bits_below 128 _ _ (omega (arith, and_le_l (bit_not w128 m) (bit_not w128 n), turned_below m)) (turned_below (bit_or m n))
    (λ i h. omega (
      arith,
      bit_at_and (bit_not w128 m) (bit_not w128 n) i,
      bit_at_not w128 m i (wide m f) h,
      bit_at_not w128 n i (wide n g) h,
      bit_at_not w128 (bit_or m n) i (wide (bit_or m n) (or_lt 127 m n f g)) h,
      bit_at_or m n i,
    ))

or_of_turned : (m n : ℕ) → m < integer_bound → n < integer_bound → bit_or (bit_not w128 m) (bit_not w128 n) ≡ bit_not w128 (bit_and m n)
or_of_turned m n f g =
    same_from_bits_below 128 _ _ (or_lt 128 (bit_not w128 m) (bit_not w128 n) (turned_below m) (turned_below n)) (turned_below (bit_and m n))
    (λ i h. omega (
      arith,
      bit_at_or (bit_not w128 m) (bit_not w128 n) i,
      bit_at_not w128 m i (wide m f) h,
      bit_at_not w128 n i (wide n g) h,
      bit_at_not w128 (bit_and m n) i (wide (bit_and m n) (and_below m n f)) h,
      bit_at_and m n i,
    ))

or_with_turned : (m n : ℕ) → m < integer_bound → n < integer_bound → bit_or m (bit_not w128 n) ≡ bit_not w128 (bits_and_not n m)
or_with_turned m n f g =
    same_from_bits_below 128 _ _ (or_lt 128 m (bit_not w128 n) (wide m f) (turned_below n)) (turned_below (bits_and_not n m))
    (λ i h. omega (
      arith,
      bit_at_or m (bit_not w128 n) i,
      bit_at_not w128 n i (wide n g) h,
      bit_at_not w128 (bits_and_not n m) i (wide (bits_and_not n m) (less_below n m g)) h,
      ap (λ z. bit_at z i) (less_is n m g f),
      bit_at_and n (bit_not w128 m) i,
      bit_at_not w128 m i (wide m f) h,
      bit_at-lt m i,
      bit_at-lt n i,
    ))

odd : (p q : ℕ) → p < 2 → q < 2 → (p + (1 - q)) % 2 ≡ 1 - (p + q) % 2
odd p q f g = omega arith

even : (p q : ℕ) → p < 2 → q < 2 → ((1 - p) + (1 - q)) % 2 ≡ (p + q) % 2
even p q f g = omega arith

xor_with_turned : (m n : ℕ) → m < integer_bound → n < integer_bound → bit_xor m (bit_not w128 n) ≡ bit_not w128 (bit_xor m n)
xor_with_turned m n f g =
    same_from_bits_below 128 _ _ (xor_lt 128 m (bit_not w128 n) (wide m f) (turned_below n)) (turned_below (bit_xor m n))
    (λ i h. bit_at_xor m (bit_not w128 n) i ∙ ap (λ q. (bit_at m i + q) % 2) (bit_at_not w128 n i (wide n g) h)
    ∙ odd (bit_at m i) (bit_at n i) (bit_at-lt m i) (bit_at-lt n i) ∙ ap (λ q. 1 - q) (sym (bit_at_xor m n i))
    ∙ sym (bit_at_not w128 (bit_xor m n) i (wide (bit_xor m n) (xor_lt 127 m n f g)) h))

xor_of_turned : (m n : ℕ) → m < integer_bound → n < integer_bound → bit_xor (bit_not w128 m) (bit_not w128 n) ≡ bit_xor m n
xor_of_turned m n f g =
    same_from_bits_below 128 _ _ (xor_lt 128 (bit_not w128 m) (bit_not w128 n) (turned_below m) (turned_below n)) (wide (bit_xor m n) (xor_lt 127 m n f g))
    (λ i h. bit_at_xor (bit_not w128 m) (bit_not w128 n) i
    ∙ ap (λ q. (q + bit_at (bit_not w128 n) i) % 2) (bit_at_not w128 m i (wide m f) h)
    ∙ ap (λ q. ((1 - bit_at m i) + q) % 2) (bit_at_not w128 n i (wide n g) h)
    ∙ even (bit_at m i) (bit_at n i) (bit_at-lt m i) (bit_at-lt n i) ∙ sym (bit_at_xor m n i))

pub bits_and_fits : (m n : ℤ) → FitsSigned w128 m → FitsSigned w128 n → FitsSigned w128 (bits_and m n)
bits_and_fits (pos m) (pos n) f g = record { sfits = and_below m n f.sfits }
bits_and_fits (pos m) (negsuc n) f g = record { sfits = less_below m n f.sfits }
bits_and_fits (negsuc m) (pos n) f g = record { sfits = less_below n m g.sfits }
bits_and_fits (negsuc m) (negsuc n) f g = record { sfits = or_lt 127 m n f.sfits g.sfits }

pub bits_or_fits : (m n : ℤ) → FitsSigned w128 m → FitsSigned w128 n → FitsSigned w128 (bits_or m n)
bits_or_fits (pos m) (pos n) f g = record { sfits = or_lt 127 m n f.sfits g.sfits }
bits_or_fits (pos m) (negsuc n) f g = record { sfits = less_below n m g.sfits }
bits_or_fits (negsuc m) (pos n) f g = record { sfits = less_below m n f.sfits }
bits_or_fits (negsuc m) (negsuc n) f g = record { sfits = and_below m n f.sfits }

pub bits_xor_fits : (m n : ℤ) → FitsSigned w128 m → FitsSigned w128 n → FitsSigned w128 (bits_xor m n)
bits_xor_fits (pos m) (pos n) f g = record { sfits = xor_lt 127 m n f.sfits g.sfits }
bits_xor_fits (pos m) (negsuc n) f g = record { sfits = xor_lt 127 m n f.sfits g.sfits }
bits_xor_fits (negsuc m) (pos n) f g = record { sfits = xor_lt 127 m n f.sfits g.sfits }
bits_xor_fits (negsuc m) (negsuc n) f g = record { sfits = xor_lt 127 m n f.sfits g.sfits }

pub and_is : (m n : ℤ) → FitsSigned w128 m → FitsSigned w128 n → to_z w128 (bit_and (of_z w128 m) (of_z w128 n)) ≡ bits_and m n
and_is (pos m) (pos n) f g = kept (bit_and m n) (and_below m n f.sfits)
and_is (pos m) (negsuc n) f g =
    ap (λ k. to_z w128 (bit_and m k)) (turned n) ∙ ap (to_z w128) (sym (less_is m n f.sfits g.sfits)) ∙ kept (bits_and_not m n) (less_below m n f.sfits)
and_is (negsuc m) (pos n) f g =
    ap (λ k. to_z w128 (bit_and k n)) (turned m) ∙ ap (to_z w128) (and_comm (bit_not w128 m) n ∙ sym (less_is n m g.sfits f.sfits)) ∙ kept (bits_and_not n m) (less_below n m g.sfits)
and_is (negsuc m) (negsuc n) f g =
    ap (λ k. to_z w128 (bit_and k (of_z w128 (negsuc n)))) (turned m) ∙ ap (λ k. to_z w128 (bit_and (bit_not w128 m) k)) (turned n)
    ∙ ap (to_z w128) (and_of_turned m n f.sfits g.sfits) ∙ turned_back (bit_or m n) (or_lt 127 m n f.sfits g.sfits)

pub or_is : (m n : ℤ) → FitsSigned w128 m → FitsSigned w128 n → to_z w128 (bit_or (of_z w128 m) (of_z w128 n)) ≡ bits_or m n
or_is (pos m) (pos n) f g = kept (bit_or m n) (or_lt 127 m n f.sfits g.sfits)
or_is (pos m) (negsuc n) f g =
    ap (λ k. to_z w128 (bit_or m k)) (turned n) ∙ ap (to_z w128) (or_with_turned m n f.sfits g.sfits) ∙ turned_back (bits_and_not n m) (less_below n m g.sfits)
or_is (negsuc m) (pos n) f g =
    ap (λ k. to_z w128 (bit_or k n)) (turned m) ∙ ap (to_z w128) (or_comm (bit_not w128 m) n ∙ or_with_turned n m g.sfits f.sfits) ∙ turned_back (bits_and_not m n) (less_below m n f.sfits)
or_is (negsuc m) (negsuc n) f g =
    ap (λ k. to_z w128 (bit_or k (of_z w128 (negsuc n)))) (turned m) ∙ ap (λ k. to_z w128 (bit_or (bit_not w128 m) k)) (turned n)
    ∙ ap (to_z w128) (or_of_turned m n f.sfits g.sfits) ∙ turned_back (bit_and m n) (and_below m n f.sfits)

pub xor_is : (m n : ℤ) → FitsSigned w128 m → FitsSigned w128 n → to_z w128 (bit_xor (of_z w128 m) (of_z w128 n)) ≡ bits_xor m n
xor_is (pos m) (pos n) f g = kept (bit_xor m n) (xor_lt 127 m n f.sfits g.sfits)
xor_is (pos m) (negsuc n) f g =
    ap (λ k. to_z w128 (bit_xor m k)) (turned n) ∙ ap (to_z w128) (xor_with_turned m n f.sfits g.sfits) ∙ turned_back (bit_xor m n) (xor_lt 127 m n f.sfits g.sfits)
xor_is (negsuc m) (pos n) f g =
    ap (λ k. to_z w128 (bit_xor k n)) (turned m)
    ∙ ap (to_z w128) (xor_comm (bit_not w128 m) n ∙ xor_with_turned n m g.sfits f.sfits ∙ ap (bit_not w128) (xor_comm n m))
    ∙ turned_back (bit_xor m n) (xor_lt 127 m n f.sfits g.sfits)
xor_is (negsuc m) (negsuc n) f g =
    ap (λ k. to_z w128 (bit_xor k (of_z w128 (negsuc n)))) (turned m) ∙ ap (λ k. to_z w128 (bit_xor (bit_not w128 m) k)) (turned n)
    ∙ ap (to_z w128) (xor_of_turned m n f.sfits g.sfits) ∙ kept (bit_xor m n) (xor_lt 127 m n f.sfits g.sfits)
