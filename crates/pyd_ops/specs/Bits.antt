-- The bits of whole numbers in two's complement, without a width: -1 - n has those of n inverted.
use Rattle.std.specs.Prelude.{ℕ, ◌-◌, ℤ, pos, negsuc, bit_and, bit_or, bit_xor}

-- the bits that are set in m and not in n
abbrev pub bits_and_not : ℕ → ℕ → ℕ
bits_and_not m n = m - bit_and m n

-- `m & n`
abbrev pub bits_and : ℤ → ℤ → ℤ
bits_and (pos m) (pos n) = pos (bit_and m n)
bits_and (pos m) (negsuc n) = pos (bits_and_not m n)
bits_and (negsuc m) (pos n) = pos (bits_and_not n m)
bits_and (negsuc m) (negsuc n) = negsuc (bit_or m n)

-- `m | n`
abbrev pub bits_or : ℤ → ℤ → ℤ
bits_or (pos m) (pos n) = pos (bit_or m n)
bits_or (pos m) (negsuc n) = negsuc (bits_and_not n m)
bits_or (negsuc m) (pos n) = negsuc (bits_and_not m n)
bits_or (negsuc m) (negsuc n) = negsuc (bit_and m n)

-- `m ^ n`
abbrev pub bits_xor : ℤ → ℤ → ℤ
bits_xor (pos m) (pos n) = pos (bit_xor m n)
bits_xor (pos m) (negsuc n) = negsuc (bit_xor m n)
bits_xor (negsuc m) (pos n) = negsuc (bit_xor m n)
bits_xor (negsuc m) (negsuc n) = pos (bit_xor m n)
