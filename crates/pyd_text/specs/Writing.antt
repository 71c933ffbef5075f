-- How texts are measured and written.
use Rattle.std.specs.Prelude.{◌≡◌, ℕ, zero, suc, ◌-◌, ◌^◌, min, List, [], ◌∷◌, ◌++◌, length, encode_utf8_all, string_bytes}
use Rattle.std.specs.declared.string.String.{String}
use Rattle.std.specs.declared.alloc.Global.{Global}
use Rattle.pyd_text.specs.declared.quoting.Form.{Form}
use Rattle.pyd_text.specs.declared.quoting.Form.TheVariants.{Plain, Backslash, Hexadecimal}
use Rattle.pyd_text.specs.Quoting.{backslash, hex_digits}

-- how many bytes characters take in UTF-8
abbrev pub byte_count : List ℕ → ℕ
byte_count s = length (encode_utf8_all s)

-- a number cut to 64 bits
abbrev pub cut : ℕ → ℕ
cut n = min n (2 ^ 64 - 1)

-- the characters stand behind what was there
abbrev pub Appends : String Global → String Global → List ℕ → Type 0
Appends old new s = string_bytes new ≡ string_bytes old ++ encode_utf8_all s

-- the characters that a form writes
abbrev pub written : Form → List ℕ
written (Plain c) = c ∷ []
written (Backslash c) = backslash ∷ c ∷ []
written (Hexadecimal letter digits code) = backslash ∷ letter ∷ hex_digits digits code

-- what stands before item number i, counted from 0: nothing before the first
abbrev pub divider : List ℕ → ℕ → List ℕ
divider s zero = []
divider s (suc i) = s
