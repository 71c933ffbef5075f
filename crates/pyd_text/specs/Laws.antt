-- Laws of texts, above their formulas.
use Rattle.std.specs.Prelude.{◌≡◌, ◌≢◌, ◌↔◌, ◌⊎◌, ℕ, ◌^◌, ◌<◌, ◌≤◌, ℤ, Bool, true, List, [], ◌∷◌, ◌++◌, length, codes, Ok, All, Contains, if◌then◌else◌}
use Rattle.std.specs.Fmt.{signed_decimal}
use Rattle.std.specs.Int.{IsInRange}
use Rattle.std.specs.List.{join_by}
use Rattle.std.specs.Str.Parse.{digits_value}
use Rattle.pyd_value.specs.declared.value.Value.{Value, Int, Bool as Truth, Text, Tuple, None}
use Rattle.pyd_value.specs.declared.operator.Builtin.{Builtin}
use Rattle.pyd_ops.specs.Integer.{is_within}
use Rattle.pyd_ops.specs.Limited.{Limited, EachLimited}
use Rattle.pyd_text.specs.Quoting.{backslash, single_quote, double_quote, is_printable, quote_of, hex_digits, hex_escape, escaped, quoted}
use Rattle.pyd_text.specs.Texts.{repr, str, str_of, repr_of, line, as_text, line_of, int_of}
use Rattle.pyd_text.specs.Calls.{text_builtin}

-- from operands within the limits every text function gives values within them
pub record TextsKeepLimits : Type 0 where
  pub str_of : (a v : Value) (at : ℕ) → str_of a at ≡ Ok v → Limited v
  pub repr_of : (a v : Value) (at : ℕ) → repr_of a at ≡ Ok v → Limited v
  pub int_of : (a v : Value) (at : ℕ) → Limited a → int_of a at ≡ Ok v → Limited v
  pub line : (args : List Value) (s : List ℕ) (at : ℕ) → line args at ≡ Ok s → Limited (Text s)
  pub line_of : (args : List Value) (v : Value) (at : ℕ) → line_of args at ≡ Ok v → Limited v
  pub text_builtin : (which : Builtin) (args : List Value) (v : Value) (at : ℕ)
      → EachLimited args → text_builtin which args at ≡ Ok v → Limited v

-- what `repr` says of each kind
pub record ReprByKind : Type 0 where
  pub int : (n : ℤ) → repr (Int n) ≡ signed_decimal n
  pub truth : (b : Bool) → repr (Truth b) ≡ (if b then codes "True" else codes "False")
  pub text : (s : List ℕ) → repr (Text s) ≡ quoted s
  pub empty : repr (Tuple []) ≡ codes "()"
  pub one : (x : Value) → repr (Tuple (x ∷ [])) ≡ codes "(" ++ (repr x ++ codes ",)")
  pub more : (x y : Value) (xs : List Value) → repr (Tuple (x ∷ y ∷ xs))
      ≡ codes "(" ++ (join_by repr (codes ", ") (x ∷ y ∷ xs) ++ codes ")")
  pub nothing : repr None ≡ codes "None"

-- `str` of a text is that text, and of anything else its `repr`
pub record StrByKind : Type 0 where
  pub text : (s : List ℕ) → str (Text s) ≡ s
  pub int : (n : ℤ) → str (Int n) ≡ repr (Int n)
  pub truth : (b : Bool) → str (Truth b) ≡ repr (Truth b)
  pub tuple : (xs : List Value) → str (Tuple xs) ≡ repr (Tuple xs)
  pub nothing : str None ≡ repr None

-- what is handed out for a printed line is that line as a text value
abbrev pub LineIsItsText : Type 0
LineIsItsText = (args : List Value) (at : ℕ) → line_of args at ≡ as_text (line args at)

-- one of 0 to 9 and a to f
abbrev pub IsLowerHex : ℕ → Type 0
IsLowerHex c = IsInRange 48 57 c ⊎ IsInRange 97 102 c

-- which quotes stand round a text, and what stands for a character between them
pub record QuotingLaw : Type 0 where
  pub double : (s : List ℕ)
      → (quote_of s ≡ double_quote) ↔ (Contains s single_quote × ¬ Contains s double_quote)
  pub single : (s : List ℕ) → quote_of s ≢ double_quote → quote_of s ≡ single_quote
  pub plain : (quote c : ℕ)
      → is_printable c ≡ true → c ≢ backslash → c ≢ quote → escaped quote c ≡ c ∷ []
  pub two : (c : ℕ) → c < 0x100 → hex_escape c ≡ codes "\\x" ++ hex_digits 2 c
  pub four : (c : ℕ) → 0x100 ≤ c → c < 0x1_0000 → hex_escape c ≡ codes "\\u" ++ hex_digits 4 c
  pub eight : (c : ℕ) → 0x1_0000 ≤ c → hex_escape c ≡ codes "\\U" ++ hex_digits 8 c
  pub length : (k n : ℕ) → length (hex_digits k n) ≡ k
  pub value : (k n : ℕ) → n < 16 ^ k → digits_value 16 (hex_digits k n) ≡ n
  pub lower_case : (k n : ℕ) → All IsLowerHex (hex_digits k n)

-- the text of an integer is read as that integer
abbrev pub IntReadsStr : Type 0
IntReadsStr = (n : ℤ) (at : ℕ) → is_within n ≡ true → int_of (Text (str (Int n))) at ≡ Ok (Int n)
