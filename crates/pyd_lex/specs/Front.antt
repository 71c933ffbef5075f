-- The longest piece at the front of a text.
use Rattle.std.specs.Prelude.{◌≡◌, ℕ, ◌≤◌, take, Ok, Err}
use Rattle.pyd_lex.specs.declared.fault.Flaw.{Flaw}
use Rattle.pyd_lex.specs.declared.token.Shape.{Shape}
use Rattle.pyd_lex.specs.Words.{Text}
use Rattle.pyd_lex.specs.Spelling.{IsLongest}
use Rattle.pyd_lex.specs.Meaning.{meaning}

-- the longest piece at the front has this shape and length
pub record IsGood (text : Text) (s : Shape) (n : ℕ) : Type 0 where
  pub longest : IsLongest text n
  pub means : meaning (take n text) ≡ Ok s
  pub moves : 1 ≤ n

-- the longest piece at the front has this flaw
abbrev pub IsFlawed : Text → Flaw → Type 0
IsFlawed text f = (n : ℕ) × IsLongest text n × (meaning (take n text) ≡ Err f)
