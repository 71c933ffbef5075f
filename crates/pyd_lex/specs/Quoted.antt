-- How a string is read: where it ends, and its value one character after the other.
use Rattle.std.specs.Prelude.{◌≡◌, ℕ, ◌+◌, ◌≤◌, ◌==◌, [], ◌∷◌, length, take, drop, Option, Some, None, true, if◌then◌else◌}
use Rattle.pyd_lex.specs.declared.fault.Flaw.{Flaw}
use Rattle.pyd_lex.specs.declared.string.Quotes.{Quotes}
use Rattle.pyd_lex.specs.declared.string.Step.{Step}
use Rattle.pyd_lex.specs.declared.string.Step.TheVariants.{End, Broken, Skip}
use Rattle.pyd_lex.specs.Words.{Text, begins}
use Rattle.pyd_lex.specs.declared.string.Part.{Part}
use Rattle.pyd_lex.specs.declared.string.Part.TheVariants.{Backslash, Plain}
use Rattle.pyd_lex.specs.Strings.{inside, flaw, part, escape, spelled, string_flaw}
use Rattle.pyd_lex.specs.declared.run.Class.TheVariants.{Quote}
use Rattle.pyd_lex.specs.Spelling.{Extends, IsLast}

-- the quotes as characters
abbrev pub spelling : Quotes → Text
spelling q = spelled q.triple q.quote

-- the string is this long, with this flaw or none
pub record Ends (quotes text : Text) (n : ℕ) (f : Option Flaw) : Type 0 where
  pub last : IsLast (λ j. inside quotes (take j text)) (length text) n
  pub flawed : flaw quotes (take n text) ≡ f

-- the string has this flaw
abbrev pub IsBroken : Text → Text → Flaw → Type 0
IsBroken quotes text f = (n : ℕ) × Ends quotes text n (Some f)

-- where the string ends behind the first k characters, it ends so with them
pub record Skips (quotes text : Text) (k : ℕ) : Type 0 where
  pub moves : 1 ≤ k
  pub within : k ≤ length text
  pub same : (n : ℕ) (f : Option Flaw) → Ends quotes (drop k text) n f → Ends quotes text (k + n) f

-- what the front of the text does to the string
abbrev pub Steps : Text → Text → Step → Type 0
Steps quotes text End = begins quotes text ≡ true
Steps quotes text (Broken f) = IsBroken quotes text f
Steps quotes text (Skip k) = Skips quotes text k

-- a string of this length after its first quote, with this flaw or none
abbrev pub IsString : ℕ → Text → Option Flaw → ℕ → Type 0
IsString c z f n = Extends Quote c z n × (string_flaw c (take n z) ≡ f)

-- a string after its first quote has this flaw
abbrev pub IsFlawedString : ℕ → Text → Flaw → Type 0
IsFlawedString c z f = (n : ℕ) × Extends Quote c z n × (string_flaw c (take n z) ≡ Some f)

-- the first character of a value and the length of its spelling, where a plain character is at the front
abbrev pub plain : Text → Option (ℕ × ℕ)
plain [] = None
plain (c ∷ []) = Some (if c == 13 then 10 else c, 1)
plain (c ∷ d ∷ z) = if c == 13 then (if d == 10 then Some (10, 2) else Some (10, 1)) else Some (c, 1)

-- the same where a backslash is at the front
abbrev pub escaped : Text → Option (ℕ × ℕ)
escaped [] = None
escaped (c ∷ []) = None
escaped (c ∷ d ∷ z) = elim (escape d) [ None ↦ None | Some e ↦ Some (e, 2) ]

-- the first character of a value, by what is at the front
abbrev pub first_of : Part → Text → Option (ℕ × ℕ)
first_of Plain z = plain z
first_of Backslash z = escaped z
first_of p z = None

-- the first character of a value and the length of its spelling
abbrev pub first : Text → Text → Option (ℕ × ℕ)
first quotes z = first_of (part quotes z) z
