-- What the text of a trace determines.
use Rattle.std.specs.Prelude.{◌≡◌, ℕ, ◌<◌, ◌^◌, List, length, slice_index, ◌⊎◌, ◌+◌, ◌++◌, [], ◌∷◌, ◌==◌}
use Rattle.std.specs.List.{All, count_by}
use Rattle.std.specs.Fmt.{decimal}
use Rattle.std.specs.Str.Parse.{IsNumeral, digits_value}
use Rattle.pyd_board.specs.declared.event.Event.{Event}
use Rattle.pyd_trace.specs.Text.{line_text, trace_text}
use Rattle.pyd_trace.specs.Reading.{IsEvent, IsTrace, OtherVersion, FirstOther}

-- digits without a leading zero
pub record IsPlain (digits : List ℕ) : Type 0 where
  pub numeral : IsNumeral 10 digits
  pub plain : slice_index digits 0 ≡ 48 → length digits ≡ 1

-- the text of a number is its digits without a leading zero, and there is no other such text of it
pub record OneDecimal : Type 0 where
  pub plain : (number : ℕ) → number < 2 ^ 64 → IsPlain (decimal number)
  pub value : (number : ℕ) → number < 2 ^ 64 → digits_value 10 (decimal number) ≡ number
  pub only : (digits : List ℕ) → IsPlain digits → digits_value 10 digits < 2 ^ 64 → decimal (digits_value 10 digits) ≡ digits

-- how many newlines stand among these bytes
abbrev pub newlines : List ℕ → ℕ
newlines bytes = count_by (λ byte. byte == 10) bytes

-- an event's line has one newline, at its end, so a trace has one more than it has events
pub record OneNewline : Type 0 where
  pub ends : (event : Event) → IsEvent event → (text : List ℕ) × (line_text event ≡ text ++ 10 ∷ []) × (newlines text ≡ 0)
  pub number : (events : List Event) → All IsEvent events → newlines (trace_text events) ≡ length events + 1

-- bytes are the text of one list of events at most
abbrev pub OneTrace : Type 0
OneTrace = (bytes : List ℕ) (events others : List Event) → IsTrace bytes events → IsTrace bytes others → events ≡ others

-- one line at most is the first that is no event's
abbrev pub OneFirst : Type 0
OneFirst = (bytes : List ℕ) (number other : ℕ) → FirstOther bytes number → FirstOther bytes other → number ≡ other

-- bytes are another version's, a trace, or have a first line that is no event's
abbrev pub SomeAnswer : Type 0
SomeAnswer = (bytes : List ℕ) → OtherVersion bytes ⊎ (((events : List Event) × IsTrace bytes events) ⊎ ((number : ℕ) × FirstOther bytes number))

-- bytes aren't both a trace and at fault, nor at fault in two ways
pub record OneAnswer : Type 0 where
  pub version : (bytes : List ℕ) (events : List Event) → IsTrace bytes events → ¬ OtherVersion bytes
  pub line : (bytes : List ℕ) (events : List Event) (number : ℕ) → IsTrace bytes events → ¬ FirstOther bytes number
  pub fault : (bytes : List ℕ) (number : ℕ) → OtherVersion bytes → ¬ FirstOther bytes number
