-- What the parts of a trace are read as, from the front.
use Rattle.std.specs.Prelude.{◌≡◌, ◌≢◌, ℕ, ◌+◌, ◌<◌, ◌≤◌, ◌^◌, List, [], ◌∷◌, ◌++◌, length, take, slice_index, Bool, false, ◌||◌, ◌==◌}
use Rattle.std.specs.Fmt.{decimal}
use Rattle.std.specs.List.{All, flat_map}
use Rattle.std.specs.Char.{IsAsciiDigit}
use Rattle.std.specs.Str.Parse.{AllDigits}
use Rattle.pyd_board.specs.declared.event.Event.{Event}
use Rattle.pyd_trace.specs.declared.read.TraceStop.{TraceStop}
use Rattle.pyd_trace.specs.declared.read.TraceStop.TheVariants as stop
use Rattle.pyd_trace.specs.Text.{fields_text, line_text}
use Rattle.pyd_trace.specs.Reading.{IsEvent, OtherLine}

-- a space stands among these bytes
abbrev pub has_space : List ℕ → Bool
has_space [] = false
has_space (byte ∷ bytes) = (byte == 32) || has_space bytes

-- no digit stands in front
abbrev pub NoDigit : List ℕ → Type 0
NoDigit bytes = ¬ IsAsciiDigit (slice_index bytes 0)

-- the digits in front, and the rest
pub record CutsDigits (bytes digits rest : List ℕ) : Type 0 where
  pub whole : bytes ≡ digits ++ rest
  pub digits_are : AllDigits 10 digits
  pub ends : NoDigit rest

-- a number that stands in front is this one, and this is the rest
abbrev pub GuessesNumber : List ℕ → ℕ → List ℕ → Type 0
GuessesNumber bytes guess behind = (number : ℕ) (rest : List ℕ) → number < 2 ^ 64 → NoDigit rest
    → bytes ≡ decimal number ++ rest → (guess ≡ number) × (behind ≡ rest)

-- a number that stands behind a space in front is this one, and this is the rest
abbrev pub GuessesField : List ℕ → ℕ → List ℕ → Type 0
GuessesField bytes guess behind = (number : ℕ) (rest : List ℕ) → number < 2 ^ 64 → NoDigit rest
    → bytes ≡ 32 ∷ (decimal number ++ rest) → (guess ≡ number) × (behind ≡ rest)

-- up to three numbers that stand in front, each behind a space, are the first of these
abbrev pub GuessesFields : List ℕ → ℕ → ℕ → ℕ → Type 0
GuessesFields bytes first second third = (numbers : List ℕ) (rest : List ℕ) → length numbers ≤ 3 → All (λ n. n < 2 ^ 64) numbers → NoDigit rest
    → bytes ≡ fields_text numbers ++ rest → take (length numbers) (first ∷ second ∷ third ∷ []) ≡ numbers

-- an event's line in front, and the rest
pub record CutsLine (bytes : List ℕ) (event : Event) (rest : List ℕ) : Type 0 where
  pub event_is : IsEvent event
  pub whole : bytes ≡ line_text event ++ rest

-- the lines behind a header are those of these events
pub record AreLines (lines : List ℕ) (events : List Event) : Type 0 where
  pub events_are : All IsEvent events
  pub text : lines ≡ flat_map line_text events

-- the lines in front are those of these events
pub record AreLinesSoFar (lines : List ℕ) (events : List Event) (rest : List ℕ) : Type 0 where
  pub events_are : All IsEvent events
  pub text : lines ≡ flat_map line_text events ++ rest

-- this line of the trace, whose header is line 1, is the first that is no event's
pub record FirstOtherLine (lines : List ℕ) (number : ℕ) : Type 0 where
  pub before : List Event
  pub behind : List ℕ
  pub so_far : AreLinesSoFar lines before behind
  pub some : behind ≢ []
  pub other : OtherLine behind
  pub number_is : number ≡ length before + 2

-- why the lines behind a header aren't those of events
abbrev pub StopsLines : List ℕ → TraceStop → Type 0
StopsLines lines stop.BadVersion = ⊥
StopsLines lines (stop.BadLine number) = FirstOtherLine lines number
StopsLines lines stop.NoMemory = Unit {0}
