-- What a call does to its source and its sinks.
use Rattle.std.specs.Prelude.{◌≡◌, ℕ, ◌+◌, ◌<◌, ◌≤◌, List, length, Option, IfSome}
use Rattle.pyd_source.specs.Content.{Added, AddedPrefix, Emptied, TookExactly}
use Rattle.pyd_source.specs.Faults.{Rose}
use Rattle.pyd_grammar.specs.Limits.{longest_source}

-- what a source had left, or a sink held, before a call and after it, and how often it had failed
pub record Stream : Type 0 where
  pub before : Option (List ℕ)
  pub after : Option (List ℕ)
  pub faults_before : ℕ
  pub faults_after : ℕ

-- a stream by its content and its faults, before and after
abbrev pub stream : Option (List ℕ) → Option (List ℕ) → ℕ → ℕ → Stream
stream before after faults_before faults_after =
    record { before = before; after = after; faults_before = faults_before; faults_after = faults_after }

-- the count of its faults rose
abbrev pub HasFailed : Stream → Type 0
HasFailed s = Rose s.faults_before s.faults_after

-- the count of its faults didn't fall
abbrev pub NeverForgets : Stream → Type 0
NeverForgets s = s.faults_before ≤ s.faults_after

-- exactly these bytes were put
abbrev pub Gained : Stream → List ℕ → Type 0
Gained s bytes = Added s.before bytes s.after

-- some of these bytes were put, from the first on
abbrev pub GainedPart : Stream → List ℕ → Type 0
GainedPart s bytes = AddedPrefix s.before bytes s.after

-- nothing was taken or put
abbrev pub IsUntouched : Stream → Type 0
IsUntouched s = s.after ≡ s.before

-- an input that fits was read to its end, and of a longer one a byte more than fits
pub record IsRead (input : List ℕ) (source : Stream) : Type 0 where
  pub whole : length input ≤ longest_source → Emptied source.before source.after
  pub long : longest_source < length input → TookExactly source.before (longest_source + 1) source.after

-- the input is what was left, where the source tells that
abbrev pub IsInput : Stream → List ℕ → Type 0
IsInput source input = IfSome source.before (λ bytes. bytes ≡ input)
