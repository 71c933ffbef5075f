-- How a call of these words over this input concludes, and what it leaves.
use Rattle.std.specs.Prelude.{◌≡◌, ◌⊎◌, ℕ, List, [], String}
use Rattle.std.specs.declared.alloc.Global.{Global}
use Rattle.pyd_top.specs.declared.status.Status.{Status}
use Rattle.pyd_top.specs.declared.status.Status.TheVariants as status
use Rattle.pyd_top.specs.declared.mode.Mode.{Mode}
use Rattle.pyd_top.specs.declared.conclusion.Conclusion.{Conclusion}
use Rattle.pyd_top.specs.declared.conclusion.Conclusion.TheVariants as conclusion
use Rattle.pyd_top.specs.Errors.{error_of}
use Rattle.pyd_top.specs.Modes.{Choose, AreFaulty, Made}
use Rattle.pyd_top.specs.Statuses.{status_of}
use Rattle.pyd_top.specs.Streams.{Stream, HasFailed, NeverForgets, Gained, GainedPart, IsUntouched, IsRead, IsInput}

-- all that the mode makes of the input was put, and the input was read
pub record PutsAll (words : List (String Global)) (input : List ℕ) (c : Conclusion) (source out : Stream) : Type 0 where
  pub output : List ℕ
  pub made : Made words input output c
  pub put : Gained out output
  pub read : IsRead input source

-- some of what the mode makes of the input was put, from the first byte on
pub record PutsPart (words : List (String Global)) (input : List ℕ) (out : Stream) : Type 0 where
  pub output : List ℕ
  pub conclusion : Conclusion
  pub made : Made words input output conclusion
  pub put : GainedPart out output

-- the words are those of no mode; nothing was taken, and nothing put
pub record RefusesWords (words : List (String Global)) (source out : Stream) : Type 0 where
  pub faulty : AreFaulty words
  pub untouched : IsUntouched source
  pub silent : Gained out []

-- the words are those of a mode, and the source failed; nothing was put
pub record FailsToRead (words : List (String Global)) (source out : Stream) : Type 0 where
  pub mode : Mode
  pub chosen : Choose words mode
  pub failed : HasFailed source
  pub silent : Gained out []

-- the output failed, with some of it put
pub record FailsToPut (words : List (String Global)) (input : List ℕ) (out : Stream) : Type 0 where
  pub part : PutsPart words input out
  pub failed : HasFailed out

-- how a call concludes: each conclusion with its cause
abbrev pub Concludes : List (String Global) → List ℕ → Stream → Stream → Conclusion → Type 0
Concludes words input source out conclusion.Done = PutsAll words input conclusion.Done source out
Concludes words input source out (conclusion.Raised kind line) = PutsAll words input (conclusion.Raised kind line) source out
Concludes words input source out (conclusion.Limit l line) = PutsAll words input (conclusion.Limit l line) source out
Concludes words input source out conclusion.Words = RefusesWords words source out
Concludes words input source out conclusion.TooLong = PutsAll words input conclusion.TooLong source out
Concludes words input source out (conclusion.Lex f) = PutsAll words input (conclusion.Lex f) source out
Concludes words input source out (conclusion.Parse f) = PutsAll words input (conclusion.Parse f) source out
Concludes words input source out (conclusion.Scope r) = PutsAll words input (conclusion.Scope r) source out
Concludes words input source out conclusion.ReadFault = FailsToRead words source out
Concludes words input source out conclusion.SinkFault = FailsToPut words input out
Concludes words input source out conclusion.NoMemory = Gained out [] ⊎ PutsPart words input out

-- the same where the words choose this mode and the input was read
abbrev pub ConcludesRead : Mode → List ℕ → Stream → Conclusion → Type 0
ConcludesRead m input out c = (words : List (String Global)) (source : Stream) → Choose words m → IsRead input source → Concludes words input source out c

-- the error line was put and the status is the conclusion's, or the sink for errors failed with some of the line put
abbrev pub Reports : Conclusion → Status → Stream → Type 0
Reports c s err =
    ((s ≡ status_of c) × Gained err (error_of c)) ⊎ ((s ≡ status.SinkFault) × GainedPart err (error_of c) × HasFailed err)

-- an input and a conclusion that explain the status and what was taken and put
pub record IsRunOf (words : List (String Global)) (s : Status) (source out err : Stream) : Type 0 where
  pub input : List ℕ
  pub conclusion : Conclusion
  pub given : IsInput source input
  pub concludes : Concludes words input source out conclusion
  pub reports : Reports conclusion s err
  pub counts : NeverForgets source × NeverForgets out × NeverForgets err
