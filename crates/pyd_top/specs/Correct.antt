-- What the program promises, status by status.
use Rattle.std.specs.Prelude.{◌≡◌, ◌≢◌, ◌⊎◌, ℕ, List, [], String}
use Rattle.std.specs.declared.alloc.Global.{Global}
use Rattle.pyd_value.specs.declared.fault.Kind.{Kind}
use Rattle.pyd_value.specs.declared.fault.Limit.{Limit}
use Rattle.pyd_value.specs.declared.fault.End.{End}
use Rattle.pyd_value.specs.declared.fault.End.TheVariants as ending
use Rattle.pyd_scope.specs.declared.program.Program.{Program}
use Rattle.pyd_top.specs.declared.mode.Mode.{Mode}
use Rattle.pyd_top.specs.declared.mode.Mode.TheVariants as mode
use Rattle.pyd_top.specs.declared.status.Status.{Status}
use Rattle.pyd_top.specs.declared.status.Status.TheVariants as status
use Rattle.pyd_top.specs.declared.conclusion.Conclusion.{Conclusion}
use Rattle.pyd_top.specs.declared.conclusion.Conclusion.TheVariants as conclusion
use Rattle.pyd_top.specs.Accepts.{Fits, Accepted}
use Rattle.pyd_top.specs.Conclusion.{PutsPart}
use Rattle.pyd_top.specs.Errors.{error_of}
use Rattle.pyd_top.specs.Modes.{Choose, AreFaulty, Makes, Made}
use Rattle.pyd_top.specs.Running.{output_of, named_end, script_end, end_in}
use Rattle.pyd_top.specs.Statuses.{status_of}
use Rattle.pyd_top.specs.Streams.{Stream, HasFailed, Gained, GainedPart, IsUntouched, IsRead, IsInput}

-- the mode's work is done: its whole output, its error line and its status, and the input was read
pub record IsServed (words : List (String Global)) (input output : List ℕ) (c : Conclusion) (s : Status) (source out err : Stream) : Type 0 where
  pub made : Made words input output c
  pub put : Gained out output
  pub line : Gained err (error_of c)
  pub status_is : s ≡ status_of c
  pub read : IsRead input source

-- an accepted script was run to this end: all that it prints and the line of its end were put, and the input was read
pub record IsRunTo (words : List (String Global)) (input : List ℕ) (e : End) (source out err : Stream) : Type 0 where
  pub program : Program
  pub chosen : Choose words mode.Run
  pub fits : Fits input
  pub accepted : Accepted input program
  pub end_is : script_end program.file ≡ e
  pub put : Gained out (output_of program.file)
  pub line : Gained err (error_of (named_end e))
  pub read : IsRead input source

-- a stream failed, or memory was wanting
abbrev pub IsFailure : Status → Type 0
IsFailure s = (s ≡ status.ReadFault) ⊎ (s ≡ status.SinkFault) ⊎ (s ≡ status.NoMemory)

-- what holds at each status; what holds always; and when a status surely comes
pub record IsCorrect (words : List (String Global)) (input : List ℕ) (s : Status) (source out err : Stream) : Type 0 where
  pub done : s ≡ status.Done → (output : List ℕ) × IsServed words input output conclusion.Done s source out err
  pub raised : s ≡ status.Raised → (kind : Kind) × (line : ℕ) × IsRunTo words input (ending.Raised kind line) source out err
  pub faulty : s ≡ status.Words → AreFaulty words × IsUntouched source × Gained out [] × Gained err (error_of conclusion.Words)
  pub refused : s ≡ status.Refused → (c : Conclusion) × IsServed words input [] c s source out err
  pub limit : s ≡ status.Limit → (l : Limit) × (line : ℕ) × IsRunTo words input (ending.Limit l line) source out err
  pub read_fault : s ≡ status.ReadFault → ((m : Mode) × Choose words m) × HasFailed source × Gained out [] × Gained err (error_of conclusion.ReadFault)
  pub sink_fault : s ≡ status.SinkFault → (HasFailed out × Gained err (error_of conclusion.SinkFault)) ⊎ (HasFailed err × (c : Conclusion) × GainedPart err (error_of c))
  pub no_memory : s ≡ status.NoMemory → Gained err (error_of conclusion.NoMemory)
  pub answered : s ≢ status.No
  pub prefix : Gained out [] ⊎ PutsPart words input out
  pub ends : (p : Program) → Choose words mode.Run → Fits input → Accepted input p → (s ≡ status_of (end_in p.file)) ⊎ IsFailure s
  pub exact : (m : Mode) (output : List ℕ) (c : Conclusion) → Choose words m → Makes m input output c → IsServed words input output c s source out err ⊎ IsFailure s
  pub complete : (m : Mode) → Choose words m → ¬ HasFailed source → ¬ HasFailed out → ¬ HasFailed err
      → ((output : List ℕ) × (c : Conclusion) × IsServed words input output c s source out err) ⊎ (s ≡ status.NoMemory)
  pub complete_words : AreFaulty words → ¬ HasFailed err → (s ≡ status.Words) ⊎ (s ≡ status.NoMemory)

-- what holds of an input, which is what the source had left where it tells that
pub record KeepsPromises (words : List (String Global)) (s : Status) (source out err : Stream) : Type 0 where
  pub input : List ℕ
  pub given : IsInput source input
  pub correct : IsCorrect words input s source out err
