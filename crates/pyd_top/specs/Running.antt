-- Mode `run`: what it makes of an input.
use Rattle.std.specs.Prelude.{◌≡◌, ◌⊎◌, ℕ, List}
use Rattle.pyd_value.specs.declared.fault.End.{End}
use Rattle.pyd_value.specs.declared.fault.End.TheVariants as ending
use Rattle.pyd_tree.specs.declared.file.File.{File}
use Rattle.pyd_meaning.specs.Defaults.{default_limits}
use Rattle.pyd_meaning.specs.Module.{mean, end_of, bytes_of}
use Rattle.pyd_scope.specs.declared.program.Program.{Program}
use Rattle.pyd_top.specs.declared.conclusion.Conclusion.{Conclusion}
use Rattle.pyd_top.specs.declared.conclusion.Conclusion.TheVariants as conclusion
use Rattle.pyd_top.specs.Accepts.{Fits, Accepted}
use Rattle.pyd_top.specs.Refusals.{Refuses}
use Rattle.pyd_top.specs.Streams.{Stream, HasFailed, Gained, GainedPart}

-- the bytes that a file prints under the default limits
abbrev pub output_of : File → List ℕ
output_of file = bytes_of (mean file default_limits).lines

-- how a file ends under them
abbrev pub script_end : File → End
script_end file = end_of (mean file default_limits).result

-- what the end of a script is called at the end of a call
abbrev pub named_end : End → Conclusion
named_end ending.Finished = conclusion.Done
named_end (ending.Raised kind line) = conclusion.Raised kind line
named_end (ending.Limit l line) = conclusion.Limit l line

-- how a file ends, as it is called at the end of a call
abbrev pub end_in : File → Conclusion
end_in file = named_end (script_end file)

-- the output and the end of an accepted file are those of its meaning
pub record Evaluates (input output : List ℕ) (c : Conclusion) : Type 0 where
  pub program : Program
  pub fits : Fits input
  pub accepted : Accepted input program
  pub output_is : output ≡ output_of program.file
  pub conclusion_is : c ≡ end_in program.file

-- what `run` makes of an input
abbrev pub Runs : List ℕ → List ℕ → Conclusion → Type 0
Runs input output c = Evaluates input output c ⊎ Refuses input output c

-- how evaluating a file ends: with all that it prints put, or with some of it where the output failed or memory ran out
abbrev pub IsEvaluated : File → Stream → Conclusion → Type 0
IsEvaluated file out c =
    ((c ≡ end_in file) × Gained out (output_of file))
    ⊎ (GainedPart out (output_of file) × (((c ≡ conclusion.SinkFault) × HasFailed out) ⊎ (c ≡ conclusion.NoMemory)))
