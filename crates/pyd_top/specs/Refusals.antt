-- What every mode that reads a source makes of one that is refused.
use Rattle.std.specs.Prelude.{◌≡◌, ℕ, List, []}
use Rattle.pyd_top.specs.declared.source_stop.SourceStop.{SourceStop}
use Rattle.pyd_top.specs.declared.source_stop.SourceStop.TheVariants as stop
use Rattle.pyd_top.specs.declared.conclusion.Conclusion.{Conclusion}
use Rattle.pyd_top.specs.declared.conclusion.Conclusion.TheVariants as conclusion
use Rattle.pyd_top.specs.Accepts.{IsRefused}

-- what the refusal of a source is called at the end of a call
abbrev pub stopped_by : SourceStop → Conclusion
stopped_by stop.TooLong = conclusion.TooLong
stopped_by (stop.Lex f) = conclusion.Lex f
stopped_by (stop.Parse f) = conclusion.Parse f
stopped_by (stop.Scope r) = conclusion.Scope r
stopped_by stop.NoMemory = conclusion.NoMemory

-- a source that is refused gives no output
pub record Refuses (input output : List ℕ) (c : Conclusion) : Type 0 where
  pub stop : SourceStop
  pub refused : IsRefused input stop
  pub conclusion_is : c ≡ stopped_by stop
  pub silent : output ≡ []
