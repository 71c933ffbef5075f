-- Mode `graph`: what it makes of an input.
use Rattle.std.specs.Prelude.{◌≡◌, ◌⊎◌, ℕ, List}
use Rattle.pyd_scope.specs.declared.program.Program.{Program}
use Rattle.pyd_graph.specs.ScriptGraph.{graph_text}
use Rattle.pyd_top.specs.declared.conclusion.Conclusion.{Conclusion}
use Rattle.pyd_top.specs.declared.conclusion.Conclusion.TheVariants as conclusion
use Rattle.pyd_top.specs.Accepts.{Fits, Accepted}
use Rattle.pyd_top.specs.Refusals.{Refuses}

-- an accepted source gives the text of its graph before any node is refined
pub record Draws (input output : List ℕ) (c : Conclusion) : Type 0 where
  pub program : Program
  pub fits : Fits input
  pub accepted : Accepted input program
  pub output_is : output ≡ graph_text program.file
  pub conclusion_is : c ≡ conclusion.Done

-- what `graph` makes of an input
abbrev pub Graphs : List ℕ → List ℕ → Conclusion → Type 0
Graphs input output c = Draws input output c ⊎ Refuses input output c
