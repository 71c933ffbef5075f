-- A mode makes one thing of each input.
use Rattle.std.proofs.Common.{◌≡◌, ◌⊎◌, ℕ, ◌-◌, List, [], length, ap, ap₂, sym, ◌∙◌, inl, inr}
use Rattle.pyd_scope.specs.declared.program.Program.{Program}
use Rattle.pyd_graph.specs.ScriptGraph.{graph_text}
use Rattle.pyd_top.specs.declared.mode.Mode.{Mode}
use Rattle.pyd_top.specs.declared.mode.Mode.TheVariants as mode
use Rattle.pyd_top.specs.declared.conclusion.Conclusion.{Conclusion}
use Rattle.pyd_top.specs.declared.conclusion.Conclusion.TheVariants as conclusion
use Rattle.pyd_top.specs.declared.source_stop.SourceStop.{SourceStop}
use Rattle.pyd_top.specs.Accepts.{Fits, Accepted, IsRefused}
use Rattle.pyd_top.specs.Checking.{counts, summary, Approves, Checks}
use Rattle.pyd_top.specs.Graphing.{Draws, Graphs}
use Rattle.pyd_top.specs.Laws.{Same, OneAnswer, OneWork}
use Rattle.pyd_top.specs.Modes.{Makes}
use Rattle.pyd_top.specs.Refusals.{stopped_by, Refuses}
use Rattle.pyd_top.specs.Running.{output_of, end_in, Evaluates, Runs}
use Rattle.pyd_top.proofs.Concluding.{runs, approves, draws, refuses}

one_refuse : OneAnswer → (input o p : List ℕ) (c d : Conclusion) → Refuses input o c → Refuses input p d → (o ≡ p) × (c ≡ d)
one_refuse law input o p c d a b =
    (a.silent ∙ sym b.silent, a.conclusion_is ∙ ap stopped_by (law.refusal input a.stop b.stop a.refused b.refused) ∙ sym b.conclusion_is)

one_evaluation : OneAnswer → (input o p : List ℕ) (c d : Conclusion) → Evaluates input o c → Evaluates input p d → (o ≡ p) × (c ≡ d)
one_evaluation law input o p c d a b =
    let files : a.program.file ≡ b.program.file = (law.program input a.program b.program a.accepted b.accepted).file in (
      a.output_is ∙ ap output_of files ∙ sym b.output_is,
      a.conclusion_is ∙ ap end_in files ∙ sym b.conclusion_is,
    )

one_run : OneAnswer → (input o p : List ℕ) (c d : Conclusion) → Runs input o c → Runs input p d → (o ≡ p) × (c ≡ d)
one_run law input o p c d (inl a) (inl b) = one_evaluation law input o p c d a b
one_run law input o p c d (inl a) (inr b) = absurd (law.either input a.program b.stop a.fits a.accepted b.refused)
one_run law input o p c d (inr a) (inl b) = absurd (law.either input b.program a.stop b.fits b.accepted a.refused)
one_run law input o p c d (inr a) (inr b) = one_refuse law input o p c d a b

-- programs with the same parts have the same summary
one_summary : (p q : Program) → Same p q → summary p ≡ summary q
one_summary p q same =
    ap₂ counts (ap (λ n. n - 1) (ap length same.routines)) (ap (λ n. n - 1) (ap length same.constants))

one_approval : OneAnswer → (input o p : List ℕ) (c d : Conclusion) → Approves input o c → Approves input p d → (o ≡ p) × (c ≡ d)
one_approval law input o p c d a b = (
  a.output_is ∙ one_summary a.program b.program (law.program input a.program b.program a.accepted b.accepted) ∙ sym b.output_is,
  a.conclusion_is ∙ sym b.conclusion_is,
)

one_check : OneAnswer → (input o p : List ℕ) (c d : Conclusion) → Checks input o c → Checks input p d → (o ≡ p) × (c ≡ d)
one_check law input o p c d (inl a) (inl b) = one_approval law input o p c d a b
one_check law input o p c d (inl a) (inr b) = absurd (law.either input a.program b.stop a.fits a.accepted b.refused)
one_check law input o p c d (inr a) (inl b) = absurd (law.either input b.program a.stop b.fits b.accepted a.refused)
one_check law input o p c d (inr a) (inr b) = one_refuse law input o p c d a b

one_drawing : OneAnswer → (input o p : List ℕ) (c d : Conclusion) → Draws input o c → Draws input p d → (o ≡ p) × (c ≡ d)
one_drawing law input o p c d a b = (
  a.output_is ∙ ap graph_text (law.program input a.program b.program a.accepted b.accepted).file ∙ sym b.output_is,
  a.conclusion_is ∙ sym b.conclusion_is,
)

one_graph : OneAnswer → (input o p : List ℕ) (c d : Conclusion) → Graphs input o c → Graphs input p d → (o ≡ p) × (c ≡ d)
one_graph law input o p c d (inl a) (inl b) = one_drawing law input o p c d a b
one_graph law input o p c d (inl a) (inr b) = absurd (law.either input a.program b.stop a.fits a.accepted b.refused)
one_graph law input o p c d (inr a) (inl b) = absurd (law.either input b.program a.stop b.fits b.accepted a.refused)
one_graph law input o p c d (inr a) (inr b) = one_refuse law input o p c d a b

same_work : OneAnswer → (m : Mode) (input o p : List ℕ) (c d : Conclusion) → Makes m input o c → Makes m input p d → (o ≡ p) × (c ≡ d)
same_work law mode.Run input o p c d a b = one_run law input o p c d a b
same_work law mode.Check input o p c d a b = one_check law input o p c d a b
same_work law mode.Graph input o p c d a b = one_graph law input o p c d a b

-- what a mode makes of an accepted source
accepted_work : (m : Mode) (input : List ℕ) (p : Program) → Fits input → Accepted input p → (output : List ℕ) × (c : Conclusion) × Makes m input output c
accepted_work mode.Run input p fits accepted = (output_of p.file, end_in p.file, runs input p fits accepted)
accepted_work mode.Check input p fits accepted = (summary p, conclusion.Done, approves input p fits accepted)
accepted_work mode.Graph input p fits accepted = (graph_text p.file, conclusion.Done, draws input p fits accepted)

some_work : (m : Mode) (input : List ℕ) → ((p : Program) × Fits input × Accepted input p) ⊎ ((s : SourceStop) × IsRefused input s) → (output : List ℕ) × (c : Conclusion) × Makes m input output c
some_work m input (inl (p, fits, accepted)) = accepted_work m input p fits accepted
some_work m input (inr (s, refused)) = ([], stopped_by s, refuses m input s refused)

pub one_work : OneAnswer → OneWork
one_work law =
    record { some = λ m input. some_work m input (law.some input); same = same_work law }
