-- How a mode's work on an input concludes a call.
use Rattle.std.proofs.Common.{◌≡◌, ◌⊎◌, ℕ, ◌<◌, List, [], length, refl, sym, subst, inl, inr, String}
use Rattle.std.specs.declared.alloc.Global.{Global}
use Rattle.pyd_value.specs.declared.fault.End.{End}
use Rattle.pyd_value.specs.declared.fault.End.TheVariants as ending
use Rattle.pyd_grammar.specs.Limits.{longest_source}
use Rattle.pyd_scope.specs.declared.program.Program.{Program}
use Rattle.pyd_graph.specs.ScriptGraph.{graph_text}
use Rattle.pyd_top.specs.declared.mode.Mode.{Mode}
use Rattle.pyd_top.specs.declared.mode.Mode.TheVariants as mode
use Rattle.pyd_top.specs.declared.source_stop.SourceStop.{SourceStop}
use Rattle.pyd_top.specs.declared.source_stop.SourceStop.TheVariants as stop
use Rattle.pyd_top.specs.declared.conclusion.Conclusion.{Conclusion}
use Rattle.pyd_top.specs.declared.conclusion.Conclusion.TheVariants as conclusion
use Rattle.pyd_top.specs.Accepts.{Fits, Accepted, IsRefused}
use Rattle.pyd_top.specs.Checking.{summary}
use Rattle.pyd_top.specs.Conclusion.{PutsAll, PutsPart, FailsToPut, Concludes, ConcludesRead}
use Rattle.pyd_top.specs.Modes.{Choose, Makes, Made}
use Rattle.pyd_top.specs.Refusals.{stopped_by}
use Rattle.pyd_top.specs.Running.{output_of, named_end, script_end, end_in, IsEvaluated}
use Rattle.pyd_top.specs.Streams.{Stream, HasFailed, Gained, GainedPart, IsRead}

-- what a mode makes for words that choose it
made : (words : List (String Global)) (m : Mode) (input output : List ℕ) (c : Conclusion) → Choose words m → Makes m input output c → Made words input output c
made words m input output c chosen makes = record { mode = m; chosen = chosen; makes = makes }

-- an output of which some was put, since the sink failed
fails : (words : List (String Global)) (m : Mode) (input output : List ℕ) (c : Conclusion) (out : Stream) → Choose words m → Makes m input output c → GainedPart out output → HasFailed out
    → FailsToPut words input out
fails words m input output c out chosen makes put failed =
    record { part = record { output = output; conclusion = c; made = made words m input output c chosen makes; put = put }; failed = failed }

-- the conclusion at the end of a script: all was put
ended : (words : List (String Global)) (input : List ℕ) (source out : Stream) (e : End) → PutsAll words input (named_end e) source out → Concludes words input source out (named_end e)
ended words input source out ending.Finished puts = puts
ended words input source out (ending.Raised kind line) puts = puts
ended words input source out (ending.Limit l line) puts = puts

-- what `run` makes of an accepted source
pub runs : (input : List ℕ) (p : Program) → Fits input → Accepted input p → Makes mode.Run input (output_of p.file) (end_in p.file)
runs input p fits accepted =
    inl (record { program = p; fits = fits; accepted = accepted; output_is = refl; conclusion_is = refl })

-- an accepted source whose script was evaluated
pub evaluated : (input : List ℕ) (p : Program) (out : Stream) (c : Conclusion) → Fits input → Accepted input p → IsEvaluated p.file out c → ConcludesRead mode.Run input out c
evaluated input p out c fits accepted (inl (is, put)) words source chosen read =
    subst (λ d. Concludes words input source out d) (sym is)
    (ended words input source out (script_end p.file)
    (record { output = output_of p.file; made = made words mode.Run input (output_of p.file) (end_in p.file) chosen (runs input p fits accepted); put = put; read = read }))
evaluated input p out c fits accepted (inr (put, inl (is, failed))) words source chosen read =
    subst (λ d. Concludes words input source out d) (sym is)
    (fails words mode.Run input (output_of p.file) (end_in p.file) out chosen (runs input p fits accepted) put failed)
evaluated input p out c fits accepted (inr (put, inr is)) words source chosen read =
    let part : PutsPart words input out =
    record { output = output_of p.file; conclusion = end_in p.file; made = made words mode.Run input (output_of p.file) (end_in p.file) chosen (runs input p fits accepted); put = put } in
    let either : Gained out [] ⊎ PutsPart words input out = inr part in
    subst (λ d. Concludes words input source out d) (sym is) either

-- what `check` makes of an accepted source
pub approves : (input : List ℕ) (p : Program) → Fits input → Accepted input p → Makes mode.Check input (summary p) conclusion.Done
approves input p fits accepted =
    inl (record { program = p; fits = fits; accepted = accepted; output_is = refl; conclusion_is = refl })

-- a summary that was put
pub approved : (input : List ℕ) (p : Program) (out : Stream) → Fits input → Accepted input p → Gained out (summary p) → ConcludesRead mode.Check input out conclusion.Done
approved input p out fits accepted put words source chosen read =
    record { output = summary p; made = made words mode.Check input (summary p) conclusion.Done chosen (approves input p fits accepted); put = put; read = read }

-- a summary of which some was put
pub broken_off : (input : List ℕ) (p : Program) (out : Stream) → Fits input → Accepted input p → GainedPart out (summary p) → HasFailed out → ConcludesRead mode.Check input out conclusion.SinkFault
broken_off input p out fits accepted put failed words source chosen read =
    fails words mode.Check input (summary p) conclusion.Done out chosen (approves input p fits accepted) put failed

-- what `graph` makes of an accepted source
pub draws : (input : List ℕ) (p : Program) → Fits input → Accepted input p → Makes mode.Graph input (graph_text p.file) conclusion.Done
draws input p fits accepted =
    inl (record { program = p; fits = fits; accepted = accepted; output_is = refl; conclusion_is = refl })

-- a graph that was put
pub drawn : (input : List ℕ) (p : Program) (out : Stream) → Fits input → Accepted input p → Gained out (graph_text p.file) → ConcludesRead mode.Graph input out conclusion.Done
drawn input p out fits accepted put words source chosen read =
    record { output = graph_text p.file; made = made words mode.Graph input (graph_text p.file) conclusion.Done chosen (draws input p fits accepted); put = put; read = read }

-- a graph of which some was put, since the sink failed
pub drawn_off : (input : List ℕ) (p : Program) (out : Stream) → Fits input → Accepted input p → GainedPart out (graph_text p.file) → HasFailed out → ConcludesRead mode.Graph input out conclusion.SinkFault
drawn_off input p out fits accepted put failed words source chosen read =
    fails words mode.Graph input (graph_text p.file) conclusion.Done out chosen (draws input p fits accepted) put failed

-- a graph of which some was put, since memory ran out
pub drawn_part : (input : List ℕ) (p : Program) (out : Stream) → Fits input → Accepted input p → GainedPart out (graph_text p.file) → ConcludesRead mode.Graph input out conclusion.NoMemory
drawn_part input p out fits accepted put words source chosen read =
    inr (record { output = graph_text p.file; conclusion = conclusion.Done; made = made words mode.Graph input (graph_text p.file) conclusion.Done chosen (draws input p fits accepted); put = put })

-- every mode refuses a source that is refused
pub refuses : (m : Mode) (input : List ℕ) (s : SourceStop) → IsRefused input s → Makes m input [] (stopped_by s)
refuses mode.Run input s is = inr (record { stop = s; refused = is; conclusion_is = refl; silent = refl })
refuses mode.Check input s is = inr (record { stop = s; refused = is; conclusion_is = refl; silent = refl })
refuses mode.Graph input s is = inr (record { stop = s; refused = is; conclusion_is = refl; silent = refl })

refused : (words : List (String Global)) (m : Mode) (input : List ℕ) (source out : Stream) (s : SourceStop) → IsRefused input s → Gained out [] → Choose words m → IsRead input source
    → PutsAll words input (stopped_by s) source out
refused words m input source out s is put chosen read =
    record { output = []; made = made words m input [] (stopped_by s) chosen (refuses m input s is); put = put; read = read }

-- a source that stops while nothing was put
pub stopped : (m : Mode) (input : List ℕ) (out : Stream) (s : SourceStop) → (s ≡ stop.NoMemory) ⊎ IsRefused input s → Gained out [] → ConcludesRead m input out (stopped_by s)
stopped m input out s (inl is) put words source chosen read =
    let either : Gained out [] ⊎ PutsPart words input out = inl put in
    subst (λ t. Concludes words input source out (stopped_by t)) (sym is) either
stopped m input out stop.TooLong (inr is) put words source chosen read = refused words m input source out stop.TooLong is put chosen read
stopped m input out (stop.Lex f) (inr is) put words source chosen read = refused words m input source out (stop.Lex f) is put chosen read
stopped m input out (stop.Parse f) (inr is) put words source chosen read = refused words m input source out (stop.Parse f) is put chosen read
stopped m input out (stop.Scope r) (inr is) put words source chosen read = refused words m input source out (stop.Scope r) is put chosen read
stopped m input out stop.NoMemory (inr is) put words source chosen read = absurd is

-- no mode takes an input that is too long
pub too_long : (m : Mode) (input : List ℕ) → longest_source < length input → Makes m input [] conclusion.TooLong
too_long m input long = refuses m input stop.TooLong long
