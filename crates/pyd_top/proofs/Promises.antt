-- What is promised at each status follows from how a call concludes and reports.
use Rattle.std.proofs.Common.{◌≡◌, ◌≢◌, ◌⊎◌, ℕ, List, [], ◌∷◌, length, get_or, arith, refl, ap, sym, ◌∙◌, subst, inl, inr, String}
use Rattle.std.specs.declared.alloc.Global.{Global}
use Rattle.pyd_value.specs.declared.fault.Kind.{Kind}
use Rattle.pyd_value.specs.declared.fault.Limit.{Limit}
use Rattle.pyd_value.specs.declared.fault.End.{End}
use Rattle.pyd_value.specs.declared.fault.End.TheVariants as ending
use Rattle.pyd_scope.specs.declared.program.Program.{Program}
use Rattle.pyd_source.proofs.Prefixes.{prefix_all}
use Rattle.pyd_top.specs.declared.mode.Mode.{Mode}
use Rattle.pyd_top.specs.declared.mode.Mode.TheVariants as mode
use Rattle.pyd_top.specs.declared.source_stop.SourceStop.{SourceStop}
use Rattle.pyd_top.specs.declared.source_stop.SourceStop.TheVariants as stop
use Rattle.pyd_top.specs.declared.status.Status.{Status}
use Rattle.pyd_top.specs.declared.status.Status.TheVariants as status
use Rattle.pyd_top.specs.declared.conclusion.Conclusion.{Conclusion}
use Rattle.pyd_top.specs.declared.conclusion.Conclusion.TheVariants as conclusion
use Rattle.pyd_top.specs.Conclusion.{PutsAll, PutsPart, RefusesWords, FailsToRead, FailsToPut, Concludes, Reports, IsRunOf}
use Rattle.pyd_top.specs.Correct.{IsServed, IsRunTo, IsFailure, KeepsPromises}
use Rattle.pyd_top.specs.Errors.{error_of}
use Rattle.pyd_top.specs.Modes.{word_of, Choose, AreFaulty, Makes, Made}
use Rattle.pyd_top.specs.Laws.{OneWork}
use Rattle.pyd_top.specs.Refusals.{stopped_by}
use Rattle.pyd_top.specs.Running.{output_of, named_end, script_end, end_in}
use Rattle.pyd_top.specs.Statuses.{status_of}
use Rattle.pyd_top.specs.Streams.{Stream, HasFailed, Gained, GainedPart, IsUntouched, IsRead}
use Rattle.pyd_top.proofs.Concluding.{runs}

-- the fourth letter of a word
abbrev fourth : List ℕ → ℕ
fourth word = get_or word 3 0

-- the words choose one mode at most
one_word : (m n : Mode) → word_of m ≡ word_of n → m ≡ n
one_word mode.Run mode.Run same = refl
one_word mode.Run mode.Check same = absurd (let lengths : 3 ≡ 5 = ap length same in omega (arith, lengths))
one_word mode.Run mode.Graph same = absurd (let lengths : 3 ≡ 5 = ap length same in omega (arith, lengths))
one_word mode.Check mode.Run same = absurd (let lengths : 5 ≡ 3 = ap length same in omega (arith, lengths))
one_word mode.Check mode.Check same = refl
one_word mode.Check mode.Graph same = absurd (let letters : 99 ≡ 112 = ap fourth same in omega (arith, letters))
one_word mode.Graph mode.Run same = absurd (let lengths : 5 ≡ 3 = ap length same in omega (arith, lengths))
one_word mode.Graph mode.Check same = absurd (let letters : 112 ≡ 99 = ap fourth same in omega (arith, letters))
one_word mode.Graph mode.Graph same = refl

one_mode : (words : List (String Global)) (m n : Mode) → Choose words m → Choose words n → m ≡ n
one_mode words m n p q =
    let both : word_of m ∷ [] ≡ word_of n ∷ [] = sym p ∙ q in one_word m n (cc both)

-- no refusal is the end of a script, and no want of memory
no_end : (e : End) → status_of (named_end e) ≢ status.Refused
no_end ending.Finished refused = cc
no_end (ending.Raised kind line) refused = cc
no_end (ending.Limit l line) refused = cc

no_want : (e : End) → status_of (named_end e) ≢ status.NoMemory
no_want ending.Finished wanting = cc
no_want (ending.Raised kind line) wanting = cc
no_want (ending.Limit l line) wanting = cc

stop_status : (s : SourceStop) → (status_of (stopped_by s) ≡ status.Refused) ⊎ (status_of (stopped_by s) ≡ status.NoMemory)
stop_status stop.TooLong = inl refl
stop_status (stop.Lex f) = inl refl
stop_status (stop.Parse f) = inl refl
stop_status (stop.Scope r) = inl refl
stop_status stop.NoMemory = inr refl

no_stop : (e : End) (s : SourceStop) → named_end e ≢ stopped_by s
no_stop e s is = by (stop_status s)
  where
    by : (status_of (stopped_by s) ≡ status.Refused) ⊎ (status_of (stopped_by s) ≡ status.NoMemory) → ⊥
    by (inl refused) = no_end e (ap status_of is ∙ refused)
    by (inr wanting) = no_want e (ap status_of is ∙ wanting)

-- an end has one name
one_name : (e f : End) → named_end e ≡ named_end f → e ≡ f
one_name ending.Finished ending.Finished is = refl
one_name ending.Finished (ending.Raised kind line) is = absurd cc
one_name ending.Finished (ending.Limit l line) is = absurd cc
one_name (ending.Raised kind line) ending.Finished is = absurd cc
one_name (ending.Raised kind line) (ending.Raised other at) is = cc
one_name (ending.Raised kind line) (ending.Limit l at) is = absurd cc
one_name (ending.Limit l line) ending.Finished is = absurd cc
one_name (ending.Limit l line) (ending.Raised kind at) is = absurd cc
one_name (ending.Limit l line) (ending.Limit m at) is = cc

-- a refusal gives no output
silent : (m : Mode) (input output : List ℕ) (c : Conclusion) → status_of c ≡ status.Refused → Makes m input output c → output ≡ []
silent mode.Run input output c refused (inl e) = absurd (no_end (script_end e.program.file) (ap status_of (sym e.conclusion_is) ∙ refused))
silent mode.Run input output c refused (inr r) = r.silent
silent mode.Check input output c refused (inl a) = let e : status.Done ≡ status.Refused = ap status_of (sym a.conclusion_is) ∙ refused in absurd cc
silent mode.Check input output c refused (inr r) = r.silent
silent mode.Graph input output c refused (inl a) = let e : status.Done ≡ status.Refused = ap status_of (sym a.conclusion_is) ∙ refused in absurd cc
silent mode.Graph input output c refused (inr r) = r.silent

-- all that was put and said is what the mode makes
served : (words : List (String Global)) (input : List ℕ) (c : Conclusion) (s : Status) (source out err : Stream) → (p : PutsAll words input c source out) → s ≡ status_of c → Gained err (error_of c)
    → IsServed words input p.output c s source out err
served words input c s source out err p is line =
    record { made = p.made; put = p.put; line = line; status_is = is; read = p.read }

served_so : OneWork → (words : List (String Global)) (input output : List ℕ) (c d : Conclusion) (s : Status) (source out err : Stream) (m : Mode) → PutsAll words input c source out → s ≡ status_of c
    → Gained err (error_of c) → Choose words m → Makes m input output d → IsServed words input output d s source out err
served_so law words input output c d s source out err m p is line chosen makes =
    let modes : p.made.mode ≡ m = one_mode words p.made.mode m p.made.chosen chosen in
    let made : Makes m input p.output c = subst (λ n. Makes n input p.output c) modes p.made.makes in
    let same : (p.output ≡ output) × (c ≡ d) = law.same m input p.output output c d made makes in
    record {
      made = record { mode = m; chosen = chosen; makes = makes };
      put = subst (Gained out) same.0 p.put;
      line = subst (λ e. Gained err (error_of e)) same.1 line;
      status_is = is ∙ ap status_of same.1;
      read = p.read;
    }

part : (words : List (String Global)) (input : List ℕ) (c : Conclusion) (source out : Stream) → PutsAll words input c source out → PutsPart words input out
part words input c source out p = record { output = p.output; conclusion = c; made = p.made; put = prefix_all _ _ _ p.put }

done : (words : List (String Global)) (input : List ℕ) (s : Status) (source out err : Stream) (c : Conclusion) → Concludes words input source out c → Reports c s err → s ≡ status.Done
    → (output : List ℕ) × IsServed words input output conclusion.Done s source out err
done words input s source out err c p (inr r) e = absurd (let x : status.SinkFault ≡ status.Done = sym r.0 ∙ e in cc)
done words input s source out err conclusion.Done p (inl r) e = (p.output, served words input conclusion.Done s source out err p r.0 r.1)
done words input s source out err c p (inl r) e = absurd (let x : status_of c ≡ status.Done = sym r.0 ∙ e in cc)

-- what ends with a fault is a script that was run
ran : (words : List (String Global)) (m : Mode) (input output : List ℕ) (e : End) (source out err : Stream) → e ≢ ending.Finished → Choose words m → Makes m input output (named_end e)
    → Gained out output → Gained err (error_of (named_end e)) → IsRead input source → IsRunTo words input e source out err
ran words mode.Run input output e source out err faulty chosen (inl made) put line read =
    record {
      program = made.program;
      chosen = chosen;
      fits = made.fits;
      accepted = made.accepted;
      end_is = sym (one_name e (script_end made.program.file) made.conclusion_is);
      put = subst (Gained out) made.output_is put;
      line = line;
      read = read;
    }
ran words mode.Run input output e source out err faulty chosen (inr refused) put line read = absurd (no_stop e refused.stop refused.conclusion_is)
ran words mode.Check input output e source out err faulty chosen (inl made) put line read = absurd (faulty (one_name e ending.Finished made.conclusion_is))
ran words mode.Check input output e source out err faulty chosen (inr refused) put line read = absurd (no_stop e refused.stop refused.conclusion_is)
ran words mode.Graph input output e source out err faulty chosen (inl made) put line read = absurd (faulty (one_name e ending.Finished made.conclusion_is))
ran words mode.Graph input output e source out err faulty chosen (inr refused) put line read = absurd (no_stop e refused.stop refused.conclusion_is)

raised : (words : List (String Global)) (input : List ℕ) (s : Status) (source out err : Stream) (c : Conclusion) → Concludes words input source out c → Reports c s err → s ≡ status.Raised
    → (kind : Kind) × (line : ℕ) × IsRunTo words input (ending.Raised kind line) source out err
raised words input s source out err c p (inr r) e = absurd (let x : status.SinkFault ≡ status.Raised = sym r.0 ∙ e in cc)
raised words input s source out err (conclusion.Raised kind line) p (inl r) e =
    let faulty : ending.Raised kind line ≢ ending.Finished = λ is. cc in
    (kind, line, ran words p.made.mode input p.output (ending.Raised kind line) source out err faulty p.made.chosen p.made.makes p.put r.1 p.read)
raised words input s source out err c p (inl r) e = absurd (let x : status_of c ≡ status.Raised = sym r.0 ∙ e in cc)

answered : (s : Status) (err : Stream) (c : Conclusion) → Reports c s err → s ≢ status.No
answered s err c (inr r) e = let x : status.SinkFault ≡ status.No = sym r.0 ∙ e in cc
answered s err conclusion.Done (inl r) e = let x : status.Done ≡ status.No = sym r.0 ∙ e in cc
answered s err c (inl r) e = let x : status_of c ≡ status.No = sym r.0 ∙ e in cc

faulty : (words : List (String Global)) (input : List ℕ) (s : Status) (source out err : Stream) (c : Conclusion) → Concludes words input source out c → Reports c s err → s ≡ status.Words
    → AreFaulty words × IsUntouched source × Gained out [] × Gained err (error_of conclusion.Words)
faulty words input s source out err c p (inr r) e = absurd (let x : status.SinkFault ≡ status.Words = sym r.0 ∙ e in cc)
faulty words input s source out err conclusion.Words p (inl r) e = (p.faulty, p.untouched, p.silent, r.1)
faulty words input s source out err c p (inl r) e = absurd (let x : status_of c ≡ status.Words = sym r.0 ∙ e in cc)

refused_so : (words : List (String Global)) (input : List ℕ) (s : Status) (source out err : Stream) (c : Conclusion) → PutsAll words input c source out → s ≡ status_of c → Gained err (error_of c)
    → status_of c ≡ status.Refused → IsServed words input [] c s source out err
refused_so words input s source out err c p is line refused =
    subst (λ output. IsServed words input output c s source out err) (silent p.made.mode input p.output c refused p.made.makes) (served words input c s source out err p is line)

refused : (words : List (String Global)) (input : List ℕ) (s : Status) (source out err : Stream) (c : Conclusion) → Concludes words input source out c → Reports c s err → s ≡ status.Refused
    → (d : Conclusion) × IsServed words input [] d s source out err
refused words input s source out err c p (inr r) e = absurd (let x : status.SinkFault ≡ status.Refused = sym r.0 ∙ e in cc)
refused words input s source out err conclusion.TooLong p (inl r) e = (conclusion.TooLong, refused_so words input s source out err conclusion.TooLong p r.0 r.1 refl)
refused words input s source out err (conclusion.Lex f) p (inl r) e = (conclusion.Lex f, refused_so words input s source out err (conclusion.Lex f) p r.0 r.1 refl)
refused words input s source out err (conclusion.Parse f) p (inl r) e = (conclusion.Parse f, refused_so words input s source out err (conclusion.Parse f) p r.0 r.1 refl)
refused words input s source out err (conclusion.Scope k) p (inl r) e = (conclusion.Scope k, refused_so words input s source out err (conclusion.Scope k) p r.0 r.1 refl)
refused words input s source out err c p (inl r) e = absurd (let x : status_of c ≡ status.Refused = sym r.0 ∙ e in cc)

limit : (words : List (String Global)) (input : List ℕ) (s : Status) (source out err : Stream) (c : Conclusion) → Concludes words input source out c → Reports c s err → s ≡ status.Limit
    → (l : Limit) × (line : ℕ) × IsRunTo words input (ending.Limit l line) source out err
limit words input s source out err c p (inr r) e = absurd (let x : status.SinkFault ≡ status.Limit = sym r.0 ∙ e in cc)
limit words input s source out err (conclusion.Limit l line) p (inl r) e =
    let faulty : ending.Limit l line ≢ ending.Finished = λ is. cc in
    (l, line, ran words p.made.mode input p.output (ending.Limit l line) source out err faulty p.made.chosen p.made.makes p.put r.1 p.read)
limit words input s source out err c p (inl r) e = absurd (let x : status_of c ≡ status.Limit = sym r.0 ∙ e in cc)

read_fault : (words : List (String Global)) (input : List ℕ) (s : Status) (source out err : Stream) (c : Conclusion) → Concludes words input source out c → Reports c s err → s ≡ status.ReadFault
    → ((m : Mode) × Choose words m) × HasFailed source × Gained out [] × Gained err (error_of conclusion.ReadFault)
read_fault words input s source out err c p (inr r) e = absurd (let x : status.SinkFault ≡ status.ReadFault = sym r.0 ∙ e in cc)
read_fault words input s source out err conclusion.ReadFault p (inl r) e = ((p.mode, p.chosen), p.failed, p.silent, r.1)
read_fault words input s source out err c p (inl r) e = absurd (let x : status_of c ≡ status.ReadFault = sym r.0 ∙ e in cc)

sink_fault : (words : List (String Global)) (input : List ℕ) (s : Status) (source out err : Stream) (c : Conclusion) → Concludes words input source out c → Reports c s err → s ≡ status.SinkFault
    → (HasFailed out × Gained err (error_of conclusion.SinkFault)) ⊎ (HasFailed err × (d : Conclusion) × GainedPart err (error_of d))
sink_fault words input s source out err c p (inr r) e = inr (r.2, c, r.1)
sink_fault words input s source out err conclusion.SinkFault p (inl r) e = inl (p.failed, r.1)
sink_fault words input s source out err c p (inl r) e = absurd (let x : status_of c ≡ status.SinkFault = sym r.0 ∙ e in cc)

no_memory : (s : Status) (err : Stream) (c : Conclusion) → Reports c s err → s ≡ status.NoMemory → Gained err (error_of conclusion.NoMemory)
no_memory s err c (inr r) e = absurd (let x : status.SinkFault ≡ status.NoMemory = sym r.0 ∙ e in cc)
no_memory s err conclusion.NoMemory (inl r) e = r.1
no_memory s err c (inl r) e = absurd (let x : status_of c ≡ status.NoMemory = sym r.0 ∙ e in cc)

-- how a call concluded: its work was done, its words were refused, or something failed
Left : List (String Global) → List ℕ → Stream → Stream → Conclusion → Type 0
Left words input source out c =
    PutsAll words input c source out
    ⊎ ((c ≡ conclusion.Words) × RefusesWords words source out)
    ⊎ ((c ≡ conclusion.ReadFault) × FailsToRead words source out)
    ⊎ ((c ≡ conclusion.SinkFault) × FailsToPut words input out)
    ⊎ ((c ≡ conclusion.NoMemory) × (Gained out [] ⊎ PutsPart words input out))

left : (words : List (String Global)) (input : List ℕ) (source out : Stream) (c : Conclusion) → Concludes words input source out c → Left words input source out c
unfolding Left
left words input source out conclusion.Done p = inl p
left words input source out (conclusion.Raised kind line) p = inl p
left words input source out (conclusion.Limit l line) p = inl p
left words input source out conclusion.Words p = inr (inl (refl, p))
left words input source out conclusion.TooLong p = inl p
left words input source out (conclusion.Lex f) p = inl p
left words input source out (conclusion.Parse f) p = inl p
left words input source out (conclusion.Scope k) p = inl p
left words input source out conclusion.ReadFault p = inr (inr (inl (refl, p)))
left words input source out conclusion.SinkFault p = inr (inr (inr (inl (refl, p))))
left words input source out conclusion.NoMemory p = inr (inr (inr (inr (refl, p))))

prefix : (words : List (String Global)) (input : List ℕ) (source out : Stream) (c : Conclusion) → Left words input source out c → Gained out [] ⊎ PutsPart words input out
unfolding Left
prefix words input source out c (inl p) = inr (part words input c source out p)
prefix words input source out c (inr (inl (is, p))) = inl p.silent
prefix words input source out c (inr (inr (inl (is, p)))) = inl p.silent
prefix words input source out c (inr (inr (inr (inl (is, p))))) = inr p.part
prefix words input source out c (inr (inr (inr (inr (is, p))))) = p

exact : OneWork → (words : List (String Global)) (input : List ℕ) (s : Status) (source out err : Stream) (c : Conclusion) → Left words input source out c → Reports c s err
    → (m : Mode) (output : List ℕ) (d : Conclusion) → Choose words m → Makes m input output d → IsServed words input output d s source out err ⊎ IsFailure s
unfolding Left
exact law words input s source out err c p (inr r) m output d chosen makes = inr (inr (inl r.0))
exact law words input s source out err c (inl p) (inl r) m output d chosen makes = inl (served_so law words input output c d s source out err m p r.0 r.1 chosen makes)
exact law words input s source out err c (inr (inl (is, p))) (inl r) m output d chosen makes = absurd (p.faulty m chosen)
exact law words input s source out err c (inr (inr (inl (is, p)))) (inl r) m output d chosen makes = inr (inl (r.0 ∙ ap status_of is))
exact law words input s source out err c (inr (inr (inr (inl (is, p))))) (inl r) m output d chosen makes = inr (inr (inl (r.0 ∙ ap status_of is)))
exact law words input s source out err c (inr (inr (inr (inr (is, p))))) (inl r) m output d chosen makes = inr (inr (inr (r.0 ∙ ap status_of is)))

-- a script that was run has its end's status
ends : (words : List (String Global)) (input : List ℕ) (s : Status) (source out err : Stream) (p : Program)
    → IsServed words input (output_of p.file) (end_in p.file) s source out err ⊎ IsFailure s → (s ≡ status_of (end_in p.file)) ⊎ IsFailure s
ends words input s source out err p (inl served) = inl served.status_is
ends words input s source out err p (inr failed) = inr failed

complete : (words : List (String Global)) (input : List ℕ) (s : Status) (source out err : Stream) (c : Conclusion) → Left words input source out c → Reports c s err
    → (m : Mode) → Choose words m → ¬ HasFailed source → ¬ HasFailed out → ¬ HasFailed err
    → ((output : List ℕ) × (d : Conclusion) × IsServed words input output d s source out err) ⊎ (s ≡ status.NoMemory)
unfolding Left
complete words input s source out err c p (inr r) m chosen reads puts says = absurd (says r.2)
complete words input s source out err c (inl p) (inl r) m chosen reads puts says = inl (p.output, c, served words input c s source out err p r.0 r.1)
complete words input s source out err c (inr (inl (is, p))) (inl r) m chosen reads puts says = absurd (p.faulty m chosen)
complete words input s source out err c (inr (inr (inl (is, p)))) (inl r) m chosen reads puts says = absurd (reads p.failed)
complete words input s source out err c (inr (inr (inr (inl (is, p))))) (inl r) m chosen reads puts says = absurd (puts p.failed)
complete words input s source out err c (inr (inr (inr (inr (is, p))))) (inl r) m chosen reads puts says = inr (r.0 ∙ ap status_of is)

-- faulty words choose no mode, so nothing is made
none_made : (words : List (String Global)) (input output : List ℕ) (c : Conclusion) → AreFaulty words → ¬ Made words input output c
none_made words input output c other made = other made.mode made.chosen

complete_words : (words : List (String Global)) (input : List ℕ) (s : Status) (source out err : Stream) (c : Conclusion) → Left words input source out c → Reports c s err → AreFaulty words
    → ¬ HasFailed err → (s ≡ status.Words) ⊎ (s ≡ status.NoMemory)
unfolding Left
complete_words words input s source out err c p (inr r) other says = absurd (says r.2)
complete_words words input s source out err c (inl p) (inl r) other says = absurd (none_made words input p.output c other p.made)
complete_words words input s source out err c (inr (inl (is, p))) (inl r) other says = inl (r.0 ∙ ap status_of is)
complete_words words input s source out err c (inr (inr (inl (is, p)))) (inl r) other says = absurd (other p.mode p.chosen)
complete_words words input s source out err c (inr (inr (inr (inl (is, p))))) (inl r) other says = absurd (none_made words input p.part.output p.part.conclusion other p.part.made)
complete_words words input s source out err c (inr (inr (inr (inr (is, p))))) (inl r) other says = inr (r.0 ∙ ap status_of is)

-- what a call that concludes so keeps
pub promises : OneWork → (words : List (String Global)) (s : Status) (source out err : Stream) → IsRunOf words s source out err → KeepsPromises words s source out err
promises law words s source out err run =
    let told = left words run.input source out run.conclusion run.concludes in
    let exactly = exact law words run.input s source out err run.conclusion told run.reports in
    record {
      input = run.input;
      given = run.given;
      correct = record {
        done = done words run.input s source out err run.conclusion run.concludes run.reports;
        raised = raised words run.input s source out err run.conclusion run.concludes run.reports;
        faulty = faulty words run.input s source out err run.conclusion run.concludes run.reports;
        refused = refused words run.input s source out err run.conclusion run.concludes run.reports;
        limit = limit words run.input s source out err run.conclusion run.concludes run.reports;
        read_fault = read_fault words run.input s source out err run.conclusion run.concludes run.reports;
        sink_fault = sink_fault words run.input s source out err run.conclusion run.concludes run.reports;
        no_memory = no_memory s err run.conclusion run.reports;
        answered = answered s err run.conclusion run.reports;
        prefix = prefix words run.input source out run.conclusion told;
        ends = λ p chosen fits accepted.
            ends words run.input s source out err p (exactly mode.Run (output_of p.file) (end_in p.file) chosen (runs run.input p fits accepted));
        exact = exactly;
        complete = complete words run.input s source out err run.conclusion told run.reports;
        complete_words = complete_words words run.input s source out err run.conclusion told run.reports;
      };
    }
