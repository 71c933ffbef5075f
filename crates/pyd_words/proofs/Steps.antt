-- One step after another, up to the first fault.
use Rattle.std.proofs.Common.{◌≡◌, ◌∙◌, Bool, true, false, Result, Ok, Err, if◌then◌else◌, ap, sym, subst}
use Rattle.std.specs.Result.{IsErrAnd}
use Rattle.pyd_words.specs.declared.fault.WordsFault.{WordsFault}
use Rattle.pyd_words.specs.declared.fault.WordsFault.TheVariants.{Line}
use Rattle.pyd_words.specs.declared.fault.WordsStop.{WordsStop}
use Rattle.pyd_words.specs.declared.fault.WordsStop.TheVariants.{Fault, NoMemory}
use Rattle.pyd_words.specs.Answers.{Answers, StopsLine}
use Rattle.pyd_words.specs.Words.{◌>>=◌}

-- a step that gives a value goes on with it
pub goes_on : {A B : Type 0} (meant : Result A WordsFault) (x : A) (next : A → Result B WordsFault) → Ok x ≡ meant → next x ≡ (meant >>= next)
unfolding ◌>>=◌
goes_on meant x next h = ap (λ m. m >>= next) h

-- a step that gives a fault ends with it
pub ends : {A B : Type 0} (meant : Result A WordsFault) (fault : WordsFault) (next : A → Result B WordsFault) → Err fault ≡ meant → Err fault ≡ (meant >>= next)
unfolding ◌>>=◌
ends meant fault next h = ap (λ m. m >>= next) h

-- the fault that is handed on
pub handed : {A E : Type 0} (r : Result A E) (e : E) → IsErrAnd r (λ f. f ≡ e) → r ≡ Err e
handed (Ok x) e h = absurd h
handed (Err f) e h = ap Err h

-- the answer to what is meant answers all that is the same
pub same_answer : {A : Type 0} (meant whole : Result A WordsFault) (r : Result A WordsStop) → meant ≡ whole → Answers meant r → Answers whole r
same_answer {A} meant whole r h a = subst (λ (m : Result A WordsFault). Answers m r) h a

-- a fault that is handed on answers what gives it
pub refused : {A : Type 0} (meant : Result A WordsFault) (fault : WordsFault) (r : Result A WordsStop) → Err fault ≡ meant → IsErrAnd r (λ s. s ≡ Fault fault)
    → Answers meant r
refused meant fault (Ok x) h e = absurd e
refused {A} meant fault (Err s) h e = subst (λ (t : WordsStop). Answers {A = A} meant (Err t)) (sym e) (sym h)

-- a stop that is handed on answers what goes on from where it came
pub stopped : {A B : Type 0} (meant : Result A WordsFault) (next : A → Result B WordsFault) (stop : WordsStop) (r : Result B WordsStop)
    → Answers meant (Err stop) → IsErrAnd r (λ s. s ≡ stop) → Answers (meant >>= next) r
stopped meant next stop (Ok x) a e = absurd e
stopped {A} {B} meant next (Fault fault) (Err s) a e =
    subst (λ (t : WordsStop). Answers {A = B} (meant >>= next) (Err t)) (sym e) (sym (ends meant fault next (sym a)))
stopped {A} {B} meant next NoMemory (Err s) a e = subst (λ (t : WordsStop). Answers {A = B} (meant >>= next) (Err t)) (sym e) tt

-- what a test chooses
pub chosen : {A : Type 0} (b : Bool) (x y : A) → true ≡ b → x ≡ (if b then x else y)
chosen b x y h = ap (λ t. if t then x else y) h

pub otherwise : {A : Type 0} (b : Bool) (x y : A) → false ≡ b → y ≡ (if b then x else y)
otherwise b x y h = ap (λ t. if t then x else y) h

-- a stop of `clap` that is handed on answers the words
pub line_stopped : {A : Type 0} (refused : Bool) (meant : Result A WordsFault) (stop : WordsStop) (r : Result A WordsStop)
    → StopsLine refused stop → IsErrAnd r (λ s. s ≡ stop) → Answers (if refused then Err Line else meant) r
line_stopped refused meant stop (Ok x) a e = absurd e
line_stopped {A} refused meant (Fault fault) (Err s) a e =
    subst (λ (t : WordsStop). Answers {A = A} (if refused then Err Line else meant) (Err t)) (sym e)
    (sym (chosen refused (Err Line) meant (sym a.1)) ∙ ap Err (sym a.0))
line_stopped {A} refused meant NoMemory (Err s) a e =
    subst (λ (t : WordsStop). Answers {A = A} (if refused then Err Line else meant) (Err t)) (sym e) tt
