-- How runs go on behind a beginning.
use Rattle.std.proofs.Common.{◌≡◌, List, [], ◌∷◌, ◌++◌, append_assoc, refl, sym, ◌∙◌}
use Rattle.std.proofs.lemmas.List.{append-nil}
use Rattle.pyd_board.specs.declared.event.Event.{Event}
use Rattle.pyd_runs.specs.Plans.{Plan}
use Rattle.pyd_runs.specs.Effects.{State, first_state, happens}
use Rattle.pyd_runs.specs.Enabled.{Enabled}
use Rattle.pyd_runs.specs.Replay.{after, IsLegalFrom}
use Rattle.pyd_runs.specs.Following.{BeginningLaw, StepLaw, JournalLaw}

-- the state after events and more
pub after_both : (p : Plan) (s : State) (xs ys : List Event)
    → after p s (xs ++ ys) ≡ after p (after p s xs) ys
unfolding after
after_both p s [] ys = refl
after_both p s (x ∷ xs) ys = after_both p (happens p s x) xs ys

-- a run is its first events and those behind
pub legal_parts : (p : Plan) (s : State) (xs ys : List Event) → IsLegalFrom p s (xs ++ ys)
    → IsLegalFrom p s xs × IsLegalFrom p (after p s xs) ys
unfolding IsLegalFrom after
legal_parts p s [] ys legal = (tt, legal)
legal_parts p s (x ∷ xs) ys legal =
    let r = legal_parts p (happens p s x) xs ys legal.1 in ((legal.0, r.0), r.1)

-- and the two make a run
pub legal_both : (p : Plan) (s : State) (xs ys : List Event) → IsLegalFrom p s xs
    → IsLegalFrom p (after p s xs) ys → IsLegalFrom p s (xs ++ ys)
unfolding IsLegalFrom after
legal_both p s [] ys first more = more
legal_both p s (x ∷ xs) ys first more =
    (first.0, legal_both p (happens p s x) xs ys first.1 more)

-- the law
pub goes_behind : BeginningLaw
goes_behind p es more = record {
  state = after_both p (first_state p) es more;
  beginning = λ legal. (legal_parts p (first_state p) es more legal).0;
  behind = λ legal. (legal_parts p (first_state p) es more legal).1;
  whole = legal_both p (first_state p) es more;
}

-- one event from a state on
one_legal : (p : Plan) (s : State) (e : Event) → Enabled p s e → IsLegalFrom p s (e ∷ [])
unfolding IsLegalFrom
one_legal p s e enabled = (enabled, tt)

one_enabled : (p : Plan) (s : State) (e : Event) → IsLegalFrom p s (e ∷ []) → Enabled p s e
unfolding IsLegalFrom
one_enabled p s e legal = legal.0

one_after : (p : Plan) (s : State) (e : Event) → after p s (e ∷ []) ≡ happens p s e
unfolding after
one_after p s e = refl

pub steps_on : StepLaw
steps_on p es e =
    let s = after p (first_state p) es in record {
      state = after_both p (first_state p) es (e ∷ []) ∙ one_after p s e;
      legal = λ legal enabled. legal_both p (first_state p) es (e ∷ []) legal (one_legal p s e enabled);
      enabled = λ legal. one_enabled p s e (legal_parts p (first_state p) es (e ∷ []) legal).1;
    }

-- the journal grows by the events
pub journal_after : (p : Plan) (s : State) (es : List Event)
    → (after p s es).journal ≡ s.journal ++ es
unfolding after happens
journal_after p s [] = sym (append-nil s.journal)
journal_after p s (e ∷ es) =
    journal_after p (happens p s e) es ∙ append_assoc s.journal (e ∷ []) es

pub journal_whole : JournalLaw
journal_whole p es = journal_after p (first_state p) es
