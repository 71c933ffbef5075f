-- How a history goes on by entries of a seat, each of which may come in its turn.
use Rattle.std.proofs.Common.{◌≡◌, ℕ, List, [], ◌∷◌, ◌++◌, sym, ap, ◌∙◌, subst, append_assoc, append-nil}
use Rattle.std.specs.List.{Contains}
use Rattle.std.proofs.lemmas.List.Elements.{All-nil, All-cons, All-append}
use Rattle.pyd_board.specs.declared.event.Event.{Event}
use Rattle.pyd_board.specs.declared.history.History.{History}
use Rattle.pyd_boards.specs.Boards.{with_events}
use Rattle.pyd_boards.specs.Calls.{AreNext, GoesOnBy}

-- it goes on by nothing
pub goes_nowhere : (may_come : List Event → Event → Type 0) (seat : ℕ) (h : History) → GoesOnBy may_come seat h h
unfolding AreNext
goes_nowhere may_come seat h = record {
  extends = record {
    extends = record { events = ([], sym (append-nil h.events)); sink_faults = λ run c. c; halted = λ why e. e };
    alone = All-nil (λ (e : Event). e.by ≡ seat);
  };
  next = tt;
}

-- it goes on by one entry of the seat that may come
pub goes_on_one : (may_come : List Event → Event → Type 0) (seat : ℕ) (old new : History) (e : Event) → e.by ≡ seat → may_come old.events e → new ≡ with_events old (e ∷ []) → GoesOnBy may_come seat old new
unfolding AreNext
goes_on_one may_come seat old new e own may is = record {
  extends = record {
    extends = record {
      events = (e ∷ [], ap (λ h. h.events) is);
      sink_faults = λ run c. subst (λ (h : History). Contains h.sink_faults run) (sym is) c;
      halted = λ why was. ap (λ h. h.halted) is ∙ was;
    };
    alone = All-cons (λ (x : Event). x.by ≡ seat) e [] own (All-nil (λ (x : Event). x.by ≡ seat));
  };
  next = (may, tt);
}

-- events that may come, and then others
pub next_append : (may_come : List Event → Event → Type 0) (events xs ys : List Event) → AreNext may_come events xs → AreNext may_come (events ++ xs) ys → AreNext may_come events (xs ++ ys)
unfolding AreNext
next_append may_come events [] ys first second = subst (λ (es : List Event). AreNext may_come es ys) (append-nil events) second
next_append may_come events (x ∷ xs) ys first second =
    (first.0, next_append may_come (events ++ x ∷ []) xs ys first.1 (subst (λ (es : List Event). AreNext may_come es ys) (sym (append_assoc events (x ∷ []) xs)) second))

-- it goes on twice
pub goes_on_twice : (may_come : List Event → Event → Type 0) (seat : ℕ) (a b c : History) → GoesOnBy may_come seat a b → GoesOnBy may_come seat b c → GoesOnBy may_come seat a c
goes_on_twice may_come seat a b c first second =
    let p = first.extends.extends in
    let q = second.extends.extends in
    record {
      extends = record {
        extends = record {
          events = (p.events.0 ++ q.events.0, q.events.1 ∙ (ap (λ z. z ++ q.events.0) p.events.1 ∙ append_assoc a.events p.events.0 q.events.0));
          sink_faults = λ run at. q.sink_faults run (p.sink_faults run at);
          halted = λ why e. q.halted why (p.halted why e);
        };
        alone = All-append (λ (e : Event). e.by ≡ seat) p.events.0 q.events.0 first.extends.alone second.extends.alone;
      };
      next = next_append may_come a.events p.events.0 q.events.0 first.next
          (subst (λ (es : List Event). AreNext may_come es q.events.0) p.events.1 second.next);
    }
