-- Extending histories, and the number of a seat's entries.
use Rattle.std.proofs.Common.{◌≡◌, ◌≢◌, ℕ, ◌+◌, ◌≤◌, ◌==◌, List, [], ◌∷◌, ◌++◌, Bool, true, false, cond, length, count_by, refl, sym, ap, ◌∙◌, arith, append_assoc, append-nil, ne_eqb, eq-eqb}
use Rattle.std.proofs.lemmas.List.Elements.{All-nil, All-cons, All-head, All-tail, All-append}
use Rattle.std.proofs.lemmas.List.Sums.{sum_by-append, sum_by-cons}
use Rattle.pyd_board.specs.declared.event.Event.{Event}
use Rattle.pyd_board.specs.declared.history.History.{History}
use Rattle.pyd_board.specs.Histories.{entries, entries_of, AllBy, events_alone, Extends, ExtendsBy}
use Rattle.pyd_board.specs.Laws.{EntriesGrow}

-- a history extends itself, by no entry of any seat
pub extends_itself : (seat : ℕ) (h : History) → ExtendsBy seat h h
extends_itself seat h = record {
  extends = record { events = ([], sym (append-nil h.events)); sink_faults = λ run c. c; halted = λ why e. e };
  alone = All-nil (λ (e : Event). e.by ≡ seat);
}

-- extending is reflexive
pub extends_refl : (h : History) → Extends h h
extends_refl h = (extends_itself 0 h).extends

-- extending is transitive
pub extends_trans : (a b c : History) → Extends a b → Extends b c → Extends a c
extends_trans a b c p q = record {
  events = (p.events.0 ++ q.events.0, q.events.1 ∙ (ap (λ z. z ++ q.events.0) p.events.1 ∙ append_assoc a.events p.events.0 q.events.0));
  sink_faults = λ run at. q.sink_faults run (p.sink_faults run at);
  halted = λ why e. q.halted why (p.halted why e);
}

-- two extensions by entries of one seat are one
pub by_trans : (seat : ℕ) (a b c : History) → ExtendsBy seat a b → ExtendsBy seat b c → ExtendsBy seat a c
unfolding extends_trans
by_trans seat a b c p q = record {
  extends = extends_trans a b c p.extends q.extends;
  alone = All-append (λ (e : Event). e.by ≡ seat) p.extends.events.0 q.extends.events.0 p.alone q.alone;
}

-- events alone are extended by an entry of the seat
pub appended_by : (seat : ℕ) (events after : List Event) (e : Event) → e.by ≡ seat → after ≡ events ++ e ∷ [] → ExtendsBy seat (events_alone events) (events_alone after)
appended_by seat events after e own more = record {
  extends = record { events = (e ∷ [], more); sink_faults = λ run c. c; halted = λ why none. none };
  alone = All-cons (λ (x : Event). x.by ≡ seat) e [] own (All-nil (λ (x : Event). x.by ≡ seat));
}

-- entries are counted list by list
pub entries-append : (seat : ℕ) (es fs : List Event) → entries seat (es ++ fs) ≡ entries seat es + entries seat fs
entries-append seat es fs = sum_by-append (λ (e : Event). cond (e.by == seat) 1 0) es fs

-- all of a seat's own events are its entries
pub entries_own : (seat : ℕ) (es : List Event) → AllBy seat es → entries seat es ≡ length es
entries_own seat [] h = refl
entries_own seat (e ∷ es) h =
    let here : (e.by == seat) ≡ true = eq-eqb e.by seat (All-head (λ (x : Event). x.by ≡ seat) e es h) in
    let one : cond {A = ℕ} (e.by == seat) 1 0 ≡ 1 = ap (λ (b : Bool). cond {A = ℕ} b 1 0) here in
    let more = sum_by-cons (λ (x : Event). cond (x.by == seat) 1 0) e es in
    let rest : count_by (λ (x : Event). x.by == seat) es ≡ length es = entries_own seat es (All-tail (λ (x : Event). x.by ≡ seat) e es h) in
    omega arith

-- and none of another seat's are
pub entries_none : (seat other : ℕ) → other ≢ seat → (es : List Event) → AllBy seat es → entries other es ≡ 0
entries_none seat other apart [] h = refl
entries_none seat other apart (e ∷ es) h =
    let here : (e.by == other) ≡ false = ne_eqb e.by other (λ same. apart (sym same ∙ All-head (λ (x : Event). x.by ≡ seat) e es h)) in
    let none : cond {A = ℕ} (e.by == other) 1 0 ≡ 0 = ap (λ (b : Bool). cond {A = ℕ} b 1 0) here in
    let more = sum_by-cons (λ (x : Event). cond (x.by == other) 1 0) e es in
    let rest : count_by (λ (x : Event). x.by == other) es ≡ 0 = entries_none seat other apart es (All-tail (λ (x : Event). x.by ≡ seat) e es h) in
    omega arith

-- the number of a seat's entries grows by those among the further events
pub entries_added : (seat : ℕ) (old new : History) (more : Extends old new) → entries_of seat new ≡ entries_of seat old + entries seat more.events.0
entries_added seat old new more = ap (entries seat) more.events.1 ∙ entries-append seat old.events more.events.0

-- it never falls
pub entries_grow : (seat : ℕ) (old new : History) → Extends old new → entries_of seat old ≤ entries_of seat new
entries_grow seat old new more = let e = entries_added seat old new more in omega arith

-- by all of the further events where they are its own
pub entries_by : (seat : ℕ) (old new : History) (more : ExtendsBy seat old new) → entries_of seat new ≡ entries_of seat old + length more.extends.events.0
entries_by seat old new more =
    let e = entries_added seat old new more.extends in
    let own = entries_own seat more.extends.events.0 more.alone in omega arith

-- not at all where they are another seat's
pub entries_others : (seat other : ℕ) (old new : History) → other ≢ seat → ExtendsBy seat old new → entries_of other new ≡ entries_of other old
entries_others seat other old new apart more =
    let e = entries_added other old new more.extends in
    let none = entries_none seat other apart more.extends.events.0 more.alone in omega arith

pub growing : EntriesGrow
growing = record { added = entries_added; own = entries_by; others = entries_others }
