use Rattle.std.proofs.Common.{rules, ◌≡◌, ◌≢◌, ◌⊎◌, ℕ, List, [], ◌∷◌, ◌++◌, Bool, true, false, None, All, if◌then◌else◌, is_ok, refl, sym, ap, ◌∙◌, subst, append-nil}
use Rattle.std.proofs.lemmas.List.Elements.{All-cons, All-nil}
use Rattle.pyd_board.specs.Histories.{ExtendsBy}
use Rattle.pyd_board.specs.declared.event.Event.{Event}
use Rattle.pyd_board.specs.declared.history.History.{History}
use Rattle.pyd_board.proofs.Extending.{extends_itself}
use Rattle.pyd_thread_tests.proofs.turn.take_turn.Goals as goal

abbrev of_events : List Event → History
of_events es = record { events = es; sink_faults = []; halted = None }

-- an event is added, or none is
grown_by : (k : ℕ) (e : Event) → e.by ≡ k → (old : List Event) (b : Bool) → ExtendsBy k (of_events old) (of_events (if b then old ++ e ∷ [] else old))
grown_by k e is old true = record {
  extends = record { events = (e ∷ [], refl); sink_faults = λ run c. c; halted = λ why h. h };
  alone = All-cons (λ (x : Event). x.by ≡ k) e [] is (All-nil (λ (x : Event). x.by ≡ k));
}
grown_by k e is old false = extends_itself k (of_events old)

pub give-requires-clause-grown : goal.give-requires-clause-grown
give-requires-clause-grown g c =
    let e : Event = record { by = c.args.by; nth = c.args.nth; act = _ } in
    let number_is = c.take-journal.ensures.same.0.number ∙ c.requires.seat.0 in
    subst (λ (z : ℕ × History × List Event). ExtendsBy z.0 z.1 (of_events z.2)) (λ i. (sym number_is i, sym c.take-journal.ensures.seen i, sym c.push.ensures.items i))
    (grown_by c.args.by e refl c.take-journal.result.events.items (is_ok c.push.result))
