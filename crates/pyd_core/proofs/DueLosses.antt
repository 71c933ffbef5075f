-- A core behind losses by a seat.
use Rattle.std.proofs.Common.{◌≡◌, ℕ, List, [], ◌∷◌, ◌++◌, append_assoc, append-nil, false, cond, Option, Some, None, is_some, refl, ap, sym, subst, ◌∙◌}
use Rattle.std.specs.List.{All}
use Rattle.std.proofs.lemmas.List.Elements.{All-nil, All-push}
use Rattle.pyd_board.specs.declared.event.Act.TheVariants.{Lose}
use Rattle.pyd_board.specs.declared.event.Event.{Event}
use Rattle.pyd_boards.specs.Boards.{entry}
use Rattle.pyd_runs.specs.Effects.{State, happens}
use Rattle.pyd_runs.specs.Enabled.{CanLose, IsLoss, due}
use Rattle.pyd_runs.specs.Facts.{DeskLaw}
use Rattle.pyd_runs.specs.Following.{BeginningLaw, JournalLaw, StepLaw}
use Rattle.pyd_runs.specs.NextLosses.{OnlyDueLaw, due_losses}
use Rattle.pyd_runs.specs.Replay.{IsLegal, after, replay}
use Rattle.pyd_runs.proofs.NextLost.{all_first}
use Rattle.pyd_core.specs.declared.keeper.Core.{Core}
use Rattle.pyd_core.specs.Cores.{IsCore, plan_of, state_of}
use Rattle.pyd_core.specs.Losing.{losses_by}
use Rattle.pyd_core.specs.Steps.{ComesBy, KeepsRoom, Makes}

-- a core in which the run goes on, behind losses by a seat
pub record HasLost (seat : ℕ) (c d : Core) : Type 0 where
  pub core : IsCore d
  pub plan : plan_of d ≡ plan_of c
  pub goes_on : (state_of d).graph.end ≡ None
  pub events : List Event
  pub journal : d.log.journal.items ≡ c.log.journal.items ++ events
  pub losses : All (λ (e : Event). IsLoss e.act) events
  pub own : All (λ (e : Event). e.by ≡ seat) events
  pub room : KeepsRoom c d

-- none at first
pub none_lost : (seat : ℕ) (c : Core) → IsCore c → (state_of c).graph.end ≡ None
    → HasLost seat c c
none_lost seat c core on = record {
  core = core;
  plan = refl;
  goes_on = on;
  events = [];
  journal = sym (append-nil c.log.journal.items);
  losses = All-nil (λ (e : Event). IsLoss e.act);
  own = All-nil (λ (e : Event). e.by ≡ seat);
  room = λ n room. room;
}

module _ (seat : ℕ) (c d : Core) (has : HasLost seat c d) where
  -- the seat may append one that is due
  pub may_lose : JournalLaw → (machine : ℕ)
      → (All (λ (e : Event). IsLoss e.act) c.log.journal.items → seat ≡ 0)
      → due (state_of d) ≡ Some machine → CanLose (state_of d) seat machine
  may_lose journals machine driver is_due = record {
    goes_on = has.goes_on;
    is_due = is_due;
    by = λ all. driver (all_first (λ (e : Event). IsLoss e.act) c.log.journal.items has.events
        (subst (All (λ (e : Event). IsLoss e.act)) has.journal
        (subst (All (λ (e : Event). IsLoss e.act))
        (journals (plan_of d) d.log.journal.items) all)));
  }

  -- one more
  pub one_more : StepLaw → DeskLaw → (machine : ℕ) (e : Core) → Makes d e seat (Lose machine)
      → KeepsRoom d e → HasLost seat c e
  one_more steps desks machine e made room =
      let v : Event = entry d.log.journal.items seat (Lose machine) in
      let step = steps (plan_of d) d.log.journal.items v in
      let state : state_of e ≡ happens (plan_of d) (state_of d) v
      = ap (λ p. replay p e.log.journal.items) made.plan
      ∙ ap (replay (plan_of d)) made.journal ∙ step.state in
      let alike = desks (plan_of d) (state_of d) v tt in
      record {
        core = made.core;
        plan = made.plan ∙ has.plan;
        goes_on = ap (λ (s : State). s.graph.end) state ∙ alike.end ∙ has.goes_on;
        events = has.events ++ v ∷ [];
        journal = made.journal ∙ ap (λ js. js ++ v ∷ []) has.journal
            ∙ append_assoc c.log.journal.items has.events (v ∷ []);
        losses = All-push (λ (e : Event). IsLoss e.act) has.events v has.losses tt;
        own = All-push (λ (e : Event). e.by ≡ seat) has.events v has.own refl;
        room = λ n was. room n (has.room n was);
      }

  -- where none is due any more, they are those that were due
  pub all_lost : BeginningLaw → OnlyDueLaw → due (state_of d) ≡ None
      → ComesBy c d (due_losses seat (state_of c))
  all_lost beginnings only none =
      let p = plan_of c in
      let legal : IsLegal p (c.log.journal.items ++ has.events)
      = subst (IsLegal p) has.journal
      (subst (λ q. IsLegal q d.log.journal.items) has.plan has.core.legal) in
      let behind = beginnings p c.log.journal.items has.events in
      let state : state_of d ≡ after p (state_of c) has.events
      = ap (λ q. replay q d.log.journal.items) has.plan ∙ ap (replay p) has.journal
      ∙ behind.state in
      let same : has.events ≡ due_losses seat (state_of c)
      = only p (state_of c) seat has.events (behind.behind legal) has.losses has.own
      (ap due (sym state) ∙ none) in
      record {
        core = has.core;
        plan = has.plan;
        journal = has.journal ∙ ap (λ es. c.log.journal.items ++ es) same;
      }

-- what isn't there is none
none_is : {A : Type 0} (o : Option A) → false ≡ is_some o → o ≡ None
none_is None is = refl
none_is (Some a) is = absurd (cc (is))

module _ (seat : ℕ) (c : Core) where
  -- where no end is there, the run goes on
  pub goes_on : false ≡ is_some (state_of c).graph.end → (state_of c).graph.end ≡ None
  goes_on on = none_is (state_of c).graph.end on

  -- then the losses are those that are due
  pub losses_come : (d : Core) → false ≡ is_some (state_of c).graph.end
      → ComesBy c d (due_losses seat (state_of c)) → ComesBy c d (losses_by seat (state_of c))
  losses_come d on come =
      subst (ComesBy c d) (ap (λ b. cond b [] (due_losses seat (state_of c))) on) come
