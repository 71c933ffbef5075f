-- A core after one more event.
use Rattle.std.proofs.Common.{◌≡◌, ℕ, ◌∷◌, [], ◌++◌, List, append-nil, ap, sym, subst, ◌∙◌}
use Rattle.pyd_board.specs.declared.event.Act.{Act}
use Rattle.pyd_board.specs.declared.event.Event.{Event}
use Rattle.pyd_board.specs.Histories.{entries}
use Rattle.pyd_boards.specs.Boards.{entry}
use Rattle.pyd_runs.specs.Effects.{State, acted, happens}
use Rattle.pyd_runs.specs.Enabled.{CanAct, Enabled}
use Rattle.pyd_runs.specs.Following.{JournalLaw, StepLaw}
use Rattle.pyd_runs.specs.Laws.{IsRunnable}
use Rattle.pyd_runs.specs.Plans.{IsSeat, Plan}
use Rattle.pyd_runs.specs.Replay.{IsLegal, replay}
use Rattle.pyd_core.specs.declared.keeper.Core.{Core}
use Rattle.pyd_core.specs.Cores.{HasPlaces, HasRoom, IsCore, IsFew, IsTied, plan_of, state_of}
use Rattle.pyd_core.specs.Log.{IsCounted}
use Rattle.pyd_core.specs.Steps.{Makes, Stays}

-- what is needed of a core after what a seat did
pub record HasMade (c d : Core) (seat : ℕ) (act : Act) : Type 0 where
  pub plan : plan_of d ≡ plan_of c
  pub journal : d.log.journal.items
      ≡ c.log.journal.items ++ entry c.log.journal.items seat act ∷ []
  pub tied : IsTied d (acted (plan_of c) (state_of c) seat act)
  pub places : HasPlaces d
  pub counted : IsCounted d.log
  pub room : HasRoom 0 d

-- the state behind an event is tied where that of its act is: they differ in the journal alone
tied_now : (d : Core) (p : Plan) (s : State) (e : Event) → IsTied d (acted p s e.by e.act)
    → IsTied d (happens p s e)
unfolding happens
tied_now d p s e t = record {
  state = record {
    graph = t.state.graph;
    desk = t.state.desk;
    lost = t.state.lost;
    marks = t.state.marks;
    driver = t.state.driver;
  };
  end = t.end;
  losses = t.losses;
}

-- an entry that a seat makes may come where what it does may be done
pub entry_enabled : JournalLaw → (p : Plan) (es : List Event) (seat : ℕ) (act : Act)
    → IsSeat p seat → CanAct p (replay p es) seat act → Enabled p (replay p es) (entry es seat act)
entry_enabled law p es seat act is can =
    record { seat = is; nth = ap (entries seat) (sym (law p es)); act = can }

-- it is a core then
pub makes : StepLaw → JournalLaw → (c d : Core) (seat : ℕ) (act : Act) → IsCore c
    → IsSeat (plan_of c) seat → CanAct (plan_of c) (state_of c) seat act → HasMade c d seat act
    → Makes c d seat act
makes steps journals c d seat act core is can made =
    let p = plan_of c in
    let es = c.log.journal.items in
    let e : Event = entry es seat act in
    let step = steps p es e in
    let may = entry_enabled journals p es seat act is can in
    let legal = subst (λ (q : Plan). IsLegal q d.log.journal.items) (sym made.plan)
    (subst (IsLegal p) (sym made.journal) (step.legal core.legal may)) in
    let state : state_of d ≡ happens p (state_of c) e
    = ap (λ q. replay q d.log.journal.items) made.plan ∙ ap (replay p) made.journal ∙ step.state in
    record {
      core = record {
        runnable = subst IsRunnable (sym made.plan) core.runnable;
        few = subst IsFew (ap (λ (q : Plan). q.setup) (sym made.plan)) core.few;
        legal = legal;
        tied = subst (IsTied d) (sym state) (tied_now d p (state_of c) e made.tied);
        places = made.places;
        counted = made.counted;
        room = made.room;
      };
      plan = made.plan;
      journal = made.journal;
    }

-- what is needed of a core that has changed in its room alone
pub record HasStayed (c d : Core) : Type 0 where
  pub plan : plan_of d ≡ plan_of c
  pub journal : d.log.journal.items ≡ c.log.journal.items
  pub tied : IsTied d (state_of c)
  pub places : HasPlaces d
  pub counted : IsCounted d.log
  pub room : HasRoom 0 d

-- it is a core still
pub stays : (c d : Core) → IsCore c → HasStayed c d → Stays c d
stays c d core is =
    let state : state_of d ≡ state_of c
    = ap (λ q. replay q d.log.journal.items) is.plan ∙ ap (replay (plan_of c)) is.journal in
    record {
      core = record {
        runnable = subst IsRunnable (sym is.plan) core.runnable;
        few = subst IsFew (ap (λ (q : Plan). q.setup) (sym is.plan)) core.few;
        legal = subst (λ (q : Plan). IsLegal q d.log.journal.items) (sym is.plan)
            (subst (IsLegal (plan_of c)) (sym is.journal) core.legal);
        tied = subst (IsTied d) (sym state) is.tied;
        places = is.places;
        counted = is.counted;
        room = is.room;
      };
      plan = is.plan;
      journal = is.journal ∙ sym (append-nil c.log.journal.items);
    }
