-- A core with one entry more, of which the desk alone has changed beside the journal.
use Rattle.std.proofs.Common.{◌≡◌, ◌≤◌, ◌*◌, ℕ, suc, [], ◌∷◌, ◌++◌, drop, length, length-append, vec_capacity, ap, sym, subst, ◌∙◌, arith}
use Rattle.pyd_board.specs.declared.event.Act.{Act}
use Rattle.pyd_boards.specs.Boards.{entry}
use Rattle.pyd_runs.specs.Effects.{State, acted}
use Rattle.pyd_runs.specs.Enabled.{CanAct}
use Rattle.pyd_runs.specs.Following.{JournalLaw, StepLaw}
use Rattle.pyd_runs.specs.Plans.{IsSeat, Plan}
use Rattle.pyd_desk.specs.declared.line.Line.{Line}
use Rattle.pyd_desk.specs.States.{HasSameMachines, IsStateOf}
use Rattle.pyd_core.specs.declared.keeper.Core.{Core}
use Rattle.pyd_core.specs.Cores.{HasPlaces, HasRoom, IsCore, IsTied, plan_of, state_of}
use Rattle.pyd_core.specs.Log.{IsCounted}
use Rattle.pyd_core.specs.Steps.{Makes, UsesRoom}
use Rattle.pyd_core.proofs.Stepped.{makes}

-- a core with one entry more, and all else but its desk as before
pub record HasNoted (c d : Core) (seat : ℕ) (act : Act) : Type 0 where
  pub plan : plan_of d ≡ plan_of c
  pub line : d.line ≡ c.line
  pub lost : d.lost ≡ c.lost
  pub end : d.end ≡ c.end
  pub journal : d.log.journal.items
      ≡ c.log.journal.items ++ entry c.log.journal.items seat act ∷ []
  pub counted : IsCounted d.log
  pub seats : length d.log.counts.items ≡ length c.log.counts.items
  pub capacity : vec_capacity d.log.journal ≡ vec_capacity c.log.journal
  pub machines : HasSameMachines c.desk d.desk

-- a state whose run is as far from its end, and from the losses to come, as another's
pub record IsAsFar (s t : State) : Type 0 where
  pub end : t.graph.end ≡ s.graph.end
  pub losses : t.losses ≡ s.losses

module _ (c d : Core) (seat : ℕ) (act : Act) (noted : HasNoted c d seat act) where
  -- room for one entry is used then
  pub room_used : UsesRoom c d
  room_used n room =
      let entries = ap length noted.journal
      ∙ length-append c.log.journal.items (entry c.log.journal.items seat act ∷ []) in
      let losses : length (drop d.lost d.setup.losses) ≡ length (drop c.lost c.setup.losses)
      = ap (λ i. length (drop i d.setup.losses)) noted.lost
      ∙ ap (λ (p : Plan). length (drop c.lost p.setup.losses)) noted.plan in
      let capacity = noted.capacity in
      omega (arith, room, entries, losses, capacity)

  -- the places are there still
  places_kept : HasPlaces c → HasPlaces d
  places_kept places = record {
    settled = subst (λ (line : Line). line.settled ≤ length line.nodes.items) (sym noted.line)
        places.settled;
    stores = noted.machines.stores ∙ places.stores
        ∙ ap (λ (p : Plan). p.setup.machines) (sym noted.plan);
    alive = noted.machines.alive ∙ places.alive
        ∙ ap (λ (p : Plan). p.setup.machines) (sym noted.plan);
    seats = noted.seats ∙ places.seats
        ∙ ap (λ (p : Plan). suc (p.setup.machines * p.setup.workers)) (sym noted.plan);
  }

  -- it keeps what a state has, where its desk does
  tied_on : (s t : State) → IsTied c s → IsAsFar s t → IsStateOf c.line d.desk t → IsTied d t
  tied_on s t tied far state = record {
    state = subst (λ (line : Line). IsStateOf line d.desk t) (sym noted.line) state;
    end = far.end ∙ tied.end ∙ sym noted.end;
    losses = far.losses ∙ tied.losses ∙ ap (λ i. drop i c.setup.losses) (sym noted.lost)
        ∙ ap (λ (p : Plan). drop d.lost p.setup.losses) (sym noted.plan);
  }

  -- it is a core then
  pub notes : StepLaw → JournalLaw → IsCore c → HasRoom 1 c → IsSeat (plan_of c) seat
      → CanAct (plan_of c) (state_of c) seat act
      → IsAsFar (state_of c) (acted (plan_of c) (state_of c) seat act)
      → IsStateOf c.line d.desk (acted (plan_of c) (state_of c) seat act)
      → Makes c d seat act
  notes step journal core room seated can far state =
      makes step journal c d seat act core seated can (record {
        plan = noted.plan;
        journal = noted.journal;
        tied = tied_on (state_of c) _ core.tied far state;
        places = places_kept core.places;
        counted = noted.counted;
        room = room_used 0 room;
      })
