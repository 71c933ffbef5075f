-- A core of which nothing but room has changed.
use Rattle.std.proofs.Common.{◌≡◌, length, get_or, None, option_map, append-nil, refl, ap, sym, subst, ◌∙◌}
use Rattle.pyd_runs.specs.Effects.{State}
use Rattle.pyd_desk.specs.declared.desk.Desk.{Desk}
use Rattle.pyd_desk.specs.declared.line.Line.{Line}
use Rattle.pyd_desk.specs.Desks.{claim_by, desk_of, driver_of, is_lost, kept_in, mark_at, placed_of, undone_by, undone_in}
use Rattle.pyd_desk.specs.Lines.{TellsPorts}
use Rattle.pyd_desk.specs.States.{IsSameDesk, IsStateOf}
use Rattle.pyd_core.specs.declared.keeper.Core.{Core}
use Rattle.pyd_core.specs.Cores.{IsCore, state_of}
use Rattle.pyd_core.specs.Steps.{Stays}
use Rattle.pyd_core.proofs.Stepped.{stays}

-- where a core stays, and what it has become stays too, it stays
module _ (b c : Core) (is : Stays b c) where
  entries_still : c.log.journal.items ≡ b.log.journal.items
  entries_still = is.journal ∙ append-nil b.log.journal.items

  pub stays_on : (d : Core) → Stays c d → Stays b d
  stays_on d next = record {
    core = next.core;
    plan = next.plan ∙ is.plan;
    journal = next.journal ∙ append-nil c.log.journal.items ∙ is.journal;
  }

module _ (d e : Desk) (same : IsSameDesk d e) where
  -- a desk as it was, but for room, has the same machines
  alive_still : d.alive.items ≡ e.alive.items
  alive_still = sym (ap (λ v. v.items) same.alive)

  -- it stands for the same
  desk_still : desk_of d ≡ desk_of e
  desk_still =
      let marks : d.marks.items ≡ e.marks.items = sym same.marks in
      let stores : d.stores.items ≡ e.stores.items = sym same.stores in
      let undone : d.undone.items ≡ e.undone.items = sym same.undone in
      λ i. record {
        stores = λ k. kept_in (stores i) k (mark_at (marks i) k).machine;
        places = λ k. (mark_at (marks i) k).places;
        ticket = λ k. option_map placed_of (mark_at (marks i) k).ticket;
        claim = λ k. claim_by (alive_still i) (mark_at (marks i) k).claim;
        undone = λ k attempt. undone_by (alive_still i) attempt (mark_at (marks i) k).claim
            (undone_in (undone i) k attempt);
      }

  -- the driver keeps the same
  driver_still : driver_of d ≡ driver_of e
  driver_still = let driver : d.driver.items ≡ e.driver.items = sym same.driver in
      λ i k. get_or (driver i) k None

  -- so it is of the same state
  pub state_of_same : (line : Line) (s : State) → IsStateOf line d s → IsStateOf line e s
  state_of_same line s is = record {
    graph = record {
      past = is.graph.past;
      chain = is.graph.chain;
      driver = is.graph.driver ∙ driver_still;
      ports = subst (TellsPorts line.nodes.items) (sym same.marks) is.graph.ports;
    };
    desk = is.desk ∙ desk_still;
    lost = is.lost ∙ ap is_lost alive_still;
    marks = ap length same.marks ∙ is.marks;
    driver = ap length same.driver ∙ is.driver;
  }

-- a core with such a desk in place of its own stays
pub stays_with : (c : Core) (e : Desk) → IsSameDesk c.desk e → IsCore c
    → Stays c (record c { desk = e })
stays_with c e same core =
    stays c (record c { desk = e }) core (record {
      plan = refl;
      journal = refl;
      tied = record {
        state = state_of_same c.desk e same c.line (state_of c) core.tied.state;
        end = core.tied.end;
        losses = core.tied.losses;
      };
      places = record {
        settled = core.places.settled;
        stores = ap length same.stores ∙ core.places.stores;
        alive = ap length (sym (alive_still c.desk e same)) ∙ core.places.alive;
        seats = core.places.seats;
      };
      counted = core.counted;
      room = core.room;
    })
