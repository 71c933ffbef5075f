-- A run that goes on behind events.
use Rattle.std.proofs.Common.{◌≡◌, ℕ, List, [], ◌∷◌, ◌++◌, append_assoc, append-nil, None, refl, ap, sym, subst, ◌∙◌}
use Rattle.pyd_board.specs.declared.event.Act.{Act}
use Rattle.pyd_board.specs.declared.event.Event.{Event}
use Rattle.pyd_boards.specs.Boards.{entry}
use Rattle.pyd_runs.specs.Effects.{State, happens}
use Rattle.pyd_runs.specs.Enabled.{Enabled, due}
use Rattle.pyd_runs.specs.Facts.{IsSettle, OutputLaw}
use Rattle.pyd_runs.specs.Following.{BeginningLaw, JournalLaw, StepLaw}
use Rattle.pyd_runs.specs.Plans.{Plan}
use Rattle.pyd_runs.specs.Replay.{IsLegal, after, replay}
use Rattle.pyd_meaning.specs.Module.{bytes_of}
use Rattle.pyd_core.specs.declared.keeper.Core.{Core}
use Rattle.pyd_core.specs.Cores.{IsCore, plan_of, state_of}
use Rattle.pyd_core.specs.Steps.{ComesBy, Makes}
use Rattle.pyd_steps.specs.declared.told.Told.{Told}
use Rattle.pyd_steps.specs.Sinks.{Puts}
use Rattle.pyd_here.specs.Asked.{Asks, Follows, IsAsked, left_by, seat_for}
use Rattle.pyd_here.specs.Going.{GoesOn}
use Rattle.pyd_here.proofs.Sunk.{puts_none, puts_then}

-- events asked for behind others
pub follows_then : (p : Plan) (s : State) (choices mid rest : List ℕ) (es more : List Event)
    → Follows p s choices es mid → Follows p (after p s es) mid more rest
    → Follows p s choices (es ++ more) rest
unfolding after
follows_then p s choices mid rest [] more are then =
    subst (λ cs. Follows p s cs more rest) are then
follows_then p s choices mid rest (e ∷ es) more are then = (
  are.0,
  follows_then p (happens p s e) (left_by (due s) choices) mid rest es more are.1 then,
)

-- the state behind events
pub state_behind : BeginningLaw → (a b : Core) (es : List Event) → ComesBy a b es
    → state_of b ≡ after (plan_of a) (state_of a) es
state_behind beginnings a b es come =
    ap (λ q. replay q b.log.journal.items) come.plan ∙ ap (replay (plan_of a)) come.journal
    ∙ (beginnings (plan_of a) a.log.journal.items es).state

-- a core behind events and more
pub comes_then : (a b c : Core) (es more : List Event) → ComesBy a b es → ComesBy b c more
    → ComesBy a c (es ++ more)
comes_then a b c es more one two = record {
  core = two.core;
  plan = two.plan ∙ one.plan;
  journal = two.journal ∙ ap (λ js. js ++ more) one.journal
      ∙ append_assoc a.log.journal.items es more;
}

-- nothing yet
pub goes_none : (c : Core) (told : Told) (choices : List ℕ) → IsCore c
    → GoesOn c c told told choices choices
goes_none c told choices core = record {
  events = [];
  comes = record { core = core; plan = refl; journal = sym (append-nil c.log.journal.items) };
  follows = refl;
  lines = [];
  out = sym (append-nil (state_of c).graph.out);
  puts = puts_none told;
}

-- a run that went on, and then went on
pub goes_then : BeginningLaw → (a b c : Core) (told between now : Told)
    (choices mid rest : List ℕ) → GoesOn a b told between choices mid
    → GoesOn b c between now mid rest → GoesOn a c told now choices rest
goes_then beginnings a b c told between now choices mid rest one two = record {
  events = one.events ++ two.events;
  comes = comes_then a b c one.events two.events one.comes two.comes;
  follows = follows_then (plan_of a) (state_of a) choices mid rest one.events two.events
      one.follows
      (subst (λ s. Follows (plan_of a) s mid two.events rest)
      (state_behind beginnings a b one.events one.comes)
      (subst (λ q. Follows q (state_of b) mid two.events rest) one.comes.plan two.follows));
  lines = one.lines ++ two.lines;
  out = two.out ∙ ap (λ out. out ++ two.lines) one.out
      ∙ append_assoc (state_of a).graph.out one.lines two.lines;
  puts = puts_then told between now one.lines two.lines one.puts two.puts;
}

module _ (steps : StepLaw) (c d : Core) (seat : ℕ) (act : Act) (made : Makes c d seat act) where
  abbrev e : Event
  e = entry c.log.journal.items seat act

  -- the state behind one event
  pub state_then : state_of d ≡ happens (plan_of c) (state_of c) e
  state_then =
      ap (λ q. replay q d.log.journal.items) made.plan ∙ ap (replay (plan_of c)) made.journal
      ∙ (steps (plan_of c) c.log.journal.items e).state

  -- it could come
  pub may_come : Enabled (plan_of c) (state_of c) e
  may_come =
      (steps (plan_of c) c.log.journal.items e).enabled
      (subst (IsLegal (plan_of c)) made.journal
      (subst (λ (q : Plan). IsLegal q d.log.journal.items) made.plan made.core.legal))

  -- only a Settle puts lines out
  pub same_out : OutputLaw → (IsSettle act → ⊥) → (state_of d).graph.out ≡ (state_of c).graph.out
  same_out outputs other =
      ap (λ (s : State). s.graph.out) state_then
      ∙ (outputs (plan_of c) (state_of c) e).by_settle other

  module _ (journals : JournalLaw) (choices : List ℕ)
      (on : (state_of c).graph.end ≡ None)
      (asks : Asks (plan_of c) (state_of c) (due (state_of c)) choices act)
      (by : seat ≡ seat_for (plan_of c) (state_of c) act) where
    is_asked : IsAsked (plan_of c) (state_of c) choices e
    is_asked =
        let same = sym (journals (plan_of c) c.log.journal.items) in
        record {
          goes_on = on;
          asks = asks;
          event = λ i. entry (same i) (by i) act;
        }

    -- a run goes on by an event that is asked for
    pub goes_by : (told now : Told) (lines : List (List ℕ))
        → (state_of d).graph.out ≡ (state_of c).graph.out ++ lines → Puts told (bytes_of lines) now
        → GoesOn c d told now choices (left_by (due (state_of c)) choices)
    goes_by told now lines out puts = record {
      events = e ∷ [];
      comes = made;
      follows = (is_asked, refl);
      lines = lines;
      out = out;
      puts = puts;
    }

    -- and puts nothing out where it is no Settle
    pub goes_silent : OutputLaw → (IsSettle act → ⊥) → (told : Told)
        → GoesOn c d told told choices (left_by (due (state_of c)) choices)
    goes_silent outputs other told =
        goes_by told told []
        (same_out outputs other ∙ sym (append-nil (state_of c).graph.out)) (puts_none told)
