-- What the first of three things leaves, and what a step does.
use Rattle.std.proofs.Common.{Global, ◌≡◌, ◌⊎◌, ℕ, List, [], ◌∷◌, ◌++◌, Bool, Result, Ok, Err, IfOk, inl, inr, refl, ap, sym, subst, ◌∙◌}
use Rattle.std.specs.Prelude.{Vec}
use Rattle.std.specs.List.{All}
use Rattle.std.proofs.lemmas.List.{append-nil}
use Rattle.std.proofs.lemmas.List.Elements.{All-nil, All-cons, All-same, All-weaker}
use Rattle.pyd_board.specs.declared.event.Event.{Event}
use Rattle.pyd_board.specs.declared.seat.Ticket.{Ticket}
use Rattle.pyd_board.specs.declared.seat.Who.{Who}
use Rattle.pyd_boards.specs.Calls.{IsIn, loses, places, refines}
use Rattle.pyd_boards.specs.Moves.{PlacesIn, RefinesIn}
use Rattle.pyd_boards.specs.declared.answers.Moved.{Moved}
use Rattle.pyd_boards.specs.declared.answers.Moved.TheVariants as moved
use Rattle.pyd_runs.specs.Deciding.{PlaceTestLaw, may_place}
use Rattle.pyd_runs.specs.Effects.{State}
use Rattle.pyd_runs.specs.Enabled.{IsUnbarred}
use Rattle.pyd_runs.specs.Facts.{IsSettle, OutputLaw}
use Rattle.pyd_runs.specs.Following.{BeginningLaw}
use Rattle.pyd_runs.specs.Laws.{RunLaw}
use Rattle.pyd_runs.specs.Plans.{Plan}
use Rattle.pyd_runs.specs.Replay.{replay}
use Rattle.pyd_core.specs.declared.keeper.Core.{Core}
use Rattle.pyd_core.specs.Cores.{IsCore, plan_of, state_of}
use Rattle.pyd_core.specs.Facts.{facts_of, may_come}
use Rattle.pyd_core.specs.Settling.{NoneSettles}
use Rattle.pyd_core.specs.Steps.{ComesBy, Stays}
use Rattle.pyd_steps.specs.declared.settling.Headed.{Headed}
use Rattle.pyd_steps.specs.declared.settling.Headed.TheVariants as headed
use Rattle.pyd_steps.specs.declared.told.Told.{Told}
use Rattle.pyd_steps.specs.Losses.{events_behind, losses_first}
use Rattle.pyd_steps.specs.Placing.{PlacesInRow, PlacesNone}
use Rattle.pyd_steps.specs.Refining.{RefinesFirst, RefinesNone}
use Rattle.pyd_steps.specs.Settling.{HeadMoves, Waits}
use Rattle.pyd_steps.specs.Stepping.{DoesFirst, DoesNext, DoesOne, GoesOn, Moves, Steps}
use Rattle.pyd_steps.proofs.Joined.{comes_from, comes_on, state_then}
use Rattle.pyd_steps.proofs.Comings.{none_lose, none_place, none_refine, none_settle}
use Rattle.pyd_steps.proofs.Printless.{no_lines, other_kind, place_or_loss, puts_none}

-- no event is by any seat
none_by : (seat : ℕ) → All (λ (e : Event). e.by ≡ seat) []
none_by seat = All-nil (λ (e : Event). e.by ≡ seat)

-- nothing may be settled
pub waits_is : (b m : Core) (seat : ℕ) (told now : Told) (h : Headed) → h ≡ headed.Waits
    → HeadMoves b m seat told now h → Waits b m told now
waits_is b m seat told now h is moves = subst (HeadMoves b m seat told now) is moves

-- then what is done is the next thing
next_first : (b m c : Core) (who : Who) (told now : Told) (answer : Moved)
    → Waits b m told now → DoesNext m c who answer → DoesFirst b c who told now answer
next_first b m c who told now answer waits does =
    let is = does told in
    subst (λ (t : Told). DoesFirst b c who told t answer) (sym waits.same) (record {
      own = is.own;
      by = is.by;
      comes = comes_from b m waits.stays c is.own is.comes;
      does =
          subst (λ (js : List Event). DoesOne (plan_of b) who js is.own told told answer)
          (waits.stays.journal ∙ append-nil b.log.journal.items)
          (subst (λ (p : Plan). DoesOne p who m.log.journal.items is.own told told answer)
          waits.stays.plan is.does);
    })

-- so it is of each answer
pub then_first : {E : Type 0} (b m c : Core) (who : Who) (told now : Told) (h : Headed)
    (r : Result Moved E) → HeadMoves b m who.seat told now h → h ≡ headed.Waits
    → IfOk r (DoesNext m c who) → IfOk r (DoesFirst b c who told now)
then_first b m c who told now h (Ok answer) moves is does =
    next_first b m c who told now answer (waits_is b m who.seat told now h is moves) does
then_first b m c who told now h (Err e) moves is does = tt

module _ (outputs : OutputLaw) (beginning : BeginningLaw) (b c : Core) (who : Who)
    (tickets : Vec Ticket Global) where
  -- without a Settle no line goes out
  lineless : (own : List Event) → All (λ (e : Event). IsSettle e.act → ⊥) own
      → (replay (plan_of b) (b.log.journal.items ++ own)).graph.out
      ≡ (state_of b).graph.out ++ []
  lineless own none = no_lines outputs beginning (plan_of b) b.log.journal.items own none

  -- a composite was refined
  pub refined_next : RefinesFirst b c who.seat → tickets.items ≡ []
      → DoesNext b c who (moved.Did tickets)
  refined_next is none told = record {
    own = is.own;
    by = is.by;
    comes = is.comes;
    does = record {
      thing = inr (inl (subst (RefinesIn (facts_of (plan_of b)) (may_come (plan_of b)) 0
          b.log.journal.items is.own) (sym none) is.refines));
      lines = [];
      out = lineless is.own
          (All-same (λ (e : Event). IsSettle e.act → ⊥) is.own (is.refines.refined ∷ [])
          is.refines.acts
          (All-cons (λ (e : Event). IsSettle e.act → ⊥) is.refines.refined []
          (other_kind is.refines.refined refines is.refines.is_refine.of_kind (λ same. cc (same)))
          (All-nil (λ (e : Event). IsSettle e.act → ⊥))));
      puts = puts_none told;
    };
  }

  -- nodes were placed
  module _ (m : Core) (still : Stays b m) where
    -- of the core before, too
    placed_from : (own : List Event)
        → PlacesIn (facts_of (plan_of m)) (may_come (plan_of m)) 0 m.log.journal.items own tickets.items
        → PlacesIn (facts_of (plan_of b)) (may_come (plan_of b)) 0 b.log.journal.items own tickets.items
    placed_from own is =
        subst (λ (es : List Event). PlacesIn (facts_of (plan_of b)) (may_come (plan_of b)) 0 es own
        tickets.items) (still.journal ∙ append-nil b.log.journal.items)
        (subst (λ (p : Plan). PlacesIn (facts_of p) (may_come p) 0 m.log.journal.items own
        tickets.items) still.plan is)

    pub placed_next : PlacesInRow m c who.seat tickets.items
        → DoesNext b c who (moved.Did tickets)
    placed_next is told =
        let p = plan_of b in
        let in_row = placed_from is.own is.places in
        record {
          own = is.own;
          by = is.by;
          comes = comes_from b m still c is.own is.comes;
          does = record {
            thing = inr (inr in_row);
            lines = [];
            out = lineless is.own
                (All-same (λ (e : Event). IsSettle e.act → ⊥) is.own
                (in_row.first ∷ in_row.more) in_row.acts
                (All-cons (λ (e : Event). IsSettle e.act → ⊥) in_row.first in_row.more
                (place_or_loss p in_row.first (inl in_row.is_place))
                (All-weaker
                (λ (e : Event). IsIn (facts_of p) places 0 e ⊎ IsIn (facts_of p) loses 0 e)
                (λ (e : Event). IsSettle e.act → ⊥) (place_or_loss p) in_row.more
                in_row.are_places)));
            puts = puts_none told;
          };
        }

-- none of the three was done
pub nothing_next : PlaceTestLaw → RunLaw → (b m c : Core) (who : Who) → IsCore b
    → NoneSettles (state_of b) → RefinesNone b m → PlacesNone m c → DoesNext b c who moved.Nothing
nothing_next tests run b m c who core no_settle no_refine no_place told =
    let p = plan_of b in
    let es = b.log.journal.items in
    let same : state_of m ≡ state_of b
    = state_then b m [] no_refine.stays ∙ ap (replay p) (append-nil es) in
    record {
      own = [];
      by = none_by who.seat;
      comes = comes_from b m no_refine.stays c [] no_place.stays;
      does = record {
        no_settle = none_settle p es no_settle;
        no_refine = none_refine p es no_refine.none;
        no_place = none_place p es tests (run p es core.runnable core.legal)
            (λ k. ap (λ (s : State). may_place s k) (sym same) ∙ no_place.none k);
        rests = record { none = refl; same = refl };
      };
    }

-- a step, behind the losses that are due
pub steps_on : (halted : Bool) (b c d : Core) (who : Who) (told now : Told) (answer : Moved)
    → ComesBy b c (losses_first who.seat b) → IsUnbarred (state_of c)
    → GoesOn halted c d who told now answer → Steps halted b d who told now answer
steps_on halted b c d who told now answer comes unbarred is =
    let es = losses_first who.seat b in
    record {
      own = is.own;
      by = is.by;
      comes = comes_on b c es comes d is.own is.comes;
      none_due = none_lose (plan_of b) (events_behind who.seat b)
          (subst IsUnbarred (state_then b c es comes) unbarred);
      moves =
          subst (λ (js : List Event). Moves (plan_of b) who js is.own told now halted answer)
          comes.journal
          (subst (λ (p : Plan). Moves p who c.log.journal.items is.own told now halted answer)
          comes.plan is.moves);
    }
