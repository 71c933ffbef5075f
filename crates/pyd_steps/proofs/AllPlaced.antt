-- All nodes that may be placed were gone through in a row.
use Rattle.std.proofs.Common.{◌≡◌, ℕ, suc, List, [], ◌++◌, length, true, false, ◌⊎◌, inl, inr, refl, ap, sym, subst, ◌∙◌}
use Rattle.std.specs.List.{All, Any}
use Rattle.std.proofs.lemmas.List.Elements.{All-tail, All-weaker}
use Rattle.pyd_board.specs.declared.event.Act.{Act}
use Rattle.pyd_board.specs.declared.event.Act.TheVariants.{Place, Claim, Finish, Drop, Refine, Settle, Lose, Trim}
use Rattle.pyd_board.specs.declared.event.Event.{Event}
use Rattle.pyd_board.specs.declared.seat.Ticket.{Ticket}
use Rattle.pyd_board.specs.Histories.{entries}
use Rattle.pyd_boards.specs.Boards.{entry}
use Rattle.pyd_boards.specs.Calls.{IsIn, kind_of, loses, number_of, places}
use Rattle.pyd_boards.specs.Moves.{ComeDue, CouldPlace, IsServed}
use Rattle.pyd_runs.specs.Deciding.{PlaceTestLaw, may_place}
use Rattle.pyd_runs.specs.Effects.{State}
use Rattle.pyd_runs.specs.Enabled.{CanAct, CanPlace, IsQuiet}
use Rattle.pyd_runs.specs.Following.{JournalLaw, StepLaw}
use Rattle.pyd_runs.specs.Laws.{RunLaw}
use Rattle.pyd_runs.specs.Plans.{IsSeat, Plan}
use Rattle.pyd_runs.specs.Records.{is_ready}
use Rattle.pyd_runs.specs.Replay.{replay}
use Rattle.pyd_runs.specs.Sound.{IsSound}
use Rattle.pyd_core.specs.declared.keeper.Core.{Core}
use Rattle.pyd_core.specs.Cores.{IsCore, plan_of, state_of}
use Rattle.pyd_core.specs.Facts.{facts_of, may_come}
use Rattle.pyd_core.specs.Refining.{NoneRefinable}
use Rattle.pyd_core.specs.Settling.{NoneSettles}
use Rattle.pyd_steps.specs.Placing.{PlacesInRow}
use Rattle.pyd_steps.proofs.Comings.{none_refine, none_settle}
use Rattle.pyd_steps.proofs.Row.{HasPlaced, IsBegun}
use Rattle.pyd_steps.proofs.Served.{IsInRow, none_after, row_leaves}
use Rattle.pyd_steps.proofs.Spared.{is_ready_then, stores_behind}

-- an attempt of a node may be placed
pub record Placeable (p : Plan) (s : State) (k : ℕ) : Type 0 where
  pub attempt : ℕ
  pub machine : ℕ
  pub quiet : IsQuiet s
  pub can : CanPlace p s k attempt machine

-- so it is of an act that places it
placeable_of : (p : Plan) (s : State) (seat : ℕ) (act : Act) → kind_of act ≡ places
    → CanAct p s seat act → Placeable p s (number_of act)
placeable_of p s seat (Place k attempt machine) is can =
    record { attempt = attempt; machine = machine; quiet = can.0; can = can.1 }
placeable_of p s seat (Claim k attempt machine) is can = absurd (cc (is))
placeable_of p s seat (Finish k attempt machine) is can = absurd (cc (is))
placeable_of p s seat (Drop k attempt machine) is can = absurd (cc (is))
placeable_of p s seat (Refine k) is can = absurd (cc (is))
placeable_of p s seat (Settle k) is can = absurd (cc (is))
placeable_of p s seat (Lose machine) is can = absurd (cc (is))
placeable_of p s seat (Trim k) is can = absurd (cc (is))

-- one that isn't ready behind the losses that are due can't be
never_placed : (p : Plan) (s : State) (k : ℕ) → is_ready_then s k ≡ false
    → Placeable p s k → ⊥
never_placed p s k never may =
    let not : is_ready s.graph s.desk.stores k ≡ false
    = ap (λ ms. is_ready s.graph (stores_behind ms s.desk.stores) k)
    (sym (none_after (length s.journal) s.losses may.quiet.none_due)) ∙ never in
    let ready = may.can.is_ready in
    cc (not, ready)

-- the laws that this stands on
pub record PlacedLaws : Type 0 where
  pub journal : JournalLaw
  pub step : StepLaw
  pub run : RunLaw
  pub place : PlaceTestLaw

-- what was so before any node was placed
pub record MayPlaceAll (c : Core) (seat : ℕ) : Type 0 where
  pub core : IsCore c
  pub quiet : IsQuiet (state_of c)
  pub is_seat : IsSeat (plan_of c) seat
  pub no_settle : NoneSettles (state_of c)
  pub no_refine : NoneRefinable c

module _ (laws : PlacedLaws) (c : Core) (by : ℕ) (may : MayPlaceAll c by) where
  abbrev p : Plan
  p = plan_of c

  abbrev s : State
  s = state_of c

  abbrev es : List Event
  es = c.log.journal.items

  sound : IsSound p s
  sound = laws.run p es may.core.runnable may.core.legal

  -- a node that may be placed could be placed by an event
  could : (t : Ticket) → may_place s t.node ≡ true
      → CouldPlace (facts_of p) (may_come p) 0 es t
  could t is =
      let machine = sound.survivor.machine in (
        entry es by (Place t.node (suc (s.desk.places t.node)) machine),
        (
          (
            may.core.runnable,
            record {
              seat = may.is_seat;
              nth = ap (entries by) (sym (laws.journal p es));
              act = (may.quiet, (laws.place p s t.node sound).may is machine sound.survivor.lives);
            },
          ),
          record { of_kind = refl; in_run = refl },
          refl,
        ),
      )

  module _ (d : Core) (ks : List ℕ) (tickets : List Ticket)
      (all : HasPlaced by ks [] c d tickets) where
    -- one that isn't ready never is again
    never_again : (k : ℕ) (due : List Event)
        → ComeDue (facts_of p) (may_come p) 0 (es ++ all.own) due
        → is_ready_then (state_of d) k ≡ false
        → is_ready_then (replay p ((es ++ all.own) ++ due)) k ≡ false
    never_again k due come is =
        row_leaves laws.step p k (es ++ all.own) due
        (All-weaker (IsIn (facts_of p) loses 0) (IsInRow p) (λ e lost. inr lost) due
        come.0.are_losses)
        come.1
        (ap (λ t. is_ready_then t k)
        (sym (ap (λ (q : Plan). replay q d.log.journal.items) all.comes.plan
        ∙ ap (replay p) all.comes.journal))
        ∙ is)

    served_by : (k : ℕ) (due : List Event)
        → ComeDue (facts_of p) (may_come p) 0 (es ++ all.own) due → (e : Event)
        → k ≡ number_of e.act
        → Any (λ (t : Ticket). t.node ≡ k) tickets
        ⊎ ((is_ready_then (state_of d) k ≡ false) ⊎ (false ≡ true))
        → IsServed (facts_of p) (may_come p) 0 ((es ++ all.own) ++ due) tickets e
    served_by k due come e same (inl has) =
        inl (subst (λ n. Any (λ (t : Ticket). t.node ≡ n) tickets) same has)
    served_by k due come e same (inr (inl never)) =
        inr (λ later comes is number.
        never_placed p (replay p ((es ++ all.own) ++ due)) k
        (never_again k due come never)
        (subst (Placeable p (replay p ((es ++ all.own) ++ due))) (number ∙ sym same)
        (placeable_of p (replay p ((es ++ all.own) ++ due)) later.by later.act is.of_kind
        comes.1.act)))
    served_by k due come e same (inr (inr none)) = absurd (cc (none))

    serves : (due : List Event) → ComeDue (facts_of p) (may_come p) 0 (es ++ all.own) due
        → (e : Event) → may_come p es e → IsIn (facts_of p) places 0 e
        → IsServed (facts_of p) (may_come p) 0 ((es ++ all.own) ++ due) tickets e
    serves due come e comes is =
        let k = number_of e.act in
        let of = placeable_of p s e.by e.act is.of_kind comes.1.act in
        served_by k due come e refl
        (all.served k ((laws.place p s k sound).only of.attempt of.machine of.can))

    begun_of : (ks ≡ [] → ⊥)
        → ((all.own ≡ []) × ([] ≡ ks)) ⊎ IsBegun p all.own → IsBegun p all.own
    begun_of some (inl none) = absurd (some (sym none.1))
    begun_of some (inr begun) = begun

    -- they were placed in a row
    pub placed_in_row : (ks ≡ [] → ⊥) → PlacesInRow c d by tickets
    placed_in_row some =
        let begun = begun_of some all.begun in
        record {
          own = all.own;
          comes = all.comes;
          by = all.by;
          places = record {
            first = begun.first;
            more = begun.more;
            acts = begun.acts;
            is_place = begun.is_place;
            ends = begun.ends;
            are_places = All-tail (IsInRow p) begun.first begun.more
                (subst (All (IsInRow p)) begun.acts all.in_row);
            no_settle = none_settle p es may.no_settle;
            no_refine = none_refine p es may.no_refine;
            answers = all.answers;
            in_order = all.rising;
            from = All-weaker (λ (t : Ticket). may_place s t.node ≡ true)
                (CouldPlace (facts_of p) (may_come p) 0 es) could tickets all.from;
            served = serves;
          };
        }
