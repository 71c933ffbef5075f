-- A core once the losses that are due came and a node was placed.
use Rattle.std.proofs.Common.{◌≡◌, ◌≢◌, ℕ, suc, List, [], ◌∷◌, ◌++◌, length, length-append, drop, Bool, true, false, cond, not, ◌&&◌, Option, Some, None, is_some, inl, inr, refl, ap, sym, subst, ◌∙◌, ◌≤◌, ◌+◌, arith}
use Rattle.std.specs.List.{All}
use Rattle.std.proofs.lemmas.List.Elements.{All-nil, All-cons, All-append, filter_map-append}
use Rattle.pyd_board.specs.declared.event.Act.TheVariants.{Lose, Place}
use Rattle.pyd_board.specs.declared.event.Event.{Event}
use Rattle.pyd_board.specs.declared.placer.Asked.{Asked}
use Rattle.pyd_board.specs.declared.seat.Ticket.{Ticket}
use Rattle.pyd_board.specs.Histories.{AllBy, entries}
use Rattle.pyd_boards.specs.Boards.{entry}
use Rattle.pyd_boards.specs.Calls.{AreNext}
use Rattle.pyd_boards.specs.Moves.{ticket_of, tickets_of}
use Rattle.pyd_runs.specs.Deciding.{is_needed}
use Rattle.pyd_runs.specs.Effects.{State, acted, happens}
use Rattle.pyd_runs.specs.Enabled.{IsLoss, IsQuiet, IsUnbarred}
use Rattle.pyd_runs.specs.Following.{BeginningLaw}
use Rattle.pyd_runs.specs.Graphs.{Graph}
use Rattle.pyd_runs.specs.HeadOrder.{has_record}
use Rattle.pyd_runs.specs.NextLosses.{due_after, due_losses, loses as lost_by}
use Rattle.pyd_runs.specs.Plans.{Plan}
use Rattle.pyd_runs.specs.Replay.{IsLegal, after, replay}
use Rattle.pyd_runs.proofs.Putting.{put_else}
use Rattle.pyd_core.specs.declared.keeper.Core.{Core}
use Rattle.pyd_core.specs.Cores.{IsCore, plan_of, state_of}
use Rattle.pyd_core.specs.Facts.{NextLaw, may_come}
use Rattle.pyd_core.specs.Losing.{losses_by}
use Rattle.pyd_core.specs.Placing.{WantedLaw, is_wanted}
use Rattle.pyd_core.specs.Steps.{ComesBy, Makes}
use Rattle.pyd_steps.specs.Placers.{AsksBetween, Chooses, IsNoPlace, Tells}
use Rattle.pyd_steps.specs.Placing.{PlacesNext}
use Rattle.pyd_steps.proofs.Asked.{asks_on, asks_placed, asks_told}
use Rattle.pyd_steps.proofs.Joined.{makes_then}
use Rattle.pyd_steps.proofs.Served.{IsInRow, none_after}
use Rattle.pyd_steps.proofs.Spared.{are_losses, losses_graph}

-- the state of a core that comes by events
pub state_by : BeginningLaw → (c d : Core) (es : List Event) → ComesBy c d es
    → state_of d ≡ after (plan_of c) (state_of c) es
state_by beginning c d es comes =
    ap (λ (p : Plan). replay p d.log.journal.items) comes.plan
    ∙ ap (replay (plan_of c)) comes.journal
    ∙ (beginning (plan_of c) c.log.journal.items es).state

-- what holds of losses by a seat holds of those that are due
by_end : (P : List Event → Type 0) (s : State) (seat : ℕ) (b : Bool) → P []
    → ((nth : ℕ) (ms : List ℕ) → P (lost_by seat nth ms)) → P (cond b [] (due_losses seat s))
by_end P s seat true none some = none
by_end P s seat false none some =
    some (entries seat s.journal) (due_after (length s.journal) s.losses)

after_none : (p : Plan) (s : State) → after p s [] ≡ s
unfolding after
after_none p s = refl

-- they leave the graph
pub due_graph : (p : Plan) (s : State) (seat : ℕ) → (after p s (losses_by seat s)).graph ≡ s.graph
due_graph p s seat =
    by_end (λ es. (after p s es).graph ≡ s.graph) s seat (is_some s.graph.end)
    (ap (λ (t : State). t.graph) (after_none p s)) (losses_graph p s seat)

-- each is a loss, and by the seat
pub due_losses_all : (s : State) (seat : ℕ) → All (λ (e : Event). IsLoss e.act) (losses_by seat s)
due_losses_all s seat =
    by_end (All (λ (e : Event). IsLoss e.act)) s seat (is_some s.graph.end)
    (All-nil (λ (e : Event). IsLoss e.act)) (are_losses seat)

by_seat : (seat nth : ℕ) (ms : List ℕ) → AllBy seat (lost_by seat nth ms)
by_seat seat nth [] = All-nil (λ (e : Event). e.by ≡ seat)
by_seat seat nth (m ∷ ms) =
    All-cons (λ (e : Event). e.by ≡ seat) (record { by = seat; nth = nth; act = Lose m })
    (lost_by seat (suc nth) ms) refl (by_seat seat (suc nth) ms)

no_places : (seat nth : ℕ) (ms : List ℕ)
    → All (λ (e : Event). IsNoPlace e.act) (lost_by seat nth ms)
no_places seat nth [] = All-nil (λ (e : Event). IsNoPlace e.act)
no_places seat nth (m ∷ ms) =
    All-cons (λ (e : Event). IsNoPlace e.act) (record { by = seat; nth = nth; act = Lose m })
    (lost_by seat (suc nth) ms) tt (no_places seat (suc nth) ms)

-- none is a Place
pub due_no_places : (s : State) (seat : ℕ)
    → All (λ (e : Event). IsNoPlace e.act) (losses_by seat s)
due_no_places s seat =
    by_end (All (λ (e : Event). IsNoPlace e.act)) s seat (is_some s.graph.end)
    (All-nil (λ (e : Event). IsNoPlace e.act)) (no_places seat)

in_row : (p : Plan) (seat nth : ℕ) (ms : List ℕ) → All (IsInRow p) (lost_by seat nth ms)
in_row p seat nth [] = All-nil (IsInRow p)
in_row p seat nth (m ∷ ms) =
    All-cons (IsInRow p) (record { by = seat; nth = nth; act = Lose m })
    (lost_by seat (suc nth) ms) (inr (record { of_kind = refl; in_run = refl }))
    (in_row p seat (suc nth) ms)

no_tickets : (seat nth : ℕ) (ms : List ℕ) → tickets_of (lost_by seat nth ms) ≡ []
no_tickets seat nth [] = refl
no_tickets seat nth (m ∷ ms) = no_tickets seat (suc nth) ms

-- where none is due there are none
pub none_by : (s : State) (seat : ℕ) → IsQuiet s → losses_by seat s ≡ []
none_by s seat quiet =
    ap (λ (o : Option _). cond (is_some o) [] (due_losses seat s)) quiet.goes_on
    ∙ ap (lost_by seat (entries seat s.journal))
    (none_after (length s.journal) s.losses quiet.none_due)

-- the losses that are due, and then an event
one_behind : (p : Plan) (s : State) (es : List Event) (e : Event)
    → after p s (es ++ e ∷ []) ≡ happens p (after p s es) e
unfolding after
one_behind p s [] e = refl
one_behind p s (x ∷ es) e = one_behind p (happens p s x) es e

place_graph : (p : Plan) (s : State) (seat nth k attempt machine : ℕ)
    → (happens p s (record { by = seat; nth = nth; act = Place k attempt machine })).graph
    ≡ s.graph
unfolding happens acted
place_graph p s seat nth k attempt machine = refl

-- a Place leaves wanted other nodes that are
place_wanted : (p : Plan) (s : State) (seat nth k attempt machine j : ℕ) → j ≢ k
    → is_wanted (happens p s (record { by = seat; nth = nth; act = Place k attempt machine })) j
    ≡ is_wanted s j
unfolding happens acted
place_wanted p s seat nth k attempt machine j other =
    ap (λ t. is_needed s j
    && (not (has_record s j) && (not (is_some t) && not (is_some (s.desk.claim j)))))
    (put_else s.desk.ticket k (Some (record { attempt = attempt; machine = machine })) j other)

-- the losses that are due came
module _ (beginning : BeginningLaw) (c d : Core) (seat : ℕ)
    (losses : ComesBy c d (losses_by seat (state_of c))) where
  pub goes_on_then : (state_of c).graph.end ≡ None → (state_of d).graph.end ≡ None
  goes_on_then on =
      ap (λ (s : State). s.graph.end) (state_by beginning c d (losses_by seat (state_of c)) losses)
      ∙ ap (λ (g : Graph). g.end) (due_graph (plan_of c) (state_of c) seat) ∙ on

  pub quiet_then : (state_of c).graph.end ≡ None → IsUnbarred (state_of d) → IsQuiet (state_of d)
  quiet_then on unbarred =
      let still = goes_on_then on in record { goes_on = still; none_due = unbarred still }

-- a node was placed behind them
module _ (c d : Core) (seat k : ℕ) (ticket : Ticket) (next : PlacesNext c d seat k ticket) where
  abbrev losses : List Event
  losses = losses_by seat (state_of c)

  abbrev v : Event
  v = entry (c.log.journal.items ++ losses) seat (Place k next.attempt next.machine)

  -- the events
  abbrev pub added : List Event
  added = losses ++ v ∷ []

  pub added_by : AllBy seat added
  added_by =
      All-append (λ (e : Event). e.by ≡ seat) losses (v ∷ [])
      (by_end (AllBy seat) (state_of c) seat (is_some (state_of c).graph.end)
      (All-nil (λ (e : Event). e.by ≡ seat)) (by_seat seat))
      (All-cons (λ (e : Event). e.by ≡ seat) v [] refl (All-nil (λ (e : Event). e.by ≡ seat)))

  pub added_in_row : (p : Plan) → All (IsInRow p) added
  added_in_row p =
      All-append (IsInRow p) losses (v ∷ [])
      (by_end (All (IsInRow p)) (state_of c) seat (is_some (state_of c).graph.end)
      (All-nil (IsInRow p)) (in_row p seat))
      (All-cons (IsInRow p) v [] (inl (record { of_kind = refl; in_run = refl }))
      (All-nil (IsInRow p)))

  pub added_tickets : tickets_of added ≡ ticket ∷ []
  added_tickets =
      tickets_behind losses
      (by_end (λ es. tickets_of es ≡ []) (state_of c) seat (is_some (state_of c).graph.end) refl
      (no_tickets seat))
    where
      tickets_behind : (es : List Event) → tickets_of es ≡ []
          → tickets_of (es ++ v ∷ []) ≡ ticket ∷ []
      tickets_behind es none =
          filter_map-append (λ (e : Event). ticket_of e.act) es (v ∷ [])
          ∙ ap (λ ts. ts ++ tickets_of (v ∷ [])) none
          ∙ ap (λ t. t ∷ []) (sym next.made)

  module _ (beginning : BeginningLaw) where
    abbrev s : State
    s = after (plan_of c) (state_of c) losses

    state_is : state_of d ≡ happens (plan_of c) s v
    state_is =
        state_by beginning c d added next.comes ∙ one_behind (plan_of c) (state_of c) losses v

    pub goes_on_placed : (state_of c).graph.end ≡ None → (state_of d).graph.end ≡ None
    goes_on_placed on =
        ap (λ (t : State). t.graph.end) state_is
        ∙ ap (λ (g : Graph). g.end)
        (place_graph (plan_of c) s seat v.nth k next.attempt next.machine
        ∙ due_graph (plan_of c) (state_of c) seat)
        ∙ on

    pub wanted_placed : WantedLaw → (j : ℕ) → j ≢ k → is_wanted (state_of c) j ≡ true
        → is_wanted (state_of d) j ≡ true
    wanted_placed wanting j other is =
        ap (λ t. is_wanted t j) state_is
        ∙ place_wanted (plan_of c) s seat v.nth k next.attempt next.machine j other
        ∙ wanting (plan_of c) (state_of c) j losses (due_losses_all (state_of c) seat) is

  -- they may come, each in its turn
  pub added_next : NextLaw → IsCore c → AreNext (may_come (plan_of c)) c.log.journal.items added
  added_next nexts core =
      (nexts (plan_of c) c.log.journal.items added).next core.runnable
      (subst (IsLegal (plan_of c)) next.comes.journal
      (subst (λ (p : Plan). IsLegal p d.log.journal.items) next.comes.plan next.comes.core.legal))

-- a Place of a node behind the losses that are due
pub next_place : (c d e : Core) (seat k attempt machine : ℕ) (ticket : Ticket)
    → ComesBy c d (losses_by seat (state_of c)) → Makes d e seat (Place k attempt machine)
    → ticket ≡ record { node = k; attempt = attempt; machine = machine }
    → PlacesNext c e seat k ticket
next_place c d e seat k attempt machine ticket comes makes made = record {
  attempt = attempt;
  machine = machine;
  comes = makes_then c d (losses_by seat (state_of c)) comes e seat (Place k attempt machine) makes;
  made = made;
}

-- what is asked of a placer meanwhile
pub next_asks : (c d e : Core) (seat k attempt machine : ℕ) (entries : List Event)
    (t u v : Option (Option (List Asked))) → BeginningLaw
    → ComesBy c d (losses_by seat (state_of c))
    → entries ≡ drop (length c.log.journal.items) d.log.journal.items → Tells entries t u
    → Makes d e seat (Place k attempt machine)
    → Chooses (plan_of d) (state_of d) k machine u v → AsksBetween c e t v
next_asks c d e seat k attempt machine entries t u v beginning comes are told makes chooses =
    asks_on c d e (losses_by seat (state_of c))
    (entry d.log.journal.items seat (Place k attempt machine) ∷ []) t u v beginning comes
    (asks_told c d (losses_by seat (state_of c)) entries t u comes are
    (due_no_places (state_of c) seat) told)
    makes (asks_placed d e seat k attempt machine u v makes chooses)

-- the entries so far come first
pub first_entries : (c d : Core) (es : List Event) (n m : ℕ) → ComesBy c d es
    → n ≡ length c.log.journal.items → m ≡ length d.log.journal.items → n ≤ m
first_entries c d es n m comes is all =
    let more : length d.log.journal.items ≡ length c.log.journal.items + length es
    = ap length comes.journal ∙ length-append c.log.journal.items es in
    omega (arith, is, all, more)
