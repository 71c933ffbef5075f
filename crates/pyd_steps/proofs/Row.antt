-- Nodes that were placed in a row so far.
use Rattle.std.proofs.Common.{◌≡◌, ◌<◌, ◌≤◌, ◌+◌, ◌==◌, ℕ, suc, List, [], ◌∷◌, ◌++◌, append_assoc, drop, get_or, length, Bool, true, false, ◌&&◌, ◌||◌, Some, None, ◌⊎◌, inl, inr, refl, ap, sym, subst, ◌∙◌, arith}
use Rattle.std.specs.List.{All, Any}
use Rattle.std.specs.List.Sorted.{IsStrictlyIncreasing}
use Rattle.std.proofs.lemmas.Grind.{common_steps}
use Rattle.std.proofs.lemmas.List.{drop_all, drop_more}
use Rattle.std.proofs.lemmas.List.Elements.{All-append, All-cons, All-head, All-nil, All-push, All-tail, All-weaker, filter_map-append}
use Rattle.std.proofs.lemmas.List.Quantifiers.{Any-push}
use Rattle.pyd_board.specs.declared.event.Act.{Act}
use Rattle.pyd_board.specs.declared.event.Act.TheVariants.{Place, Claim, Finish, Drop, Refine, Settle, Lose, Trim}
use Rattle.pyd_board.specs.declared.event.Event.{Event}
use Rattle.pyd_board.specs.declared.seat.Ticket.{Ticket}
use Rattle.pyd_board.specs.Histories.{AllBy}
use Rattle.pyd_boards.specs.Boards.{entry}
use Rattle.pyd_boards.specs.Calls.{IsIn, kind_of, places}
use Rattle.pyd_boards.specs.Moves.{AreRising, EndsIn, ticket_of, tickets_of}
use Rattle.pyd_lineage.specs.Lineage.{is_among}
use Rattle.pyd_lineage.proofs.Reaching.{split_or}
use Rattle.pyd_runs.specs.Deciding.{is_free, is_needed, may_place}
use Rattle.pyd_runs.specs.Effects.{State}
use Rattle.pyd_runs.specs.Enabled.{IsLoss, IsQuiet, due}
use Rattle.pyd_runs.specs.Following.{BeginningLaw, StepLaw}
use Rattle.pyd_runs.specs.Plans.{IsSeat, Plan}
use Rattle.pyd_runs.specs.Records.{is_ready}
use Rattle.pyd_runs.specs.Replay.{after, replay}
use Rattle.pyd_runs.proofs.Putting.{same_test, test_same}
use Rattle.pyd_runs.proofs.Readiness.{and_parts}
use Rattle.pyd_core.specs.declared.keeper.Core.{Core}
use Rattle.pyd_core.specs.Cores.{HasRoom, plan_of, state_of}
use Rattle.pyd_core.specs.Facts.{NextLaw, facts_of, may_come}
use Rattle.pyd_core.specs.Losing.{losses_by}
use Rattle.pyd_core.specs.Placing.{WantedLaw, is_wanted}
use Rattle.pyd_core.specs.Steps.{ComesBy, Stays, UsesRoom}
use Rattle.pyd_steps.specs.Placing.{PlacesNext}
use Rattle.pyd_steps.proofs.Joined.{comes_on}
use Rattle.pyd_steps.proofs.NextPlace.{added, added_by, added_in_row, added_next, added_tickets, goes_on_placed, none_by, state_by, wanted_placed}
use Rattle.pyd_steps.proofs.Served.{IsInRow, row_leaves}
use Rattle.pyd_steps.proofs.Spared.{is_ready_then, place_then}

-- each of some numbers is below those behind it
abbrev pub Rises : List ℕ → Type 0
Rises [] = Unit {0}
Rises (k ∷ ks) = All (λ j. k < j) ks × Rises ks

rises_on : (k : ℕ) (ks : List ℕ) → IsStrictlyIncreasing (k ∷ ks) → IsStrictlyIncreasing ks
rises_on k ks rising i lt =
    let at : suc i + 1 ≡ suc (i + 1) = omega (arith) in
    subst (λ j. get_or ks i 0 < get_or (k ∷ ks) j 0) at (rising (suc i) (omega (arith, lt)))

first_below : (k : ℕ) (ks : List ℕ) → IsStrictlyIncreasing (k ∷ ks) → All (λ j. k < j) ks
first_below k [] rising = All-nil (λ j. k < j)
first_below k (j ∷ js) rising =
    let first : k < j = rising 0 (omega (arith)) in
    All-cons (λ i. k < i) j js first
    (All-weaker (λ i. j < i) (λ i. k < i) (λ i lt. omega (arith, first, lt)) js
    (first_below j js (rises_on k (j ∷ js) rising)))

-- so it is of numbers that rise
pub rise : (ks : List ℕ) → IsStrictlyIncreasing ks → Rises ks
rise [] rising = tt
rise (k ∷ ks) rising = (first_below k ks rising, rise ks (rises_on k ks rising))

or_second : (a b : Bool) → b ≡ true → (a || b) ≡ true
or_second true b is = refl
or_second false b is = is

-- each number of a list is among them
all_among : (ks : List ℕ) → All (λ k. is_among ks k ≡ true) ks
all_among [] = All-nil (λ k. is_among [] k ≡ true)
all_among (k ∷ ks) =
    All-cons (λ n. is_among (k ∷ ks) n ≡ true) k ks
    (ap (λ b. b || is_among ks k) (same_test k k refl))
    (All-weaker (λ n. is_among ks n ≡ true) (λ n. is_among (k ∷ ks) n ≡ true)
    (λ n is. or_second (n == k) (is_among ks n) is) ks (all_among ks))

-- a number among them is the first or among the rest
first_or_rest : (k n : ℕ) (ks : List ℕ) → is_among (k ∷ ks) n ≡ true
    → (n ≡ k) ⊎ (is_among ks n ≡ true)
first_or_rest k n ks is = elim (split_or (n == k) (is_among ks n) is) [
  | inl here ↦ inl (test_same n k here)
  | inr there ↦ inr there
]

-- what is so of some element is so of one where more come
any_before : {X : Type 0} (P : X → Type 0) (xs : List X) (y : X) → Any P xs
    → Any P (xs ++ y ∷ [])
any_before P xs y any =
    let lt = any.2 in
    let at = any.3 in (
      any.0,
      any.1,
      grind (arith, common_steps, lt),
      grind (arith, common_steps, lt, at),
      any.4,
    )

-- tickets rise where the next one's node is above theirs
rising_push : (ts : List Ticket) (t : Ticket) → AreRising ts
    → All (λ (x : Ticket). x.node < t.node) ts → AreRising (ts ++ t ∷ [])
rising_push [] t rising below = (All-nil (λ (x : Ticket). t.node < x.node), tt)
rising_push (x ∷ ts) t rising below = (
  All-push (λ (y : Ticket). x.node < y.node) ts t rising.0
      (All-head (λ (y : Ticket). y.node < t.node) x ts below),
  rising_push ts t rising.1 (All-tail (λ (y : Ticket). y.node < t.node) x ts below),
)

-- events begin and end with a Place
pub record IsBegun (p : Plan) (own : List Event) : Type 0 where
  pub first : Event
  pub more : List Event
  pub acts : own ≡ first ∷ more
  pub is_place : IsIn (facts_of p) places 0 first
  pub ends : EndsIn (facts_of p) (may_come p) places 0 own

-- a node has its ticket, or isn't ready behind the losses that are due, or is yet to come
abbrev pub IsServedSo : Core → List ℕ → List Ticket → ℕ → Type 0
IsServedSo d left tickets k =
    Any (λ (t : Ticket). t.node ≡ k) tickets
    ⊎ ((is_ready_then (state_of d) k ≡ false) ⊎ (is_among left k ≡ true))

-- the nodes that were placed so far, and those that are left
pub record HasPlaced (seat : ℕ) (ks left : List ℕ) (c d : Core) (tickets : List Ticket)
    : Type 0 where
  pub own : List Event
  pub comes : ComesBy c d own
  pub by : AllBy seat own
  pub in_row : All (IsInRow (plan_of c)) own
  pub begun : ((own ≡ []) × (left ≡ ks)) ⊎ IsBegun (plan_of c) own
  pub answers : tickets ≡ tickets_of own
  pub rising : AreRising tickets
  pub before : All (λ (t : Ticket). All (λ k. t.node < k) left) tickets
  pub from : All (λ (t : Ticket). may_place (state_of c) t.node ≡ true) tickets
  pub served : (k : ℕ) → may_place (state_of c) k ≡ true → IsServedSo d left tickets k
  pub wanted : All (λ k. is_wanted (state_of d) k ≡ true) left
  pub may : All (λ k. may_place (state_of c) k ≡ true) left
  pub rises : Rises left
  pub room : HasRoom (length left) d
  pub goes_on : (state_of d).graph.end ≡ None

-- what is so of all is so of those behind the first ones
all_last : {X : Type 0} (P : X → Type 0) (xs ys : List X) → All P (xs ++ ys) → All P ys
all_last P [] ys all = all
all_last P (x ∷ xs) ys all = all_last P xs ys (All-tail P x (xs ++ ys) all)

-- a Place is no loss
no_loss : (act : Act) → kind_of act ≡ places → IsLoss act → ⊥
no_loss (Lose machine) is loss = cc (is)
no_loss (Place n attempt machine) is loss = absurd loss
no_loss (Claim n attempt machine) is loss = absurd loss
no_loss (Finish n attempt machine) is loss = absurd loss
no_loss (Drop n attempt machine) is loss = absurd loss
no_loss (Refine n) is loss = absurd loss
no_loss (Settle n) is loss = absurd loss
no_loss (Trim n) is loss = absurd loss

-- the laws that this stands on
pub record RowLaws : Type 0 where
  pub beginning : BeginningLaw
  pub step : StepLaw
  pub next : NextLaw
  pub wanted : WantedLaw

after_nothing : (p : Plan) (s : State) → after p s [] ≡ s
unfolding after
after_nothing p s = refl

-- what may be placed is wanted
wanted_of : (s : State) (k : ℕ) → may_place s k ≡ true → is_wanted s k ≡ true
wanted_of s k may =
    (and_parts (is_ready s.graph s.desk.stores k) (is_needed s k && is_free s k) may).1

-- the node that comes next is wanted, and the seat may place it
module _ (seat : ℕ) (ks : List ℕ) (k : ℕ) (left : List ℕ) (c d : Core) (tickets : List Ticket)
    (so_far : HasPlaced seat ks (k ∷ left) c d tickets) where
  pub next_wanted : is_wanted (state_of d) k ≡ true
  next_wanted = All-head (λ n. is_wanted (state_of d) n ≡ true) k left so_far.wanted

  pub next_seat : IsSeat (plan_of c) seat → IsSeat (plan_of d) seat
  next_seat is = subst (λ (p : Plan). IsSeat p seat) (sym so_far.comes.plan) is

  pub next_room : HasRoom 1 d
  next_room = let room = so_far.room in omega (arith, room)

module _ (laws : RowLaws) (seat : ℕ) (ks : List ℕ) where
  -- none at first
  pub none_placed : (c d : Core) → (state_of c).graph.end ≡ None → Stays c d
      → IsStrictlyIncreasing ks → ((k : ℕ) → is_among ks k ≡ may_place (state_of c) k)
      → HasRoom (length ks) d → HasPlaced seat ks ks c d []
  none_placed c d on stays rising all room =
      let same : state_of d ≡ state_of c
      = state_by laws.beginning c d [] stays ∙ after_nothing (plan_of c) (state_of c) in
      let may : All (λ k. may_place (state_of c) k ≡ true) ks
      = All-weaker (λ k. is_among ks k ≡ true) (λ k. may_place (state_of c) k ≡ true)
      (λ k is. sym (all k) ∙ is) ks (all_among ks) in
      record {
        own = [];
        comes = stays;
        by = All-nil (λ (e : Event). e.by ≡ seat);
        in_row = All-nil (IsInRow (plan_of c));
        begun = inl (refl, refl);
        answers = refl;
        rising = tt;
        before = All-nil (λ (t : Ticket). All (λ k. t.node < k) ks);
        from = All-nil (λ (t : Ticket). may_place (state_of c) t.node ≡ true);
        served = λ k is. inr (inr (all k ∙ is));
        wanted = All-weaker (λ k. may_place (state_of c) k ≡ true)
            (λ k. is_wanted (state_of d) k ≡ true)
            (λ k is. ap (λ s. is_wanted s k) same ∙ wanted_of (state_of c) k is) ks may;
        may = may;
        rises = rise ks rising;
        room = room;
        goes_on = ap (λ (s : State). s.graph.end) same ∙ on;
      }

  module _ (k : ℕ) (left : List ℕ) (c d : Core) (tickets : List Ticket)
      (so_far : HasPlaced seat ks (k ∷ left) c d tickets) where
    -- where nothing was done yet, the state is the one at first
    same_state : so_far.own ≡ [] → state_of d ≡ state_of c
    same_state none =
        state_by laws.beginning c d so_far.own so_far.comes
        ∙ ap (after (plan_of c) (state_of c)) none
        ∙ after_nothing (plan_of c) (state_of c)

    -- and no loss is due still
    still_quiet : IsQuiet (state_of c) → so_far.own ≡ [] → IsQuiet (state_of d)
    still_quiet quiet none = subst IsQuiet (sym (same_state none)) quiet

    below_left : All (λ (t : Ticket). All (λ n. t.node < n) left) tickets
    below_left =
        All-weaker (λ (t : Ticket). All (λ n. t.node < n) (k ∷ left))
        (λ (t : Ticket). All (λ n. t.node < n) left)
        (λ t below. All-tail (λ n. t.node < n) k left below) tickets so_far.before

    below_this : All (λ (t : Ticket). t.node < k) tickets
    below_this =
        All-weaker (λ (t : Ticket). All (λ n. t.node < n) (k ∷ left))
        (λ (t : Ticket). t.node < k)
        (λ t below. All-head (λ n. t.node < n) k left below) tickets so_far.before

    -- it isn't ready behind the losses that are due
    module _ (quiet : IsQuiet (state_of c)) (stays : Bool)
        (is : (n : ℕ) → stays
        ≡ may_place (after (plan_of d) (state_of d) (losses_by n (state_of d))) k)
        (not : stays ≡ false) where
      unready : is_ready_then (state_of d) k ≡ false
      unready =
          sym (place_then laws.wanted (plan_of d) (state_of d) seat k so_far.goes_on
          (next_wanted seat ks k left c d tickets so_far))
          ∙ sym (is seat) ∙ not

      -- then something was done before
      not_first : so_far.own ≡ [] → ⊥
      not_first none =
          let was : may_place (state_of c) k ≡ true
          = All-head (λ n. may_place (state_of c) n ≡ true) k left so_far.may in
          let now : stays ≡ true
          = is seat
          ∙ ap (λ es. may_place (after (plan_of d) (state_of d) es) k)
          (none_by (state_of d) seat (still_quiet quiet none))
          ∙ ap (λ s. may_place s k)
          (after_nothing (plan_of d) (state_of d) ∙ same_state none)
          ∙ was in
          cc (now, not)

      served_still : (n : ℕ) → IsServedSo d (k ∷ left) tickets n → IsServedSo d left tickets n
      served_still n (inl has) = inl has
      served_still n (inr (inl never)) = inr (inl never)
      served_still n (inr (inr among)) = elim (first_or_rest k n left among) [
        | inl same ↦ inr (inl (ap (is_ready_then (state_of d)) same ∙ unready))
        | inr rest ↦ inr (inr rest)
      ]

      begun_still : ((so_far.own ≡ []) × ((k ∷ left) ≡ ks)) ⊎ IsBegun (plan_of c) so_far.own
          → ((so_far.own ≡ []) × (left ≡ ks)) ⊎ IsBegun (plan_of c) so_far.own
      begun_still (inl none) = absurd (not_first none.0)
      begun_still (inr begun) = inr begun

      -- it is left out
      pub one_left_out : HasPlaced seat ks left c d tickets
      one_left_out = record {
        own = so_far.own;
        comes = so_far.comes;
        by = so_far.by;
        in_row = so_far.in_row;
        begun = begun_still so_far.begun;
        answers = so_far.answers;
        rising = so_far.rising;
        before = below_left;
        from = so_far.from;
        served = λ n may. served_still n (so_far.served n may);
        wanted = All-tail (λ n. is_wanted (state_of d) n ≡ true) k left so_far.wanted;
        may = All-tail (λ n. may_place (state_of c) n ≡ true) k left so_far.may;
        rises = so_far.rises.1;
        room = (let room = so_far.room in omega (arith, room));
        goes_on = so_far.goes_on;
      }

    -- the seat may append losses
    pub next_driver : IsQuiet (state_of c) → (machine : ℕ) → due (state_of d) ≡ Some machine
        → All (λ (e : Event). IsLoss e.act) d.log.journal.items → seat ≡ 0
    next_driver quiet machine is_due all = elim so_far.begun [
      | inl none ↦ absurd
          (let quiet_still = (still_quiet quiet none.0).none_due in cc (quiet_still, is_due))
      | inr begun ↦ absurd (place_is_none begun.first begun.is_place (begun_loss begun))
    ]
      where
        place_is_none : (e : Event) → IsIn (facts_of (plan_of c)) places 0 e → IsLoss e.act → ⊥
        place_is_none e is loss = no_loss e.act is.of_kind loss

        begun_loss : (begun : IsBegun (plan_of c) so_far.own) → IsLoss begun.first.act
        begun_loss begun =
            All-head (λ (e : Event). IsLoss e.act) begun.first begun.more
            (subst (All (λ (e : Event). IsLoss e.act)) begun.acts
            (all_last (λ (e : Event). IsLoss e.act) c.log.journal.items so_far.own
            (subst (All (λ (e : Event). IsLoss e.act)) so_far.comes.journal all)))

    -- it is placed
    module _ (quiet : IsQuiet (state_of c)) (e : Core) (ticket : Ticket)
        (next : PlacesNext d e seat k ticket) (uses : UsesRoom d e) where
      abbrev es : List Event
      es = added d e seat k ticket next

      node_is : ticket.node ≡ k
      node_is = ap (λ (t : Ticket). t.node) next.made

      own_place : IsIn (facts_of (plan_of c)) places 0
          (entry (d.log.journal.items ++ losses_by seat (state_of d)) seat
          (Place k next.attempt next.machine))
      own_place = record { of_kind = refl; in_run = refl }

      ends_so : (own : List Event) → EndsIn (facts_of (plan_of c)) (may_come (plan_of c)) places 0 (own ++ es)
      ends_so own = (
        own ++ losses_by seat (state_of d),
        (
          entry (d.log.journal.items ++ losses_by seat (state_of d)) seat
              (Place k next.attempt next.machine),
          sym (append_assoc own (losses_by seat (state_of d)) (_ ∷ [])),
          own_place,
        ),
      )

      begun_then : ((so_far.own ≡ []) × ((k ∷ left) ≡ ks)) ⊎ IsBegun (plan_of c) so_far.own
          → IsBegun (plan_of c) (so_far.own ++ es)
      begun_then (inl none) = record {
        first = entry (d.log.journal.items ++ losses_by seat (state_of d)) seat
            (Place k next.attempt next.machine);
        more = [];
        acts = ap (λ o. o ++ es) none.0
            ∙ ap (λ l. l ++ entry (d.log.journal.items ++ losses_by seat (state_of d)) seat
            (Place k next.attempt next.machine) ∷ [])
            (none_by (state_of d) seat (still_quiet quiet none.0));
        is_place = own_place;
        ends = ends_so so_far.own;
      }
      begun_then (inr begun) = record {
        first = begun.first;
        more = begun.more ++ es;
        acts = ap (λ o. o ++ es) begun.acts;
        is_place = begun.is_place;
        ends = ends_so so_far.own;
      }

      -- what wasn't ready isn't
      never_then : (n : ℕ) → is_ready_then (state_of d) n ≡ false
          → is_ready_then (state_of e) n ≡ false
      never_then n is =
          ap (λ s. is_ready_then s n)
          (ap (λ (p : Plan). replay p e.log.journal.items) next.comes.plan
          ∙ ap (replay (plan_of d)) next.comes.journal)
          ∙ row_leaves laws.step (plan_of d) n d.log.journal.items es
          (added_in_row d e seat k ticket next (plan_of d))
          (added_next d e seat k ticket next laws.next so_far.comes.core) is

      served_then : (n : ℕ) → IsServedSo d (k ∷ left) tickets n
          → IsServedSo e left (tickets ++ ticket ∷ []) n
      served_then n (inl has) = inl (any_before (λ (t : Ticket). t.node ≡ n) tickets ticket has)
      served_then n (inr (inl never)) = inr (inl (never_then n never))
      served_then n (inr (inr among)) = elim (first_or_rest k n left among) [
        | inl same ↦ inl
            (Any-push (λ (t : Ticket). t.node ≡ n) tickets ticket (node_is ∙ sym same))
        | inr rest ↦ inr (inr rest)
      ]

      wanted_then : (n : ℕ) → (k < n) × (is_wanted (state_of d) n ≡ true)
          → is_wanted (state_of e) n ≡ true
      wanted_then n both =
          let above = both.0 in
          wanted_placed d e seat k ticket next laws.beginning laws.wanted n
          (λ same. omega (arith, above, same)) both.1

      -- one more
      pub one_more_placed : HasPlaced seat ks left c e (tickets ++ ticket ∷ [])
      one_more_placed = record {
        own = so_far.own ++ es;
        comes = comes_on c d so_far.own so_far.comes e es next.comes;
        by = All-append (λ (x : Event). x.by ≡ seat) so_far.own es so_far.by
            (added_by d e seat k ticket next);
        in_row = All-append (IsInRow (plan_of c)) so_far.own es so_far.in_row
            (added_in_row d e seat k ticket next (plan_of c));
        begun = inr (begun_then so_far.begun);
        answers = ap (λ ts. ts ++ ticket ∷ []) so_far.answers
            ∙ ap (λ ts. tickets_of so_far.own ++ ts) (sym (added_tickets d e seat k ticket next))
            ∙ sym (filter_map-append (λ (x : Event). ticket_of x.act) so_far.own es);
        rising = rising_push tickets ticket so_far.rising
            (subst (λ n. All (λ (t : Ticket). t.node < n) tickets) (sym node_is) below_this);
        before = All-push (λ (t : Ticket). All (λ n. t.node < n) left) tickets ticket below_left
            (subst (λ m. All (λ n. m < n) left) (sym node_is) so_far.rises.0);
        from = All-push (λ (t : Ticket). may_place (state_of c) t.node ≡ true) tickets ticket
            so_far.from
            (ap (may_place (state_of c)) node_is
            ∙ All-head (λ n. may_place (state_of c) n ≡ true) k left so_far.may);
        served = λ n may. served_then n (so_far.served n may);
        wanted = All-weaker (λ n. (k < n) × (is_wanted (state_of d) n ≡ true))
            (λ n. is_wanted (state_of e) n ≡ true) wanted_then left
            (λ i dummy lt. (
              so_far.rises.0 i dummy lt,
              All-tail (λ n. is_wanted (state_of d) n ≡ true) k left so_far.wanted i dummy lt,
            ));
        may = All-tail (λ n. may_place (state_of c) n ≡ true) k left so_far.may;
        rises = so_far.rises.1;
        room = uses (length left) so_far.room;
        goes_on = goes_on_placed d e seat k ticket next laws.beginning so_far.goes_on;
      }

-- the first of those that are left
pub next_left : (seat : ℕ) (ks : List ℕ) (i : ℕ) (c d : Core) (tickets : List Ticket)
    → i < length ks → HasPlaced seat ks (drop i ks) c d tickets
    → HasPlaced seat ks (get_or ks i 0 ∷ drop (i + 1) ks) c d tickets
next_left seat ks i c d tickets within so_far =
    subst (λ (left : List ℕ). HasPlaced seat ks left c d tickets) (drop_more ks i 0 within) so_far

-- none is left
pub all_left : (seat : ℕ) (ks : List ℕ) (i : ℕ) (c d : Core) (tickets : List Ticket)
    → length ks ≤ i → HasPlaced seat ks (drop i ks) c d tickets
    → HasPlaced seat ks [] c d tickets
all_left seat ks i c d tickets past so_far =
    subst (λ (left : List ℕ). HasPlaced seat ks left c d tickets) (drop_all i ks past) so_far
