-- Nodes that are placed, or left out, one after the other.
use Rattle.std.proofs.Common.{◌≡◌, ◌<◌, ◌≤◌, ◌+◌, ◌==◌, ℕ, List, [], ◌∷◌, ◌++◌, drop, get_or, length, Bool, true, false, Option, Some, ap, sym, subst, ◌∙◌, arith}
use Rattle.std.specs.List.{All}
use Rattle.std.specs.List.Sorted.{IsStrictlyIncreasing}
use Rattle.pyd_board.specs.declared.event.Event.{Event}
use Rattle.pyd_board.specs.declared.placer.Asked.{Asked}
use Rattle.pyd_board.specs.declared.seat.Ticket.{Ticket}
use Rattle.pyd_lineage.specs.Lineage.{is_among}
use Rattle.pyd_runs.specs.Deciding.{may_place}
use Rattle.pyd_runs.specs.Enabled.{IsLoss, IsQuiet, due}
use Rattle.pyd_runs.specs.Plans.{IsSeat}
use Rattle.pyd_runs.specs.Replay.{after}
use Rattle.pyd_core.specs.declared.keeper.Core.{Core}
use Rattle.pyd_core.specs.Cores.{HasRoom, plan_of, state_of}
use Rattle.pyd_core.specs.Placing.{is_wanted}
use Rattle.pyd_core.specs.Losing.{losses_by}
use Rattle.pyd_core.specs.Steps.{Stays, UsesRoom}
use Rattle.pyd_steps.specs.Placers.{AsksBetween}
use Rattle.pyd_steps.specs.Placing.{PlacesNext}
use Rattle.pyd_steps.proofs.Asked.{asks_on, asks_still}
use Rattle.pyd_steps.proofs.NextPlace.{added}
use Rattle.pyd_steps.proofs.Row.{HasPlaced, RowLaws, next_driver, next_left, next_room, next_seat, next_wanted, none_placed, one_left_out, one_more_placed}

-- what is so once some nodes were gone through
pub record IsInTurn (seat : ℕ) (ks : List ℕ) (i : ℕ) (c d : Core) (tickets : List Ticket)
    (count capacity : ℕ) (told now : Option (Option (List Asked))) : Type 0 where
  pub placed : HasPlaced seat ks (drop i ks) c d tickets
  pub few : count ≤ i
  pub room : length ks ≤ capacity
  pub asks : AsksBetween c d told now

-- before any was
pub first_turn : RowLaws → (seat : ℕ) (ks ns : List ℕ) (c d : Core) (tickets : List Ticket)
    (count capacity n m : ℕ) (told : Option (Option (List Asked))) → ks ≡ ns → tickets ≡ []
    → count ≡ 0
    → IsQuiet (state_of c) → Stays c d → IsStrictlyIncreasing ns
    → ((k : ℕ) → is_among ns k ≡ may_place (state_of c) k) → HasRoom n d → n ≡ length ks
    → m ≡ length ks → m ≤ capacity → IsInTurn seat ks 0 c d tickets count capacity told told
first_turn laws seat ks ns c d tickets count capacity n m told same none zero quiet stays rising all
    room is also wide =
    subst (λ (xs : List ℕ). IsInTurn seat xs 0 c d tickets count capacity told told) (sym same)
    (subst (λ (ts : List Ticket). IsInTurn seat ns 0 c d ts count capacity told told) (sym none)
    (record {
      placed = none_placed laws seat ns c d quiet.goes_on stays rising all
          (subst (λ x. HasRoom x d) (is ∙ ap length same) room);
      few = omega (arith, zero);
      room = subst (λ x. x ≤ capacity) (also ∙ ap length same) wide;
      asks = asks_still c d told stays;
    }))

module _ (seat : ℕ) (ks : List ℕ) (i : ℕ) (c d : Core) (tickets : List Ticket)
    (count capacity : ℕ) (told now : Option (Option (List Asked))) (within : i < length ks)
    (so_far : IsInTurn seat ks i c d tickets count capacity told now) where
  abbrev k : ℕ
  k = get_or ks i 0

  -- the node whose turn it is, and those behind it
  its_turn : HasPlaced seat ks (k ∷ drop (i + 1) ks) c d tickets
  its_turn = next_left seat ks i c d tickets within so_far.placed

  -- there is room for its ticket
  pub ticket_room : count < capacity
  ticket_room =
      let few = so_far.few in
      let room = so_far.room in
      omega (arith, within, few, room)

  -- it is wanted, and the seat may place it
  pub turn_wanted : is_wanted (state_of d) k ≡ true
  turn_wanted = next_wanted seat ks k (drop (i + 1) ks) c d tickets its_turn

  pub turn_seat : IsSeat (plan_of c) seat → IsSeat (plan_of d) seat
  turn_seat is = next_seat seat ks k (drop (i + 1) ks) c d tickets its_turn is

  pub turn_room : HasRoom 1 d
  turn_room = next_room seat ks k (drop (i + 1) ks) c d tickets its_turn

  -- it may append losses
  module _ (laws : RowLaws) (quiet : IsQuiet (state_of c)) where
    pub turn_driver : (machine : ℕ) → due (state_of d) ≡ Some machine
        → All (λ (e : Event). IsLoss e.act) d.log.journal.items → seat ≡ 0
    turn_driver machine is all =
        next_driver laws seat ks k (drop (i + 1) ks) c d tickets its_turn quiet machine is all

    -- it is left out
    pub turn_left_out : (f : Core) (ts : List Ticket) (more wide : ℕ)
        (last : Option (Option (List Asked))) (stays : Bool) → f ≡ d → ts ≡ tickets
        → more ≡ count → wide ≡ capacity → last ≡ now
        → ((n : ℕ) → stays ≡ may_place (after (plan_of d) (state_of d) (losses_by n (state_of d))) k)
        → stays ≡ false → IsInTurn seat ks (i + 1) c f ts more wide told last
    turn_left_out f ts more wide last stays same_core same_tickets same_count same_room same_calls is not =
        subst (λ (e : Core). IsInTurn seat ks (i + 1) c e ts more wide told last) (sym same_core)
        (subst (λ (all : List Ticket). IsInTurn seat ks (i + 1) c d all more wide told last)
        (sym same_tickets) (record {
          placed = one_left_out laws seat ks k (drop (i + 1) ks) c d tickets its_turn quiet stays is
              not;
          few = (let few = so_far.few in omega (arith, few, same_count));
          room = subst (λ n. length ks ≤ n) (sym same_room) so_far.room;
          asks = subst (AsksBetween c d told) (sym same_calls) so_far.asks;
        }))

    -- it is placed
    pub turn_placed : (e f : Core) (ticket : Ticket) (ts : List Ticket) (more wide : ℕ)
        (then last : Option (Option (List Asked))) → f ≡ e → ts ≡ tickets ++ ticket ∷ []
        → more ≡ count + 1 → wide ≡ capacity → last ≡ then → PlacesNext d e seat k ticket → UsesRoom d e
        → AsksBetween d e now then → IsInTurn seat ks (i + 1) c f ts more wide told last
    turn_placed e f ticket ts more wide then last same_core one_more same_count same_room same_calls next uses asks =
        subst (λ (x : Core). IsInTurn seat ks (i + 1) c x ts more wide told last) (sym same_core)
        (record {
          placed = subst (λ (all : List Ticket). HasPlaced seat ks (drop (i + 1) ks) c e all)
              (sym one_more)
              (one_more_placed laws seat ks k (drop (i + 1) ks) c d tickets its_turn quiet e ticket
              next uses);
          few = (let few = so_far.few in omega (arith, few, same_count));
          room = subst (λ n. length ks ≤ n) (sym same_room) so_far.room;
          asks = subst (AsksBetween c e told) (sym same_calls)
              (asks_on c d e its_turn.own (added d e seat k ticket next) told now then laws.beginning
              its_turn.comes so_far.asks next.comes asks);
        })

-- a list that isn't empty
pub not_empty : (ks : List ℕ) (n : ℕ) (b : Bool) → b ≡ (n == 0) → b ≡ false → length ks ≡ n
    → ks ≡ [] → ⊥
not_empty ks n b test not long none =
    let zero : (n == 0) ≡ true = ap (λ m. m == 0) (sym long ∙ ap length none) in
    cc (zero, test, not)
