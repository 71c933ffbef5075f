-- Which claims a seat may finish or drop, and which tickets and nodes to be placed events leave.
use Rattle.std.proofs.Common.{◌≡◌, ◌≢◌, ◌<◌, ℕ, suc, Bool, true, false, if◌then◌else◌, Option, None, Some, inl, inr, refl, ap, sym, ◌∙◌, subst}
use Rattle.pyd_board.specs.declared.event.Act.{Act}
use Rattle.pyd_board.specs.declared.event.Act.TheVariants.{Place, Claim, Finish, Drop, Refine, Settle, Lose, Trim}
use Rattle.pyd_board.specs.declared.event.Event.{Event}
use Rattle.pyd_ir.specs.Meaning.{job_ran}
use Rattle.pyd_runs.specs.Plans.{Plan, limits_of}
use Rattle.pyd_runs.specs.Desks.{Placed, Held}
use Rattle.pyd_runs.specs.Effects.{State, acted, happens, finished_by, is_run, kept_by_driver, kept_by_machine}
use Rattle.pyd_runs.specs.Enabled.{IsClaimOf, Holds, IsUnbarred, CanAct}
use Rattle.pyd_runs.specs.Sound.{IsSound}
use Rattle.pyd_runs.specs.Releases.{HoldsClaim, IsInVain, ReleaseLaw, IsApart, PlaceApartLaw, MayTakeTicket, TicketStaysLaw}
use Rattle.pyd_runs.proofs.Putting.{put_else, none_apart}
use Rattle.pyd_runs.proofs.Places.{none_or_some}

-- a claim that is there is held by its seat
pub holds_by : (o : Option Held) (seat attempt machine : ℕ) (c : Held) → o ≡ Some c
    → IsClaimOf seat attempt machine c → Holds o seat attempt machine
holds_by None seat attempt machine c e h = absurd (cc (e))
holds_by (Some q) seat attempt machine c e h =
    let z : q ≡ c = cc (e) in subst (IsClaimOf seat attempt machine) (sym z) h

-- and the other way round
pub claim_by : (o : Option Held) (seat attempt machine : ℕ) → Holds o seat attempt machine
    → (c : Held) × (o ≡ Some c) × IsClaimOf seat attempt machine c
claim_by None seat attempt machine h = absurd h
claim_by (Some q) seat attempt machine h = (q, refl, h)

-- no truth value is both
both_ways : (b : Bool) → b ≡ true → b ≡ false → ⊥
both_ways b t f = absurd (cc (t, f))

-- what isn't so is otherwise
not_true : (b : Bool) → (b ≡ true → ⊥) → b ≡ false
not_true true h = absurd (h refl)
not_true false h = refl

module _ (p : Plan) (s : State) (seat k attempt machine : ℕ) (sound : IsSound p s)
    (unbarred : IsUnbarred s) where
  -- the machine of a claim that stands isn't lost
  claim_lives : (c : Held) → s.desk.claim k ≡ Some c → IsClaimOf seat attempt machine c
      → s.lost machine ≡ false
  claim_lives c is of_seat =
      sym (ap s.lost of_seat.on_machine) ∙ (sound.desk.claim_lives k c is).not_lost

  drops_held : HoldsClaim s seat k attempt machine → IsInVain s machine
      → CanAct p s seat (Drop k attempt machine)
  drops_held h vain = elim h.held [
    | inr undone ↦
        let of_attempt = h.of_seat.of_attempt in
        inl (
          unbarred,
          holds_by (s.desk.undone k attempt) seat attempt machine h.claim
              (ap (s.desk.undone k) (sym of_attempt) ∙ undone) h.of_seat,
        )
    | inl stands ↦ elim (none_or_some s.graph.end) [
      | inr end ↦ inr (
        end.0,
        end.1,
        holds_by (s.desk.claim k) seat attempt machine h.claim stands h.of_seat,
      )
      | inl on ↦ elim vain [
        | inl lost ↦
            absurd (both_ways (s.lost machine) lost (claim_lives h.claim stands h.of_seat))
        | inr ended ↦ absurd (ended on)
      ]
    ]
  ]

  finishes_held : HoldsClaim s seat k attempt machine → (IsInVain s machine → ⊥)
      → CanAct p s seat (Finish k attempt machine)
  finishes_held h serves = elim h.held [
    | inr undone ↦
        let gone : s.lost machine ≡ true
        = sym (ap s.lost h.of_seat.on_machine)
        ∙ sound.desk.undone_lost k h.claim.attempt h.claim undone in
        absurd (serves (inl gone))
    | inl stands ↦ elim (none_or_some s.graph.end) [
      | inr end ↦ absurd (serves (inr (λ on. let z = end.1 in cc (z, on))))
      | inl on ↦ (
        record { goes_on = on; none_due = unbarred on },
        record {
          holds = holds_by (s.desk.claim k) seat attempt machine h.claim stands h.of_seat;
          lives = record {
            is_machine = subst (λ m. m < p.setup.machines) h.of_seat.on_machine
                (sound.desk.claim_lives k h.claim stands).is_machine;
            not_lost = claim_lives h.claim stands h.of_seat;
          };
        },
      )
    ]
  ]

  was_dropped : CanAct p s seat (Drop k attempt machine)
      → HoldsClaim s seat k attempt machine × IsInVain s machine
  was_dropped (inl undone) =
      let c = claim_by (s.desk.undone k attempt) seat attempt machine undone.1 in (
        record {
          claim = c.0;
          held = inr (ap (s.desk.undone k) c.2.of_attempt ∙ c.1);
          of_seat = c.2;
        },
        inl (sym (ap s.lost c.2.on_machine) ∙ sound.desk.undone_lost k attempt c.0 c.1),
      )
  was_dropped (inr left) =
      let c = claim_by (s.desk.claim k) seat attempt machine left.2 in (
        record { claim = c.0; held = inl c.1; of_seat = c.2 },
        inr (λ on. let z = left.1 in cc (z, on)),
      )

  was_finished : CanAct p s seat (Finish k attempt machine)
      → HoldsClaim s seat k attempt machine × (IsInVain s machine → ⊥)
  was_finished can =
      let c = claim_by (s.desk.claim k) seat attempt machine can.1.holds in (
        record { claim = c.0; held = inl c.1; of_seat = c.2 },
        λ vain. elim vain [
          | inl lost ↦ both_ways (s.lost machine) lost can.1.lives.not_lost
          | inr ended ↦ ended can.0.goes_on
        ],
      )

-- the law
pub releases : ReleaseLaw
releases p s seat k attempt machine sound unbarred = record {
  drops = drops_held p s seat k attempt machine sound unbarred;
  finishes = finishes_held p s seat k attempt machine sound unbarred;
  dropped = was_dropped p s seat k attempt machine sound unbarred;
  finished = was_finished p s seat k attempt machine sound unbarred;
}

-- behind a Place which others may be placed is as before
apart_act : (p : Plan) (s : State) (e : Event) (k attempt machine n b other : ℕ) (act : Act)
    → e.act ≡ act → act ≡ Place k attempt machine → n ≢ k → IsApart p s e n b other
unfolding happens acted
apart_act p s e k attempt machine n b other act is place apart =
    subst (λ (x : Event). IsApart p s x n b other) same (record {
      still = λ can. record {
        is_ready = can.is_ready;
        is_needed = can.is_needed;
        no_record = can.no_record;
        no_ticket = put_else s.desk.ticket k _ n apart ∙ can.no_ticket;
        no_claim = can.no_claim;
        next_attempt = can.next_attempt ∙ ap suc (sym (put_else s.desk.places k attempt n apart));
        lives = can.lives;
      };
      before = λ can. record {
        is_ready = can.is_ready;
        is_needed = can.is_needed;
        no_record = can.no_record;
        no_ticket = sym (put_else s.desk.ticket k _ n apart) ∙ can.no_ticket;
        no_claim = can.no_claim;
        next_attempt = can.next_attempt ∙ ap suc (put_else s.desk.places k attempt n apart);
        lives = can.lives;
      };
    })
  where
    new : Event
    new = record { by = e.by; nth = e.nth; act = Place k attempt machine }

    same : new ≡ e
    same = ap (λ (a : Act). record { by = e.by; nth = e.nth; act = a }) (sym place ∙ sym is)

-- the law
pub place_leaves : PlaceApartLaw
place_leaves p s e k attempt machine n b other is apart =
    apart_act p s e k attempt machine n b other e.act refl is apart

-- a Finish leaves tickets
finish_tickets : (p : Plan) (s : State) (k machine : ℕ) (o : Option Held)
    → (finished_by p s k machine o).desk.ticket ≡ s.desk.ticket
finish_tickets p s k machine None = refl
finish_tickets p s k machine (Some c) = by_kind (is_run c.job.task)
  where
    by_kind : (b : Bool)
        → (if b then kept_by_driver s k (job_ran p.file (limits_of p) c.job)
        else kept_by_machine s k machine (job_ran p.file (limits_of p) c.job)).desk.ticket
        ≡ s.desk.ticket
    by_kind true = refl
    by_kind false = refl

-- by what a seat does
ticket_left : (p : Plan) (s : State) (seat : ℕ) (act : Act) (k : ℕ) (t : Placed)
    → CanAct p s seat act → (MayTakeTicket k act → ⊥) → s.desk.ticket k ≡ Some t
    → (acted p s seat act).desk.ticket k ≡ Some t
unfolding acted
ticket_left p s seat (Place n a m) k t can keeps is =
    put_else s.desk.ticket n _ k
    (λ same. none_apart (s.desk.ticket n) t can.1.no_ticket (ap s.desk.ticket (sym same) ∙ is)) ∙ is
ticket_left p s seat (Claim n a m) k t can keeps is =
    put_else s.desk.ticket n None k (λ same. keeps (sym same)) ∙ is
ticket_left p s seat (Finish n a m) k t can keeps is =
    ap (λ (f : ℕ → Option Placed). f k) (finish_tickets p s n m (s.desk.claim n)) ∙ is
ticket_left p s seat (Drop n a m) k t can keeps is = is
ticket_left p s seat (Refine n) k t can keeps is = is
ticket_left p s seat (Settle n) k t can keeps is = is
ticket_left p s seat (Lose m) k t can keeps is = absurd (keeps tt)
ticket_left p s seat (Trim n) k t can keeps is = absurd (keeps tt)

-- the law
pub tickets_stay : TicketStaysLaw
unfolding happens
tickets_stay p s e k t enabled keeps is =
    ticket_left p s e.by e.act k t enabled.act keeps is
