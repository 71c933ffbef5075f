-- A ticket that is placed keeps what holds.
use Rattle.std.proofs.Common.{◌≡◌, ◌≤◌, ℕ, suc, Option, None, Some, ◌⊎◌, inl, inr, refl, ap, sym, ◌∙◌, subst, arith}
use Rattle.std.specs.List.{Contains}
use Rattle.std.proofs.lemmas.List.Elements.{Contains-append_cases}
use Rattle.pyd_ir.specs.declared.node.Node.{Node}
use Rattle.pyd_runs.specs.Plans.{Plan}
use Rattle.pyd_runs.specs.Graphs.{Graph}
use Rattle.pyd_runs.specs.Desks.{Placed, Stores, Desk, put_at}
use Rattle.pyd_runs.specs.Reach.{Reached, by_chain, by_past, Needed, in_chain, by_needed}
use Rattle.pyd_runs.specs.Effects.{acted}
use Rattle.pyd_runs.specs.Sound.{IsGraphSound, AreCounted, NamesPresent}
use Rattle.pyd_runs.specs.Laws.{PlaceLaw}
use Rattle.pyd_runs.proofs.Putting.{at_cases, put_cases, put_same, put_else, none_apart}
use Rattle.pyd_runs.proofs.Without.{fresh_apart}
use Rattle.pyd_runs.proofs.Knowing.{past_fresh}

-- a ticket of an attempt
abbrev ticket_of : ℕ → ℕ → Placed
ticket_of attempt machine = record { attempt = attempt; machine = machine }

-- places with one more are not fewer
places_grow : (places : ℕ → ℕ) (k attempt n : ℕ) → attempt ≡ suc (places k)
    → places n ≤ put_at places k attempt n
places_grow places k attempt n next = elim (at_cases n k) [
  | inl same ↦
      let z = put_same places k attempt n same in
      let w : places n ≡ places k = ap places same in omega arith
  | inr other ↦ let z = put_else places k attempt n other in omega arith
]

-- the counts of a desk with one place more
counted : (d : Desk) (k attempt machine : ℕ) → AreCounted d → attempt ≡ suc (d.places k)
    → d.claim k ≡ None
    → AreCounted (record d {
      places = put_at d.places k attempt;
      ticket = put_at d.ticket k (Some (ticket_of attempt machine));
    })
counted d k attempt machine t next free =
    let new = ticket_of attempt machine in
    let up : (n : ℕ) → d.places n ≤ put_at d.places k attempt n
    = (λ n. places_grow d.places k attempt n next) in
    record {
      ticket = λ n x e. elim (put_cases d.ticket k (Some new) n (Some x) e) [
        | inl here ↦
            let z = here.1 in let w : attempt ≡ x.attempt = cc (z) in
            sym w ∙ sym (put_same d.places k attempt n here.0)
        | inr old ↦ t.ticket n x old.1 ∙ sym (put_else d.places k attempt n old.0)
      ];
      claim = λ n c e. elim (at_cases n k) [
        | inl same ↦ absurd (none_apart (d.claim k) c free (ap d.claim (sym same) ∙ e))
        | inr other ↦ t.claim n c e ∙ sym (put_else d.places k attempt n other)
      ];
      undone = λ n b c e. (let z = t.undone n b c e in let y = up n in omega arith);
      before_ticket = λ n b c x e q. elim (put_cases d.ticket k (Some new) n (Some x) q) [
        | inl here ↦
            let z = t.undone n b c e in
            let y = put_same d.places k attempt n here.0 in
            let w : d.places n ≡ d.places k = ap d.places here.0 in omega arith
        | inr old ↦
            let z = t.before_ticket n b c x e old.1 in
            let y = up n in omega arith
      ];
      before_claim = λ n b c now e q.
          (let z = t.before_claim n b c now e q in let y = up n in omega arith);
    }

-- a node that is needed stands in the chain, or is reached by it
pub needed_reached : (p : Plan) (g : Graph) (stores : Stores) (k : ℕ) → IsGraphSound p g
    → Needed g stores k → ((n : Node) × Contains g.chain n × (n.id ≡ k)) ⊎ Reached g k
needed_reached p g stores k sound (in_chain n at) = inl (n, at, refl)
needed_reached p g stores k sound (by_needed n k' at needed none names) =
    elim (Contains-append_cases g.past g.chain n at) [
      | inr chain ↦ inr (by_chain n k chain names)
      | inl past ↦ elim (needed_reached p g stores n.id sound needed) [
        | inl x ↦ absurd (fresh_apart n.id g.chain x.0 (past_fresh p g n sound past) x.1 x.2)
        | inr reached ↦ inr (by_past n k past reached names)
      ]
    ]

-- so what it names is settled, or stands in the chain
pub needed_names : (p : Plan) (g : Graph) (stores : Stores) (k : ℕ) → IsGraphSound p g
    → Needed g stores k → NamesPresent g k
needed_names p g stores k sound needed n at number m names =
    elim (Contains-append_cases g.past g.chain n at) [
      | inr chain ↦ sound.present m (by_chain n m chain names)
      | inl past ↦ elim (needed_reached p g stores k sound needed) [
        | inl x ↦ absurd (fresh_apart n.id g.chain x.0 (past_fresh p g n sound past) x.1
            (x.2 ∙ sym number))
        | inr reached ↦
            sound.present m (by_past n m past (subst (Reached g) (sym number) reached) names)
      ]
    ]

-- the law
pub place_keeps : PlaceLaw
unfolding acted
place_keeps p s seat k attempt machine sound can =
    let d = s.desk in
    let h = sound.desk in
    let new : Option Placed = Some (ticket_of attempt machine) in
    record {
      graph = sound.graph;
      attempts = counted d k attempt machine sound.attempts can.next_attempt can.no_claim;
      scripted = sound.scripted;
      survivor = sound.survivor;
      desk = record {
        stored = h.stored;
        store_lives = h.store_lives;
        run_done = h.run_done;
        ticket_ready = λ n t e. elim (put_cases d.ticket k new n (Some t) e) [
          | inl here ↦ rw (here.0) can.is_ready
          | inr old ↦ h.ticket_ready n t old.1
        ];
        ticket_alone = λ n t e. elim (put_cases d.ticket k new n (Some t) e) [
          | inl here ↦ rw (here.0) (can.no_record, can.no_claim)
          | inr old ↦ h.ticket_alone n t old.1
        ];
        ticket_names = λ n t e. elim (put_cases d.ticket k new n (Some t) e) [
          | inl here ↦ rw (here.0)
              (needed_names p s.graph d.stores k sound.graph can.is_needed)
          | inr old ↦ h.ticket_names n t old.1
        ];
        claimed = h.claimed;
        claim_heads = h.claim_heads;
        claim_alone = h.claim_alone;
        claim_lives = h.claim_lives;
        claim_seat = h.claim_seat;
        undone_attempt = h.undone_attempt;
        undone_lost = h.undone_lost;
      };
    }
