-- A loss that is due keeps what holds.
use Rattle.std.proofs.Common.{◌≡◌, ◌≢◌, ◌==◌, ℕ, List, [], ◌∷◌, ◌++◌, append_assoc, length, drop, Bool, true, false, ◌||◌, if◌then◌else◌, Option, None, Some, option_map, ◌⊎◌, inl, inr, refl, ap, sym, ◌∙◌, subst, arith}
use Rattle.std.specs.Prelude.{nat_le, IsTrue}
use Rattle.std.specs.List.{All, list_any}
use Rattle.std.proofs.lemmas.List.Elements.{All-head, All-tail}
use Rattle.std.proofs.lemmas.List.Folds.{list_any-append}
use Rattle.pyd_board.specs.declared.setup.Loss.{Loss}
use Rattle.pyd_meaning.specs.declared.ran.Ran.{Ran}
use Rattle.pyd_runs.specs.Plans.{Plan}
use Rattle.pyd_runs.specs.Graphs.{Graph}
use Rattle.pyd_runs.specs.Desks.{Kept, Placed, Held, Stores, Desk, put_at}
use Rattle.pyd_runs.specs.Records.{or_else, records, is_ready}
use Rattle.pyd_runs.specs.Losses.{due_at, kept_elsewhere, undone_with, live_tickets, stores_without, desk_without}
use Rattle.pyd_runs.specs.Effects.{acted}
use Rattle.pyd_runs.specs.Enabled.{Lives}
use Rattle.pyd_runs.specs.Sound.{IsDeskSound, AreCounted, AreScripted, Survives}
use Rattle.pyd_runs.specs.Laws.{LoseLaw}
use Rattle.pyd_runs.proofs.Putting.{at_cases, if_cases, put_same, put_else, same_test, other_test, test_same, test_other, none_apart}
use Rattle.pyd_runs.proofs.Dropping.{elsewhere_some, elsewhere_none}

-- a record that isn't in the store of a machine is a record
kept_some : (machine : ℕ) (o : Option Kept) (kept : Kept) → kept_elsewhere machine o ≡ Some kept
    → (o ≡ Some kept) × (kept.machine ≢ machine)
kept_some machine None kept e = absurd (cc (e))
kept_some machine (Some q) kept e =
    elim (if_cases (q.machine == machine) None (Some q) (Some kept) e) [
      | inl a ↦ absurd (let z = a.1 in cc (z))
      | inr b ↦ (
        b.1,
        (let z : q ≡ kept = cc (b.1) in
            λ w. test_other q.machine machine b.0 (ap (λ (x : Kept). x.machine) z ∙ w)),
      )
    ]

-- where there is no record, a loss brings none
no_record : (machine : ℕ) (driver : Option Ran) (o : Option Kept)
    → or_else driver (option_map (λ (kept : Kept). kept.ran) o) ≡ None
    → or_else driver (option_map (λ (kept : Kept). kept.ran) (kept_elsewhere machine o)) ≡ None
no_record machine (Some ran) o e = e
no_record machine None None e = refl
no_record machine None (Some q) e = absurd (cc (e))

records_without : (g : Graph) (stores : Stores) (machine k : ℕ) → records g stores k ≡ None
    → records g (stores_without machine stores) k ≡ None
records_without g stores machine k e = no_record machine (g.driver k) (stores k) e

-- a ticket that is live is a ticket, and its node is ready
pub live_some : (g : Graph) (stores : Stores) (tickets : ℕ → Option Placed) (k : ℕ) (t : Placed)
    → live_tickets g stores tickets k ≡ Some t
    → IsTrue (is_ready g stores k) × (tickets k ≡ Some t)
live_some g stores tickets k t e =
    elim (if_cases (is_ready g stores k) (tickets k) None (Some t) e) [
      | inl a ↦ a
      | inr b ↦ absurd (let z = b.1 in cc (z))
    ]

-- a claim that a loss undid was the machine's, or was undone before
undone_from : (machine attempt : ℕ) (claim before : Option Held) (c : Held)
    → undone_with machine attempt claim before ≡ Some c
    → ((claim ≡ Some c) × (c.machine ≡ machine) × (c.attempt ≡ attempt)) ⊎ (before ≡ Some c)
undone_from machine attempt None before c e = inr e
undone_from machine attempt (Some q) before c e =
    elim (if_cases (q.machine == machine) (if q.attempt == attempt then Some q else before) before
    (Some c) e) [
      | inl a ↦ elim (if_cases (q.attempt == attempt) (Some q) before (Some c) a.1) [
        | inl b ↦
            let w = b.1 in
            let same : q ≡ c = cc (w) in
            inl (
              w,
              sym (ap (λ (x : Held). x.machine) same) ∙ test_same q.machine machine a.0,
              sym (ap (λ (x : Held). x.attempt) same) ∙ test_same q.attempt attempt b.0,
            )
        | inr b ↦ inr b.1
      ]
      | inr a ↦ inr a.1
    ]

-- the loss that is due is that of the next entry
pub due_next : (events machine : ℕ) (losses : List Loss) → due_at events losses ≡ Some machine
    → (l : Loss) × (losses ≡ l ∷ drop 1 losses) × (l.machine ≡ machine)
due_next events machine [] e = absurd (cc (e))
due_next events machine (l ∷ losses) e =
    elim (if_cases (nat_le l.event events) (Some l.machine) None (Some machine) e) [
      | inl a ↦ (l, refl, (let z = a.1 in cc (z)))
      | inr b ↦ absurd (let z = b.1 in cc (z))
    ]

-- a machine that lives and isn't lost now lives on
lives_on : (p : Plan) (lost : ℕ → Bool) (machine other : ℕ) → other ≢ machine
    → Lives p lost other → Lives p (put_at lost machine true) other
lives_on p lost machine other apart lives = record {
  is_machine = lives.is_machine;
  not_lost = put_else lost machine true other apart ∙ lives.not_lost;
}

-- a machine that is lost stays lost
stays_lost : (lost : ℕ → Bool) (machine other : ℕ) → lost other ≡ true
    → put_at lost machine true other ≡ true
stays_lost lost machine other e = elim (at_cases other machine) [
  | inl same ↦ put_same lost machine true other same
  | inr apart ↦ put_else lost machine true other apart ∙ e
]

-- whether an entry or one of those before it names a machine
or_last : (a b : Bool) → b ≡ true → (a || (b || false)) ≡ true
or_last true b e = refl
or_last false true e = refl
or_last false false e = e

or_first : (a b : Bool) → b ≡ false → (a || (b || false)) ≡ a
or_first true b e = refl
or_first false true e = e
or_first false false e = refl

named_with : (lost : ℕ → Bool) (done : List Loss) (l : Loss) (machine : ℕ)
    → lost machine ≡ list_any (λ (x : Loss). x.machine == machine) done
    → put_at lost l.machine true machine
    ≡ list_any (λ (x : Loss). x.machine == machine) (done ++ l ∷ [])
named_with lost done l machine e =
    let test : Loss → Bool = λ (x : Loss). x.machine == machine in
    elim (at_cases machine l.machine) [
      | inl same ↦ put_same lost l.machine true machine same
          ∙ sym (list_any-append test done (l ∷ [])
          ∙ or_last (list_any test done) (l.machine == machine)
          (same_test l.machine machine (sym same)))
      | inr apart ↦ put_else lost l.machine true machine apart ∙ e
          ∙ sym (list_any-append test done (l ∷ [])
          ∙ or_first (list_any test done) (l.machine == machine)
          (other_test l.machine machine (λ z. apart (sym z))))
    ]

-- the losses so far are one entry more
scripted_with : (p : Plan) (losses : List Loss) (lost : ℕ → Bool) (l : Loss) (machine : ℕ)
    → losses ≡ l ∷ drop 1 losses → l.machine ≡ machine → AreScripted p losses lost
    → AreScripted p (drop 1 losses) (put_at lost machine true)
scripted_with p losses lost l machine next number scripted = record {
  done = scripted.done ++ l ∷ [];
  script = scripted.script ∙ ap (λ ls. scripted.done ++ ls) next
      ∙ sym (append_assoc scripted.done (l ∷ []) (drop 1 losses));
  machines = λ m. ap (λ i. put_at lost i true m) (sym number)
      ∙ named_with lost scripted.done l m (scripted.machines m);
}

-- the survivor isn't the machine of the next entry
survives : (p : Plan) (losses : List Loss) (lost : ℕ → Bool) (l : Loss) (machine : ℕ)
    → losses ≡ l ∷ drop 1 losses → l.machine ≡ machine → Survives p losses lost
    → Survives p (drop 1 losses) (put_at lost machine true)
survives p losses lost l machine next number v =
    let spared = subst (All (λ (x : Loss). x.machine ≢ v.machine)) next v.spared in
    record {
      machine = v.machine;
      lives = lives_on p lost machine v.machine
          (λ z. All-head (λ (x : Loss). x.machine ≢ v.machine) l (drop 1 losses) spared
          (number ∙ sym z)) v.lives;
      spared = All-tail (λ (x : Loss). x.machine ≢ v.machine) l (drop 1 losses) spared;
    }

-- the counts of a desk after a loss
counted : (g : Graph) (machine : ℕ) (d : Desk) → AreCounted d
    → ((k : ℕ) (t : Placed) → d.ticket k ≡ Some t → d.claim k ≡ None)
    → AreCounted (desk_without g machine d)
counted g machine d t alone =
    let ticket : (k : ℕ) (x : Placed) → (desk_without g machine d).ticket k ≡ Some x
    → d.ticket k ≡ Some x
    = (λ k x e. (live_some g (stores_without machine d.stores) d.ticket k x e).1) in
    let from : (k attempt : ℕ) (c : Held) → (desk_without g machine d).undone k attempt ≡ Some c
    → ((d.claim k ≡ Some c) × (c.machine ≡ machine) × (c.attempt ≡ attempt))
    ⊎ (d.undone k attempt ≡ Some c)
    = (λ k attempt c e. undone_from machine attempt (d.claim k) (d.undone k attempt) c e) in
    record {
      ticket = λ k x e. t.ticket k x (ticket k x e);
      claim = λ k c e. t.claim k c (elsewhere_some machine (d.claim k) c e).0;
      undone = λ k attempt c e. elim (from k attempt c e) [
        | inl now ↦ (let z = t.claim k c now.0 in let y = now.2 in omega arith)
        | inr before ↦ t.undone k attempt c before
      ];
      before_ticket = λ k attempt c x e q. elim (from k attempt c e) [
        | inl now ↦ absurd (none_apart (d.claim k) c (alone k x (ticket k x q)) now.0)
        | inr before ↦ t.before_ticket k attempt c x before (ticket k x q)
      ];
      before_claim = λ k attempt c x e q.
          (let off = elsewhere_some machine (d.claim k) x q in
          elim (from k attempt c e) [
            | inl now ↦
                let w = now.0 in
                let y = off.0 in
                let same : c ≡ x = cc (w, y) in
                absurd (off.1 (ap (λ (u : Held). u.machine) (sym same) ∙ now.1))
            | inr before ↦ t.before_claim k attempt c x before off.0
          ]);
    }

-- the desk after a loss
desk_sound : (p : Plan) (g : Graph) (d : Desk) (lost : ℕ → Bool) (machine : ℕ)
    → IsDeskSound p g d lost
    → IsDeskSound p g (desk_without g machine d) (put_at lost machine true)
desk_sound p g d lost machine h = record {
  stored = λ k kept e. h.stored k kept (kept_some machine (d.stores k) kept e).0;
  store_lives = λ k kept e.
      (let r = kept_some machine (d.stores k) kept e in
      lives_on p lost machine kept.machine r.1 (h.store_lives k kept r.0));
  run_done = h.run_done;
  ticket_ready = λ k t e. (live_some g (stores_without machine d.stores) d.ticket k t e).0;
  ticket_alone = λ k t e.
      (let r = h.ticket_alone k t (live_some g (stores_without machine d.stores) d.ticket k t e).1 in
      (records_without g d.stores machine k r.0, elsewhere_none machine (d.claim k) r.1));
  ticket_names = λ k t e.
      h.ticket_names k t (live_some g (stores_without machine d.stores) d.ticket k t e).1;
  claimed = λ k c e. h.claimed k c (elsewhere_some machine (d.claim k) c e).0;
  claim_heads = λ k c e. h.claim_heads k c (elsewhere_some machine (d.claim k) c e).0;
  claim_alone = λ k c e. records_without g d.stores machine k
      (h.claim_alone k c (elsewhere_some machine (d.claim k) c e).0);
  claim_lives = λ k c e.
      (let r = elsewhere_some machine (d.claim k) c e in
      lives_on p lost machine c.machine r.1 (h.claim_lives k c r.0));
  claim_seat = λ k c e. h.claim_seat k c (elsewhere_some machine (d.claim k) c e).0;
  undone_attempt = λ k attempt c e.
      elim (undone_from machine attempt (d.claim k) (d.undone k attempt) c e) [
        | inl now ↦ now.2
        | inr before ↦ h.undone_attempt k attempt c before
      ];
  undone_lost = λ k attempt c e.
      elim (undone_from machine attempt (d.claim k) (d.undone k attempt) c e) [
        | inl now ↦ put_same lost machine true c.machine now.1
        | inr before ↦ stays_lost lost machine c.machine (h.undone_lost k attempt c before)
      ];
}

-- the law
pub lose_keeps : LoseLaw
unfolding acted
lose_keeps p s seat machine sound can =
    let next = due_next (length s.journal) machine s.losses can.is_due in
    record {
      graph = sound.graph;
      desk = desk_sound p s.graph s.desk s.lost machine sound.desk;
      attempts = counted s.graph machine s.desk sound.attempts
          (λ k t e. (sound.desk.ticket_alone k t e).1);
      scripted = scripted_with p s.losses s.lost next.0 machine next.1 next.2 sound.scripted;
      survivor = survives p s.losses s.lost next.0 machine next.1 next.2 sound.survivor;
    }
