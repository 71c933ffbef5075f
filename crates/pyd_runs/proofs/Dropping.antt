-- A claim that is dropped keeps what holds.
use Rattle.std.proofs.Common.{◌≡◌, ◌≢◌, ℕ, ◌==◌, Option, None, Some, inl, inr, refl, ap, sym, ◌∙◌}
use Rattle.pyd_runs.specs.Desks.{Held, Desk, put_at}
use Rattle.pyd_runs.specs.Losses.{held_elsewhere}
use Rattle.pyd_runs.specs.Effects.{acted}
use Rattle.pyd_runs.specs.Sound.{AreCounted}
use Rattle.pyd_runs.specs.Laws.{DropLaw}
use Rattle.pyd_runs.proofs.Putting.{at_cases, if_cases, put_cases, put_none, put_same, put_else, test_other}

-- a claim that isn't a machine's is a claim
pub elsewhere_some : (machine : ℕ) (o : Option Held) (c : Held)
    → held_elsewhere machine o ≡ Some c → (o ≡ Some c) × (c.machine ≢ machine)
elsewhere_some machine None c e = absurd (cc (e))
elsewhere_some machine (Some q) c e =
    elim (if_cases (q.machine == machine) None (Some q) (Some c) e) [
      | inl a ↦ absurd (let z = a.1 in cc (z))
      | inr b ↦ (
        b.1,
        (let z : q ≡ c = cc (b.1) in
            λ w. test_other q.machine machine b.0 (ap (λ (x : Held). x.machine) z ∙ w)),
      )
    ]

-- where there is no claim, there is none
pub elsewhere_none : (machine : ℕ) (o : Option Held) → o ≡ None → held_elsewhere machine o ≡ None
elsewhere_none machine None e = refl
elsewhere_none machine (Some q) e = absurd (cc (e))

-- the claims that a loss undid, without one
abbrev pub undone_but : (ℕ → ℕ → Option Held) → ℕ → ℕ → ℕ → ℕ → Option Held
undone_but undone k attempt = put_at undone k (put_at (undone k) attempt None)

-- what is left of them was there
pub undone_was : (undone : ℕ → ℕ → Option Held) (k attempt n b : ℕ) (c : Held)
    → undone_but undone k attempt n b ≡ Some c → undone n b ≡ Some c
undone_was undone k attempt n b c e =
    let new : ℕ → Option Held = put_at (undone k) attempt None in
    elim (at_cases n k) [
      | inl same ↦
          ap (λ i. undone i b) same
          ∙ (put_none (undone k) attempt b c
          (ap (λ (h : ℕ → Option Held). h b) (sym (put_same undone k new n same)) ∙ e)).1
      | inr other ↦
          ap (λ (h : ℕ → Option Held). h b) (sym (put_else undone k new n other)) ∙ e
    ]

-- the claims without one
abbrev pub claims_but : (ℕ → Option Held) → ℕ → ℕ → ℕ → Option Held
claims_but claim k machine = put_at claim k (held_elsewhere machine (claim k))

-- what is left of them was there
pub claim_was : (claim : ℕ → Option Held) (k machine n : ℕ) (c : Held)
    → claims_but claim k machine n ≡ Some c → claim n ≡ Some c
claim_was claim k machine n c e =
    elim (put_cases claim k (held_elsewhere machine (claim k)) n (Some c) e) [
      | inl here ↦ ap claim here.0 ∙ (elsewhere_some machine (claim k) c here.1).0
      | inr old ↦ old.1
    ]

-- and where there was none, there is none
pub claim_none : (claim : ℕ → Option Held) (k machine n : ℕ) → claim n ≡ None
    → claims_but claim k machine n ≡ None
claim_none claim k machine n e =
    let new : Option Held = held_elsewhere machine (claim k) in
    elim (at_cases n k) [
      | inl same ↦ put_same claim k new n same
          ∙ elsewhere_none machine (claim k) (ap claim (sym same) ∙ e)
      | inr other ↦ put_else claim k new n other ∙ e
    ]

-- the counts of a desk with fewer claims
counted : (d : Desk) (k attempt machine : ℕ) → AreCounted d
    → AreCounted (record d {
      claim = claims_but d.claim k machine;
      undone = undone_but d.undone k attempt;
    })
counted d k attempt machine t = record {
  ticket = t.ticket;
  claim = λ n c e. t.claim n c (claim_was d.claim k machine n c e);
  undone = λ n b c e. t.undone n b c (undone_was d.undone k attempt n b c e);
  before_ticket = λ n b c x e. t.before_ticket n b c x (undone_was d.undone k attempt n b c e);
  before_claim = λ n b c now e q.
      t.before_claim n b c now (undone_was d.undone k attempt n b c e)
      (claim_was d.claim k machine n now q);
}

-- the law
pub drop_keeps : DropLaw
unfolding acted
drop_keeps p s seat k attempt machine sound =
    let d = s.desk in
    let h = sound.desk in
    record {
      graph = sound.graph;
      attempts = counted d k attempt machine sound.attempts;
      scripted = sound.scripted;
      survivor = sound.survivor;
      desk = record {
        stored = h.stored;
        store_lives = h.store_lives;
        run_done = h.run_done;
        ticket_ready = h.ticket_ready;
        ticket_alone = λ n t e. (let r = h.ticket_alone n t e in
            (r.0, claim_none d.claim k machine n r.1));
        ticket_names = h.ticket_names;
        claimed = λ n c e. h.claimed n c (claim_was d.claim k machine n c e);
        claim_heads = λ n c e. h.claim_heads n c (claim_was d.claim k machine n c e);
        claim_alone = λ n c e. h.claim_alone n c (claim_was d.claim k machine n c e);
        claim_lives = λ n c e. h.claim_lives n c (claim_was d.claim k machine n c e);
        claim_seat = λ n c e. h.claim_seat n c (claim_was d.claim k machine n c e);
        undone_attempt = λ n b c e.
            h.undone_attempt n b c (undone_was d.undone k attempt n b c e);
        undone_lost = λ n b c e.
            h.undone_lost n b c (undone_was d.undone k attempt n b c e);
      };
    }
