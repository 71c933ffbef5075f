-- Which claims a seat holds, by the seat's own events alone.
use Rattle.std.proofs.Common.{◌≡◌, ◌≢◌, ℕ, ◌==◌, Bool, true, false, ◌&&◌, if◌then◌else◌, cond, List, [], ◌∷◌, Option, None, Some, ◌⊎◌, inl, inr, refl, ap, sym, ◌∙◌, subst, arith}
use Rattle.std.specs.List.{All}
use Rattle.std.proofs.lemmas.List.Elements.{All-head, All-tail}
use Rattle.pyd_board.specs.declared.event.Act.{Act}
use Rattle.pyd_board.specs.declared.event.Act.TheVariants.{Place, Claim, Finish, Drop, Refine, Settle, Lose, Trim}
use Rattle.pyd_board.specs.declared.event.Event.{Event}
use Rattle.pyd_ir.specs.declared.job.Job.{Job}
use Rattle.pyd_ir.specs.Meaning.{job_ran}
use Rattle.pyd_runs.specs.Plans.{Plan, limits_of}
use Rattle.pyd_runs.specs.Desks.{Held, put_at}
use Rattle.pyd_runs.specs.Records.{ready}
use Rattle.pyd_runs.specs.Losses.{held_elsewhere}
use Rattle.pyd_runs.specs.Effects.{State, first_state, acted, happens, held_by, finished_by, is_run, kept_by_driver, kept_by_machine}
use Rattle.pyd_runs.specs.Enabled.{CanAct, CanDrop, Enabled}
use Rattle.pyd_runs.specs.Replay.{IsLegalFrom, after}
use Rattle.pyd_runs.specs.Sound.{IsSound}
use Rattle.pyd_runs.specs.Claims.{IsHeld, LetsGo, LetGoLaw, TakeLaw, OwnLaw, SinceLaw, HoldsAttempt, IsHeldSince, held_by_act, held_from, own_events}
use Rattle.pyd_runs.proofs.Putting.{put_cases, put_none, put_same, same_test, test_same, test_other}
use Rattle.pyd_runs.proofs.Readiness.{and_parts, and_both}
use Rattle.pyd_runs.proofs.Dropping.{claim_was, claims_but, undone_was, undone_but, elsewhere_some}
use Rattle.pyd_runs.proofs.Holding.{claims_hold, holds_some, holds_parts, finish_undone}
use Rattle.pyd_runs.proofs.Running.{event_keeps, runs_on}
use Rattle.pyd_runs.proofs.Starting.{starts}
use Rattle.pyd_runs.proofs.Beginnings.{after_both, legal_parts}
use Rattle.pyd_runs.proofs.Unchanged.{claims_have}
use Rattle.pyd_runs.proofs.Named.{undone_from}

-- a test of a node and an attempt, by what they are
pair_same : (n k b a : ℕ) → ((n == k) && (b == a)) ≡ true → (n ≡ k) × (b ≡ a)
pair_same n k b a met =
    let parts = and_parts (n == k) (b == a) met in
    (test_same n k parts.0, test_same b a parts.1)

pair_other : (n k b a : ℕ) → ((n == k) && (b == a)) ≡ false → n ≡ k → b ≡ a → ⊥
pair_other n k b a unmet same also =
    let met = and_both (n == k) (b == a) (same_test n k same) (same_test b a also) in
    absurd (cc (unmet, met))

-- a claim behind a Finish was one before it
pub finish_was : (p : Plan) (s : State) (k machine n : ℕ) (o : Option Held) (c : Held)
    → (finished_by p s k machine o).desk.claim n ≡ Some c → s.desk.claim n ≡ Some c
finish_was p s k machine n None c e = e
finish_was p s k machine n (Some q) c e = by_kind (is_run q.job.task) e
  where
    by_kind : (b : Bool)
        → (if b then kept_by_driver s k (job_ran p.file (limits_of p) q.job)
        else kept_by_machine s k machine (job_ran p.file (limits_of p) q.job)).desk.claim n
        ≡ Some c
        → s.desk.claim n ≡ Some c
    by_kind true e = (put_none s.desk.claim k n c e).1
    by_kind false e = (put_none s.desk.claim k n c e).1

-- and of another node
finish_apart : (p : Plan) (s : State) (k machine n : ℕ) (q c : Held)
    → (finished_by p s k machine (Some q)).desk.claim n ≡ Some c → n ≢ k
finish_apart p s k machine n q c e = by_kind (is_run q.job.task) e
  where
    by_kind : (b : Bool)
        → (if b then kept_by_driver s k (job_ran p.file (limits_of p) q.job)
        else kept_by_machine s k machine (job_ran p.file (limits_of p) q.job)).desk.claim n
        ≡ Some c
        → n ≢ k
    by_kind true e = (put_none s.desk.claim k n c e).0
    by_kind false e = (put_none s.desk.claim k n c e).0

-- an attempt that is finished isn't held
finish_gone : (p : Plan) (s : State) (seat k a m : ℕ) (c : Held) → IsSound p s
    → CanAct p s seat (Finish k a m) → a ≡ c.attempt
    → IsHeld (finished_by p s k m (s.desk.claim k)) k c → ⊥
finish_gone p s seat k a m c sound can same (inl claim) =
    let q = holds_some (s.desk.claim k) seat a m can.1.holds in
    finish_apart p s k m k q.0 c
    (subst (λ (o : Option Held). (finished_by p s k m o).desk.claim k ≡ Some c) q.1 claim) refl
finish_gone p s seat k a m c sound can same (inr undone) =
    let q = holds_some (s.desk.claim k) seat a m can.1.holds in
    let was : s.desk.undone k c.attempt ≡ Some c =
    ap (λ (f : ℕ → ℕ → Option Held). f k c.attempt)
    (sym (finish_undone p s k m (s.desk.claim k))) ∙ undone in
    let low = sound.attempts.before_claim k c.attempt c q.0 was q.1 in
    let last = sound.attempts.claim k q.0 q.1 in
    let is = q.3 in absurd (omega (arith, low, last, is, same))

-- an undone attempt that is dropped isn't among those left
undone_apart : (undone : ℕ → ℕ → Option Held) (k a b : ℕ) (c : Held)
    → undone_but undone k a k b ≡ Some c → b ≢ a
undone_apart undone k a b c e =
    let new : ℕ → Option Held = put_at (undone k) a None in
    (put_none (undone k) a b c
    (ap (λ (h : ℕ → Option Held). h b) (sym (put_same undone k new k refl)) ∙ e)).0

-- an attempt that is dropped isn't held
drop_gone : (p : Plan) (s : State) (seat k a m : ℕ) (c : Held) → IsSound p s
    → CanDrop s seat k a m → a ≡ c.attempt
    → (claims_but s.desk.claim k m k ≡ Some c)
    ⊎ (undone_but s.desk.undone k a k c.attempt ≡ Some c) → ⊥
drop_gone p s seat k a m c sound can same (inr undone) =
    undone_apart s.desk.undone k a c.attempt c undone (sym same)
drop_gone p s seat k a m c sound (inl due) same (inl claim) =
    let was = claim_was s.desk.claim k m k c claim in
    let q = holds_some (s.desk.undone k a) seat a m due.1 in
    let low = sound.attempts.before_claim k a q.0 c q.1 was in
    let last = sound.attempts.claim k c was in absurd (omega (arith, low, last, same))
drop_gone p s seat k a m c sound (inr left) same (inl claim) =
    elim (put_cases s.desk.claim k (held_elsewhere m (s.desk.claim k)) k (Some c) claim) [
      | inr old ↦ absurd (old.0 refl)
      | inl here ↦
          let was = elsewhere_some m (s.desk.claim k) c here.1 in
          let x = holds_parts (s.desk.claim k) seat a m c left.2 was.0 in
          absurd (was.1 (sym x.2))
    ]

-- what a seat finishes or drops isn't held any more
act_gone : (p : Plan) (s : State) (seat : ℕ) (act : Act) (n : ℕ) (c : Held) → IsSound p s
    → CanAct p s seat act → LetsGo n c.attempt act → IsHeld (acted p s seat act) n c → ⊥
unfolding acted
act_gone p s seat (Place k a m) n c sound can go held = go
act_gone p s seat (Claim k a m) n c sound can go held = go
act_gone p s seat (Refine k) n c sound can go held = go
act_gone p s seat (Settle k) n c sound can go held = go
act_gone p s seat (Lose m) n c sound can go held = go
act_gone p s seat (Trim k) n c sound can go held = go
act_gone p s seat (Finish k a m) n c sound can go held =
    finish_gone p s seat k a m c sound can go.1
    (subst (λ i. IsHeld (finished_by p s k m (s.desk.claim k)) i c) (sym go.0) held)
act_gone p s seat (Drop k a m) n c sound can go held =
    drop_gone p s seat k a m c sound can go.1
    (subst (λ i. (claims_but s.desk.claim k m i ≡ Some c)
    ⊎ (undone_but s.desk.undone k a i c.attempt ≡ Some c)) (sym go.0) held)

-- what is held behind an event is held behind what its seat did
held_by_seat : (p : Plan) (s : State) (e : Event) (k : ℕ) (c : Held)
    → IsHeld (happens p s e) k c → IsHeld (acted p s e.by e.act) k c
unfolding happens
held_by_seat p s e k c (inl claim) = inl claim
held_by_seat p s e k c (inr undone) = inr undone

-- the law
pub lets_go : LetGoLaw
lets_go p s e k c sound can go held =
    act_gone p s e.by e.act k c sound can.act go.1 (held_by_seat p s e k c held)

-- the parts of a claim
claim_parts : (a m seat : ℕ) (o : Option Job) (c : Held) → held_by a m seat o ≡ Some c
    → (a ≡ c.attempt) × (m ≡ c.machine) × (seat ≡ c.seat)
claim_parts a m seat None c e = absurd (cc (e))
claim_parts a m seat (Some job) c e =
    let q : Held = record { attempt = a; machine = m; seat = seat; job = job } in
    let z : q ≡ c = cc (e) in (
      ap (λ (x : Held). x.attempt) z,
      ap (λ (x : Held). x.machine) z,
      ap (λ (x : Held). x.seat) z,
    )

-- what is held behind an act was held before, or the act claims it
act_takes : (p : Plan) (s : State) (seat : ℕ) (act : Act) (n : ℕ) (c : Held)
    → IsHeld (acted p s seat act) n c
    → IsHeld s n c ⊎ ((seat ≡ c.seat) × (act ≡ Claim n c.attempt c.machine))
unfolding acted
act_takes p s seat (Place k a m) n c held = inl held
act_takes p s seat (Refine k) n c held = inl held
act_takes p s seat (Settle k) n c held = inl held
act_takes p s seat (Trim k) n c held = inl held
act_takes p s seat (Claim k a m) n c (inr undone) = inl (inr undone)
act_takes p s seat (Claim k a m) n c (inl claim) =
    elim (put_cases s.desk.claim k (held_by a m seat (ready s.graph s.desk.stores k a)) n (Some c)
    claim) [
      | inr old ↦ inl (inl old.1)
      | inl here ↦
          let x = claim_parts a m seat (ready s.graph s.desk.stores k a) c here.1 in inr (
            x.2,
            ap (λ i. Claim i a m) (sym here.0) ∙ ap (λ i. Claim n i m) x.0
                ∙ ap (λ i. Claim n c.attempt i) x.1,
          )
    ]
act_takes p s seat (Finish k a m) n c (inl claim) =
    inl (inl (finish_was p s k m n (s.desk.claim k) c claim))
act_takes p s seat (Finish k a m) n c (inr undone) =
    inl (inr (ap (λ (f : ℕ → ℕ → Option Held). f n c.attempt)
    (sym (finish_undone p s k m (s.desk.claim k))) ∙ undone))
act_takes p s seat (Drop k a m) n c (inl claim) =
    inl (inl (claim_was s.desk.claim k m n c claim))
act_takes p s seat (Drop k a m) n c (inr undone) =
    inl (inr (undone_was s.desk.undone k a n c.attempt c undone))
act_takes p s seat (Lose m) n c (inl claim) =
    inl (inl (elsewhere_some m (s.desk.claim n) c claim).0)
act_takes p s seat (Lose m) n c (inr undone) =
    elim (undone_from m c.attempt (s.desk.claim n) (s.desk.undone n c.attempt) c undone) [
      | inl claim ↦ inl (inl claim)
      | inr old ↦ inl (inr old)
    ]

-- the law
pub takes : TakeLaw
takes p s e k c can held =
    elim (act_takes p s e.by e.act k c (held_by_seat p s e k c held)) [
      | inl old ↦ inl old
      | inr new ↦ inr (record { by = new.0; act = new.1 })
    ]

-- a truth value says whether a seat holds an attempt
record Tells (b : Bool) (s : State) (seat k a : ℕ) : Type 0 where
  holds : b ≡ true → HoldsAttempt s seat k a
  held : HoldsAttempt s seat k a → b ≡ true

module _ (p : Plan) (s : State) (e : Event) (seat k a : ℕ) (sound : IsSound p s)
    (can : Enabled p s e) where
  -- behind an event that neither lets it go nor claims it
  kept_so : (b : Bool) → ((e.by ≡ seat) → LetsGo k a e.act → ⊥)
      → ((m : ℕ) → (e.by ≡ seat) → e.act ≡ Claim k a m → ⊥) → Tells b s seat k a
      → Tells b (happens p s e) seat k a
  kept_so b keeps unclaimed t = record {
    holds = λ is.
        (let h = t.holds is in record {
          claim = h.claim;
          held = claims_hold p s e k h.claim sound can
              (λ go. keeps (go.0 ∙ h.by_seat)
              (subst (λ i. LetsGo k i e.act) h.of_attempt go.1)) h.held;
          by_seat = h.by_seat;
          of_attempt = h.of_attempt;
        });
    held = λ h. elim (takes p s e k h.claim can h.held) [
      | inl old ↦ t.held (record {
        claim = h.claim;
        held = old;
        by_seat = h.by_seat;
        of_attempt = h.of_attempt;
      })
      | inr new ↦ absurd (unclaimed h.claim.machine (new.by ∙ h.by_seat)
          (new.act ∙ ap (λ i. Claim k i h.claim.machine) h.of_attempt))
    ];
  }

  -- behind its claim
  taken_so : (m : ℕ) → e.by ≡ seat → e.act ≡ Claim k a m → Tells true (happens p s e) seat k a
  taken_so m own is =
      let x = claims_have p s e k a m sound can is in record {
        holds = λ met. record {
          claim = record { attempt = a; machine = m; seat = e.by; job = x.job };
          held = inl x.claim;
          by_seat = own;
          of_attempt = refl;
        };
        held = λ h. refl;
      }

  -- behind its Finish or Drop
  gone_so : e.by ≡ seat → LetsGo k a e.act → Tells false (happens p s e) seat k a
  gone_so own go = record {
    holds = λ met. absurd (cc (met));
    held = λ h. absurd (lets_go p s e k h.claim sound can
        (own ∙ sym h.by_seat, subst (λ i. LetsGo k i e.act) (sym h.of_attempt) go) h.held);
  }

  -- behind an act that neither claims nor lets go anything
  idle_so : (act : Act) (b : Bool) → e.act ≡ act → (LetsGo k a act → ⊥)
      → ((m : ℕ) → act ≡ Claim k a m → ⊥) → Tells b s seat k a → Tells b (happens p s e) seat k a
  idle_so act b is keeps unclaimed t =
      kept_so b (λ same go. keeps (subst (LetsGo k a) is go))
      (λ m same claim. unclaimed m (sym is ∙ claim)) t

  -- behind a claim of the seat
  claim_so : (n c m : ℕ) (b met : Bool) → e.act ≡ Claim n c m → e.by ≡ seat
      → ((n == k) && (c == a)) ≡ met → Tells b s seat k a
      → Tells (if met then true else b) (happens p s e) seat k a
  claim_so n c m b true is own same t =
      let both = pair_same n k c a same in
      taken_so m own (is ∙ ap (λ i. Claim i c m) both.0 ∙ ap (λ i. Claim k i m) both.1)
  claim_so n c m b false is own other t =
      idle_so (Claim n c m) b is (λ go. go)
      (λ j z. pair_other n k c a other (let w : n ≡ k = cc (z) in w)
      (let w : c ≡ a = cc (z) in w)) t

  -- behind a Finish or Drop of the seat
  let_go_so : (act : Act) (n c : ℕ) (b met : Bool) → e.act ≡ act → e.by ≡ seat
      → LetsGo n c act → (LetsGo k a act → (n ≡ k) × (c ≡ a))
      → ((m : ℕ) → act ≡ Claim k a m → ⊥) → ((n == k) && (c == a)) ≡ met → Tells b s seat k a
      → Tells (if met then false else b) (happens p s e) seat k a
  let_go_so act n c b true is own goes which unclaimed same t =
      let both = pair_same n k c a same in
      gone_so own (subst (LetsGo k a) (sym is)
      (subst (λ i. LetsGo k i act) both.1 (subst (λ i. LetsGo i c act) both.0 goes)))
  let_go_so act n c b false is own goes which unclaimed other t =
      idle_so act b is
      (λ go. let z = which go in pair_other n k c a other z.0 z.1) unclaimed t

  -- by an act of its own seat
  own_so : (act : Act) (b : Bool) → e.act ≡ act → e.by ≡ seat → Tells b s seat k a
      → Tells (held_by_act k a act b) (happens p s e) seat k a
  own_so (Place n c m) b is own t =
      idle_so (Place n c m) b is (λ go. go) (λ j z. absurd (cc (z))) t
  own_so (Refine n) b is own t = idle_so (Refine n) b is (λ go. go) (λ j z. absurd (cc (z))) t
  own_so (Settle n) b is own t = idle_so (Settle n) b is (λ go. go) (λ j z. absurd (cc (z))) t
  own_so (Lose m) b is own t = idle_so (Lose m) b is (λ go. go) (λ j z. absurd (cc (z))) t
  own_so (Trim n) b is own t = idle_so (Trim n) b is (λ go. go) (λ j z. absurd (cc (z))) t
  own_so (Claim n c m) b is own t = claim_so n c m b ((n == k) && (c == a)) is own refl t
  own_so (Finish n c m) b is own t =
      let_go_so (Finish n c m) n c b ((n == k) && (c == a)) is own (refl, refl) (λ go. go)
      (λ j z. absurd (cc (z))) refl t
  own_so (Drop n c m) b is own t =
      let_go_so (Drop n c m) n c b ((n == k) && (c == a)) is own (refl, refl) (λ go. go)
      (λ j z. absurd (cc (z))) refl t

  -- by an act of another seat
  other_so : (b : Bool) → e.by ≢ seat → Tells b s seat k a → Tells b (happens p s e) seat k a
  other_so b other t =
      kept_so b (λ same go. other same) (λ j same claim. other same) t

-- by an event, whether it is the seat's or not
event_tells : (p : Plan) (s : State) (e : Event) (seat k a : ℕ) (es : List Event) (b own : Bool)
    → IsSound p s → Enabled p s e → (e.by == seat) ≡ own
    → ((c : Bool) → Tells c (happens p s e) seat k a
    → Tells (held_from k a c (own_events seat es)) (after p (happens p s e) es) seat k a)
    → Tells b s seat k a
    → Tells (held_from k a b (cond own (e ∷ own_events seat es) (own_events seat es)))
    (after p (happens p s e) es) seat k a
event_tells p s e seat k a es b true sound can same rest t =
    rest (held_by_act k a e.act b)
    (own_so p s e seat k a sound can e.act b refl (test_same e.by seat same) t)
event_tells p s e seat k a es b false sound can other rest t =
    rest b (other_so p s e seat k a sound can b (test_other e.by seat other) t)

-- over all events
run_tells : (p : Plan) (s : State) (seat k a : ℕ) (es : List Event) (b : Bool) → IsSound p s
    → IsLegalFrom p s es → Tells b s seat k a
    → Tells (held_from k a b (own_events seat es)) (after p s es) seat k a
unfolding IsLegalFrom after
run_tells p s seat k a [] b sound legal t = t
run_tells p s seat k a (e ∷ es) b sound legal t =
    event_tells p s e seat k a es b (e.by == seat) sound legal.0 refl
    (λ c. run_tells p (happens p s e) seat k a es c (event_keeps p s e sound legal.0) legal.1) t

-- nothing is held before any event
none_held : (p : Plan) (seat k a : ℕ) → Tells false (first_state p) seat k a
none_held p seat k a = record {
  holds = λ met. absurd (cc (met));
  held = λ h. elim h.held [
    | inl claim ↦ absurd (cc (claim))
    | inr undone ↦ absurd (cc (undone))
  ];
}

-- the law
pub holds_own : OwnLaw
holds_own p es seat k a runnable legal =
    let t = run_tells p (first_state p) seat k a es false (starts p runnable) legal
    (none_held p seat k a) in
    record { holds = λ met. t.holds met; held = λ h. t.held h }

-- a claim that isn't let go is held behind all events
pub held_on : (p : Plan) (s : State) (es : List Event) (k : ℕ) (c : Held) → IsSound p s
    → IsLegalFrom p s es → All (λ (e : Event). (e.by ≡ c.seat) → LetsGo k c.attempt e.act → ⊥) es
    → IsHeld s k c → IsHeld (after p s es) k c
unfolding IsLegalFrom after
held_on p s [] k c sound legal keeps held = held
held_on p s (e ∷ es) k c sound legal keeps held =
    let rule : Event → Type 0 = λ (x : Event). (x.by ≡ c.seat) → LetsGo k c.attempt x.act → ⊥ in
    let first = All-head rule e es keeps in
    held_on p (happens p s e) es k c (event_keeps p s e sound legal.0) legal.1
    (All-tail rule e es keeps)
    (claims_hold p s e k c sound legal.0 (λ go. first go.0 go.1) held)

-- from the state before the claim
since : (p : Plan) (s : State) (first : Event) (es : List Event) (k a m : ℕ) → IsSound p s
    → IsLegalFrom p s (first ∷ es) → first.act ≡ Claim k a m
    → All (λ (e : Event). (e.by ≡ first.by) → LetsGo k a e.act → ⊥) es
    → IsHeldSince s (after p s (first ∷ es)) first.by k a m
unfolding IsLegalFrom after
since p s first es k a m sound legal is keeps =
    let x = claims_have p s first k a m sound legal.0 is in
    let c : Held = record { attempt = a; machine = m; seat = first.by; job = x.job } in record {
      job = x.job;
      is_ready = x.is_ready;
      held = held_on p (happens p s first) es k c (event_keeps p s first sound legal.0) legal.1
          keeps (inl x.claim);
    }

-- the law
pub held_since : SinceLaw
held_since p before behind first k a m runnable legal is keeps =
    let s = after p (first_state p) before in
    let parts = legal_parts p (first_state p) before (first ∷ behind) legal in
    subst (λ (now : State). IsHeldSince s now first.by k a m)
    (sym (after_both p (first_state p) before (first ∷ behind)))
    (since p s first behind k a m (runs_on p (first_state p) before (starts p runnable) parts.0)
    parts.1 is keeps)
