-- A claim that is finished keeps what holds.
use Rattle.std.proofs.Common.{◌≡◌, ◌≢◌, ℕ, Bool, true, false, not, ◌&&◌, ◌||◌, if◌then◌else◌, List, [], ◌∷◌, ◌++◌, Option, None, Some, is_some, ◌⊎◌, inl, inr, refl, ap, sym, ◌∙◌, subst}
use Rattle.std.specs.Prelude.{IsTrue, option_map}
use Rattle.std.specs.List.{Contains}
use Rattle.pyd_meaning.specs.declared.ran.Ran.{Ran}
use Rattle.pyd_ir.specs.declared.job.Job.{Job}
use Rattle.pyd_ir.specs.declared.node.Node.{Node}
use Rattle.pyd_ir.specs.Arguments.{is_pure}
use Rattle.pyd_ir.specs.Meaning.{job_ran}
use Rattle.pyd_refine.specs.Ordering.{IsOrdered, LieBelow}
use Rattle.pyd_runs.specs.Plans.{Plan, limits_of}
use Rattle.pyd_runs.specs.Graphs.{Graph, nodes}
use Rattle.pyd_runs.specs.Desks.{Kept, Held, Stores, Desk, put_at}
use Rattle.pyd_runs.specs.Records.{or_else, stored, records, heads}
use Rattle.pyd_runs.specs.Reach.{Reached, by_chain, by_past}
use Rattle.pyd_runs.specs.Effects.{State, acted, finished_by, is_run, kept_by_driver, kept_by_machine}
use Rattle.pyd_runs.specs.Enabled.{Lives}
use Rattle.pyd_runs.specs.Sound.{IsSound, IsGraphSound, AreCounted, IsSeen, IsJob, IsGone, IsFresh, HasGiven, sight, stands, is_over}
use Rattle.pyd_runs.specs.Laws.{FinishLaw}
use Rattle.pyd_runs.proofs.Putting.{at_cases, put_cases, put_none, put_else, none_apart, test_same}
use Rattle.pyd_runs.proofs.Readiness.{IsBelow, ready_within}
use Rattle.pyd_runs.proofs.Standing.{same_node}
use Rattle.pyd_runs.proofs.Within.{job_seen, run_impure}

-- a record in a store where there was none takes none away
store_grows : (g : Graph) (stores : Stores) (k : ℕ) (o : Option Kept) → records g stores k ≡ None
    → (n : ℕ) → IsBelow (records g stores n) (records g (put_at stores k o) n)
store_grows g stores k o free n ran e = elim (at_cases n k) [
  | inl same ↦ absurd (none_apart (records g stores k) ran free
      (ap (records g stores) (sym same) ∙ e))
  | inr other ↦
      ap (λ kept. or_else (g.driver n) (option_map (λ x. x.ran) kept))
      (put_else stores k o n other) ∙ e
]

-- the graph with one more record of the driver
abbrev pub driven_by : Graph → ℕ → Ran → Graph
driven_by g k ran = record g { driver = put_at g.driver k (Some ran) }

-- a record of the driver where there was none takes none away
driver_grows : (g : Graph) (stores : Stores) (k : ℕ) (ran : Ran) → records g stores k ≡ None
    → (n : ℕ) → IsBelow (records g stores n) (records (driven_by g k ran) stores n)
driver_grows g stores k ran free n r e = elim (at_cases n k) [
  | inl same ↦ absurd (none_apart (records g stores k) r free
      (ap (records g stores) (sym same) ∙ e))
  | inr other ↦
      ap (λ o. or_else o (stored stores n)) (put_else g.driver k (Some ran) n other) ∙ e
]

-- the head of a list stands in it
heads_stands : (k : ℕ) (ns : List Node) → IsTrue (heads k ns) → stands k ns ≡ true
heads_stands k [] e = absurd (cc (e))
heads_stands k (n ∷ ns) e = ap (λ b. b || stands k ns) e

-- and isn't fresh in it
heads_apart : (k : ℕ) (ns : List Node) → IsTrue (heads k ns) → IsFresh k ns → ⊥
heads_apart k [] e fresh = absurd (cc (e))
heads_apart k (n ∷ ns) e fresh = fresh.0 (test_same n.id k e)

-- what is fresh in two lists is fresh in the second
fresh_behind : (k : ℕ) (before behind : List Node) → IsFresh k (before ++ behind)
    → IsFresh k behind
fresh_behind k [] behind fresh = fresh
fresh_behind k (n ∷ before) behind fresh = fresh_behind k before behind fresh.1

-- a node of the chain isn't over, whatever the driver has of it
over_by : (standing past : Bool) (a b : Bool) → standing ≡ true
    → (not standing && (past || a)) ≡ (not standing && (past || b))
over_by true past a b e = refl
over_by false past a b e = absurd (cc (e))

-- what is over stays so
over_same : (g : Graph) (k : ℕ) (ran : Ran) → IsTrue (heads k g.chain) → (n : ℕ)
    → is_over (driven_by g k ran) n ≡ is_over g n
over_same g k ran head n = elim (at_cases n k) [
  | inl same ↦ over_by (stands n g.chain) (stands n g.past)
      (is_some (put_at g.driver k (Some ran) n)) (is_some (g.driver n))
      (ap (λ i. stands i g.chain) same ∙ heads_stands k g.chain head)
  | inr other ↦ ap (λ o. not (stands n g.chain) && (stands n g.past || is_some o))
      (put_else g.driver k (Some ran) n other)
]

-- the chain reaches what it reached
reached_same : (g : Graph) (k : ℕ) (ran : Ran) (n : ℕ) → Reached (driven_by g k ran) n
    → Reached g n
reached_same g k ran n (by_chain x n' at names) = by_chain x n at names
reached_same g k ran n (by_past x n' at reached names) =
    by_past x n at (reached_same g k ran x.id reached) names

-- a past node gave what it gave
given_same : (p : Plan) (g : Graph) (k : ℕ) (ran : Ran) (n : Node) → HasGiven p g n
    → HasGiven p (driven_by g k ran) n
given_same p g k ran n h = record {
  value = h.value;
  looked = h.looked;
  look = h.look;
  gave = h.gave;
  ports = h.ports;
}

-- what was seen of a node is seen of it
seen_same : (p : Plan) (g : Graph) (k : ℕ) (ran : Ran) (n : ℕ) (r : Ran) → IsSeen p g n r
    → IsSeen p (driven_by g k ran) n r
seen_same p g k ran n r h = record {
  node = h.node;
  stands = h.stands;
  number = h.number;
  does = h.does;
  meaning = h.meaning;
  has_job = h.has_job;
  as_done = h.as_done;
}

-- a job that was its node's is it
job_same : (p : Plan) (g : Graph) (k : ℕ) (ran : Ran) (n : ℕ) (job : Job) → IsJob p g n job
    → IsJob p (driven_by g k ran) n job
job_same p g k ran n job h = record {
  node = h.node;
  stands = h.stands;
  number = h.number;
  inputs = h.inputs;
  task = h.task;
  line = h.line;
  depth = h.depth;
}

-- or it is gone
known_same : (p : Plan) (g : Graph) (k : ℕ) (ran : Ran) (n : ℕ) (r : Ran)
    → IsSeen p g n r ⊎ IsGone g n
    → IsSeen p (driven_by g k ran) n r ⊎ IsGone (driven_by g k ran) n
known_same p g k ran n r (inl s) = inl (seen_same p g k ran n r s)
known_same p g k ran n r (inr gone) = inr gone

-- the graph, where the driver has the record of the chain's head
graph_driven : (p : Plan) (g : Graph) (k : ℕ) (ran : Ran) → IsTrue (heads k g.chain)
    → ((n : Node) → Contains (nodes g) n → n.id ≡ k → is_pure n.work ≡ false)
    → IsGraphSound p g → IsGraphSound p (driven_by g k ran)
graph_driven p g k ran head effect h =
    let over : is_over (driven_by g k ran) ≡ is_over g = (λ i n. over_same g k ran head n i) in
    record {
      goes_on = h.goes_on;
      ended = h.ended;
      unfinished = h.unfinished;
      supplied = h.supplied;
      listed = subst (λ (known : ℕ → Bool). IsOrdered known g.next g.chain) (sym over) h.listed;
      below = subst (λ (known : ℕ → Bool). LieBelow known g.next) (sym over) h.below;
      slots = h.slots;
      ordered = h.ordered;
      apart = h.apart;
      past = λ n d below. given_same p g k ran _ (h.past n d below);
      present = λ n reached.
          ap (λ b. b || stands n g.chain) (over_same g k ran head n)
          ∙ h.present n (reached_same g k ran n reached);
      driven = λ n r e fresh. elim (put_cases g.driver k (Some ran) n (Some r) e) [
        | inl here ↦ absurd (heads_apart k g.chain head
            (subst (λ (i : ℕ). IsFresh i g.chain) here.0 fresh))
        | inr old ↦ (let was = h.driven n r old.1 fresh in record {
          value = was.value;
          outcome = was.outcome;
          port = was.port;
          no_other = was.no_other;
        })
      ];
      effects = λ n at pure. elim (at_cases n.id k) [
        | inl same ↦ absurd (let f = effect n at same in cc (pure, f))
        | inr other ↦ put_else g.driver k (Some ran) n.id other ∙ h.effects n at pure
      ];
      blank = h.blank;
    }

-- the counts of a desk without a claim
counted : (d : Desk) (k : ℕ) (stores : Stores) → AreCounted d
    → AreCounted (record d { claim = put_at d.claim k None; stores = stores })
counted d k stores t = record {
  ticket = t.ticket;
  claim = λ n c e. t.claim n c (put_none d.claim k n c e).1;
  undone = t.undone;
  before_ticket = t.before_ticket;
  before_claim = λ n b c now e q. t.before_claim n b c now e (put_none d.claim k n now q).1;
}

-- what a claim's job does is seen, or its node is gone
seen_by_job : (p : Plan) (g : Graph) (k : ℕ) (job : Job) → IsJob p g k job ⊎ IsGone g k
    → IsSeen p g k (job_ran p.file (limits_of p) job) ⊎ IsGone g k
seen_by_job p g k job (inl j) = inl (job_seen p g k job j)
seen_by_job p g k job (inr gone) = inr gone

-- the node of a call that isn't pure isn't pure
run_effect : (p : Plan) (g : Graph) (k : ℕ) (job : Job) → IsGraphSound p g
    → IsTrue (heads k g.chain) → IsTrue (is_run job.task) → IsJob p g k job ⊎ IsGone g k
    → (n : Node) → Contains (nodes g) n → n.id ≡ k → is_pure n.work ≡ false
run_effect p g k job sound head run (inr gone) n at number =
    absurd (heads_apart k g.chain head (fresh_behind k g.past g.chain gone.1))
run_effect p g k job sound head run (inl j) n at number =
    ap (λ (x : Node). is_pure x.work)
    (same_node p g n j.node sound at j.stands (number ∙ sym j.number))
    ∙ run_impure (sight p g) j.node.work job.task j.task run

-- what was done goes to the driver
driver_keeps : (p : Plan) (s : State) (k : ℕ) (c : Held) → IsSound p s → s.desk.claim k ≡ Some c
    → IsTrue (is_run c.job.task)
    → IsSound p (kept_by_driver s k (job_ran p.file (limits_of p) c.job))
driver_keeps p s k c sound claim run =
    let d = s.desk in
    let g = s.graph in
    let h = sound.desk in
    let ran : Ran = job_ran p.file (limits_of p) c.job in
    let head : IsTrue (heads k g.chain) = h.claim_heads k c claim run in
    let free : records g d.stores k ≡ None = h.claim_alone k c claim in
    let effect = run_effect p g k c.job sound.graph head run (h.claimed k c claim) in
    record {
      graph = graph_driven p g k ran head effect sound.graph;
      attempts = counted d k d.stores sound.attempts;
      scripted = sound.scripted;
      survivor = sound.survivor;
      desk = record {
        stored = λ n kept e. known_same p g k ran n kept.ran (h.stored n kept e);
        store_lives = h.store_lives;
        run_done = λ n r x e at number. elim (put_cases g.driver k (Some ran) n (Some r) e) [
          | inl here ↦ elim (h.claimed k c claim) [
            | inl job ↦
                let one : ran ≡ r = (let z = here.1 in cc (z)) in
                rw (here.0, ← one) (seen_same p g k ran k ran (job_seen p g k c.job job))
            | inr gone ↦ absurd (heads_apart k g.chain head
                (fresh_behind k g.past g.chain gone.1))
          ]
          | inr old ↦ seen_same p g k ran n r (h.run_done n r x old.1 at number)
        ];
        ticket_ready = λ n t e. ready_within g (driven_by g k ran) d.stores d.stores n
            refl refl (driver_grows g d.stores k ran free) (h.ticket_ready n t e);
        ticket_alone = λ n t e. (let r = h.ticket_alone n t e in
            let other : n ≢ k = (λ same. none_apart (d.claim k) c
            (ap d.claim (sym same) ∙ r.1) claim) in (
              ap (λ o. or_else o (stored d.stores n)) (put_else g.driver k (Some ran) n other)
                  ∙ r.0,
              put_else d.claim k None n other ∙ r.1,
            ));
        ticket_names = λ n t e x at number m names.
            ap (λ b. b || stands m g.chain) (over_same g k ran head m)
            ∙ h.ticket_names n t e x at number m names;
        claimed = λ n q e. elim (h.claimed n q (put_none d.claim k n q e).1) [
          | inl job ↦ inl (job_same p g k ran n q.job job)
          | inr gone ↦ inr gone
        ];
        claim_heads = λ n q e. h.claim_heads n q (put_none d.claim k n q e).1;
        claim_alone = λ n q e. (let was = put_none d.claim k n q e in
            ap (λ o. or_else o (stored d.stores n)) (put_else g.driver k (Some ran) n was.0)
            ∙ h.claim_alone n q was.1);
        claim_lives = λ n q e. h.claim_lives n q (put_none d.claim k n q e).1;
        claim_seat = λ n q e. h.claim_seat n q (put_none d.claim k n q e).1;
        undone_attempt = h.undone_attempt;
        undone_lost = h.undone_lost;
      };
    }

-- what was done goes to the store of a machine
machine_keeps : (p : Plan) (s : State) (k machine : ℕ) (c : Held) → IsSound p s
    → s.desk.claim k ≡ Some c → Lives p s.lost machine
    → IsSound p (kept_by_machine s k machine (job_ran p.file (limits_of p) c.job))
machine_keeps p s k machine c sound claim lives =
    let d = s.desk in
    let g = s.graph in
    let h = sound.desk in
    let new : Kept = record { machine = machine; ran = job_ran p.file (limits_of p) c.job } in
    let free : records g d.stores k ≡ None = h.claim_alone k c claim in
    let else_same : (n : ℕ) → n ≢ k
    → records g (put_at d.stores k (Some new)) n ≡ records g d.stores n
    = (λ n other. ap (λ kept. or_else (g.driver n) (option_map (λ x. x.ran) kept))
    (put_else d.stores k (Some new) n other)) in
    record {
      graph = sound.graph;
      attempts = counted d k (put_at d.stores k (Some new)) sound.attempts;
      scripted = sound.scripted;
      survivor = sound.survivor;
      desk = record {
        stored = λ n kept e. elim (put_cases d.stores k (Some new) n (Some kept) e) [
          | inl here ↦
              let one : new ≡ kept = (let z = here.1 in cc (z)) in
              rw (here.0, ← one) (seen_by_job p g k c.job (h.claimed k c claim))
          | inr old ↦ h.stored n kept old.1
        ];
        store_lives = λ n kept e. elim (put_cases d.stores k (Some new) n (Some kept) e) [
          | inl here ↦
              let one : new ≡ kept = (let z = here.1 in cc (z)) in rw (← one) lives
          | inr old ↦ h.store_lives n kept old.1
        ];
        run_done = h.run_done;
        ticket_ready = λ n t e. ready_within g g d.stores (put_at d.stores k (Some new)) n
            refl refl (store_grows g d.stores k (Some new) free) (h.ticket_ready n t e);
        ticket_alone = λ n t e. (let r = h.ticket_alone n t e in
            let other : n ≢ k = (λ same. none_apart (d.claim k) c
            (ap d.claim (sym same) ∙ r.1) claim) in
            (else_same n other ∙ r.0, put_else d.claim k None n other ∙ r.1));
        ticket_names = h.ticket_names;
        claimed = λ n q e. h.claimed n q (put_none d.claim k n q e).1;
        claim_heads = λ n q e. h.claim_heads n q (put_none d.claim k n q e).1;
        claim_alone = λ n q e. (let was = put_none d.claim k n q e in
            else_same n was.0 ∙ h.claim_alone n q was.1);
        claim_lives = λ n q e. h.claim_lives n q (put_none d.claim k n q e).1;
        claim_seat = λ n q e. h.claim_seat n q (put_none d.claim k n q e).1;
        undone_attempt = h.undone_attempt;
        undone_lost = h.undone_lost;
      };
    }

-- by the claim that is there, and its kind
finished_keeps : (p : Plan) (s : State) (k machine : ℕ) (o : Option Held)
    → IsSound p s → s.desk.claim k ≡ o → Lives p s.lost machine
    → IsSound p (finished_by p s k machine o)
finished_keeps p s k machine None sound claim lives = sound
finished_keeps p s k machine (Some c) sound claim lives =
    by_kind (is_run c.job.task) refl
  where
    by_kind : (b : Bool) → is_run c.job.task ≡ b
        → IsSound p (if b then kept_by_driver s k (job_ran p.file (limits_of p) c.job)
        else kept_by_machine s k machine (job_ran p.file (limits_of p) c.job))
    by_kind true e = driver_keeps p s k c sound claim e
    by_kind false e = machine_keeps p s k machine c sound claim lives

-- the law
pub finish_keeps : FinishLaw
unfolding acted
finish_keeps p s seat k attempt machine sound can =
    finished_keeps p s k machine (s.desk.claim k) sound refl can.lives
