-- A past node that is trimmed keeps what holds.
use Rattle.std.proofs.Common.{◌≡◌, ◌≢◌, ◌<◌, ◌==◌, ℕ, ◌++◌, Bool, true, false, not, ◌&&◌, ◌||◌, if◌then◌else◌, Option, None, Some, is_some, ◌⊎◌, inl, inr, refl, ap, sym, ◌∙◌, subst}
use Rattle.std.specs.Prelude.{IsTrue}
use Rattle.std.proofs.lemmas.List.Elements.{All-contains, All-filter, All-weaker, Contains-append_left, Contains-append_right, Contains-append_cases}
use Rattle.std.specs.List.{Contains}
use Rattle.pyd_ir.specs.declared.job.Job.{Job}
use Rattle.pyd_ir.specs.declared.node.Node.{Node}
use Rattle.pyd_meaning.specs.declared.ran.Ran.{Ran}
use Rattle.pyd_runs.specs.Plans.{Plan}
use Rattle.pyd_runs.specs.Graphs.{Graph, nodes}
use Rattle.pyd_runs.specs.Desks.{Kept, Stores, Desk}
use Rattle.pyd_runs.specs.Records.{records, stored, or_else, is_ready}
use Rattle.pyd_runs.specs.Reach.{Reached, by_chain, by_past}
use Rattle.pyd_runs.specs.Losses.{live_tickets}
use Rattle.pyd_runs.specs.Effects.{State, acted, trimmed, stores_but}
use Rattle.pyd_runs.specs.Enabled.{CanTrim}
use Rattle.pyd_runs.specs.Sound.{IsGraphSound, IsDeskSound, AreCounted, IsSeen, IsJob, IsGone, IsFresh, HasGiven, NamesPresent, stands, is_over}
use Rattle.pyd_runs.specs.Laws.{TrimLaw}
use Rattle.pyd_runs.proofs.Putting.{at_cases, put_same, put_else, put_none}
use Rattle.pyd_runs.proofs.Losing.{live_some}
use Rattle.pyd_runs.proofs.Within.{look_leaf}
use Rattle.pyd_runs.proofs.Claiming.{ready_parts, ready_named}
use Rattle.pyd_runs.proofs.Without.{without, fresh_without, none_without, fresh_append, fresh_parts, fresh_apart, ordered_without, was_there, is_left, stands_true, fresh_stands, stands_less, stands_without, ordered_apart}

-- what the chain reaches without a node it reached before
pub still_reached : (k : ℕ) (g : Graph) (m : ℕ) → Reached (trimmed k g) m → Reached g m
unfolding trimmed
still_reached k g m (by_chain n i at names) = by_chain n m at names
still_reached k g m (by_past n i at reached names) =
    by_past n m (was_there k g.past n at) (still_reached k g n.id reached) names

-- what is over without a node was over, and all others are
over_parts : (a b c d : Bool) → (b ≡ true → c ≡ true) → (a && (b || d)) ≡ true
    → (a && (c || d)) ≡ true
over_parts false b c d f e = e
over_parts true true c d f e = ap (λ x. x || d) (f refl)
over_parts true false true d f e = refl
over_parts true false false d f e = e

less_over : (k : ℕ) (g : Graph) (m : ℕ) → is_over (trimmed k g) m ≡ true → is_over g m ≡ true
unfolding trimmed
less_over k g m e =
    over_parts (not (stands m g.chain)) (stands m (without k g.past)) (stands m g.past)
    (is_some (g.driver m)) (stands_less m k g.past) e

same_over : (k : ℕ) (g : Graph) (m : ℕ) → m ≢ k → is_over (trimmed k g) m ≡ is_over g m
unfolding trimmed
same_over k g m other =
    ap (λ b. not (stands m g.chain) && (b || is_some (g.driver m)))
    (stands_without m k g.past other)

-- a number but one that is settled or stands still is or does
still_present : (k : ℕ) (g : Graph) (m : ℕ) → m ≢ k → IsTrue (is_over g m || stands m g.chain)
    → IsTrue (is_over (trimmed k g) m || stands m (trimmed k g).chain)
unfolding trimmed
still_present k g m other is = ap (λ b. b || stands m g.chain) (same_over k g m other) ∙ is

-- the node that goes
pub record IsPast (g : Graph) (k : ℕ) : Type 0 where
  pub below : k < g.next
  pub apart : IsFresh k g.chain
  pub undriven : g.driver k ≡ None
  pub unreached : Reached g k → ⊥

pub is_past : (p : Plan) (s : State) (k : ℕ) → IsGraphSound p s.graph → CanTrim s k
    → IsPast s.graph k
is_past p s k sg can =
    let g = s.graph in
    let apart : IsFresh k g.chain = subst (λ i. IsFresh i g.chain) can.number
    (All-contains (λ (n : Node). IsFresh n.id g.chain) g.past can.node sg.apart can.stands) in
    let over : is_over g k ≡ true =
    ap (λ b. not b && (stands k g.past || is_some (g.driver k))) (fresh_stands k g.chain apart)
    ∙ ap (λ b. b || is_some (g.driver k)) (stands_true k g.past can.node can.stands can.number) in
    let old = All-contains (HasGiven p g) g.past can.node sg.past can.stands in
    let pure = (look_leaf p g.given can.node old.looked old.look).0 in
    record {
      below = sg.below k over;
      apart = apart;
      undriven =
          ap g.driver (sym can.number)
          ∙ sg.effects can.node (Contains-append_left g.past g.chain can.node can.stands) pure;
      unreached = can.unreached;
    }

-- a node that is left stood there before
there_before : (k : ℕ) (g : Graph) (n : Node) → Contains (without k g.past ++ g.chain) n
    → Contains (nodes g) n
there_before k g n at = elim (Contains-append_cases (without k g.past) g.chain n at) [
  | inl past ↦ Contains-append_left g.past g.chain n (was_there k g.past n past)
  | inr chain ↦ Contains-append_right g.past g.chain n chain
]

-- the graph without it
graph_sound : (p : Plan) (g : Graph) (k : ℕ) → IsPast g k → IsGraphSound p g
    → IsGraphSound p (trimmed k g)
unfolding trimmed
graph_sound p g k node sg =
    let test : Node → Bool = λ (n : Node). if n.id == k then false else true in
    record {
      goes_on = sg.goes_on;
      ended = sg.ended;
      unfinished = sg.unfinished;
      supplied = sg.supplied;
      listed = ordered_apart (is_over g) (is_over (trimmed k g)) k g.next g.chain
          (same_over k g) (less_over k g)
          (λ n at names. node.unreached (by_chain n k at names)) sg.listed;
      below = λ m over. sg.below m (less_over k g m over);
      slots = sg.slots;
      ordered = ordered_without k g.past sg.ordered;
      apart = All-filter test (λ (n : Node). IsFresh n.id g.chain) g.past sg.apart;
      past = All-weaker (HasGiven p g) (HasGiven p (trimmed k g))
          (λ n h. record {
            value = h.value;
            looked = h.looked;
            look = h.look;
            gave = h.gave;
            ports = h.ports;
          })
          (without k g.past) (All-filter test (HasGiven p g) g.past sg.past);
      present = λ m reached.
          (let old = still_reached k g m reached in
          subst (λ b. IsTrue (b || stands m g.chain))
          (sym (same_over k g m (λ z. node.unreached (subst (Reached g) z old))))
          (sg.present m old));
      driven = λ m ran e fresh.
          (let h = sg.driven m ran e fresh in
          record { value = h.value; outcome = h.outcome; port = h.port; no_other = h.no_other });
      effects = λ n at. sg.effects n (there_before k g n at);
      blank = sg.blank;
    }

-- a node that is left stood there before
still_before : (k : ℕ) (g : Graph) (n : Node) → Contains (nodes (trimmed k g)) n
    → Contains (nodes g) n
unfolding trimmed
still_before k g n at = there_before k g n at

-- another node is left
still_there : (k : ℕ) (g : Graph) (n : Node) → n.id ≢ k → Contains (nodes g) n
    → Contains (nodes (trimmed k g)) n
unfolding trimmed
still_there k g n other at = elim (Contains-append_cases g.past g.chain n at) [
  | inl past ↦ Contains-append_left (without k g.past) g.chain n (is_left k g.past n past other)
  | inr chain ↦ Contains-append_right (without k g.past) g.chain n chain
]

-- what was done of other nodes is still what they do
still_seen : (p : Plan) (g : Graph) (k m : ℕ) (ran : Ran) → m ≢ k → IsSeen p g m ran
    → IsSeen p (trimmed k g) m ran
unfolding trimmed
still_seen p g k m ran other h = record {
  node = h.node;
  stands = still_there k g h.node (λ z. other (sym h.number ∙ z)) h.stands;
  number = h.number;
  does = h.does;
  meaning = h.meaning;
  has_job = h.has_job;
  as_done = h.as_done;
}

pub still_gone : (g : Graph) (k m : ℕ) → IsGone g m → IsGone (trimmed k g) m
unfolding trimmed
still_gone g k m gone =
    let r = fresh_parts m g.past g.chain gone.1 in
    (gone.0, fresh_append m (without k g.past) g.chain (fresh_without m k g.past r.0) r.1)

pub is_gone : (g : Graph) (k : ℕ) → IsPast g k → IsGone (trimmed k g) k
unfolding trimmed
is_gone g k node =
    (node.below, fresh_append k (without k g.past) g.chain (none_without k g.past) node.apart)

-- what was done of a node, or the node is gone
seen_or_gone : (p : Plan) (g : Graph) (k m : ℕ) (ran : Ran) → IsPast g k
    → IsSeen p g m ran ⊎ IsGone g m → IsSeen p (trimmed k g) m ran ⊎ IsGone (trimmed k g) m
seen_or_gone p g k m ran node (inr gone) = inr (still_gone g k m gone)
seen_or_gone p g k m ran node (inl seen) = elim (at_cases m k) [
  | inl same ↦ inr (subst (IsGone (trimmed k g)) (sym same) (is_gone g k node))
  | inr other ↦ inl (still_seen p g k m ran other seen)
]

-- the job of another node is still its job, or the node is gone
job_or_gone : (p : Plan) (g : Graph) (k m : ℕ) (job : Job) → IsPast g k
    → IsJob p g m job ⊎ IsGone g m → IsJob p (trimmed k g) m job ⊎ IsGone (trimmed k g) m
unfolding trimmed
job_or_gone p g k m job node (inr gone) = inr (still_gone g k m gone)
job_or_gone p g k m job node (inl h) = elim (at_cases m k) [
  | inl same ↦ inr (subst (IsGone (trimmed k g)) (sym same) (is_gone g k node))
  | inr other ↦ inl (record {
    node = h.node;
    stands = still_there k g h.node (λ z. other (sym h.number ∙ z)) h.stands;
    number = h.number;
    inputs = h.inputs;
    task = h.task;
    line = h.line;
    depth = h.depth;
  })
]

-- where there is no record, none comes
no_driver : (a b : Option Ran) → or_else a b ≡ None → or_else a None ≡ None
no_driver None b e = refl
no_driver (Some ran) b e = e

records_but : (g : Graph) (stores : Stores) (k m : ℕ) → records g stores m ≡ None
    → records (trimmed k g) (stores_but k stores) m ≡ None
unfolding trimmed
records_but g stores k m e = elim (at_cases m k) [
  | inl same ↦
      ap (λ (o : Option Kept). or_else (g.driver m) (stored (λ i. o) m)) (put_same stores k None m same)
      ∙ no_driver (g.driver m) (stored stores m) e
  | inr other ↦
      ap (λ (o : Option Kept). or_else (g.driver m) (stored (λ i. o) m)) (put_else stores k None m other)
      ∙ e
]

-- the node that goes has no record any more
none_recorded : (g : Graph) (stores : Stores) (k : ℕ) → IsPast g k
    → records (trimmed k g) (stores_but k stores) k ≡ None
unfolding trimmed
none_recorded g stores k node =
    ap (λ (o : Option Kept). or_else (g.driver k) (stored (λ i. o) k)) (put_same stores k None k refl)
    ∙ ap (λ (o : Option Ran). or_else o None) node.undriven

-- what the node of a ticket names is settled, or stands in the chain
still_named : (p : Plan) (g : Graph) (d : Desk) (k m : ℕ) → IsPast g k → NamesPresent g m
    → IsGraphSound p (trimmed k g)
    → IsTrue (is_ready (trimmed k g) (stores_but k d.stores) m) → NamesPresent (trimmed k g) m
still_named p g d k m node named sound is_ready n at number j names =
    let g' = trimmed k g in
    elim (at_cases j k) [
      | inr other ↦
          still_present k g j other (named n (still_before k g n at) number j names)
      | inl same ↦
          let r = ready_parts g' (stores_but k d.stores) m is_ready in
          absurd (ready_named p g' (stores_but k d.stores) m j sound r n at number names
          (subst (λ (i : ℕ). records g' (stores_but k d.stores) i ≡ None) (sym same)
          (none_recorded g d.stores k node)))
    ]

-- the desk without its record
desk_but : Graph → ℕ → Desk → Desk
desk_but g k d = record d {
  stores = stores_but k d.stores;
  ticket = live_tickets (trimmed k g) (stores_but k d.stores) d.ticket;
}

desk_sound : (p : Plan) (g : Graph) (d : Desk) (lost : ℕ → Bool) (k : ℕ) → IsPast g k
    → IsGraphSound p (trimmed k g) → IsDeskSound p g d lost
    → IsDeskSound p (trimmed k g) (desk_but g k d) lost
unfolding desk_but trimmed
desk_sound p g d lost k node after h =
    let live = live_some (trimmed k g) (stores_but k d.stores) d.ticket in
    record {
      stored = λ m kept e. seen_or_gone p g k m kept.ran node
          (h.stored m kept (put_none d.stores k m kept e).1);
      store_lives = λ m kept e. h.store_lives m kept (put_none d.stores k m kept e).1;
      run_done = λ m ran n e at number.
          still_seen p g k m ran (λ z. fresh_apart k g.chain n node.apart at (number ∙ z))
          (h.run_done m ran n e at number);
      ticket_ready = λ m t e. (live m t e).0;
      ticket_alone = λ m t e.
          (let r = h.ticket_alone m t (live m t e).1 in (records_but g d.stores k m r.0, r.1));
      ticket_names = λ m t e.
          (let r = live m t e in
          still_named p g d k m node (h.ticket_names m t r.1) after r.0);
      claimed = λ m c e. job_or_gone p g k m c.job node (h.claimed m c e);
      claim_heads = h.claim_heads;
      claim_alone = λ m c e. records_but g d.stores k m (h.claim_alone m c e);
      claim_lives = h.claim_lives;
      claim_seat = h.claim_seat;
      undone_attempt = h.undone_attempt;
      undone_lost = h.undone_lost;
    }

counted : (g : Graph) (k : ℕ) (d : Desk) → AreCounted d → AreCounted (desk_but g k d)
unfolding desk_but
counted g k d t =
    let live = live_some (trimmed k g) (stores_but k d.stores) d.ticket in
    record {
      ticket = λ m x e. t.ticket m x (live m x e).1;
      claim = t.claim;
      undone = t.undone;
      before_ticket = λ m attempt c x e q. t.before_ticket m attempt c x e (live m x q).1;
      before_claim = t.before_claim;
    }

-- the law
pub trim_keeps : TrimLaw
unfolding acted desk_but
trim_keeps p s seat k sound can =
    let node = is_past p s k sound.graph can in
    let after = graph_sound p s.graph k node sound.graph in
    record {
      graph = after;
      desk = desk_sound p s.graph s.desk s.lost k node after sound.desk;
      attempts = counted s.graph k s.desk sound.attempts;
      scripted = sound.scripted;
      survivor = sound.survivor;
    }
