-- Line and desk behind a Trim are those of its state.
use Rattle.std.proofs.Common.{◌≡◌, ◌≢◌, ◌<◌, ◌+◌, ◌==◌, ℕ, List, [], ◌∷◌, ◌++◌, drop, take, length, get_or, Bool, true, false, cond, if◌then◌else◌, Option, Some, None, is_some, option_map, inl, inr, refl, ap, sym, subst, ◌∙◌, length-set, arith}
use Rattle.std.specs.List.{Contains, slice_get}
use Rattle.std.proofs.lemmas.List.{take-append-drop}
use Rattle.std.proofs.lemmas.List.Elements.{Contains-append_right}
use Rattle.pyd_ir.specs.declared.node.Node.{Node}
use Rattle.pyd_store.specs.Outcomes.{Outcomes}
use Rattle.pyd_runs.specs.Plans.{Plan}
use Rattle.pyd_runs.specs.Graphs.{Graph, nodes}
use Rattle.pyd_runs.specs.Desks as runs
use Rattle.pyd_runs.specs.Desks.{put_at}
use Rattle.pyd_runs.specs.Losses.{live_tickets}
use Rattle.pyd_runs.specs.Records.{is_ready, job_by, node_at, ready, recorded}
use Rattle.pyd_runs.specs.Effects.{State, acted, stores_but, trimmed, without_node}
use Rattle.pyd_runs.specs.Sound.{IsFresh, IsSound}
use Rattle.pyd_runs.proofs.Putting.{at_cases, put_same, put_else, same_test, other_test, test_same}
use Rattle.pyd_runs.proofs.Standing.{AreApart, fresh_none, nodes_apart, past_apart}
use Rattle.pyd_runs.proofs.Knowing.{past_fresh}
use Rattle.pyd_runs.proofs.Without.{fresh_append, fresh_parts, fresh_without, here, none_without, without}
use Rattle.pyd_desk.specs.declared.desk.Desk.{Desk}
use Rattle.pyd_desk.specs.declared.desk.Mark.{Mark}
use Rattle.pyd_desk.specs.declared.desk.Placed.{Placed}
use Rattle.pyd_desk.specs.declared.line.Line.{Line}
use Rattle.pyd_desk.specs.Desks.{claim_by, desk_of, is_lost, kept_in, mark_at, outcome_in, placed_of, silent, stores_of, undone_by, undone_in}
use Rattle.pyd_desk.specs.Lines.{IsGraphOf, TellsPorts, chain_of, kind_of, past_of}
use Rattle.pyd_desk.specs.States.{IsStateOf}
use Rattle.pyd_desk.specs.Tickets.{IsRidOf}
use Rattle.pyd_desk.specs.Trimming.{HasForgotten, IsTrimmed, forgotten}
use Rattle.pyd_desk.proofs.Standing.{nodes_of}
use Rattle.pyd_desk.proofs.Numbers.{through, unchanged}
use Rattle.pyd_desk.proofs.Written.{desk_by, put_mark}
use Rattle.pyd_desk.proofs.Placing.{fresh_after, fresh_before, split_place}
use Rattle.pyd_desk.proofs.Grown.{past_below}
use Rattle.pyd_desk.proofs.Live.{live_is}

-- without a number that none has, a list is as it was
without_test : (b : Bool) (x : Node) (ns : List Node) → b ≡ false
    → cond (if b then false else true) (x ∷ ns) ns ≡ x ∷ ns
without_test b x ns is = ap (λ t. cond (if t then false else true) (x ∷ ns) ns) is

without_fresh : (k : ℕ) (ns : List Node) → IsFresh k ns → without k ns ≡ ns
without_fresh k [] fresh = refl
without_fresh k (x ∷ ns) fresh =
    ap (cond (if x.id == k then false else true) (x ∷ without k ns)) (without_fresh k ns fresh.1)
    ∙ ap (λ xs. cond (if x.id == k then false else true) (x ∷ xs) ns) (without_fresh k ns fresh.1)
    ∙ without_test (x.id == k) x ns (other_test x.id k fresh.0)

-- the node of a place goes with its number
pub without_place : (before : List Node) (n : Node) (after : List Node)
    → IsFresh n.id before → IsFresh n.id after
    → without n.id (before ++ n ∷ after) ≡ before ++ after
without_place [] n after apart fresh =
    ap (λ b. cond (if b then false else true) (n ∷ without n.id after) (without n.id after))
    (same_test n.id n.id refl)
    ∙ without_fresh n.id after fresh
without_place (x ∷ before) n after apart fresh =
    ap (λ b. cond (if b then false else true) (x ∷ without n.id (before ++ n ∷ after))
    (without n.id (before ++ n ∷ after))) (other_test x.id n.id apart.0)
    ∙ ap (λ xs. x ∷ xs) (without_place before n after apart.1 fresh)

-- other numbers are found as before
found_without : (id k : ℕ) (ns : List Node) (more : List Node) → k ≢ id
    → node_at (without id ns ++ more) k ≡ node_at (ns ++ more) k
found_without id k [] more other = refl
found_without id k (x ∷ ns) more other =
    by_test (x.id == id) refl (found_without id k ns more other)
  where
    by_test : (b : Bool) → (x.id == id) ≡ b
        → node_at (without id ns ++ more) k ≡ node_at (ns ++ more) k
        → node_at (cond (if b then false else true) (x ∷ without id ns) (without id ns) ++ more) k
        ≡ node_at (x ∷ (ns ++ more)) k
    by_test true is same =
        same ∙ sym (ap (λ t. cond t (Some x) (node_at (ns ++ more) k))
        (other_test x.id k (λ z. other (sym z ∙ test_same x.id id is))))
    by_test false is same = ap (cond (x.id == k) (Some x)) same

-- numbers still differ
apart_test : (b : Bool) (x : Node) (ns more : List Node) → IsFresh x.id (ns ++ more)
    → AreApart (ns ++ more) → AreApart (cond (if b then false else true) (x ∷ ns) ns ++ more)
apart_test true x ns more fresh apart = apart
apart_test false x ns more fresh apart = (fresh, apart)

apart_without : (id : ℕ) (ns more : List Node) → AreApart (ns ++ more)
    → AreApart (without id ns ++ more)
apart_without id [] more apart = apart
apart_without id (x ∷ ns) more apart =
    let parts = fresh_parts x.id ns more apart.0 in
    apart_test (x.id == id) x (without id ns) more
    (fresh_append x.id (without id ns) more (fresh_without x.id id ns parts.0) parts.1)
    (apart_without id ns more apart.1)

-- a node that isn't there isn't ready
pub not_ready : (g : Graph) (stores : runs.Stores) (k : ℕ) → node_at (nodes g) k ≡ None
    → is_ready g stores k ≡ false
unfolding ready
not_ready g stores k none = ap (λ o. is_some (job_by g.chain (recorded g stores) 0 o)) none

-- a desk that has forgotten a node
kept_same : (stores left : List Outcomes) (at : Option ℕ) (n : ℕ)
    → ((m : ℕ) → outcome_in left m n ≡ outcome_in stores m n) → kept_in left n at ≡ kept_in stores n at
kept_same stores left None n same = refl
kept_same stores left (Some m) n same =
    ap (option_map (λ o. record { machine = m; ran = silent o })) (same m)

module _ (d e : Desk) (id : ℕ) (within : id < length d.marks.items) (has : HasForgotten id d e) where
  abbrev m : Mark
  m = forgotten (mark_at d.marks.items id)

  abbrev at : ℕ → Mark
  at = mark_at d.marks.items

  pub marks_now : mark_at e.marks.items ≡ put_at (mark_at d.marks.items) id (forgotten (mark_at d.marks.items id))
  marks_now = ap mark_at has.marks ∙ put_mark d.marks.items id m within

  stores_at : (n : ℕ)
      → kept_in e.stores.items n (put_at at id m n).machine
      ≡ put_at (stores_of d) id None n
  stores_at n = elim (at_cases n id) [
    | inl same ↦
        ap (λ (x : Mark). kept_in e.stores.items n x.machine) (put_same at id m n same)
        ∙ sym (put_same (stores_of d) id None n same)
    | inr other ↦
        ap (λ (x : Mark). kept_in e.stores.items n x.machine) (put_else at id m n other)
        ∙ kept_same d.stores.items e.stores.items (at n).machine n (λ j. has.kept j n other)
        ∙ sym (put_else (stores_of d) id None n other)
  ]

  pub desk_now : desk_of e ≡ record (desk_of d) {
    stores = stores_but id (stores_of d);
    ticket = put_at (desk_of d).ticket id None;
  }
  desk_now =
      (λ i. desk_by e.stores.items (has.alive i).items (has.undone i).items (marks_now i))
      ∙ (λ i. record {
        stores = λ n. stores_at n i;
        places = (through (λ n x. x.places) at id m ∙ unchanged (desk_of d).places id _ refl) i;
        ticket = through (λ n x. option_map placed_of x.ticket) at id m i;
        claim = (through (λ n x. claim_by d.alive.items x.claim) at id m
            ∙ unchanged (desk_of d).claim id _ refl) i;
        undone = (through (λ n x attempt. undone_by d.alive.items attempt x.claim
            (undone_in d.undone.items n attempt)) at id m
            ∙ unchanged (desk_of d).undone id _ refl) i;
      })

module _ (old new : Line) (d mid e : Desk) (at : ℕ) (p : Plan) (s : State) (n : Node)
    (past : past_of new ≡ take at (past_of old) ++ drop (at + 1) (past_of old))
    (chain : chain_of new ≡ chain_of old)
    (has : HasForgotten n.id d mid)
    (rid : IsRidOf (chain_of new) new.nodes.items mid e)
    (sound : IsSound p s) (is : IsStateOf old d s)
    (there : slice_get (past_of old) at ≡ Some n) where
  abbrev g : Graph
  g = s.graph

  abbrev before : List Node
  before = take at (past_of old)

  abbrev after : List Node
  after = drop (at + 1) (past_of old)

  split : g.past ≡ before ++ n ∷ after
  split = is.graph.past ∙ split_place (past_of old) at n there

  there_past : Contains g.past n
  there_past =
      subst (λ (ns : List Node). Contains ns n) (sym split)
      (Contains-append_right before (n ∷ after) n (here n after))

  apart : AreApart (before ++ n ∷ after)
  apart = subst AreApart split (past_apart g.past sound.graph.ordered)

  past_now : without n.id g.past ≡ past_of new
  past_now =
      ap (without n.id) split
      ∙ without_place before n after (fresh_before before n after apart) (fresh_after before n after apart)
      ∙ sym past

  fresh_now : IsFresh n.id (without n.id g.past ++ g.chain)
  fresh_now =
      fresh_append n.id (without n.id g.past) g.chain (none_without n.id g.past)
      (past_fresh p g n sound.graph there_past)

  within : n.id < length d.marks.items
  within =
      let low = past_below p g sound.graph n there_past in
      let count = is.marks in omega (arith, low, count)

  marks_are : mark_at mid.marks.items
      ≡ put_at (mark_at d.marks.items) n.id (forgotten (mark_at d.marks.items n.id))
  marks_are = marks_now d mid n.id within has

  nodes_new : without n.id g.past ++ g.chain ≡ new.nodes.items
  nodes_new =
      ap (λ xs. xs ++ g.chain) past_now
      ∙ ap (λ xs. past_of new ++ xs) (is.graph.chain ∙ sym chain)
      ∙ take-append-drop new.settled new.nodes.items

  nodes_old : nodes g ≡ old.nodes.items
  nodes_old = nodes_of old d g is.graph

  -- what stands at ports is told as before, and of the node nothing
  ports_at : (k : ℕ) → (mark_at mid.marks.items k).ports ≡ kind_of (node_at new.nodes.items k)
  ports_at k =
      ap (λ (f : ℕ → Mark). (f k).ports) marks_are
      ∙ elim (at_cases k n.id) [
        | inl same ↦
            ap (λ (x : Mark). x.ports)
            (put_same (mark_at d.marks.items) n.id (forgotten (mark_at d.marks.items n.id)) k same)
            ∙ sym (ap (λ j. kind_of (node_at new.nodes.items j)) same
            ∙ ap (λ (ns : List Node). kind_of (node_at ns n.id)) (sym nodes_new)
            ∙ ap kind_of (fresh_none (without n.id g.past ++ g.chain) n.id fresh_now))
        | inr other ↦
            ap (λ (x : Mark). x.ports)
            (put_else (mark_at d.marks.items) n.id (forgotten (mark_at d.marks.items n.id)) k other)
            ∙ is.graph.ports k
            ∙ ap (λ (ns : List Node). kind_of (node_at ns k)) (sym nodes_old)
            ∙ ap kind_of (sym (found_without n.id k g.past g.chain other))
            ∙ ap (λ (ns : List Node). kind_of (node_at ns k)) nodes_new
      ]

  graph_mid : IsGraphOf new mid (trimmed n.id g)
  unfolding trimmed
  graph_mid = record {
    past = past_now;
    chain = is.graph.chain ∙ sym chain;
    driver = is.graph.driver ∙ (λ i k. get_or (sym has.driver i).items k None);
    ports = ports_at;
  }

  apart_now : AreApart (nodes (trimmed n.id g))
  unfolding trimmed
  apart_now = apart_without n.id g.past g.chain (nodes_apart p g sound.graph)

  -- a ticket is one of a node that is there
  ticketed : (k : ℕ) (o : Option Placed) → (mark_at d.marks.items k).ticket ≡ o
      → node_at (nodes g) k ≡ None → (mark_at d.marks.items k).ticket ≡ None
  ticketed k None e none = e
  ticketed k (Some t) e none =
      absurd (let on = sound.desk.ticket_ready k (placed_of t)
      (ap (λ (x : runs.Desk). x.ticket k) is.desk ∙ ap (option_map placed_of) e) in
      let off = not_ready g s.desk.stores k none in cc (on, off))

  strays : (k : ℕ) → node_at (nodes (trimmed n.id g)) k ≡ None
      → (mark_at mid.marks.items k).ticket ≡ None
  unfolding trimmed
  strays k none =
      ap (λ (f : ℕ → Mark). (f k).ticket) marks_are
      ∙ elim (at_cases k n.id) [
        | inl same ↦ ap (λ (x : Mark). x.ticket)
            (put_same (mark_at d.marks.items) n.id (forgotten (mark_at d.marks.items n.id)) k same)
        | inr other ↦
            ap (λ (x : Mark). x.ticket)
            (put_else (mark_at d.marks.items) n.id (forgotten (mark_at d.marks.items n.id)) k other)
            ∙ ticketed k (mark_at d.marks.items k).ticket refl
            (sym (found_without n.id k g.past g.chain other) ∙ none)
      ]

  -- the node's own ticket is gone at any rate
  live_but : (stores : runs.Stores) (tickets : ℕ → Option runs.Placed) (k : ℕ)
      → live_tickets (trimmed n.id g) stores (put_at tickets n.id None) k
      ≡ live_tickets (trimmed n.id g) stores tickets k
  unfolding trimmed
  live_but stores tickets k = elim (at_cases k n.id) [
    | inl same ↦
        let off = not_ready (trimmed n.id g) stores k
        (ap (node_at (without n.id g.past ++ g.chain)) same
        ∙ fresh_none (without n.id g.past ++ g.chain) n.id fresh_now) in
        ap (λ b. cond b (put_at tickets n.id None k) None) off
        ∙ sym (ap (λ b. cond b (tickets k) None) off)
    | inr other ↦
        ap (λ o. cond (is_ready (trimmed n.id g) stores k) o None) (put_else tickets n.id None k other)
  ]

  desk_new : desk_of e ≡ (without_node s n.id).desk
  desk_new =
      live_is new mid (trimmed n.id g) graph_mid apart_now strays e rid
      ∙ (λ i. record (desk_now d mid n.id within has i) {
        ticket = live_tickets (trimmed n.id g) (desk_now d mid n.id within has i).stores
            (desk_now d mid n.id within has i).ticket;
      })
      ∙ (λ i. record (desk_of d) {
        stores = stores_but n.id (stores_of d);
        ticket = λ k. live_but (stores_but n.id (stores_of d)) (desk_of d).ticket k i;
      })
      ∙ (λ i. record (sym is.desk i) {
        stores = stores_but n.id (sym is.desk i).stores;
        ticket = live_tickets (trimmed n.id g) (stores_but n.id (sym is.desk i).stores)
            (sym is.desk i).ticket;
      })

  ports_new : TellsPorts new.nodes.items e.marks.items
  ports_new k =
      ap (λ (x : Mark). x.ports) (rid.marks k) ∙ ports_at k

  state_new : IsStateOf new e (without_node s n.id)
  unfolding trimmed
  state_new = record {
    graph = record {
      past = past_now;
      chain = is.graph.chain ∙ sym chain;
      driver = graph_mid.driver ∙ (λ i k. get_or (sym rid.driver i).items k None);
      ports = ports_new;
    };
    desk = sym desk_new;
    lost = is.lost ∙ (λ i. is_lost (sym has.alive i).items) ∙ (λ i. is_lost (sym rid.alive i).items);
    marks =
        rid.count ∙ ap length has.marks
        ∙ length-set d.marks.items n.id (forgotten (mark_at d.marks.items n.id)) ∙ is.marks;
    driver =
        ap (λ x. length x.items) rid.driver ∙ ap (λ x. length x.items) has.driver ∙ is.driver;
  }

-- with the node's number by its place
pub trimmed_is : (old new : Line) (d mid e : Desk) (at id : ℕ)
    → ((n : Node) → slice_get (past_of old) at ≡ Some n → id ≡ n.id)
    → past_of new ≡ take at (past_of old) ++ drop (at + 1) (past_of old)
    → chain_of new ≡ chain_of old → HasForgotten id d mid
    → IsRidOf (chain_of new) new.nodes.items mid e
    → IsTrimmed old d at new e
unfolding acted
trimmed_is old new d mid e at id number past chain has rid p s seat n sound is there =
    state_new old new d mid e at p s n past chain
    (subst (λ i. HasForgotten i d mid) (number n there) has) rid sound is there
