-- Refining a composite keeps what holds.
use Rattle.std.proofs.Common.{◌≡◌, ◌≢◌, ◌<◌, ◌==◌, ℕ, Bool, true, false, ◌||◌, cond, List, [], ◌∷◌, ◌++◌, append_assoc, map, Option, None, Some, is_some, inl, inr, refl, ap, sym, ◌∙◌, subst, arith}
use Rattle.std.specs.Prelude.{IsTrue}
use Rattle.std.specs.List.{Contains}
use Rattle.std.proofs.lemmas.List.Elements.{Contains-append_left, Contains-append_right, Contains-append_cases}
use Rattle.pyd_value.specs.declared.fault.Outcome.{Outcome}
use Rattle.pyd_value.specs.declared.fault.Outcome.TheVariants as outcome
use Rattle.pyd_meaning.specs.declared.ran.Ran.{Ran}
use Rattle.pyd_ir.specs.declared.job.Job.{Job}
use Rattle.pyd_ir.specs.declared.job.Task.{Task}
use Rattle.pyd_ir.specs.declared.node.Node.{Node}
use Rattle.pyd_ir.specs.Arguments.{is_pure, is_composite}
use Rattle.pyd_ir.specs.Inputs.{Given, has_inputs, task_of}
use Rattle.pyd_ir.specs.Ports.{Ports}
use Rattle.pyd_translate.specs.declared.piece.Piece.{Piece}
use Rattle.pyd_refine.specs.Redirecting.{piece_images, redirect_node, replaced_by}
use Rattle.pyd_runs.specs.Plans.{Plan}
use Rattle.pyd_runs.specs.Graphs.{Graph, nodes}
use Rattle.pyd_runs.specs.Desks.{Held}
use Rattle.pyd_runs.specs.Records.{ports_by, ports_kept, records, recorded, node_at, heads}
use Rattle.pyd_runs.specs.Reach.{Names}
use Rattle.pyd_runs.specs.Effects.{State}
use Rattle.pyd_runs.specs.Sound.{IsSound, IsSeen, IsJob, IsGone, IsFresh, NamesPresent, ports_seen, sight, stands, is_over}
use Rattle.pyd_runs.proofs.Putting.{other_test, test_same, none_apart}
use Rattle.pyd_runs.proofs.Readiness.{IsWithin, inputs_within}
use Rattle.pyd_runs.proofs.Without.{first_or_behind, fresh_apart, fresh_append, fresh_parts, stands_true}
use Rattle.pyd_runs.proofs.Seeing.{unseen_fresh, sight_fixed}
use Rattle.pyd_runs.proofs.Standing.{found_there, graph_node, same_node, list_below, stands_node}
use Rattle.pyd_runs.proofs.Within.{leaf_within, task_equal}
use Rattle.pyd_runs.proofs.Knowing.{record_from, record_seen, not_gone}
use Rattle.pyd_runs.proofs.Claiming.{ReadyNode, ready_parts, is_ready_by, task_leaf, ready_named, none_recorded}
use Rattle.pyd_runs.proofs.Redirected.{redirected_ports, node_left, map_to}
use Rattle.pyd_runs.proofs.Leading.{seen_leaf, unseen}
use Rattle.pyd_runs.proofs.Growing.{growing, IsGrowing, c_there, new_fresh, fresh_now, done_below, present_now, graph_grown, sight_grown, below_or, new_undriven}

-- of a composite that heads a list no other number is the head's
heads_now : (before : List Node) (c : Node) (xs ys : List Node) (k : ℕ) → k ≢ c.id
    → IsTrue (heads k (before ++ c ∷ xs)) → IsTrue (heads k (before ++ ys))
heads_now [] c xs ys k other is = absurd (other (sym (test_same c.id k is)))
heads_now (x ∷ before) c xs ys k other is = is

-- a test that is met stays met where its second part does
or_more : (a b d : Bool) → (b ≡ true → d ≡ true) → (a || b) ≡ true → (a || d) ≡ true
or_more true b d more is = refl
or_more false b d more is = more is

-- a node without one list in its way
skipped : (xs ys : List Node) (k : ℕ) → IsFresh k xs → node_at (xs ++ ys) k ≡ node_at ys k
skipped [] ys k fresh = refl
skipped (x ∷ xs) ys k fresh =
    ap (λ b. cond b (Some x) (node_at (xs ++ ys) k)) (other_test x.id k fresh.0)
    ∙ skipped xs ys k fresh.1

module _ (p : Plan) (s : State) (c : Node) (before after : List Node) (piece : Piece)
    (sound : IsSound p s) (m : IsGrowing p s.graph c before after piece) where
  abbrev now : Graph
  now = growing s.graph c before after piece

  abbrev rest : List Node
  rest = replaced_by c.id piece after

  c_among : Contains (nodes s.graph) c
  c_among =
      Contains-append_right s.graph.past s.graph.chain c
      (c_there p s.graph c before after piece sound.graph m)

  -- a composite has no record
  no_leaf : (k : ℕ) (ran : Ran) → k ≡ c.id → IsSeen p s.graph k ran → ⊥
  no_leaf k ran same h =
      let is = same_node p s.graph h.node c sound.graph h.stands c_among (h.number ∙ same) in
      let l = (seen_leaf p (sight p s.graph) h.node h.does h.meaning).0 in
      let w : is_composite h.node.work ≡ true = ap (λ (y : Node). is_composite y.work) is ∙ m.composite in
      absurd (cc (l, w))

  c_unrecorded : records s.graph s.desk.stores c.id ≡ None
  c_unrecorded = by_record (records s.graph s.desk.stores c.id) refl
    where
      by_record : (o : Option Ran) → records s.graph s.desk.stores c.id ≡ o
          → records s.graph s.desk.stores c.id ≡ None
      by_record None is = is
      by_record (Some ran) is = absurd (no_leaf c.id ran refl
          (record_seen p s.graph s.desk s.lost c ran sound.graph sound.desk c_among is))

  -- nothing is seen of it
  c_unseen : (port : ℕ) → sight p s.graph c.id port ≡ None
  c_unseen port =
      (sight_fixed p s.graph sound.graph).chain c
      (c_there p s.graph c before after piece sound.graph m) port
      ∙ ap (λ o. ports_seen c o port) (unseen p (sight p s.graph) c m.composite)

  -- a leaf whose inputs are there stands as it stood
  leaf_there : (given : Given) → ((port : ℕ) → given c.id port ≡ None) → (x : Node)
      → Contains (nodes s.graph) x → is_composite x.work ≡ false
      → IsTrue (has_inputs given x.work)
      → Contains (s.graph.past ++ (before ++ replaced_by c.id piece after)) x
  leaf_there given blank x at leaf inputs =
      elim (Contains-append_cases s.graph.past s.graph.chain x at) [
        | inl past ↦ Contains-append_left s.graph.past (before ++ rest) x past
        | inr chain ↦ Contains-append_right s.graph.past (before ++ rest) x
            (elim (Contains-append_cases before (c ∷ after) x
            (subst (λ (ns : List Node). Contains ns x) m.split chain)) [
              | inl first ↦ Contains-append_left before rest x first
              | inr more ↦ elim (first_or_behind c after x more) [
                | inl is ↦ absurd
                    (let w : is_composite x.work ≡ true
                    = ap (λ (y : Node). is_composite y.work) (sym is) ∙ m.composite in
                    cc (leaf, w))
                | inr last ↦ Contains-append_right before rest x
                    (Contains-append_right piece.nodes
                    (map (redirect_node c.id (piece_images piece)) after) x
                    (subst (Contains (map (redirect_node c.id (piece_images piece)) after))
                    (node_left c.id (piece_images piece) given blank x leaf inputs)
                    (map_to c.id (piece_images piece) after x last)))
              ]
            ])
      ]

  -- what was done of a node is still what it does
  seen_grown : (k : ℕ) (ran : Ran) → IsSeen p s.graph k ran
      → IsSeen p (growing s.graph c before after piece) k ran
  seen_grown k ran h =
      let l = seen_leaf p (sight p s.graph) h.node h.does h.meaning in
      record {
        node = h.node;
        stands = leaf_there (sight p s.graph) c_unseen h.node h.stands l.0 l.1;
        number = h.number;
        does = h.does;
        meaning = leaf_within p (sight p s.graph) (sight p now)
            (sight_grown p s.graph c before after piece sound.graph m) h.node h.does h.meaning;
        has_job =
            ap is_some (sym (task_equal (sight p s.graph) (sight p now)
            (sight_grown p s.graph c before after piece sound.graph m) h.node.work l.1))
            ∙ h.has_job;
        as_done = h.as_done;
      }

  pub gone_grown : (k : ℕ) → IsGone s.graph k → IsGone (growing s.graph c before after piece) k
  gone_grown k gone =
      let parts = fresh_parts k s.graph.past s.graph.chain gone.1 in
      let low = gone.0 in
      let grown = m.new.grown in (
        omega (arith, low, grown),
        fresh_append k s.graph.past (before ++ rest) parts.0
            (fresh_now p s.graph c before after piece sound.graph m k low parts.1),
      )

  job_grown : (k : ℕ) (job : Job) → IsJob p s.graph k job
      → IsJob p (growing s.graph c before after piece) k job
  job_grown k job h =
      let more = sight_grown p s.graph c before after piece sound.graph m in
      record {
        node = h.node;
        stands = leaf_there (sight p s.graph) c_unseen h.node h.stands
            (task_leaf (sight p s.graph) h.node.work job.task h.task) h.inputs;
        number = h.number;
        inputs = inputs_within (sight p s.graph) (sight p now) more h.node.work h.inputs;
        task =
            sym (task_equal (sight p s.graph) (sight p now) more h.node.work h.inputs) ∙ h.task;
        line = h.line;
        depth = h.depth;
      }

  -- a node of a number that was given has the ports that it had
  found_map : (ns : List Node) (r : Option Ran) (k port : ℕ)
      → ports_kept (node_at (map (redirect_node c.id (piece_images piece)) ns) k) r port
      ≡ ports_kept (node_at ns k) r port
  found_map [] r k port = refl
  found_map (x ∷ ns) r k port = by_test (x.id == k) (found_map ns r k port)
    where
      same_ports : (o : Option Ran)
          → ports_kept (Some (redirect_node c.id (piece_images piece) x)) o port
          ≡ ports_kept (Some x) o port
      same_ports None = refl
      same_ports (Some ran) = by_outcome ran.outcome
        where
          by_outcome : (o : Outcome)
              → ports_by (Some (redirect_node c.id (piece_images piece) x)) o port
              ≡ ports_by (Some x) o port
          by_outcome (outcome.Ok v) =
              ap (λ (f : Ports). f port) (redirected_ports c.id (piece_images piece) x.work v)
          by_outcome (outcome.Fault f) = refl

      by_test : (b : Bool)
          → ports_kept (node_at (map (redirect_node c.id (piece_images piece)) ns) k) r port
          ≡ ports_kept (node_at ns k) r port
          → ports_kept (cond b (Some (redirect_node c.id (piece_images piece) x))
          (node_at (map (redirect_node c.id (piece_images piece)) ns) k)) r port
          ≡ ports_kept (cond b (Some x) (node_at ns k)) r port
      by_test true e = same_ports r
      by_test false e = e

  found_list : (xs : List Node) (r : Option Ran) (k port : ℕ) → k ≢ c.id → IsFresh k piece.nodes
      → ports_kept (node_at (xs ++ replaced_by c.id piece after) k) r port
      ≡ ports_kept (node_at (xs ++ c ∷ after) k) r port
  found_list [] r k port other fresh =
      ap (λ o. ports_kept o r port)
      (skipped piece.nodes (map (redirect_node c.id (piece_images piece)) after) k fresh)
      ∙ found_map after r k port
      ∙ sym (ap (λ b. ports_kept (cond b (Some c) (node_at after k)) r port)
      (other_test c.id k (λ z. other (sym z))))
  found_list (x ∷ xs) r k port other fresh = by_test (x.id == k) (found_list xs r k port other fresh)
    where
      by_test : (b : Bool)
          → ports_kept (node_at (xs ++ replaced_by c.id piece after) k) r port
          ≡ ports_kept (node_at (xs ++ c ∷ after) k) r port
          → ports_kept (cond b (Some x) (node_at (xs ++ replaced_by c.id piece after) k)) r port
          ≡ ports_kept (cond b (Some x) (node_at (xs ++ c ∷ after) k)) r port
      by_test true e = refl
      by_test false e = e

  -- a number with a record was given
  record_below : (k : ℕ) (ran : Ran) → records s.graph s.desk.stores k ≡ Some ran
      → k < s.graph.next
  record_below k ran is = elim (below_or k s.graph.next) [
    | inl low ↦ low
    | inr high ↦
        let none = new_undriven p s.graph c before after piece sound.graph m k high in
        elim (record_from (s.graph.driver k) (s.desk.stores k) ran is) [
          | inl driver ↦ absurd (none_apart (s.graph.driver k) ran none driver)
          | inr store ↦ elim (sound.desk.stored k store.0 store.1) [
            | inl h ↦ subst (λ i. i < s.graph.next) h.number (node_below h.node h.stands)
            | inr gone ↦ gone.0
          ]
        ]
  ]
    where
      node_below : (x : Node) → Contains (nodes s.graph) x → x.id < s.graph.next
      node_below x at = elim (Contains-append_cases s.graph.past s.graph.chain x at) [
        | inl past ↦ done_below p s.graph c before after piece sound.graph m x.id
            (ap (λ b. b || is_some (s.graph.driver x.id))
            (stands_true x.id s.graph.past x past refl))
        | inr chain ↦ list_below (is_over s.graph) s.graph.next s.graph.chain x
            sound.graph.listed chain
      ]

  -- what was recorded is
  recorded_grown : IsWithin (recorded s.graph s.desk.stores)
      (recorded (growing s.graph c before after piece) s.desk.stores)
  recorded_grown k port v has = by_record (records s.graph s.desk.stores k) refl
    where
      lists : nodes s.graph ≡ (s.graph.past ++ before) ++ c ∷ after
      lists = ap (λ ns. s.graph.past ++ ns) m.split
          ∙ sym (append_assoc s.graph.past before (c ∷ after))

      by_record : (o : Option Ran) → records s.graph s.desk.stores k ≡ o
          → ports_kept (node_at (nodes now) k) (records s.graph s.desk.stores k) port ≡ Some v
      by_record None is =
          let z = sym (none_recorded s.graph s.desk.stores k port is) ∙ has in absurd (cc (z))
      by_record (Some ran) is =
          let low = record_below k ran is in
          let other : k ≢ c.id = (λ z. none_apart (records s.graph s.desk.stores c.id) ran
          c_unrecorded (ap (records s.graph s.desk.stores) (sym z) ∙ is)) in
          ap (λ ns. ports_kept (node_at ns k) (records s.graph s.desk.stores k) port)
          (sym (append_assoc s.graph.past before rest))
          ∙ found_list (s.graph.past ++ before) (records s.graph s.desk.stores k) k port other
          (new_fresh p s.graph c before after piece sound.graph m k low)
          ∙ ap (λ ns. ports_kept (node_at ns k) (records s.graph s.desk.stores k) port) (sym lists)
          ∙ has

  -- nothing is recorded of the composite
  c_blank_record : (port : ℕ) → recorded s.graph s.desk.stores c.id port ≡ None
  c_blank_record port = none_recorded s.graph s.desk.stores c.id port c_unrecorded

  -- a node with a job isn't the composite
  job_apart : (given : Given) (x : Node) (t : Task) → Contains (nodes s.graph) x
      → task_of given x.work ≡ Some t → x.id ≢ c.id
  job_apart given x t at is same =
      let one = same_node p s.graph x c sound.graph at c_among same in
      let leaf = task_leaf given x.work t is in
      let w : is_composite x.work ≡ true
      = ap (λ (y : Node). is_composite y.work) one ∙ m.composite in
      absurd (cc (leaf, w))

  heads_grown : (k : ℕ) → k ≢ c.id → IsTrue (heads k s.graph.chain)
      → IsTrue (heads k (before ++ replaced_by c.id piece after))
  heads_grown k other is =
      heads_now before c after rest k other (subst (λ ns. IsTrue (heads k ns)) m.split is)

  -- a node that is ready is ready still
  ready_grown : (k : ℕ) → ReadyNode s.graph s.desk.stores k
      → ReadyNode (growing s.graph c before after piece) s.desk.stores k
  ready_grown k r =
      let at = found_there (nodes s.graph) k r.node r.found in
      let given : Given = recorded s.graph s.desk.stores in
      let leaf = task_leaf given r.node.work r.task r.is_task in
      let there = leaf_there given c_blank_record r.node at.0 leaf r.inputs in
      record {
        node = r.node;
        found =
            ap (node_at (nodes now)) (sym at.1)
            ∙ graph_node p now r.node (graph_grown p s.graph c before after piece sound.graph m)
            there;
        inputs = inputs_within given (recorded now s.desk.stores) recorded_grown r.node.work
            r.inputs;
        turn = or_more (is_pure r.node.work) (heads r.node.id s.graph.chain)
            (heads r.node.id (before ++ rest))
            (heads_grown r.node.id (job_apart given r.node r.task at.0 r.is_task)) r.turn;
        task = r.task;
        is_task =
            sym (task_equal given (recorded now s.desk.stores) recorded_grown r.node.work r.inputs)
            ∙ r.is_task;
      }

  -- what a node with a ticket names is settled, or stands in the chain
  names_grown : (k : ℕ) → NamesPresent s.graph k → ReadyNode s.graph s.desk.stores k
      → NamesPresent (growing s.graph c before after piece) k
  unfolding ready_grown
  names_grown k old r x at number j names =
      let g' = graph_grown p s.graph c before after piece sound.graph m in
      let was = found_there (nodes s.graph) k r.node r.found in
      let new = ready_grown k r in
      let is = found_there (nodes now) k r.node new.found in
      let same = same_node p now x r.node g' at is.0 (number ∙ sym is.1) in
      let named = subst (λ (y : Node). Names y j) same names in
      present_now p s.graph c before after piece sound.graph m j
      (λ z. ready_named p s.graph s.desk.stores k c.id sound.graph r r.node was.0 was.1
      (subst (Names r.node) z named) c_unrecorded)
      (old r.node was.0 was.1 j named)

  claim_other : (k : ℕ) (q : Held) → s.desk.claim k ≡ Some q → k ≢ c.id
  claim_other k q live same = elim (sound.desk.claimed k q live) [
    | inl j ↦ job_apart (sight p s.graph) j.node q.job.task j.stands j.task (j.number ∙ same)
    | inr gone ↦ not_gone s.graph c c_among (subst (IsGone s.graph) same gone)
  ]

  -- the state is sound
  pub state_grown : IsSound p (record s { graph = growing s.graph c before after piece })
  state_grown =
      let h = sound.desk in
      record {
        graph = graph_grown p s.graph c before after piece sound.graph m;
        attempts = sound.attempts;
        scripted = sound.scripted;
        survivor = sound.survivor;
        desk = record {
          stored = λ k kept is. elim (h.stored k kept is) [
            | inl seen ↦ inl (seen_grown k kept.ran seen)
            | inr gone ↦ inr (gone_grown k gone)
          ];
          store_lives = h.store_lives;
          run_done = λ k ran x is at number. run_grown k ran x is at number;
          ticket_ready = λ k t live.
              is_ready_by now s.desk.stores k
              (ready_grown k (ready_parts s.graph s.desk.stores k (h.ticket_ready k t live)));
          ticket_alone = h.ticket_alone;
          ticket_names = λ k t live.
              names_grown k (h.ticket_names k t live)
              (ready_parts s.graph s.desk.stores k (h.ticket_ready k t live));
          claimed = λ k q live. elim (h.claimed k q live) [
            | inl job ↦ inl (job_grown k q.job job)
            | inr gone ↦ inr (gone_grown k gone)
          ];
          claim_heads = λ k q live run.
              heads_grown k (claim_other k q live) (h.claim_heads k q live run);
          claim_alone = h.claim_alone;
          claim_lives = h.claim_lives;
          claim_seat = h.claim_seat;
          undone_attempt = h.undone_attempt;
          undone_lost = h.undone_lost;
        };
      }
    where
      driver_below : (k : ℕ) (ran : Ran) → s.graph.driver k ≡ Some ran → k < s.graph.next
      driver_below k ran is = elim (below_or k s.graph.next) [
        | inl low ↦ low
        | inr high ↦ absurd (none_apart (s.graph.driver k) ran
            (new_undriven p s.graph c before after piece sound.graph m k high) is)
      ]

      run_grown : (k : ℕ) (ran : Ran) (x : Node) → s.graph.driver k ≡ Some ran
          → Contains (before ++ replaced_by c.id piece after) x → x.id ≡ k
          → IsSeen p (growing s.graph c before after piece) k ran
      run_grown k ran x is at number = by_place (stands k s.graph.chain) refl
        where
          by_place : (b : Bool) → stands k s.graph.chain ≡ b
              → IsSeen p (growing s.graph c before after piece) k ran
          by_place true there =
              let y = stands_node s.graph.chain k there in
              seen_grown k ran (sound.desk.run_done k ran y.0 is y.1 y.2)
          by_place false away =
              absurd (fresh_apart k (before ++ rest) x
              (fresh_now p s.graph c before after piece sound.graph m k (driver_below k ran is)
              (unseen_fresh k s.graph.chain away)) at number)
