-- Settling the head of the chain keeps what holds.
use Rattle.std.proofs.Common.{◌≡◌, ◌≢◌, ◌==◌, ℕ, Bool, true, false, ◌||◌, cond, List, [], ◌∷◌, ◌++◌, append_assoc, Option, None, Some, is_some, ◌⊎◌, inl, inr, refl, ap, sym, ◌∙◌, subst}
use Rattle.std.specs.Prelude.{IsTrue, Result, Ok, Err}
use Rattle.std.specs.List.{Contains}
use Rattle.std.proofs.lemmas.List.Elements.{All-weaker, Contains-append_left, Contains-append_right, Contains-append_cases}
use Rattle.pyd_value.specs.declared.value.Value.{Value}
use Rattle.pyd_value.specs.declared.fault.Fault.{Fault}
use Rattle.pyd_value.specs.declared.fault.End.{End}
use Rattle.pyd_meaning.specs.declared.ran.Ran.{Ran}
use Rattle.pyd_meaning.specs.Evaluation.{Evaluation}
use Rattle.pyd_meaning.specs.Module.{ended_by, end_of}
use Rattle.pyd_ir.specs.declared.job.Job.{Job}
use Rattle.pyd_ir.specs.declared.job.Task.{Task}
use Rattle.pyd_ir.specs.declared.node.Node.{Node}
use Rattle.pyd_ir.specs.declared.work.Work.{Work}
use Rattle.pyd_ir.specs.declared.work.Work.TheVariants.{Op, Read, Call, Stop, Print, Run, Cond, While, For, Pick, Enter}
use Rattle.pyd_ir.specs.Arguments.{is_pure}
use Rattle.pyd_ir.specs.Inputs.{Given, has_inputs, task_of, leaf_meaning}
use Rattle.pyd_ir.specs.Ports.{Ports}
use Rattle.pyd_translate.specs.Walk.{give, walk}
use Rattle.pyd_runs.specs.Plans.{Plan, limits_of}
use Rattle.pyd_runs.specs.Graphs.{Graph, nodes}
use Rattle.pyd_runs.specs.Desks.{Placed, Held}
use Rattle.pyd_runs.specs.Records.{ports_kept, records, recorded, stored, or_else, node_at, heads, ready, is_ready}
use Rattle.pyd_runs.specs.Reach.{Reached, by_chain, by_past}
use Rattle.pyd_runs.specs.Effects.{State, acted, settled, settled_chain, settled_as, settled_by, passed}
use Rattle.pyd_runs.specs.Enabled.{WaitsNot, IsRecorded}
use Rattle.pyd_runs.specs.Sound.{IsSound, IsGraphSound, IsDeskSound, IsSeen, IsJob, IsGone, IsFresh, HasGiven, Completes, ports_given, ports_seen, leaf_seen, seen, sight, stands, is_over}
use Rattle.pyd_runs.specs.Laws.{SettleLaw}
use Rattle.pyd_runs.proofs.Putting.{at_cases, put_else, put_here, other_test, test_same}
use Rattle.pyd_runs.proofs.Readiness.{IsWithin, inputs_within}
use Rattle.pyd_runs.proofs.Without.{here, behind, first_or_behind, fresh_apart, stands_true}
use Rattle.pyd_runs.proofs.Standing.{found_there, same_node, fresh_none, list_below}
use Rattle.pyd_runs.proofs.Within.{leaf_within, task_equal}
use Rattle.pyd_runs.proofs.Knowing.{given_within, chain_sight, recorded_seen, not_gone}
use Rattle.pyd_runs.proofs.Leaves.{effect_ports, walk_err}
use Rattle.pyd_runs.proofs.Claiming.{ReadyNode, ready_parts, is_ready_by}
use Rattle.pyd_runs.proofs.Passing.{IsHead, passing, head_there, head_among, rest_there, head_fresh, head_leaf, IsOverNow, now_present}
use Rattle.pyd_runs.proofs.Passed.{pure_over, pure_among, pure_sound, effect_over, effect_among, effect_sound, driver_now, kept_value}

-- a head that doesn't wait and has no record has no job
no_task : (s : State) (k : ℕ) (w : Work) → WaitsNot s k w
    → records s.graph s.desk.stores k ≡ None → (given : Given) (t : Task)
    → task_of given w ≡ Some t → ⊥
no_task s k (Op op args) waits none given t e = subst IsRecorded none waits
no_task s k (Read arg kind) waits none given t e = subst IsRecorded none waits
no_task s k (Call func args) waits none given t e = subst IsRecorded none waits
no_task s k (Stop fault) waits none given t e = absurd (cc (e))
no_task s k (Print args) waits none given t e = absurd (cc (e))
no_task s k (Run func args) waits none given t e = subst IsRecorded none waits
no_task s k (Cond test stmt arm rest env) waits none given t e = absurd (cc (e))
no_task s k (While test stmt turns rest env) waits none given t e = absurd (cc (e))
no_task s k (For over stmt turns rest env) waits none given t e = absurd (cc (e))
no_task s k (Pick test first second env) waits none given t e = absurd (cc (e))
no_task s k (Enter func args) waits none given t e = absurd (cc (e))

-- one of two tests is met, and not the second
first_met : (a b c : Bool) → (a || b) ≡ true → b ≡ false → (a || c) ≡ true
first_met true b c h f = refl
first_met false b c h f = absurd (cc (h, f))

-- a node taken out from between others isn't what another number finds
node_skipped : (xs : List Node) (n : Node) (ys : List Node) (k : ℕ) → k ≢ n.id
    → node_at (xs ++ ys) k ≡ node_at (xs ++ n ∷ ys) k
node_skipped [] n ys k other =
    sym (ap (λ b. cond b (Some n) (node_at ys k)) (other_test n.id k (λ z. other (sym z))))
node_skipped (x ∷ xs) n ys k other =
    ap (λ o. cond (x.id == k) (Some x) o) (node_skipped xs n ys k other)

-- a number that no node has but one that was taken out, none has
pub fresh_less : (xs : List Node) (n : Node) (ys : List Node) (k : ℕ) → IsFresh k (xs ++ n ∷ ys)
    → IsFresh k (xs ++ ys)
fresh_less [] n ys k fresh = fresh.1
fresh_less (x ∷ xs) n ys k fresh = (fresh.0, fresh_less xs n ys k fresh.1)

module _ (p : Plan) (s : State) (n : Node) (rest : List Node) (e : Evaluation Value) (v : Value)
    (sound : IsSound p s) (head : IsHead p s.graph n rest e v)
    (waits : WaitsNot s n.id n.work) where
  abbrev was : Graph
  was = s.graph

  abbrev there : Contains (nodes s.graph) n
  there = head_among p s.graph n rest e v sound.graph head

  -- a ticket isn't the head's
  ticket_apart : (k : ℕ) (t : Placed) → s.desk.ticket k ≡ Some t → k ≢ n.id
  ticket_apart k t live z =
      let r = ready_parts s.graph s.desk.stores k (sound.desk.ticket_ready k t live) in
      let at = found_there (nodes s.graph) k r.node r.found in
      let same = same_node p s.graph r.node n sound.graph at.0 there (at.1 ∙ z) in
      no_task s n.id n.work waits
      (ap (records s.graph s.desk.stores) (sym z) ∙ (sound.desk.ticket_alone k t live).0)
      (recorded s.graph s.desk.stores) r.task
      (ap (λ (x : Node). task_of (recorded s.graph s.desk.stores) x.work) (sym same) ∙ r.is_task)

  -- nor is a claim
  claim_apart : (k : ℕ) (c : Held) → s.desk.claim k ≡ Some c → k ≢ n.id
  claim_apart k c live z = elim (sound.desk.claimed k c live) [
    | inl j ↦
        let same = same_node p s.graph j.node n sound.graph j.stands there (j.number ∙ z) in
        no_task s n.id n.work waits
        (ap (records s.graph s.desk.stores) (sym z) ∙ sound.desk.claim_alone k c live)
        (sight p s.graph) c.job.task
        (ap (λ (x : Node). task_of (sight p s.graph) x.work) (sym same) ∙ j.task)
    | inr gone ↦ not_gone s.graph n there (subst (IsGone s.graph) z gone)
  ]

  module _ (past : List Node) (driver : ℕ → Option Ran) where
    -- what is seen is what was seen
    sight_now : sight p (passing s.graph n rest e v past driver) ≡ sight p s.graph
    unfolding seen
    sight_now =
        sym (ap (seen p s.graph.given) head.chain
        ∙ ap (λ o. seen p (give n.id (ports_seen n o) s.graph.given) rest)
        (head_leaf p s.graph n rest e v sound.graph head)
        ∙ ap (λ r. seen p (give n.id (ports_given n r) s.graph.given) rest) head.gave)

    -- how the graph changed
    record IsMoved : Type 0 where
      graph : IsGraphSound p (passing s.graph n rest e v past driver)
      over : IsOverNow p s.graph n rest e v sound.graph head past driver
      moved : (x : Node) → Contains (nodes s.graph) x
          → Contains (past ++ rest) x ⊎ IsGone (passing s.graph n rest e v past driver) x.id
      among : (x : Node) → Contains (past ++ rest) x → Contains (nodes s.graph) x
      gone : (k : ℕ) → IsGone s.graph k → IsGone (passing s.graph n rest e v past driver) k
      else_same : (k : ℕ) → k ≢ n.id → driver k ≡ s.graph.driver k
      found : (k : ℕ) → k ≢ n.id → node_at (past ++ rest) k ≡ node_at (nodes s.graph) k
      more : IsWithin (recorded s.graph s.desk.stores)
          (recorded (passing s.graph n rest e v past driver) s.desk.stores)

    module _ (m : IsMoved) where
      abbrev now : Graph
      now = passing s.graph n rest e v past driver

      seen_now : (k : ℕ) (ran : Ran) → IsSeen p s.graph k ran ⊎ IsGone s.graph k
          → IsSeen p (passing s.graph n rest e v past driver) k ran
          ⊎ IsGone (passing s.graph n rest e v past driver) k
      seen_now k ran (inr gone) = inr (m.gone k gone)
      seen_now k ran (inl h) = elim (m.moved h.node h.stands) [
        | inl at ↦ inl (record {
          node = h.node;
          stands = at;
          number = h.number;
          does = h.does;
          meaning = ap (λ given. leaf_seen p given h.node) sight_now ∙ h.meaning;
          has_job = ap (λ given. is_some (task_of given h.node.work)) sight_now ∙ h.has_job;
          as_done = h.as_done;
        })
        | inr gone ↦ inr (subst (IsGone now) h.number gone)
      ]

      job_now : (k : ℕ) (job : Job) → IsJob p s.graph k job ⊎ IsGone s.graph k
          → IsJob p (passing s.graph n rest e v past driver) k job
          ⊎ IsGone (passing s.graph n rest e v past driver) k
      job_now k job (inr gone) = inr (m.gone k gone)
      job_now k job (inl h) = elim (m.moved h.node h.stands) [
        | inl at ↦ inl (record {
          node = h.node;
          stands = at;
          number = h.number;
          inputs = ap (λ given. has_inputs given h.node.work) sight_now ∙ h.inputs;
          task = ap (λ given. task_of given h.node.work) sight_now ∙ h.task;
          line = h.line;
          depth = h.depth;
        })
        | inr gone ↦ inr (subst (IsGone now) h.number gone)
      ]

      -- records of other nodes are those of before
      records_now : (k : ℕ) → k ≢ n.id
          → records (passing s.graph n rest e v past driver) s.desk.stores k
          ≡ records s.graph s.desk.stores k
      records_now k other =
          ap (λ o. or_else o (stored s.desk.stores k)) (m.else_same k other)

      -- a node with a ticket is ready still
      ready_now : (k : ℕ) → k ≢ n.id → ReadyNode s.graph s.desk.stores k
          → ReadyNode (passing s.graph n rest e v past driver) s.desk.stores k
      ready_now k other r =
          let at = found_there (nodes s.graph) k r.node r.found in
          let apart : n.id ≢ r.node.id = (λ z. other (sym at.1 ∙ sym z)) in
          let headed : heads r.node.id s.graph.chain ≡ false
          = ap (heads r.node.id) head.chain ∙ other_test n.id r.node.id apart in
          record {
            node = r.node;
            found = m.found k other ∙ r.found;
            inputs = inputs_within (recorded s.graph s.desk.stores)
                (recorded now s.desk.stores) m.more r.node.work r.inputs;
            turn = first_met (is_pure r.node.work) (heads r.node.id s.graph.chain)
                (heads r.node.id rest) r.turn headed;
            task = r.task;
            is_task =
                sym (task_equal (recorded s.graph s.desk.stores) (recorded now s.desk.stores)
                m.more r.node.work r.inputs)
                ∙ r.is_task;
          }

      -- the desk is sound
      desk_now : IsDeskSound p (passing s.graph n rest e v past driver) s.desk s.lost
      desk_now =
          let h = sound.desk in
          record {
            stored = λ k kept is. seen_now k kept.ran (h.stored k kept is);
            store_lives = h.store_lives;
            run_done = λ k ran x is at number.
                (let other : k ≢ n.id = (λ z. fresh_apart n.id rest x
                (head_fresh p s.graph n rest e v sound.graph head) at (number ∙ z)) in
                let old = h.run_done k ran x (sym (m.else_same k other) ∙ is)
                (rest_there p s.graph n rest e v sound.graph head x at) number in
                elim (seen_now k ran (inl old)) [
                  | inl seen ↦ seen
                  | inr gone ↦ absurd (not_gone now x (Contains-append_right past rest x at)
                      (subst (IsGone now) (sym number) gone))
                ]);
            ticket_ready = λ k t live.
                is_ready_by now s.desk.stores k
                (ready_now k (ticket_apart k t live)
                (ready_parts s.graph s.desk.stores k (h.ticket_ready k t live)));
            ticket_alone = λ k t live.
                (let r = h.ticket_alone k t live in
                (records_now k (ticket_apart k t live) ∙ r.0, r.1));
            ticket_names = λ k t live x at number j names.
                now_present p s.graph n rest e v sound.graph head past driver m.over j
                (h.ticket_names k t live x (m.among x at) number j names);
            claimed = λ k c live. job_now k c.job (h.claimed k c live);
            claim_heads = λ k c live run.
                absurd (claim_apart k c live (head_number k
                (subst (λ ns. IsTrue (heads k ns)) head.chain (h.claim_heads k c live run))));
            claim_alone = λ k c live.
                records_now k (claim_apart k c live) ∙ h.claim_alone k c live;
            claim_lives = h.claim_lives;
            claim_seat = h.claim_seat;
            undone_attempt = h.undone_attempt;
            undone_lost = h.undone_lost;
          }
        where
          head_number : (k : ℕ) → IsTrue (heads k (n ∷ rest)) → k ≡ n.id
          head_number k is = sym (test_same n.id k is)

      -- so is the state
      state_now : IsSound p (record s { graph = passing s.graph n rest e v past driver })
      state_now = record {
        graph = m.graph;
        desk = desk_now;
        attempts = sound.attempts;
        scripted = sound.scripted;
        survivor = sound.survivor;
      }

  -- a pure node goes to the past
  pure_moved : (pure : is_pure n.work ≡ true)
      → IsMoved (s.graph.past ++ n ∷ []) s.graph.driver
  pure_moved pure =
      let g = s.graph in
      let same : (g.past ++ n ∷ []) ++ rest ≡ nodes g
      = append_assoc g.past (n ∷ []) rest ∙ ap (λ ns. g.past ++ ns) (sym head.chain) in
      record {
        graph = pure_sound p g n rest e v sound.graph head pure;
        over = pure_over p g n rest e v sound.graph head pure;
        moved = λ x at. inl (subst (λ (ns : List Node). Contains ns x) (sym same) at);
        among = pure_among p g n rest e v sound.graph head pure;
        gone = λ k gone. (gone.0, subst (IsFresh k) (sym same) gone.1);
        else_same = λ k other. refl;
        found = λ k other. ap (λ ns. node_at ns k) same;
        more = λ k port w has.
            ap (λ ns. ports_kept (node_at ns k) (records g s.desk.stores k) port) same ∙ has;
      }

  -- an effect goes
  effect_moved : (impure : is_pure n.work ≡ false)
      → IsMoved s.graph.past (driver_now p s.graph n rest e v sound.graph head)
  effect_moved impure =
      let g = s.graph in
      let driver = driver_now p g n rest e v sound.graph head in
      let kept = kept_value p g n rest e v sound.graph head in
      let now = passing g n rest e v g.past driver in
      let found : (k : ℕ) → k ≢ n.id → node_at (g.past ++ rest) k ≡ node_at (nodes g) k
      = (λ k other. node_skipped g.past n rest k other
      ∙ ap (λ ns. node_at (g.past ++ ns) k) (sym head.chain)) in
      let gone : (k : ℕ) → IsGone g k → IsGone now k
      = (λ k gone. (
        gone.0,
        fresh_less g.past n rest k
            (subst (λ (ns : List Node). IsFresh k (g.past ++ ns)) head.chain gone.1),
      )) in
      let less : IsFresh n.id (g.past ++ rest)
      = fresh_of (g.past ++ rest) n.id
      (λ x at. (effect_among p g n rest e v sound.graph head impure x at).1) in
      let over = effect_over p g n rest e v sound.graph head impure in
      record {
        graph = effect_sound p g n rest e v sound.graph head impure;
        over = over;
        moved = λ x at. elim (at_cases x.id n.id) [
          | inl same ↦ inr (subst (IsGone now) (sym same) (
            list_below (is_over g) g.next g.chain n sound.graph.listed
                (head_there p g n rest e v sound.graph head),
            less,
          ))
          | inr other ↦ inl (still_there x at other)
        ];
        among = λ x at. (effect_among p g n rest e v sound.graph head impure x at).0;
        gone = gone;
        else_same = λ k other. put_else g.driver n.id (Some kept) k other;
        found = found;
        more = λ k port w has. elim (at_cases k n.id) [
          | inr other ↦
              ap (λ o. ports_kept o (records now s.desk.stores k) port) (found k other)
              ∙ ap (λ o. ports_kept (node_at (nodes g) k) (or_else o (stored s.desk.stores k)) port)
              (put_else g.driver n.id (Some kept) k other)
              ∙ has
          | inl same ↦
              let seen = recorded_seen p g s.desk s.lost sound.graph sound.desk n.id port w
              (standing_present (is_over g n.id) (stands n.id g.chain)
              (stands_true n.id g.chain n (head_there p g n rest e v sound.graph head) refl))
              (ap (λ i. recorded g s.desk.stores i port) (sym same) ∙ has) in
              let does = chain_sight p g n e sound.graph
              (head_there p g n rest e v sound.graph head)
              (leaf_within p g.given (sight p g) (given_within p g sound.graph) n e
              (head_leaf p g n rest e v sound.graph head)) port in
              rw same (
              ap (λ o. ports_kept o (records now s.desk.stores n.id) port)
              (fresh_none (g.past ++ rest) n.id less)
              ∙ ap (λ o. ports_kept None (or_else o (stored s.desk.stores n.id)) port)
              (put_here g.driver n.id (Some kept))
              ∙ sym (ap (λ (ports : Ports). ports port)
              (effect_ports p.file (limits_of p) g.given n.line n.depth n.work e v
              head.meant impure))
              ∙ sym (ap (λ r. ports_given n r port) head.gave)
              ∙ sym does ∙ seen)
        ];
      }
    where
      fresh_of : (ns : List Node) (k : ℕ) → ((x : Node) → Contains ns x → x.id ≢ k)
          → IsFresh k ns
      fresh_of [] k apart = tt
      fresh_of (x ∷ ns) k apart =
          (apart x (here x ns), fresh_of ns k (λ y at. apart y (behind x ns y at)))

      standing_present : (a b : Bool) → b ≡ true → (a || b) ≡ true
      standing_present true b t = refl
      standing_present false b t = t

      still_there : (x : Node) → Contains (nodes s.graph) x → x.id ≢ n.id
          → Contains (s.graph.past ++ rest) x
      still_there x at other =
          elim (Contains-append_cases s.graph.past s.graph.chain x at) [
            | inl past ↦ Contains-append_left s.graph.past rest x past
            | inr chain ↦ elim (first_or_behind n rest x
                (subst (λ (ns : List Node). Contains ns x) head.chain chain)) [
                  | inl is ↦ absurd (other (ap (λ (y : Node). y.id) (sym is)))
                  | inr later ↦ Contains-append_right s.graph.past rest x later
                ]
          ]

  -- the state with the head passed is sound
  passed_keeps : (b : Bool) → is_pure n.work ≡ b
      → IsSound p (record s { graph = passed b s.graph n rest e.lines v })
  passed_keeps true pure =
      state_now (s.graph.past ++ n ∷ []) s.graph.driver (pure_moved pure)
  passed_keeps false impure =
      state_now s.graph.past (driver_now p s.graph n rest e v sound.graph head)
      (effect_moved impure)

-- a node that was reached where the run had ended was reached before
end_reached : (g : Graph) (out : List (List ℕ)) (end : Option End) (k : ℕ)
    → Reached (record g { out = out; end = end }) k → Reached g k
end_reached g out end k (by_chain x i at names) = by_chain x k at names
end_reached g out end k (by_past x i at reached names) =
    by_past x k at (end_reached g out end x.id reached) names

-- the graph whose head ended at a fault
abbrev faulted : Graph → List (List ℕ) → Fault → Graph
faulted g lines f = record g { out = g.out ++ lines; end = Some (ended_by f) }

-- what was done is still seen, also where the run has ended
seen_at_end : (p : Plan) (g : Graph) (lines : List (List ℕ)) (f : Fault) (k : ℕ) (ran : Ran)
    → IsSeen p g k ran → IsSeen p (faulted g lines f) k ran
seen_at_end p g lines f k ran h = record {
  node = h.node;
  stands = h.stands;
  number = h.number;
  does = h.does;
  meaning = h.meaning;
  has_job = h.has_job;
  as_done = h.as_done;
}

-- a node that is ready is ready still
ready_at_end : (s : State) (lines : List (List ℕ)) (f : Fault) (k : ℕ)
    → IsTrue (is_ready s.graph s.desk.stores k)
    → IsTrue (is_ready (faulted s.graph lines f) s.desk.stores k)
unfolding ready
ready_at_end s lines f k is = is

-- a head that ends at a fault
fault_keeps : (p : Plan) (s : State) (n : Node) (rest : List Node) (e : Evaluation Value)
    (f : Fault)
    → IsSound p s → s.graph.end ≡ None → s.graph.chain ≡ n ∷ rest
    → leaf_meaning p.file (limits_of p) s.graph.given n ≡ Some e → e.result ≡ Err f
    → IsSound p (record s { graph = faulted s.graph e.lines f })
fault_keeps p s n rest e f sound goes chain meant gave =
    let g = s.graph in
    let sg = sound.graph in
    let h = sound.desk in
    let old = subst (λ (ns : List Node). Completes p g.out (walk p.file (limits_of p) ns g.given))
    chain (sg.goes_on goes) in
    let does = walk_err p.file (limits_of p) g.given n rest e f meant gave in
    record {
      graph = record {
        goes_on = λ none. absurd (cc (none));
        ended = λ end is. record {
          lines = ap (λ (lines : List (List ℕ)). g.out ++ lines) (sym does.0) ∙ old.lines;
          as_script = (let z = ap (λ r. end_of r) does.1 in
              let w = old.as_script in cc (is, z, w));
        };
        unfinished = λ none. absurd (cc (none));
        supplied = λ none. absurd (cc (none));
        listed = sg.listed;
        below = sg.below;
        slots = sg.slots;
        ordered = sg.ordered;
        apart = sg.apart;
        past = All-weaker (HasGiven p g) (HasGiven p (faulted g e.lines f))
            (λ x was. record {
              value = was.value;
              looked = was.looked;
              look = was.look;
              gave = was.gave;
              ports = was.ports;
            }) g.past sg.past;
        present = λ k reached.
            sg.present k (end_reached g (g.out ++ e.lines) (Some (ended_by f)) k reached);
        driven = λ k ran is fresh.
            (let was = sg.driven k ran is fresh in record {
              value = was.value;
              outcome = was.outcome;
              port = was.port;
              no_other = was.no_other;
            });
        effects = sg.effects;
        blank = sg.blank;
      };
      desk = record {
        stored = λ k kept is. elim (h.stored k kept is) [
          | inl was ↦ inl (seen_at_end p g e.lines f k kept.ran was)
          | inr gone ↦ inr gone
        ];
        store_lives = h.store_lives;
        run_done = λ k ran x is at number.
            seen_at_end p g e.lines f k ran (h.run_done k ran x is at number);
        ticket_ready = λ k t live. ready_at_end s e.lines f k (h.ticket_ready k t live);
        ticket_alone = h.ticket_alone;
        ticket_names = h.ticket_names;
        claimed = λ k c live. elim (h.claimed k c live) [
          | inl j ↦ inl (record {
            node = j.node;
            stands = j.stands;
            number = j.number;
            inputs = j.inputs;
            task = j.task;
            line = j.line;
            depth = j.depth;
          })
          | inr gone ↦ inr gone
        ];
        claim_heads = h.claim_heads;
        claim_alone = h.claim_alone;
        claim_lives = h.claim_lives;
        claim_seat = h.claim_seat;
        undone_attempt = h.undone_attempt;
        undone_lost = h.undone_lost;
      };
      attempts = sound.attempts;
      scripted = sound.scripted;
      survivor = sound.survivor;
    }

-- by what the head means, and what it gave
settled_keeps : (p : Plan) (s : State) (n : Node) (rest : List Node)
    (o : Option (Evaluation Value))
    → IsSound p s → s.graph.end ≡ None → s.graph.chain ≡ n ∷ rest → WaitsNot s n.id n.work
    → leaf_meaning p.file (limits_of p) s.graph.given n ≡ o
    → IsSound p (record s { graph = settled_as s.graph n rest o })
settled_keeps p s n rest None sound goes chain waits meant = record {
  graph = sound.graph;
  desk = sound.desk;
  attempts = sound.attempts;
  scripted = sound.scripted;
  survivor = sound.survivor;
}
settled_keeps p s n rest (Some e) sound goes chain waits meant = by_result e.result refl
  where
    by_result : (r : Result Value Fault) → e.result ≡ r
        → IsSound p (record s { graph = settled_by s.graph n rest e.lines r })
    by_result (Ok v) gave =
        passed_keeps p s n rest e v sound
        (record { goes_on = goes; chain = chain; meant = meant; gave = gave }) waits
        (is_pure n.work) refl
    by_result (Err f) gave = fault_keeps p s n rest e f sound goes chain meant gave

-- the law
pub settle_keeps : SettleLaw
unfolding acted settled
settle_keeps p s seat k sound goes can =
    subst (λ (ns : List Node). IsSound p (record s { graph = settled_chain p s.graph ns }))
    (sym can.chain)
    (settled_keeps p s can.head can.rest
    (leaf_meaning p.file (limits_of p) s.graph.given can.head) sound goes can.chain
    (subst (λ i. WaitsNot s i can.head.work) (sym can.number) can.waits_not) refl)
