-- A desk whose machine is lost, in a sound state.
use Rattle.std.proofs.Common.{◌≡◌, ℕ, ◌==◌, List, [], ◌∷◌, Bool, true, false, not, ◌&&◌, ◌||◌, cond, if◌then◌else◌, Option, Some, None, option_map, get_or, is_some, length, inl, inr, refl, ap, sym, subst, ◌∙◌, arith}
use Rattle.std.specs.List.{Contains}
use Rattle.std.proofs.lemmas.Bool.{and_parts}
use Rattle.pyd_ir.specs.declared.node.Node.{Node}
use Rattle.pyd_ir.specs.Inputs.{Given}
use Rattle.pyd_runs.specs.Desks as runs
use Rattle.pyd_runs.specs.Desks.{put_at}
use Rattle.pyd_runs.specs.Graphs.{nodes}
use Rattle.pyd_runs.specs.Plans.{Plan}
use Rattle.pyd_runs.specs.Records.{is_ready, job_by, node_at, task_by}
use Rattle.pyd_runs.specs.Losses.{desk_without, stores_without}
use Rattle.pyd_runs.specs.Effects.{State, lost_with}
use Rattle.pyd_runs.specs.Sound.{IsSound}
use Rattle.pyd_runs.proofs.Putting.{same_test, test_same}
use Rattle.pyd_runs.proofs.Without.{first_or_behind, here, behind}
use Rattle.pyd_runs.proofs.Standing.{found_there, graph_node}
use Rattle.pyd_desk.specs.declared.desk.Desk.{Desk}
use Rattle.pyd_desk.specs.declared.desk.Mark.{Mark}
use Rattle.pyd_desk.specs.declared.line.Line.{Line}
use Rattle.pyd_desk.specs.Desks.{desk_of, is_lost, mark_at, placed_of, stores_of}
use Rattle.pyd_desk.specs.Lines.{IsGraphOf, chain_of}
use Rattle.pyd_desk.specs.Losing.{cleared}
use Rattle.pyd_desk.specs.Reading.{given_of}
use Rattle.pyd_desk.specs.States.{IsStateOf}
use Rattle.pyd_desk.specs.Tickets.{IsRidOf, has_waiting, is_ready_in, is_waiting}
use Rattle.pyd_desk.proofs.Standing.{nodes_of, ready_is}
use Rattle.pyd_desk.proofs.Written.{desk_by}

-- a node that was found to wait
record Waits (chain ns : List Node) (given : Given) (k : ℕ) : Type 0 where
  node : Node
  stands : Contains ns node
  number : node.id ≡ k
  waits : is_ready_in chain given node ≡ false

not_true : (b : Bool) → not b ≡ true → b ≡ false
not_true true e = absurd (cc (e))
not_true false e = refl

waiting_node : (chain ns : List Node) (given : Given) (k : ℕ) → has_waiting chain given ns k ≡ true
    → Waits chain ns given k
waiting_node chain [] given k e = absurd (cc (e))
waiting_node chain (x ∷ ns) given k e =
    by_test (is_waiting chain given k x) refl e (λ later. waiting_node chain ns given k later)
  where
    by_test : (b : Bool) → is_waiting chain given k x ≡ b
        → (b || has_waiting chain given ns k) ≡ true
        → (has_waiting chain given ns k ≡ true → Waits chain ns given k)
        → Waits chain (x ∷ ns) given k
    by_test true t is more =
        let parts = and_parts (x.id == k) (not (is_ready_in chain given x)) t in
        record {
          node = x;
          stands = here x ns;
          number = test_same x.id k parts.0;
          waits = not_true (is_ready_in chain given x) parts.1;
        }
    by_test false t is more =
        let r = more is in
        record {
          node = r.node;
          stands = behind x ns r.node r.stands;
          number = r.number;
          waits = r.waits;
        }

or_false : (a b : Bool) → (a || b) ≡ false → (a ≡ false) × (b ≡ false)
or_false true b e = absurd (cc (e))
or_false false b e = (refl, e)

unwaiting : (t r : Bool) → t ≡ true → (t && not r) ≡ false → r ≡ true
unwaiting true true is e = refl
unwaiting true false is e = absurd (cc (e))
unwaiting false r is e = absurd (cc (is))

-- where none waits, the node of the number is ready
none_waiting : (chain ns : List Node) (given : Given) (k : ℕ) (n : Node)
    → has_waiting chain given ns k ≡ false → Contains ns n → n.id ≡ k
    → is_ready_in chain given n ≡ true
none_waiting chain [] given k n e at number = absurd (omega (arith, at.1))
none_waiting chain (x ∷ ns) given k n e at number =
    let parts = or_false (is_waiting chain given k x) (has_waiting chain given ns k) e in
    elim (first_or_behind x ns n at) [
      | inl is ↦
          subst (λ m. is_ready_in chain given m ≡ true) is
          (unwaiting (x.id == k) (is_ready_in chain given x)
          (same_test x.id k (ap (λ (m : Node). m.id) is ∙ number)) parts.0)
      | inr later ↦ none_waiting chain ns given k n parts.1 later number
    ]

-- whether a node is ready, by what is found
ready_by : List Node → Given → Option Node → Bool
ready_by chain given found = is_some (job_by chain given 0 found)

mapped_there : {A B : Type 0} (f : A → B) (o : Option A) → is_some (option_map f o) ≡ is_some o
mapped_there f None = refl
mapped_there f (Some a) = refl

found_ready : (chain : List Node) (given : Given) (n : Node)
    → ready_by chain given (Some n) ≡ is_ready_in chain given n
unfolding ready_by
found_ready chain given n = mapped_there _ (task_by chain given n)

-- what is ready is found
there : (chain : List Node) (given : Given) (o : Option Node) → ready_by chain given o ≡ true
    → (n : Node) × (o ≡ Some n)
unfolding ready_by
there chain given None e = absurd (cc (e))
there chain given (Some n) e = (n, refl)

none_either : {A : Type 0} (b : Bool) (o : Option A) → o ≡ None → None ≡ cond b o None
none_either true o none = sym none
none_either false o none = refl

-- a ticket dies where its node isn't ready
dies : {A B : Type 0} (f : A → B) (waits ready : Bool) (t : Option A)
    → (waits ≡ true → ready ≡ false) → (waits ≡ false → (b : B) → option_map f t ≡ Some b → ready ≡ true)
    → option_map f (if waits then None else t) ≡ cond ready (option_map f t) None
dies f true ready t gone stays = ap (λ b. cond b (option_map f t) None) (sym (gone refl))
dies f false ready None gone stays = none_either ready None refl
dies f false ready (Some a) gone stays =
    ap (λ b. cond b (Some (f a)) None) (sym (stays refl (f a) refl))

-- a desk whose machine was lost, but for tickets
pub record IsClearedOf (machine : ℕ) (d now : Desk) : Type 0 where
  pub desk : desk_of now ≡ cleared machine (desk_of d)
  pub lost : is_lost now.alive.items ≡ put_at (is_lost d.alive.items) machine true
  pub marks : now.marks ≡ d.marks
  pub driver : now.driver ≡ d.driver

module _ (p : Plan) (s : State) (d now : Desk) (line : Line) (machine : ℕ)
    (sound : IsSound p s) (is : IsStateOf line d s) (c : IsClearedOf machine d now) where
  still_graph : IsGraphOf line now s.graph
  still_graph = record {
    past = is.graph.past;
    chain = is.graph.chain;
    driver = is.graph.driver ∙ ap (λ v k. get_or v.items k None) (sym c.driver);
    ports = λ k. ap (λ v. (mark_at v.items k).ports) c.marks ∙ is.graph.ports k;
  }

  -- readiness before, and once the machine's store is empty
  ready_before : (k : ℕ) → is_ready s.graph s.desk.stores k
      ≡ ready_by (chain_of line) (given_of d) (node_at line.nodes.items k)
  unfolding ready_by
  ready_before k =
      ap (λ (x : runs.Desk). is_ready s.graph x.stores k) is.desk
      ∙ ap is_some (ready_is line d s.graph k 0 is.graph)

  ready_now : (k : ℕ)
      → is_ready s.graph (stores_without machine (stores_of d)) k
      ≡ ready_by (chain_of line) (given_of now) (node_at line.nodes.items k)
  unfolding ready_by
  ready_now k =
      ap (λ (x : runs.Desk). is_ready s.graph x.stores k) (sym c.desk)
      ∙ ap is_some (ready_is line now s.graph k 0 still_graph)

  waits_unready : (k : ℕ)
      → has_waiting (chain_of line) (given_of now) line.nodes.items k ≡ true
      → ready_by (chain_of line) (given_of now) (node_at line.nodes.items k) ≡ false
  waits_unready k e =
      let same = nodes_of line d s.graph is.graph in
      let w = waiting_node (chain_of line) line.nodes.items (given_of now) k e in
      let at : Contains (nodes s.graph) w.node
      = subst (λ (ns : List Node). Contains ns w.node) (sym same) w.stands in
      ap (ready_by (chain_of line) (given_of now))
      (ap (λ ns. node_at ns k) (sym same) ∙ ap (node_at (nodes s.graph)) (sym w.number)
      ∙ graph_node p s.graph w.node sound.graph at)
      ∙ found_ready (chain_of line) (given_of now) w.node ∙ w.waits

  ticket_ready : (k : ℕ)
      → has_waiting (chain_of line) (given_of now) line.nodes.items k ≡ false
      → (t : runs.Placed) → (desk_of d).ticket k ≡ Some t
      → ready_by (chain_of line) (given_of now) (node_at line.nodes.items k) ≡ true
  ticket_ready k e t has =
      let found = there (chain_of line) (given_of d) (node_at line.nodes.items k)
      (sym (ready_before k)
      ∙ sound.desk.ticket_ready k t (ap (λ (x : runs.Desk). x.ticket k) is.desk ∙ has)) in
      let at = found_there line.nodes.items k found.0 found.1 in
      ap (ready_by (chain_of line) (given_of now)) found.1
      ∙ found_ready (chain_of line) (given_of now) found.0
      ∙ none_waiting (chain_of line) line.nodes.items (given_of now) k found.0 e at.0 at.1

  left_ticket : (k : ℕ)
      → option_map placed_of (if has_waiting (chain_of line) (given_of now) line.nodes.items k
      then None else (mark_at d.marks.items k).ticket)
      ≡ (desk_without s.graph machine (desk_of d)).ticket k
  left_ticket k =
      dies placed_of (has_waiting (chain_of line) (given_of now) line.nodes.items k)
      (ready_by (chain_of line) (given_of now) (node_at line.nodes.items k))
      (mark_at d.marks.items k).ticket (waits_unready k) (ticket_ready k)
      ∙ ap (λ b. cond b ((desk_of d).ticket k) None) (sym (ready_now k))

  desk_left : (new : Desk) → IsRidOf (chain_of line) line.nodes.items now new
      → desk_of new ≡ desk_without s.graph machine (desk_of d)
  desk_left new r =
      ap (λ v. desk_by v.items new.alive.items new.undone.items (mark_at new.marks.items)) r.stores
      ∙ ap (λ v. desk_by now.stores.items v.items new.undone.items (mark_at new.marks.items)) r.alive
      ∙ ap (λ v. desk_by now.stores.items now.alive.items v.items (mark_at new.marks.items)) r.undone
      ∙ ap (desk_by now.stores.items now.alive.items now.undone.items) (λ i k. r.marks k i)
      ∙ (λ i. record (c.desk i) {
        ticket = λ k. option_map placed_of
            (if has_waiting (chain_of line) (given_of now) line.nodes.items k
            then None else (mark_at (c.marks i).items k).ticket);
      })
      ∙ (λ i. record (cleared machine (desk_of d)) { ticket = λ k. left_ticket k i })

  -- line and desk are those of the state
  pub lost_is : (new : Desk) → IsRidOf (chain_of line) line.nodes.items now new
      → IsStateOf line new (lost_with s machine)
  lost_is new r = record {
    graph = record {
      past = is.graph.past;
      chain = is.graph.chain;
      driver = still_graph.driver ∙ ap (λ v k. get_or v.items k None) (sym r.driver);
      ports = λ k. ap (λ (m : Mark). m.ports) (r.marks k) ∙ still_graph.ports k;
    };
    desk = ap (desk_without s.graph machine) is.desk ∙ sym (desk_left new r);
    lost = ap (λ f. put_at f machine true) is.lost ∙ sym c.lost
        ∙ ap (λ v. is_lost v.items) (sym r.alive);
    marks = r.count ∙ ap (λ v. length v.items) c.marks ∙ is.marks;
    driver = ap (λ v. length v.items) (r.driver ∙ c.driver) ∙ is.driver;
  }
