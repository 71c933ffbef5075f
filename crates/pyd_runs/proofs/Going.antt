-- A state in which the run hasn't ended goes on.
use Rattle.std.proofs.Common.{◌≡◌, ◌<◌, suc-mul, ℕ, suc, Bool, true, false, not, ◌&&◌, ◌||◌, List, [], ◌∷◌, Option, None, Some, is_some, ◌⊎◌, inl, inr, refl, ap, sym, ◌∙◌, subst, arith}
use Rattle.std.specs.Prelude.{IsTrue, Ok, option_map}
use Rattle.std.specs.List.{Contains}
use Rattle.std.proofs.lemmas.Nat.{row_fits}
use Rattle.std.proofs.lemmas.List.Elements.{All-contains, Contains-append_left, Contains-append_right}
use Rattle.pyd_value.specs.declared.value.Value.{Value}
use Rattle.pyd_tree.specs.declared.file.File.{File}
use Rattle.pyd_meaning.specs.declared.limits.Limits.{Limits}
use Rattle.pyd_meaning.specs.declared.ran.Ran.{Ran}
use Rattle.pyd_meaning.specs.Evaluation.{Evaluation, settled, faults}
use Rattle.pyd_board.specs.declared.event.Act.{Act}
use Rattle.pyd_board.specs.declared.event.Act.TheVariants.{Place, Claim, Finish, Refine, Settle}
use Rattle.pyd_ir.specs.declared.arg.Arg.{Arg}
use Rattle.pyd_ir.specs.declared.arg.Arg.TheVariants.{Known, From, Slot, Unbound}
use Rattle.pyd_ir.specs.declared.job.Task.{Task}
use Rattle.pyd_ir.specs.declared.job.Task.TheVariants as task
use Rattle.pyd_ir.specs.declared.node.Node.{Node}
use Rattle.pyd_ir.specs.declared.work.Work.{Work}
use Rattle.pyd_ir.specs.declared.work.Work.TheVariants.{Op, Read, Call, Stop, Print, Run, Cond, While, For, Pick, Enter}
use Rattle.pyd_ir.specs.Arguments.{is_pure, is_composite, arguments, control}
use Rattle.pyd_ir.specs.Inputs.{Given, value_of, has_value, may_be_read, have_values, has_inputs, task_of, work_meaning, leaf_meaning}
use Rattle.pyd_ir.specs.Ports.{Ports}
use Rattle.pyd_runs.specs.Plans.{Plan, IsSeat, IsSeatOf, first_seat, limits_of}
use Rattle.pyd_runs.specs.Graphs.{Graph, nodes}
use Rattle.pyd_runs.specs.Desks.{Placed, Held}
use Rattle.pyd_runs.specs.Records.{ports_kept, or_else, stored, records, recorded, node_at, heads}
use Rattle.pyd_runs.specs.Reach.{AreOf, Names, Reached, by_chain, by_past, Needed, in_chain, by_needed}
use Rattle.pyd_runs.specs.Effects.{State}
use Rattle.pyd_runs.specs.Enabled.{CanAct, Holds, IsQuiet, IsRecorded, WaitsNot, IsControlled, WithinWindow}
use Rattle.pyd_runs.specs.Sound.{IsSound, IsSeen, IsFresh, HasGiven, AreOrdered, sight, stands, is_over}
use Rattle.pyd_runs.specs.Laws.{IsForward}
use Rattle.pyd_runs.proofs.Putting.{at_cases, same_test, none_apart}
use Rattle.pyd_runs.proofs.Readiness.{and_parts, and_both}
use Rattle.pyd_runs.proofs.Without.{here, behind, first_or_behind, fresh_apart, or_true}
use Rattle.pyd_runs.proofs.Seeing.{unseen_fresh}
use Rattle.pyd_runs.proofs.Standing.{found_there, graph_node, same_node, stands_node}
use Rattle.pyd_runs.proofs.Within.{some_there, under_some, look_leaf, values_there}
use Rattle.pyd_runs.proofs.Knowing.{present, gone_given, sight_else, record_seen, seen_ports, unfound_fresh}
use Rattle.pyd_runs.proofs.Claiming.{ReadyNode, is_ready_by}
use Rattle.pyd_runs.proofs.Passed.{pure_leaf}

-- something may be done that isn't a Trim or a Drop
pub record Goes (p : Plan) (s : State) : Type 0 where
  pub seat : ℕ
  pub act : Act
  pub is_seat : IsSeat p seat
  pub can : CanAct p s seat act
  pub forward : IsForward act

-- a seat of a machine is a seat
pub seat_there : (p : Plan) (machine seat : ℕ) → machine < p.setup.machines
    → IsSeatOf p machine seat → IsSeat p seat
seat_there p machine seat low of =
    let to = of.to in
    let more = suc-mul machine p.setup.workers in
    let fits = row_fits machine p.setup.workers p.setup.machines p.setup.workers low (omega arith) in
    omega (arith, to, more, fits)

-- the first seat of a machine is one of its seats
pub first_of : (p : Plan) (machine : ℕ) → 0 < p.setup.workers → IsSeatOf p machine (first_seat p machine)
first_of p machine workers =
    let more = suc-mul machine p.setup.workers in record {
      from = omega arith;
      to = omega (arith, more, workers);
    }

-- a node that is ready and needed goes on
ready_goes : (p : Plan) (s : State) (k : ℕ) → 0 < p.setup.workers → IsSound p s → IsQuiet s
    → ReadyNode s.graph s.desk.stores k → Needed s.graph s.desk.stores k
    → records s.graph s.desk.stores k ≡ None → Goes p s
ready_goes p s k workers sound quiet is_ready needed none = by_ticket (s.desk.ticket k) refl
  where
    survivor : ℕ
    survivor = sound.survivor.machine

    by_claim : s.desk.ticket k ≡ None → (o : Option Held) → s.desk.claim k ≡ o → Goes p s
    by_claim free (Some c) is = record {
      seat = c.seat;
      act = Finish k c.attempt c.machine;
      is_seat = seat_there p c.machine c.seat (sound.desk.claim_lives k c is).is_machine
          (sound.desk.claim_seat k c is);
      can = (
        quiet,
        record {
          holds = subst (λ (o : Option Held). Holds o c.seat c.attempt c.machine) (sym is)
              (record { of_attempt = refl; on_machine = refl; by_seat = refl });
          lives = sound.desk.claim_lives k c is;
        },
      );
      forward = tt;
    }
    by_claim free None is = record {
      seat = 0;
      act = Place k (suc (s.desk.places k)) sound.survivor.machine;
      is_seat = omega arith;
      can = (
        quiet,
        record {
          is_ready = is_ready_by s.graph s.desk.stores k is_ready;
          is_needed = needed;
          no_record = none;
          no_ticket = free;
          no_claim = is;
          next_attempt = refl;
          lives = sound.survivor.lives;
        },
      );
      forward = tt;
    }

    by_ticket : (o : Option Placed) → s.desk.ticket k ≡ o → Goes p s
    by_ticket (Some t) is = record {
      seat = first_seat p sound.survivor.machine;
      act = Claim k t.attempt sound.survivor.machine;
      is_seat = seat_there p sound.survivor.machine (first_seat p sound.survivor.machine)
          sound.survivor.lives.is_machine (first_of p sound.survivor.machine workers);
      can = (
        quiet,
        record {
          ticket = t;
          is_live = is;
          of_attempt = refl;
          lives = sound.survivor.lives;
          by_seat = first_of p sound.survivor.machine workers;
        },
      );
      forward = tt;
    }
    by_ticket None is = by_claim is (s.desk.claim k) refl

-- a node that an argument names, which has a value and nothing recorded
pub record Unrecorded (r given : Given) (args : List Arg) : Type 0 where
  pub node : ℕ
  pub port : ℕ
  pub value : Value
  pub named : AreOf node args
  pub none : r node port ≡ None
  pub gave : given node port ≡ Some value

-- a port has a value recorded, or it has none
port_or : (r given : Given) (node port : ℕ) → IsTrue (is_some (given node port))
    → IsTrue (is_some (r node port))
    ⊎ ((v : Value) × (r node port ≡ None) × (given node port ≡ Some v))
port_or r given node port e = by_record (r node port) refl
  where
    by_record : (o : Option Value) → r node port ≡ o
        → IsTrue (is_some (r node port))
        ⊎ ((v : Value) × (r node port ≡ None) × (given node port ≡ Some v))
    by_record (Some v) is = inl (ap is_some is)
    by_record None is =
        let v = some_there (given node port) e in inr (v.0, is, v.1)

pub arg_or : (r given : Given) (a : Arg) (args : List Arg) → IsTrue (has_value given a)
    → IsTrue (has_value r a) ⊎ Unrecorded r given (a ∷ args)
arg_or r given (Known v) args e = inl refl
arg_or r given (From at) args e = elim (port_or r given at.node at.port e) [
  | inl there ↦ inl there
  | inr x ↦ inr (record {
    node = at.node;
    port = at.port;
    value = x.0;
    named = inl refl;
    none = x.1;
    gave = x.2;
  })
]
arg_or r given (Slot at) args e = elim (port_or r given at.node at.port e) [
  | inl there ↦ inl there
  | inr x ↦ inr (record {
    node = at.node;
    port = at.port;
    value = x.0;
    named = inl refl;
    none = x.1;
    gave = x.2;
  })
]
arg_or r given Unbound args e = absurd (cc (e))

read_or : (r given : Given) (a : Arg) → IsTrue (may_be_read given a)
    → IsTrue (may_be_read r a) ⊎ Unrecorded r given (a ∷ [])
read_or r given (Known v) e = inl refl
read_or r given (From at) e = arg_or r given (From at) [] e
read_or r given (Slot at) e = arg_or r given (Slot at) [] e
read_or r given Unbound e = inl refl

pub args_or : (r given : Given) (args : List Arg) → IsTrue (have_values given args)
    → IsTrue (have_values r args) ⊎ Unrecorded r given args
args_or r given [] e = inl refl
args_or r given (a ∷ args) e =
    let parts = and_parts (has_value given a) (have_values given args) e in
    elim (arg_or r given a args parts.0) [
      | inr none ↦ inr none
      | inl there ↦ elim (args_or r given args parts.1) [
        | inl more ↦ inl (and_both (has_value r a) (have_values r args) there more)
        | inr x ↦ inr (record {
          node = x.node;
          port = x.port;
          value = x.value;
          named = inr x.named;
          none = x.none;
          gave = x.gave;
        })
      ]
    ]

-- the inputs of a leaf are recorded, or one isn't
pub inputs_or : (r given : Given) (w : Work) → is_composite w ≡ false → IsTrue (has_inputs given w)
    → IsTrue (has_inputs r w) ⊎ Unrecorded r given (arguments w)
inputs_or r given (Op op args) leaf e = args_or r given args e
inputs_or r given (Read arg kind) leaf e = read_or r given arg e
inputs_or r given (Call func args) leaf e = args_or r given args e
inputs_or r given (Stop fault) leaf e = inl refl
inputs_or r given (Print args) leaf e = args_or r given args e
inputs_or r given (Run func args) leaf e = args_or r given args e
inputs_or r given (Cond test stmt arm rest env) leaf e = absurd (cc (leaf))
inputs_or r given (While test stmt turns rest env) leaf e = absurd (cc (leaf))
inputs_or r given (For over stmt turns rest env) leaf e = absurd (cc (leaf))
inputs_or r given (Pick test first second env) leaf e = absurd (cc (leaf))
inputs_or r given (Enter func args) leaf e = absurd (cc (leaf))

-- a pure leaf that gave a value has a task where its inputs are there
pub pure_task : (file : File) (limits : Limits) (r given : Given) (line depth : ℕ) (w : Work)
    (e : Evaluation Value) (v : Value) → is_pure w ≡ true
    → work_meaning file limits given line depth w ≡ Some e → e.result ≡ Ok v
    → IsTrue (has_inputs r w) → (t : Task) × (task_of r w ≡ Some t)
unfolding settled
pure_task file limits r given line depth (Op op args) e v pure is gave inputs =
    let vs = values_there r args inputs in (task.Op op vs.0, ap (option_map (task.Op op)) vs.1)
pure_task file limits r given line depth (Read arg kind) e v pure is gave inputs =
    (task.Read (value_of r arg) kind, refl)
pure_task file limits r given line depth (Call func args) e v pure is gave inputs =
    let vs = values_there r args inputs in (task.Call func vs.0, ap (option_map (task.Call func)) vs.1)
pure_task file limits r given line depth (Stop fault) e v pure is gave inputs =
    let same : faults fault ≡ e = cc (is) in
    let z = ap (λ (x : Evaluation Value). x.result) same ∙ gave in absurd cc
pure_task file limits r given line depth (Print args) e v pure is gave inputs = absurd (cc (pure))
pure_task file limits r given line depth (Run func args) e v pure is gave inputs = absurd (cc (pure))
pure_task file limits r given line depth (Cond test stmt arm rest env) e v pure is gave inputs =
    absurd (cc (pure))
pure_task file limits r given line depth (While test stmt turns rest env) e v pure is gave inputs =
    absurd (cc (pure))
pure_task file limits r given line depth (For over stmt turns rest env) e v pure is gave inputs =
    absurd (cc (pure))
pure_task file limits r given line depth (Pick test first second env) e v pure is gave inputs =
    absurd (cc (pure))
pure_task file limits r given line depth (Enter func args) e v pure is gave inputs =
    absurd (cc (pure))

-- a node that is over and has no record stands in the past
over_past : (a b : Bool) (o : Option Ran) → (not a && (b || is_some o)) ≡ true → o ≡ None
    → b ≡ true
over_past true b o is none = absurd (cc (is))
over_past false true o is none = refl
over_past false false o is none = let z = ap is_some none in absurd (cc (is, z))

pub over_fresh : (g : Graph) (j : ℕ) → is_over g j ≡ true → IsFresh j g.chain
over_fresh g j is = by_test (stands j g.chain) refl
  where
    by_test : (b : Bool) → stands j g.chain ≡ b → IsFresh j g.chain
    by_test false away = unseen_fresh j g.chain away
    by_test true there =
        let z = sym (ap (λ b. not b && (stands j g.past || is_some (g.driver j))) there) ∙ is in
        absurd (cc (z))

first_none : (a b : Option Ran) → or_else a b ≡ None → a ≡ None
first_none None b e = refl
first_none (Some ran) b e = absurd (cc (e))

module _ (p : Plan) (s : State) (sound : IsSound p s) where
  abbrev kept_ports : Given
  kept_ports = recorded s.graph s.desk.stores

  -- what is over and has a record has recorded what it gave
  pub recorded_given : (j port : ℕ) (ran : Ran) → is_over s.graph j ≡ true
      → records s.graph s.desk.stores j ≡ Some ran
      → recorded s.graph s.desk.stores j port ≡ s.graph.given j port
  recorded_given j port ran over record_is = by_node (node_at (nodes s.graph) j) refl
    where
      fresh : IsFresh j s.graph.chain
      fresh = over_fresh s.graph j over

      by_node : (o : Option Node) → node_at (nodes s.graph) j ≡ o
          → recorded s.graph s.desk.stores j port ≡ s.graph.given j port
      by_node (Some x) found =
          let at = found_there (nodes s.graph) j x found in
          let h = subst (λ i. IsSeen p s.graph i ran) at.1
          (record_seen p s.graph s.desk s.lost x ran sound.graph sound.desk at.0
          (ap (records s.graph s.desk.stores) at.1 ∙ record_is)) in
          ap (λ o. ports_kept o (records s.graph s.desk.stores j) port) found
          ∙ ap (λ o. ports_kept (Some x) o port) record_is
          ∙ seen_ports p s.graph j ran x sound.graph h at.0 at.1 port
          ∙ ap (λ (f : Ports). f port) (sight_else p s.graph j fresh)
      by_node None found =
          ap (λ o. ports_kept o (records s.graph s.desk.stores j) port) found
          ∙ ap (λ o. ports_kept None o port) record_is
          ∙ gone_given p s.graph s.desk j port ran sound.graph
          (unfound_fresh (nodes s.graph) j found)
          (ap (λ b. b || stands j s.graph.chain) over) record_is

  -- a past node without a record that is needed
  pub record Lacks (z : Node) : Type 0 where
    pub stands : Contains s.graph.past z
    pub needed : Needed s.graph s.desk.stores z.id
    pub reached : Reached s.graph z.id
    pub none : records s.graph s.desk.stores z.id ≡ None

  -- what is named, has a value and isn't recorded is such a node
  pub lacking : (j port : ℕ) (v : Value) → Reached s.graph j → Needed s.graph s.desk.stores j
      → is_over s.graph j ≡ true → recorded s.graph s.desk.stores j port ≡ None
      → s.graph.given j port ≡ Some v → (z : Node) × (z.id ≡ j) × Lacks z
  lacking j port v reached needed over none gave =
      by_record (records s.graph s.desk.stores j) refl
    where
      by_record : (o : Option Ran) → records s.graph s.desk.stores j ≡ o
          → (z : Node) × (z.id ≡ j) × Lacks z
      by_record (Some ran) is =
          absurd (none_apart (recorded s.graph s.desk.stores j port) v none
          (recorded_given j port ran over is ∙ gave))
      by_record None is =
          let past = over_past (stands j s.graph.chain) (stands j s.graph.past) (s.graph.driver j)
          over (first_none (s.graph.driver j) (stored s.desk.stores j) is) in
          let x = stands_node s.graph.past j past in (
            x.0,
            x.2,
            record {
              stands = x.1;
              needed = subst (Needed s.graph s.desk.stores) (sym x.2) needed;
              reached = subst (Reached s.graph) (sym x.2) reached;
              none = ap (records s.graph s.desk.stores) x.2 ∙ is;
            },
          )

  -- what has a value isn't in the chain
  pub valued_over : (j port : ℕ) (v : Value) → IsTrue (present s.graph j)
      → s.graph.given j port ≡ Some v → is_over s.graph j ≡ true
  valued_over j port v is gave = by_test (stands j s.graph.chain) refl
    where
      or_first : (a b : Bool) → b ≡ false → (a || b) ≡ true → a ≡ true
      or_first true b f t = refl
      or_first false b f t = absurd (cc (f, t))

      by_test : (b : Bool) → stands j s.graph.chain ≡ b → is_over s.graph j ≡ true
      by_test true there =
          absurd (none_apart (s.graph.given j port) v
          (sound.graph.blank j port (inl there)) gave)
      by_test false away =
          or_first (is_over s.graph j) (stands j s.graph.chain) away is

  module _ (workers : 0 < p.setup.workers) (quiet : IsQuiet s) where
    -- such a node goes on, or one that it names lacks a record
    past_step : (x : Node) → Lacks x → Goes p s ⊎ ((z : Node) × Lacks z × Names x z.id)
    past_step x lacks =
        let g = s.graph in
        let h = All-contains (HasGiven p g) g.past x sound.graph.past lacks.stands in
        let l = look_leaf p g.given x h.looked h.look in
        let u = under_some (has_inputs g.given x.work)
        (leaf_meaning p.file (limits_of p) g.given x) h.looked l.1 in
        elim (inputs_or (recorded g s.desk.stores) g.given x.work (pure_leaf x.work l.0) u.0) [
          | inl inputs ↦
              let t = pure_task p.file (limits_of p) (recorded g s.desk.stores) g.given x.line
              x.depth x.work h.looked h.value l.0 u.1 h.gave inputs in
              inl (ready_goes p s x.id workers sound quiet
              (record {
                node = x;
                found = graph_node p g x sound.graph
                    (Contains-append_left g.past g.chain x lacks.stands);
                inputs = inputs;
                turn = ap (λ b. b || heads x.id g.chain) l.0;
                task = t.0;
                is_task = t.1;
              }) lacks.needed lacks.none)
          | inr m ↦
              let reached = by_past x m.node lacks.stands lacks.reached m.named in
              let needed = by_needed x m.node
              (Contains-append_left g.past g.chain x lacks.stands) lacks.needed lacks.none m.named in
              let over = valued_over m.node m.port m.value (sound.graph.present m.node reached)
              m.gave in
              let z = lacking m.node m.port m.value reached needed over m.none m.gave in
              inr (z.0, z.2, subst (Names x) (sym z.1) m.named)
        ]

    past_goes : (xs : List Node) (y : Node) → AreOrdered xs
        → ((x : Node) → Contains xs x → Contains s.graph.past x) → Contains xs y → Lacks y
        → Goes p s ⊎ ((z : Node) × Lacks z × IsFresh z.id xs)
    past_goes [] y o all at lacks = absurd (omega (arith, at.1))
    past_goes (x ∷ xs) y o all at lacks = elim (first_or_behind x xs y at) [
      | inl is ↦ elim (past_step x (subst Lacks (sym is) lacks)) [
        | inl goes ↦ inl goes
        | inr z ↦ inr (z.0, z.1, o.1 z.0.id z.2)
      ]
      | inr later ↦ elim (past_goes xs y o.2 (λ w t. all w (behind x xs w t)) later lacks) [
        | inl goes ↦ inl goes
        | inr z ↦ elim (at_cases x.id z.0.id) [
          | inr other ↦ inr (z.0, z.1, (other, z.2))
          | inl same ↦
              let old = z.1 in
              elim (past_step x (record {
                stands = all x (here x xs);
                needed = subst (Needed s.graph s.desk.stores) (sym same) old.needed;
                reached = subst (Reached s.graph) (sym same) old.reached;
                none = ap (records s.graph s.desk.stores) same ∙ old.none;
              })) [
                | inl goes ↦ inl goes
                | inr q ↦ inr (q.0, q.1, o.1 q.0.id q.2)
              ]
        ]
      ]
    ]

    pub lack_goes : (y : Node) → Lacks y → Goes p s
    lack_goes y lacks =
        elim (past_goes s.graph.past y sound.graph.ordered (λ x t. t) lacks.stands lacks) [
          | inl goes ↦ goes
          | inr z ↦
              let old = z.1 in
              absurd (fresh_apart z.0.id s.graph.past z.0 z.2 old.stands refl)
        ]

    -- the head waits for what it names
    pub head_waits : (n : Node) → Contains s.graph.chain n
        → records s.graph s.desk.stores n.id ≡ None
        → Unrecorded (recorded s.graph s.desk.stores) s.graph.given (arguments n.work) → Goes p s
    head_waits n at none m =
        let g = s.graph in
        let reached = by_chain n m.node at m.named in
        let needed = by_needed n m.node (Contains-append_right g.past g.chain n at)
        (in_chain n at) none m.named in
        let over = valued_over m.node m.port m.value (sound.graph.present m.node reached) m.gave in
        let z = lacking m.node m.port m.value reached needed over m.none m.gave in
        lack_goes z.0 z.2

    -- a node without a job has no record
    pub jobless : (n : Node) → Contains s.graph.chain n
        → ((given : Given) → task_of given n.work ≡ None)
        → records s.graph s.desk.stores n.id ≡ None
    jobless n at none = by_record (records s.graph s.desk.stores n.id) refl
      where
        among : Contains (nodes s.graph) n
        among = Contains-append_right s.graph.past s.graph.chain n at

        by_record : (o : Option Ran) → records s.graph s.desk.stores n.id ≡ o
            → records s.graph s.desk.stores n.id ≡ None
        by_record None is = is
        by_record (Some ran) is =
            let h = record_seen p s.graph s.desk s.lost n ran sound.graph sound.desk among is in
            let same = same_node p s.graph h.node n sound.graph h.stands among h.number in
            let job = h.has_job in
            let w : task_of (sight p s.graph) h.node.work ≡ None
            = ap (λ (y : Node). task_of (sight p s.graph) y.work) same ∙ none (sight p s.graph) in
            let z : is_some (task_of (sight p s.graph) h.node.work) ≡ false = ap is_some w in
            absurd (cc (job, z))

    -- a composite whose control is recorded may be refined
    pub refine_goes : 0 < p.setup.window → (n : Node) (rest : List Node)
        → s.graph.chain ≡ n ∷ rest → is_composite n.work ≡ true
        → IsControlled (recorded s.graph s.desk.stores) (control n.work) → Goes p s
    refine_goes window n rest chain composite controlled = record {
      seat = 0;
      act = Refine n.id;
      is_seat = omega arith;
      can = (
        quiet,
        record {
          node = n;
          stands = subst (λ (ns : List Node). Contains ns n) (sym chain) (here n rest);
          number = refl;
          composite = composite;
          control = controlled;
          window = subst (WithinWindow p.setup.window n.id) (sym chain) (window, inl refl);
        },
      );
      forward = tt;
    }

    -- one whose control has a value
    pub control_goes : 0 < p.setup.window → (n : Node) (rest : List Node) (a : Arg) (args : List Arg)
        → s.graph.chain ≡ n ∷ rest → is_composite n.work ≡ true → control n.work ≡ Some a
        → arguments n.work ≡ a ∷ args → ((given : Given) → task_of given n.work ≡ None)
        → IsTrue (has_value s.graph.given a) → Goes p s
    control_goes window n rest a args chain composite is all none has =
        let at = subst (λ (ns : List Node). Contains ns n) (sym chain) (here n rest) in
        elim (arg_or (recorded s.graph s.desk.stores) s.graph.given a args has) [
          | inl there ↦ refine_goes window n rest chain composite
              (subst (IsControlled (recorded s.graph s.desk.stores)) (sym is) there)
          | inr m ↦ head_waits n at (jobless n at none)
              (subst (Unrecorded (recorded s.graph s.desk.stores) s.graph.given) (sym all) m)
        ]

    -- a head with a job
    pub job_goes : (n : Node) (rest : List Node) → s.graph.chain ≡ n ∷ rest
        → is_composite n.work ≡ false → IsTrue (has_inputs s.graph.given n.work)
        → ((r : Given) → IsTrue (has_inputs r n.work) → (t : Task) × (task_of r n.work ≡ Some t))
        → ((o : Option Ran) → records s.graph s.desk.stores n.id ≡ o → IsRecorded o
        → WaitsNot s n.id n.work) → Goes p s
    job_goes n rest chain leaf inputs job settles =
        by_record (records s.graph s.desk.stores n.id) refl
      where
        at : Contains s.graph.chain n
        at = subst (λ (ns : List Node). Contains ns n) (sym chain) (here n rest)

        by_record : (o : Option Ran) → records s.graph s.desk.stores n.id ≡ o → Goes p s
        by_record (Some ran) is = record {
          seat = 0;
          act = Settle n.id;
          is_seat = omega arith;
          can = (
            quiet,
            record {
              head = n;
              rest = rest;
              chain = chain;
              number = refl;
              waits_not = settles (Some ran) is tt;
            },
          );
          forward = tt;
        }
        by_record None is =
            elim (inputs_or (recorded s.graph s.desk.stores) s.graph.given n.work leaf inputs) [
              | inr m ↦ head_waits n at is m
              | inl there ↦
                  let t = job (recorded s.graph s.desk.stores) there in
                  ready_goes p s n.id workers sound quiet
                  (record {
                    node = n;
                    found = graph_node p s.graph n sound.graph
                        (Contains-append_right s.graph.past s.graph.chain n at);
                    inputs = there;
                    turn =
                        ap (λ b. is_pure n.work || b)
                        (ap (heads n.id) chain ∙ same_test n.id n.id refl)
                        ∙ or_true (is_pure n.work);
                    task = t.0;
                    is_task = t.1;
                  }) (in_chain n at) is
            ]

    -- a head without a job that doesn't wait
    pub settle_goes : (n : Node) (rest : List Node) → s.graph.chain ≡ n ∷ rest
        → WaitsNot s n.id n.work → Goes p s
    settle_goes n rest chain waits_not = record {
      seat = 0;
      act = Settle n.id;
      is_seat = omega arith;
      can = (
        quiet,
        record {
          head = n;
          rest = rest;
          chain = chain;
          number = refl;
          waits_not = waits_not;
        },
      );
      forward = tt;
    }
