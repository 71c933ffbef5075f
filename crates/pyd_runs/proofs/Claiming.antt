-- A claim of a live ticket keeps what holds.
use Rattle.std.proofs.Common.{◌≡◌, ℕ, Bool, true, false, ◌&&◌, ◌||◌, List, [], ◌∷◌, Option, None, Some, is_some, inl, inr, refl, ap, sym, ◌∙◌, subst}
use Rattle.std.specs.Prelude.{IsTrue, option_map}
use Rattle.std.specs.List.{Contains}
use Rattle.pyd_value.specs.declared.value.Value.{Value}
use Rattle.pyd_ir.specs.declared.arg.Arg.{Arg}
use Rattle.pyd_ir.specs.declared.arg.Arg.TheVariants.{Known, From, Slot, Unbound}
use Rattle.pyd_ir.specs.declared.job.Job.{Job}
use Rattle.pyd_ir.specs.declared.job.Task.{Task}
use Rattle.pyd_ir.specs.declared.node.Node.{Node}
use Rattle.pyd_ir.specs.declared.work.Work.{Work}
use Rattle.pyd_ir.specs.declared.work.Work.TheVariants.{Op, Read, Call, Stop, Print, Run, Cond, While, For, Pick, Enter}
use Rattle.pyd_ir.specs.Arguments.{is_pure, is_composite, arguments}
use Rattle.pyd_ir.specs.Inputs.{Given, has_value, may_be_read, have_values, has_inputs, task_of}
use Rattle.pyd_translate.specs.Naming.{AreAmong}
use Rattle.pyd_runs.specs.Plans.{Plan}
use Rattle.pyd_runs.specs.Graphs.{Graph, nodes}
use Rattle.pyd_runs.specs.Desks.{Placed, Held, Stores, Desk, put_at}
use Rattle.pyd_runs.specs.Records.{ports_kept, records, recorded, node_at, heads, task_by, job_with, job_by, ready, is_ready}
use Rattle.pyd_runs.specs.Reach.{IsOf, AreOf, Names}
use Rattle.pyd_runs.specs.Effects.{State, acted, held_by, is_run, with_desk}
use Rattle.pyd_runs.specs.Sound.{IsSound, IsGraphSound, IsDeskSound, AreCounted, IsJob, NamesPresent, sight}
use Rattle.pyd_runs.specs.Laws.{ClaimLaw}
use Rattle.pyd_runs.proofs.Putting.{put_cases, put_none, put_else, none_apart}
use Rattle.pyd_runs.proofs.Readiness.{and_parts, and_both, inputs_within, some_mapped}
use Rattle.pyd_runs.proofs.Seeing.{inputs_same}
use Rattle.pyd_runs.proofs.Standing.{found_there, same_node}
use Rattle.pyd_runs.proofs.Within.{under_some, some_under, some_there, task_equal, task_same, only, only_agrees, among_names, run_impure}
use Rattle.pyd_runs.proofs.Knowing.{present, recorded_within}

-- a node that is ready: its inputs are recorded, and it is its turn
pub record ReadyNode (g : Graph) (stores : Stores) (k : ℕ) : Type 0 where
  pub node : Node
  pub found : node_at (nodes g) k ≡ Some node
  pub inputs : has_inputs (recorded g stores) node.work ≡ true
  pub turn : (is_pure node.work || heads node.id g.chain) ≡ true
  pub task : Task
  pub is_task : task_of (recorded g stores) node.work ≡ Some task

-- its job
pub ready_job : (g : Graph) (stores : Stores) (k attempt : ℕ) (r : ReadyNode g stores k)
    → ready g stores k attempt ≡ Some (job_with r.node attempt r.task)
unfolding ready
ready_job g stores k attempt r =
    let given : Given = recorded g stores in
    let test = has_inputs given r.node.work && (is_pure r.node.work || heads r.node.id g.chain) in
    let by : task_by g.chain given r.node ≡ Some r.task
    = some_under test (task_of given r.node.work) r.task
    (and_both (has_inputs given r.node.work) (is_pure r.node.work || heads r.node.id g.chain)
    r.inputs r.turn) r.is_task in
    ap (job_by g.chain given attempt) r.found
    ∙ ap (option_map (job_with r.node attempt)) by

-- so it is ready
pub is_ready_by : (g : Graph) (stores : Stores) (k : ℕ) → ReadyNode g stores k
    → IsTrue (is_ready g stores k)
is_ready_by g stores k r = ap is_some (ready_job g stores k 0 r)

-- and what is ready is such a node
pub ready_parts : (g : Graph) (stores : Stores) (k : ℕ) → IsTrue (is_ready g stores k)
    → ReadyNode g stores k
unfolding ready
ready_parts g stores k e = by_node (node_at (nodes g) k) refl e
  where
    given : Given
    given = recorded g stores

    by_node : (o : Option Node) → node_at (nodes g) k ≡ o
        → IsTrue (is_some (job_by g.chain given 0 o)) → ReadyNode g stores k
    by_node None found x = absurd (cc (x))
    by_node (Some n) found x =
        let turn = is_pure n.work || heads n.id g.chain in
        let t = some_there (task_by g.chain given n)
        (sym (some_mapped (job_with n 0) (task_by g.chain given n)) ∙ x) in
        let parts = under_some (has_inputs given n.work && turn) (task_of given n.work) t.0 t.1 in
        let tests = and_parts (has_inputs given n.work) turn parts.0 in
        record {
          node = n;
          found = found;
          inputs = tests.0;
          turn = tests.1;
          task = t.0;
          is_task = parts.1;
        }

-- an argument that has a value names a node that has one at a port
have_named : (given : Given) (args : List Arg) (j : ℕ) → IsTrue (have_values given args)
    → AreOf j args → (port : ℕ) × (v : Value) × (given j port ≡ Some v)
have_named given [] j e of = absurd of
have_named given (Known v ∷ args) j e (inl of) = absurd of
have_named given (From at ∷ args) j e (inl of) =
    let parts = and_parts (has_value given (From at)) (have_values given args) e in
    let v = some_there (given at.node at.port) parts.0 in
    (at.port, v.0, ap (λ i. given i at.port) (sym of) ∙ v.1)
have_named given (Slot at ∷ args) j e (inl of) =
    let parts = and_parts (has_value given (Slot at)) (have_values given args) e in
    let v = some_there (given at.node at.port) parts.0 in
    (at.port, v.0, ap (λ i. given i at.port) (sym of) ∙ v.1)
have_named given (Unbound ∷ args) j e (inl of) = absurd of
have_named given (a ∷ args) j e (inr of) =
    have_named given args j (and_parts (has_value given a) (have_values given args) e).1 of

-- so does what may be read
read_named : (given : Given) (a : Arg) (j : ℕ) → IsTrue (may_be_read given a) → IsOf j a
    → (port : ℕ) × (v : Value) × (given j port ≡ Some v)
read_named given (Known v) j e of = absurd of
read_named given (From at) j e of =
    let v = some_there (given at.node at.port) e in
    (at.port, v.0, ap (λ i. given i at.port) (sym of) ∙ v.1)
read_named given (Slot at) j e of =
    let v = some_there (given at.node at.port) e in
    (at.port, v.0, ap (λ i. given i at.port) (sym of) ∙ v.1)
read_named given Unbound j e of = absurd of

-- all that a leaf names has given something, where its inputs are there
pub leaf_named : (given : Given) (w : Work) (j : ℕ) → is_composite w ≡ false
    → IsTrue (has_inputs given w) → AreOf j (arguments w)
    → (port : ℕ) × (v : Value) × (given j port ≡ Some v)
leaf_named given (Op op args) j e i of = have_named given args j i of
leaf_named given (Read arg kind) j e i (inl of) = read_named given arg j i of
leaf_named given (Read arg kind) j e i (inr of) = absurd of
leaf_named given (Call func args) j e i of = have_named given args j i of
leaf_named given (Stop fault) j e i of = absurd of
leaf_named given (Print args) j e i of = have_named given args j i of
leaf_named given (Run func args) j e i of = have_named given args j i of
leaf_named given (Cond test stmt arm rest env) j e i of = absurd (cc (e))
leaf_named given (While test stmt turns rest env) j e i of = absurd (cc (e))
leaf_named given (For over stmt turns rest env) j e i of = absurd (cc (e))
leaf_named given (Pick test first second env) j e i of = absurd (cc (e))
leaf_named given (Enter func args) j e i of = absurd (cc (e))

-- a node with a task is a leaf
pub task_leaf : (given : Given) (w : Work) (t : Task) → task_of given w ≡ Some t
    → is_composite w ≡ false
task_leaf given (Op op args) t e = refl
task_leaf given (Read arg kind) t e = refl
task_leaf given (Call func args) t e = refl
task_leaf given (Stop fault) t e = refl
task_leaf given (Print args) t e = refl
task_leaf given (Run func args) t e = refl
task_leaf given (Cond test stmt arm rest env) t e = absurd (cc (e))
task_leaf given (While test stmt turns rest env) t e = absurd (cc (e))
task_leaf given (For over stmt turns rest env) t e = absurd (cc (e))
task_leaf given (Pick test first second env) t e = absurd (cc (e))
task_leaf given (Enter func args) t e = absurd (cc (e))

-- what has no record has nothing recorded at its ports
pub none_recorded : (g : Graph) (stores : Stores) (j port : ℕ) → records g stores j ≡ None
    → recorded g stores j port ≡ None
none_recorded g stores j port none =
    ap (λ o. ports_kept (node_at (nodes g) j) o port) none

-- a node that is ready names none that has no record
pub ready_named : (p : Plan) (g : Graph) (stores : Stores) (k j : ℕ) → IsGraphSound p g
    → ReadyNode g stores k → (n : Node) → Contains (nodes g) n → n.id ≡ k → Names n j
    → records g stores j ≡ None → ⊥
ready_named p g stores k j sound r n at number names none =
    let found = found_there (nodes g) k r.node r.found in
    let same = same_node p g n r.node sound at found.0 (number ∙ sym found.1) in
    let v = leaf_named (recorded g stores) r.node.work j
    (task_leaf (recorded g stores) r.node.work r.task r.is_task) r.inputs
    (subst (λ (x : Node). Names x j) same names) in
    none_apart (recorded g stores j v.0) v.1 (none_recorded g stores j v.0 none) v.2

-- the job of a node that is ready, and that names what may be named, is its job by what is seen
pub ready_seen : (p : Plan) (g : Graph) (d : Desk) (lost : ℕ → Bool) (k attempt : ℕ)
    → IsGraphSound p g → IsDeskSound p g d lost → NamesPresent g k
    → (r : ReadyNode g d.stores k) → IsJob p g k (job_with r.node attempt r.task)
ready_seen p g d lost k attempt sound h names r =
    let n = r.node in
    let given : Given = recorded g d.stores in
    let less : Given = only (present g) given in
    let at = found_there (nodes g) k n r.found in
    let among : AreAmong (present g) (arguments n.work)
    = among_names (present g) (arguments n.work) (names n at.0 at.1) in
    let within = recorded_within p g d lost sound h in
    let inputs : has_inputs less n.work ≡ true
    = sym (inputs_same (present g) given less (only_agrees (present g) given) n.work among)
    ∙ r.inputs in
    record {
      node = n;
      stands = at.0;
      number = at.1;
      inputs = inputs_within less (sight p g) within n.work inputs;
      task =
          sym (task_equal less (sight p g) within n.work inputs)
          ∙ sym (task_same (present g) given less (only_agrees (present g) given) n.work among)
          ∙ r.is_task;
      line = refl;
      depth = refl;
    }

-- where it isn't pure it heads the chain
pub run_heads : (g : Graph) (stores : Stores) (k : ℕ) (r : ReadyNode g stores k)
    → IsTrue (is_run r.task) → IsTrue (heads k g.chain)
run_heads g stores k r run =
    let impure = run_impure (recorded g stores) r.node.work r.task r.is_task run in
    let at = found_there (nodes g) k r.node r.found in
    subst (λ i. IsTrue (heads i g.chain)) at.1
    (ap (λ b. b || heads r.node.id g.chain) (sym impure) ∙ r.turn)

-- the counts of a desk where a ticket became a claim
counted : (d : Desk) (k : ℕ) (t : Placed) (c : Held) → AreCounted d → d.ticket k ≡ Some t
    → t.attempt ≡ c.attempt
    → AreCounted (record d {
      ticket = put_at d.ticket k None;
      claim = put_at d.claim k (Some c);
    })
counted d k t c counts live attempt = record {
  ticket = λ n x e. counts.ticket n x (put_none d.ticket k n x e).1;
  claim = λ n x e. elim (put_cases d.claim k (Some c) n (Some x) e) [
    | inl here ↦
        let z = here.1 in
        let same : c ≡ x = cc (z) in
        ap (λ (q : Held). q.attempt) (sym same) ∙ sym attempt
        ∙ counts.ticket k t live ∙ ap d.places (sym here.0)
    | inr old ↦ counts.claim n x old.1
  ];
  undone = counts.undone;
  before_ticket = λ n b x y e q.
      counts.before_ticket n b x y e (put_none d.ticket k n y q).1;
  before_claim = λ n b x now e q. elim (put_cases d.claim k (Some c) n (Some now) q) [
    | inl here ↦ counts.before_ticket n b x t e (ap d.ticket here.0 ∙ live)
    | inr old ↦ counts.before_claim n b x now e old.1
  ];
}

-- the claim that is made
abbrev new_claim : (seat attempt machine : ℕ) → Job → Held
new_claim seat attempt machine job =
    record { attempt = attempt; machine = machine; seat = seat; job = job }

-- the state where a ticket became this claim, if there is one
abbrev claimed_by : State → ℕ → Option Held → State
claimed_by s k o = with_desk s (record s.desk {
  ticket = put_at s.desk.ticket k None;
  claim = put_at s.desk.claim k o;
})

-- the law
pub claim_keeps : ClaimLaw
unfolding acted
claim_keeps p s seat k attempt machine sound can =
    let g = s.graph in
    let d = s.desk in
    let h = sound.desk in
    let r = ready_parts g d.stores k (h.ticket_ready k can.ticket can.is_live) in
    let c : Held = new_claim seat attempt machine (job_with r.node attempt r.task) in
    let made : held_by attempt machine seat (ready g d.stores k attempt) ≡ Some c
    = ap (held_by attempt machine seat) (ready_job g d.stores k attempt r) in
    let job = ready_seen p g d s.lost k attempt sound.graph h
    (h.ticket_names k can.ticket can.is_live) r in
    let alone = h.ticket_alone k can.ticket can.is_live in
    subst (λ (o : Option Held). IsSound p (claimed_by s k o)) (sym made) (record {
      graph = sound.graph;
      attempts = counted d k can.ticket c sound.attempts can.is_live can.of_attempt;
      scripted = sound.scripted;
      survivor = sound.survivor;
      desk = record {
        stored = h.stored;
        store_lives = h.store_lives;
        run_done = h.run_done;
        ticket_ready = λ n t e. h.ticket_ready n t (put_none d.ticket k n t e).1;
        ticket_alone = λ n t e. (let old = put_none d.ticket k n t e in
            let was = h.ticket_alone n t old.1 in
            (was.0, put_else d.claim k (Some c) n old.0 ∙ was.1));
        ticket_names = λ n t e. h.ticket_names n t (put_none d.ticket k n t e).1;
        claimed = λ n x e. elim (put_cases d.claim k (Some c) n (Some x) e) [
          | inl here ↦
              let z = here.1 in
              let same : c ≡ x = cc (z) in
              rw (here.0, ← same) (inl job)
          | inr old ↦ h.claimed n x old.1
        ];
        claim_heads = λ n x e run. elim (put_cases d.claim k (Some c) n (Some x) e) [
          | inl here ↦
              let z = here.1 in
              let same : c ≡ x = cc (z) in
              rw (here.0) (run_heads g d.stores k r
              (subst (λ (q : Held). IsTrue (is_run q.job.task)) (sym same) run))
          | inr old ↦ h.claim_heads n x old.1 run
        ];
        claim_alone = λ n x e. elim (put_cases d.claim k (Some c) n (Some x) e) [
          | inl here ↦ rw (here.0) alone.0
          | inr old ↦ h.claim_alone n x old.1
        ];
        claim_lives = λ n x e. elim (put_cases d.claim k (Some c) n (Some x) e) [
          | inl here ↦
              let z = here.1 in
              let same : c ≡ x = cc (z) in
              rw (← same) can.lives
          | inr old ↦ h.claim_lives n x old.1
        ];
        claim_seat = λ n x e. elim (put_cases d.claim k (Some c) n (Some x) e) [
          | inl here ↦
              let z = here.1 in
              let same : c ≡ x = cc (z) in
              rw (← same) can.by_seat
          | inr old ↦ h.claim_seat n x old.1
        ];
        undone_attempt = h.undone_attempt;
        undone_lost = h.undone_lost;
      };
    })
